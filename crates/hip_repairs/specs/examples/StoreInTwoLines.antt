-- A store that spans two cache lines.
use Rattle.std.specs.Prelude.{true, false, [], ◌∷◌, Some, None, codes}
use Rattle.hip_types.specs.Numbers.{bits}
use Rattle.hip_types.specs.declared.number.Scalar.TheVariants.{Int, Ptr}
use Rattle.hip_types.specs.declared.number.Width.TheVariants.{W8, W64}
use Rattle.hip_types.specs.declared.ty.Ty.TheVariants as types
use Rattle.hip_tree.specs.declared.constant.Const.TheVariants as consts
use Rattle.hip_tree.specs.declared.instr.Instr.{Instr}
use Rattle.hip_tree.specs.declared.instr.Instr.TheVariants as instrs
use Rattle.hip_tree.specs.declared.instr.Operand.{Operand}
use Rattle.hip_tree.specs.declared.instr.Operand.TheVariants.{Fixed}
use Rattle.hip_tree.specs.declared.program.Extern.{Extern}
use Rattle.hip_tree.specs.declared.program.GlobalVar.{GlobalVar}
use Rattle.hip_tree.specs.declared.program.Program.{Program}
use Rattle.hip_runs.specs.declared.report.Kind.TheVariants.{MissingBoth}
use Rattle.hip_runs.specs.declared.report.Report.{Report}
use Rattle.hip_repairs.specs.examples.Words.{number, call_void, ptr_arg, i64_arg, sfence, declare_sfence, main_of, site}

-- @a = global [16 x i64] zeroinitializer, section ".pm"
abbrev pub sixteen_words : GlobalVar
sixteen_words =
    record {
      name = codes "a";
      fixed = false;
      ty = types.Array 16 (types.Int W64);
      init = consts.Zero;
      persistent = true;
      align = None;
    }

-- getelementptr ([128 x i8], ptr @a, i64 0, i64 60)
abbrev pub byte_sixty : Operand
byte_sixty =
    Fixed (consts.Gep (record {
      inbounds = false;
      ty = types.Array 128 (types.Int W8);
      base = consts.Address (codes "a");
      indices = bits W64 0 ∷ bits W64 60 ∷ [];
    }))

-- store i64 5, ptr getelementptr ([128 x i8], ptr @a, i64 0, i64 60), align 4
abbrev pub wide_store : Instr
wide_store = instrs.Store (Int W64) (number 5) byte_sixty (Some 4)

-- @a = global [16 x i64] zeroinitializer, section ".pm"
-- define i32 @main() {
-- entry:
--   store i64 5, ptr getelementptr ([128 x i8], ptr @a, i64 0, i64 60), align 4
--   ret i32 0
-- }
abbrev pub store_in_two_lines : Program
store_in_two_lines = record {
  globals = sixteen_words ∷ [];
  externs = [];
  functions =
      main_of (wide_store ∷ []) ∷ [];
}

-- report both entry 3 check 4 closed 0 path @main:entry:0
abbrev pub store_in_two_lines_report : Report
store_in_two_lines_report =
    record { entry = 3; check_entry = 4; kind = MissingBoth; flush_site = None; path = site 0 0 ∷ []; closed = 0 }

-- call void @pmem_flush(ptr getelementptr ([128 x i8], ptr @a, i64 0, i64 60), i64 8)
abbrev pub flush_of_eight : Instr
flush_of_eight = call_void (codes "pmem_flush") (ptr_arg byte_sixty ∷ i64_arg (number 8) ∷ [])

-- declare void @pmem_flush(ptr, i64)
abbrev pub declare_pmem_flush : Extern
declare_pmem_flush = record { ret = None; name = codes "pmem_flush"; params = Ptr ∷ Int W64 ∷ [] }

-- @a = global [16 x i64] zeroinitializer, section ".pm"
-- declare void @llvm.x86.sse.sfence()
-- declare void @pmem_flush(ptr, i64)
-- define i32 @main() {
-- entry:
--   store i64 5, ptr getelementptr ([128 x i8], ptr @a, i64 0, i64 60), align 4
--   call void @pmem_flush(ptr getelementptr ([128 x i8], ptr @a, i64 0, i64 60), i64 8)
--   call void @llvm.x86.sse.sfence()
--   ret i32 0
-- }
abbrev pub store_in_two_lines_repaired : Program
store_in_two_lines_repaired =
    record {
      globals = sixteen_words ∷ [];
      externs = declare_sfence ∷ declare_pmem_flush ∷ [];
      functions = main_of (wide_store ∷ flush_of_eight ∷ sfence ∷ []) ∷ [];
    }
