-- A function that stores to a persistent global, and asserts in itself that the store is durable.
use Rattle.std.specs.Prelude.{false, List, [], ◌∷◌, None, codes}
use Rattle.hip_types.specs.Numbers.{bits}
use Rattle.hip_types.specs.declared.number.Scalar.TheVariants.{Int, Ptr}
use Rattle.hip_types.specs.declared.number.Width.TheVariants.{W64}
use Rattle.hip_types.specs.declared.ty.Ty.TheVariants as types
use Rattle.hip_tree.specs.declared.constant.Const.TheVariants as consts
use Rattle.hip_tree.specs.declared.instr.Instr.{Instr}
use Rattle.hip_tree.specs.declared.program.Extern.{Extern}
use Rattle.hip_tree.specs.declared.program.Function.{Function}
use Rattle.hip_tree.specs.declared.program.GlobalVar.{GlobalVar}
use Rattle.hip_tree.specs.declared.program.Program.{Program}
use Rattle.hip_runs.specs.declared.report.Kind.TheVariants.{MissingBoth}
use Rattle.hip_runs.specs.declared.report.Report.{Report}
use Rattle.hip_repairs.specs.examples.Words.{at, reg, number, ptr_arg, i64_arg, ptr_param, persistent_i64, load_i64, store_i64, call_void, clwb, declare_clwb, sfence, declare_sfence, ret_void, define_void, main_of, site}

-- @q = global i64 9
abbrev pub nine_in_memory : GlobalVar
nine_in_memory =
    record {
      name = codes "q";
      fixed = false;
      ty = types.Int W64;
      init = consts.Int (bits W64 9);
      persistent = false;
      align = None;
    }

-- declare void @pm_assert(ptr, i64)
abbrev pub declare_pm_assert : Extern
declare_pm_assert = record { ret = None; name = codes "pm_assert"; params = Ptr ∷ Int W64 ∷ [] }

-- call void @pm_assert(ptr %dst, i64 8)
abbrev pub assert_dst : Instr
assert_dst = call_void (codes "pm_assert") (ptr_arg (reg (codes "dst")) ∷ i64_arg (number 8) ∷ [])

-- define void @copy(ptr %dst, ptr %src) {
-- entry:
--   %v = load i64, ptr %src
--   store i64 %v, ptr %dst
--   REST
--   ret void
-- }
abbrev pub copy_and : List Instr → Function
copy_and rest =
    define_void (codes "copy") (ptr_param (codes "dst") ∷ ptr_param (codes "src") ∷ [])
    (ret_void (codes "entry")
    (load_i64 (codes "v") (reg (codes "src")) ∷ store_i64 (reg (codes "v")) (reg (codes "dst")) ∷ rest) ∷ [])

-- define i32 @main() {
-- entry:
--   call void @copy(ptr @p, ptr @q)
--   ret i32 0
-- }
abbrev pub copy_caller : Function
copy_caller = main_of (call_void (codes "copy") (ptr_arg (at (codes "p")) ∷ ptr_arg (at (codes "q")) ∷ []) ∷ [])

-- @p = global i64 0, section ".pm"
-- @q = global i64 9
-- declare void @pm_assert(ptr, i64)
-- @copy as above with `call void @pm_assert(ptr %dst, i64 8)` after the store, and @main
abbrev pub assert_inside_callee : Program
assert_inside_callee =
    record {
      globals = persistent_i64 (codes "p") ∷ nine_in_memory ∷ [];
      externs = declare_pm_assert ∷ [];
      functions = copy_and (assert_dst ∷ []) ∷ copy_caller ∷ [];
    }

-- report both entry 3 check 4 closed 0 path @copy:entry:1 @main:entry:0
-- report both entry 3 check 5 closed 1 path @copy:entry:1 @main:entry:0
abbrev pub assert_inside_callee_reports : List Report
assert_inside_callee_reports =
    record {
      entry = 3;
      check_entry = 4;
      kind = MissingBoth;
      flush_site = None;
      path = site 0 1 ∷ site 1 0 ∷ [];
      closed = 0;
    }
    ∷ record {
      entry = 3;
      check_entry = 5;
      kind = MissingBoth;
      flush_site = None;
      path = site 0 1 ∷ site 1 0 ∷ [];
      closed = 1;
    }
    ∷ []

-- @p = global i64 0, section ".pm"
-- @q = global i64 9
-- declare void @pm_assert(ptr, i64)
-- declare void @llvm.x86.clwb(ptr)
-- declare void @llvm.x86.sse.sfence()
-- @copy as above with these three after the store, and @main
--   call void @llvm.x86.clwb(ptr %dst)
--   call void @llvm.x86.sse.sfence()
--   call void @pm_assert(ptr %dst, i64 8)
abbrev pub assert_inside_callee_repaired : Program
assert_inside_callee_repaired =
    record {
      globals = persistent_i64 (codes "p") ∷ nine_in_memory ∷ [];
      externs = declare_pm_assert ∷ declare_clwb ∷ declare_sfence ∷ [];
      functions = copy_and (clwb (reg (codes "dst")) ∷ sfence ∷ assert_dst ∷ []) ∷ copy_caller ∷ [];
    }
