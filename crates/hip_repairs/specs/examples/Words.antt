-- The words in which the worked examples are written.
use Rattle.std.specs.Prelude.{◌≡◌, ℕ, ◌*◌, Bool, true, false, List, [], ◌∷◌, Some, None, replicate, codes}
use Rattle.hip_types.specs.Numbers.{bits}
use Rattle.hip_types.specs.declared.number.Scalar.TheVariants.{Int, Ptr}
use Rattle.hip_types.specs.declared.number.Width.TheVariants.{W32, W64}
use Rattle.hip_types.specs.declared.ty.Ty.TheVariants as types
use Rattle.hip_tree.specs.declared.block.Block.{Block}
use Rattle.hip_tree.specs.declared.block.End.TheVariants as ends
use Rattle.hip_tree.specs.declared.constant.Const.TheVariants as consts
use Rattle.hip_tree.specs.declared.instr.Arg.{Arg}
use Rattle.hip_tree.specs.declared.instr.Instr.{Instr}
use Rattle.hip_tree.specs.declared.instr.Instr.TheVariants as instrs
use Rattle.hip_tree.specs.declared.instr.Operand.{Operand}
use Rattle.hip_tree.specs.declared.instr.Operand.TheVariants.{Reg, Fixed}
use Rattle.hip_tree.specs.declared.program.Extern.{Extern}
use Rattle.hip_tree.specs.declared.program.Function.{Function}
use Rattle.hip_tree.specs.declared.program.GlobalVar.{GlobalVar}
use Rattle.hip_tree.specs.declared.program.Param.{Param}
use Rattle.hip_tree.specs.declared.program.Program.{Program}
use Rattle.hip_tree.specs.declared.site.Site.{Site}
use Rattle.hip_runs.specs.declared.input.Input.{Input}
use Rattle.hip_runs.specs.declared.report.Report.{Report}
use Rattle.hip_runs.specs.Found.Marks.{findings}
use Rattle.hip_runs.specs.Found.Reports.{reports}
use Rattle.hip_runs.specs.Step.{run, has_ended}
use Rattle.hip_repairs.specs.Choice.{plan_for}
use Rattle.hip_repairs.specs.Repaired.{repaired}

-- `@NAME`.
abbrev pub at : List ℕ → Operand
at name = Fixed (consts.Address name)

-- `%NAME`.
abbrev pub reg : List ℕ → Operand
reg name = Reg name

-- A constant of 64 bits, which is the number modulo 2^64.
abbrev pub number : ℕ → Operand
number n = Fixed (consts.Int (bits W64 n))

-- `ptr VALUE` as an argument.
abbrev pub ptr_arg : Operand → Arg
ptr_arg value = record { ty = Ptr; value = value }

-- `i64 VALUE` as an argument.
abbrev pub i64_arg : Operand → Arg
i64_arg value = record { ty = Int W64; value = value }

-- `@NAME = global i64 0, section ".pm"`.
abbrev pub persistent_i64 : List ℕ → GlobalVar
persistent_i64 name =
    record {
      name = name;
      fixed = false;
      ty = types.Int W64;
      init = consts.Int (bits W64 0);
      persistent = true;
      align = None;
    }

-- `store i64 VALUE, ptr ADDR`.
abbrev pub store_i64 : Operand → Operand → Instr
store_i64 value addr = instrs.Store (Int W64) value addr None

-- `%NAME = alloca i64`.
abbrev pub alloca_i64 : List ℕ → Instr
alloca_i64 name = instrs.Alloca name (types.Int W64) None

-- `%NAME = load i64, ptr ADDR`.
abbrev pub load_i64 : List ℕ → Operand → Instr
load_i64 name addr = instrs.Load name (Int W64) addr None

-- `call void @NAME(ARGS)`.
abbrev pub call_void : List ℕ → List Arg → Instr
call_void name args = instrs.Call None None name args

-- `call void @llvm.x86.clwb(ptr ADDR)`.
abbrev pub clwb : Operand → Instr
clwb addr = call_void (codes "llvm.x86.clwb") (ptr_arg addr ∷ [])

-- `declare void @llvm.x86.clwb(ptr)`.
abbrev pub declare_clwb : Extern
declare_clwb = record { ret = None; name = codes "llvm.x86.clwb"; params = Ptr ∷ [] }

-- `call void @llvm.x86.sse.sfence()`.
abbrev pub sfence : Instr
sfence = call_void (codes "llvm.x86.sse.sfence") []

-- `declare void @llvm.x86.sse.sfence()`.
abbrev pub declare_sfence : Extern
declare_sfence = record { ret = None; name = codes "llvm.x86.sse.sfence"; params = [] }

-- `define i32 @main() { entry: BODY ret i32 0 }`.
abbrev pub main_of : List Instr → Function
main_of body =
    record {
      ret = Some (Int W32);
      name = codes "main";
      params = [];
      blocks =
          record {
            label = codes "entry";
            phis = [];
            body = body;
            end = ends.Ret (Some (record { ty = Int W32; value = Fixed (consts.Int (bits W32 0)) }));
          }
          ∷ [];
    }

-- `ptr %NAME` as a parameter.
abbrev pub ptr_param : List ℕ → Param
ptr_param name = record { ty = Ptr; name = name }

-- `i64 %NAME` as a parameter.
abbrev pub i64_param : List ℕ → Param
i64_param name = record { ty = Int W64; name = name }

-- `LABEL: BODY` with `ret void`.
abbrev pub ret_void : List ℕ → List Instr → Block
ret_void label body = record { label = label; phis = []; body = body; end = ends.Ret None }

-- `define void @NAME(PARAMS) { BLOCKS }`.
abbrev pub define_void : List ℕ → List Param → List Block → Function
define_void name params blocks = record { ret = None; name = name; params = params; blocks = blocks }

-- The site of an instruction in the first block of a function.
abbrev pub site : ℕ → ℕ → Site
site function index = record { function = function; block = 0; index = index }

-- The input of the examples: a region of n cache lines of zeros, from 2^32 on, and no numbers.
abbrev pub zeroed : ℕ → Input
zeroed lines = record { base = 4294967296; image = replicate (64 * lines) 0; numbers = []; limit = 1000000000 }

-- The run of a program takes n steps to its end and finds these reports. The repair of the program for these reports is
-- the program Q, whatever stores its clones do not flush.
pub record IsWorked (P : Program) (I : Input) (steps : ℕ) (found : List Report) (Q : Program) : Type 0 where
  pub ended : has_ended (run P I steps) ≡ true
  pub reports : reports P I steps ≡ found
  pub repaired : (skip : Site → Bool) → repaired P (plan_for P (findings P I steps)) skip ≡ Q

-- The run of a program takes n steps to its end and finds these reports, and some calls are to hoist. The repair of the
-- program for these reports is the program Q, if its clones flush each store.
pub record ExampleIsHoisted (P : Program) (I : Input) (steps : ℕ) (found : List Report) (Q : Program) : Type 0 where
  pub ended : has_ended (run P I steps) ≡ true
  pub reports : reports P I steps ≡ found
  pub repaired : repaired P (plan_for P (findings P I steps)) (λ s. false) ≡ Q
