-- The program whose canonical text is the generated text.
use Rattle.std.specs.Prelude.{ℕ, zero, suc, ◌+◌, ◌%◌, Bool, true, false, List, [], ◌∷◌, ◌++◌, Some, None, codes}
use Rattle.hip_types.specs.Numbers.{bits}
use Rattle.hip_types.specs.declared.number.Scalar.TheVariants.{Int, Ptr}
use Rattle.hip_types.specs.declared.number.Width.TheVariants.{W32, W64}
use Rattle.hip_types.specs.declared.ty.Ty.{Ty}
use Rattle.hip_types.specs.declared.ty.Ty.TheVariants as types
use Rattle.hip_tree.specs.declared.block.Block.{Block}
use Rattle.hip_tree.specs.declared.block.End.TheVariants.{Ret}
use Rattle.hip_tree.specs.declared.constant.Const.{Const}
use Rattle.hip_tree.specs.declared.constant.Const.TheVariants as consts
use Rattle.hip_tree.specs.declared.instr.Instr.{Instr}
use Rattle.hip_tree.specs.declared.instr.Instr.TheVariants.{Store, Call}
use Rattle.hip_tree.specs.declared.instr.Operand.TheVariants.{Reg, Fixed}
use Rattle.hip_tree.specs.declared.program.Extern.{Extern}
use Rattle.hip_tree.specs.declared.program.Function.{Function}
use Rattle.hip_tree.specs.declared.program.GlobalVar.{GlobalVar}
use Rattle.hip_tree.specs.declared.program.Program.{Program}
use Rattle.hip_gen.specs.declared.kinds.GroupKind.{GroupKind}
use Rattle.hip_gen.specs.declared.kinds.GroupKind.TheVariants as kinds
use Rattle.hip_gen.specs.declared.limits.TheConstants.{VOLATILE_LENGTH}
use Rattle.hip_gen.specs.Kinds.{kind}

-- ---- arrays

-- `[LENGTH x i64]`.
abbrev pub array_of : ℕ → Ty
array_of length = types.Array length (types.Int W64)

-- `@NAME = global [LENGTH x i64] zeroinitializer`, perhaps with `, section ".pm"`.
abbrev pub zeroed_array : List ℕ → ℕ → Bool → GlobalVar
zeroed_array name length persistent =
    record {
      name = name;
      fixed = false;
      ty = array_of length;
      init = consts.Zero;
      persistent = persistent;
      align = None;
    }

-- `getelementptr ([LENGTH x i64], ptr @NAME, i64 0, i64 INDEX)`.
abbrev pub element : List ℕ → ℕ → ℕ → Const
element name length index =
    consts.Gep (record {
      inbounds = false;
      ty = array_of length;
      base = consts.Address name;
      indices = bits W64 0 ∷ bits W64 index ∷ [];
    })

-- The element of `@data` that a group stores into. Its index is the group's number.
abbrev pub persistent_element : ℕ → ℕ → Const
persistent_element size group = element (codes "data") size group

-- The element of `@temp` that a group stores into. Its index is the group's number modulo the length.
abbrev pub volatile_element : ℕ → Const
volatile_element group = element (codes "temp") VOLATILE_LENGTH (group % VOLATILE_LENGTH)

-- ---- instructions

-- `store i64 VALUE, ptr ELEMENT`.
abbrev pub store : Const → ℕ → Instr
store element value = Store (Int W64) (Fixed (consts.Int (bits W64 value))) (Fixed element) None

-- `call void @llvm.x86.clwb(ptr ELEMENT)`.
abbrev pub flush : Const → Instr
flush element = Call None None (codes "llvm.x86.clwb") (record { ty = Ptr; value = Fixed element } ∷ [])

-- `call void @put(ptr ELEMENT, i64 VALUE)`.
abbrev pub put : Const → ℕ → Instr
put element value =
    Call None None (codes "put")
    (record { ty = Ptr; value = Fixed element }
    ∷ record { ty = Int W64; value = Fixed (consts.Int (bits W64 value)) }
    ∷ [])

-- The instructions of a group, by its kind.
abbrev pub group_instrs : ℕ → ℕ → GroupKind → List Instr
group_instrs size group kinds.Store = store (persistent_element size group) (group + 1) ∷ []
group_instrs size group kinds.FlushedStore =
    store (persistent_element size group) (group + 1) ∷ flush (persistent_element size group) ∷ []
group_instrs size group kinds.PersistentCall = put (persistent_element size group) (group + 1) ∷ []
group_instrs size group kinds.VolatileCall = put (volatile_element group) (group + 1) ∷ []

-- The instructions of the groups before one.
abbrev pub instrs_before : ℕ → ℕ → ℕ → List Instr
instrs_before seed size zero = []
instrs_before seed size (suc group) = instrs_before seed size group ++ group_instrs size group (kind seed group)

-- ---- functions

-- `define void @put(ptr %p, i64 %v) { entry: store i64 %v, ptr %p ret void }`.
abbrev pub define_put : Function
define_put =
    record {
      ret = None;
      name = codes "put";
      params = record { ty = Ptr; name = codes "p" } ∷ record { ty = Int W64; name = codes "v" } ∷ [];
      blocks =
          record {
            label = codes "entry";
            phis = [];
            body = Store (Int W64) (Reg (codes "v")) (Reg (codes "p")) None ∷ [];
            end = Ret None;
          }
          ∷ [];
    }

-- The one block of `main`: BODY and `ret i32 0`.
abbrev pub main_block : List Instr → Block
main_block body =
    record {
      label = codes "entry";
      phis = [];
      body = body;
      end = Ret (Some (record { ty = Int W32; value = Fixed (consts.Int (bits W32 0)) }));
    }

-- `define i32 @main() { entry: BODY ret i32 0 }`.
abbrev pub define_main : List Instr → Function
define_main body =
    record { ret = Some (Int W32); name = codes "main"; params = []; blocks = main_block body ∷ [] }

-- `declare void @llvm.x86.clwb(ptr)`.
abbrev pub declare_clwb : Extern
declare_clwb = record { ret = None; name = codes "llvm.x86.clwb"; params = Ptr ∷ [] }

-- The program of these instructions.
abbrev pub program_of : ℕ → List Instr → Program
program_of size body =
    record {
      globals = zeroed_array (codes "data") size true ∷ zeroed_array (codes "temp") VOLATILE_LENGTH false ∷ [];
      externs = declare_clwb ∷ [];
      functions = define_put ∷ define_main body ∷ [];
    }

-- The program for a seed and a size.
abbrev pub generated_program : ℕ → ℕ → Program
generated_program seed size = program_of size (instrs_before seed size size)
