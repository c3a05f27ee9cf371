-- The stores whose address operand shows that their bytes are never in the region.
use Rattle.std.specs.Prelude.{ℕ, Bool, false, ◌&&◌, not, List, Option, Some}
use Rattle.std.specs.List.{list_any}
use Rattle.std.specs.Str.{bytes_eq}
use Rattle.hip_tree.specs.Sites.{instr_of}
use Rattle.hip_tree.specs.declared.constant.Const.{Const, out-Const}
use Rattle.hip_tree.specs.declared.constant.Const.TheOpen.{Const-F}
use Rattle.hip_tree.specs.declared.constant.ConstGep.{ConstGep}
use Rattle.hip_tree.specs.declared.constant.TypedConst.{TypedConst}
use Rattle.hip_tree.specs.declared.block.Block.{Block}
use Rattle.hip_tree.specs.declared.instr.Instr.{Instr}
use Rattle.hip_tree.specs.declared.instr.Instr.TheVariants.{Alloca, Store}
use Rattle.hip_tree.specs.declared.instr.Operand.{Operand}
use Rattle.hip_tree.specs.declared.instr.Operand.TheVariants.{Reg, Fixed}
use Rattle.hip_tree.specs.declared.program.GlobalVar.{GlobalVar}
use Rattle.hip_tree.specs.declared.program.Program.{Program}
use Rattle.hip_tree.specs.declared.site.Site.{Site}
use Rattle.hip_runs.specs.Places.{blocks_of}

-- The instruction is an `alloca` that assigns the register.
abbrev pub allocates : List ℕ → Instr → Bool
allocates name (Alloca dest ty align) = bytes_eq dest name
allocates name _ = false

-- An `alloca` of these blocks assigns the register.
abbrev pub allocates_in : List Block → List ℕ → Bool
allocates_in blocks name = list_any (λ b. list_any (allocates name) b.body) blocks

-- A global of that name is volatile; in a sound program at most one global has the name.
abbrev pub is_volatile_global : List GlobalVar → List ℕ → Bool
is_volatile_global globals name = list_any (λ g. bytes_eq g.name name && not g.persistent) globals

-- The constant is the name of a volatile global; a `getelementptr` does not count.
abbrev pub names_volatile : List GlobalVar → Const-F Const ConstGep TypedConst → Bool
names_volatile globals (Const-F.Address name) = is_volatile_global globals name
names_volatile globals _ = false

-- The operand alone shows that the address is never in the region: it is a register that an `alloca` of these blocks
-- assigns, or the name of a volatile global.
abbrev pub is_outside : Program → List Block → Operand → Bool
is_outside P blocks (Reg name) = allocates_in blocks name
is_outside P blocks (Fixed value) = names_volatile P.globals (out-Const value)

-- The instruction is there, and is a store whose address operand shows that the address is never in the region.
abbrev pub stores_outside : Program → List Block → Option Instr → Bool
stores_outside P blocks (Some (Store ty value addr align)) = is_outside P blocks addr
stores_outside P blocks _ = false

-- A store whose address operand is a register that an `alloca` assigns, or the name of a volatile global.
abbrev pub direct : Program → Site → Bool
direct P s = stores_outside P (blocks_of P s.function) (instr_of P s)
