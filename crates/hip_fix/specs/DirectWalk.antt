-- The direct stores, as one walk finds them by two sets of names: the volatile globals and, for each function, the
-- registers that `alloca` assigns.
use Rattle.std.specs.Prelude.{ℕ, suc, Bool, false, cond, List, [], ◌∷◌, ◌++◌}
use Rattle.std.specs.List.{flat_map}
use Rattle.std.specs.Str.{bytes_eq}
use Rattle.hip_types.specs.Distinct.{met}
use Rattle.hip_tree.specs.declared.block.Block.{Block}
use Rattle.hip_tree.specs.declared.constant.Const.{Const, out-Const}
use Rattle.hip_tree.specs.declared.constant.Const.TheOpen.{Const-F}
use Rattle.hip_tree.specs.declared.constant.ConstGep.{ConstGep}
use Rattle.hip_tree.specs.declared.constant.TypedConst.{TypedConst}
use Rattle.hip_tree.specs.declared.instr.Instr.{Instr}
use Rattle.hip_tree.specs.declared.instr.Instr.TheVariants.{Alloca, Store}
use Rattle.hip_tree.specs.declared.instr.Operand.{Operand}
use Rattle.hip_tree.specs.declared.instr.Operand.TheVariants.{Reg, Fixed}
use Rattle.hip_tree.specs.declared.program.Function.{Function}
use Rattle.hip_tree.specs.declared.program.GlobalVar.{GlobalVar}
use Rattle.hip_tree.specs.declared.site.Site.{Site}
use Rattle.hip_names.specs.Names.{is_among}
use Rattle.hip_sites.specs.SiteWalk.{passing_in_blocks}

-- The names of the volatile globals, in their order.
abbrev pub volatile_names : List GlobalVar → List (List ℕ)
volatile_names [] = []
volatile_names (g ∷ gs) = cond g.persistent (volatile_names gs) (g.name ∷ volatile_names gs)

-- The register that an `alloca` assigns.
abbrev pub allocated : Instr → List (List ℕ)
allocated (Alloca dest ty align) = dest ∷ []
allocated _ = []

-- The registers that the `alloca` instructions of a body assign, in their order.
abbrev pub body_allocas : List Instr → List (List ℕ)
body_allocas is = flat_map allocated is

-- The registers that the `alloca` instructions of blocks assign, in their order.
abbrev pub alloca_names : List Block → List (List ℕ)
alloca_names blocks = flat_map (λ b. body_allocas b.body) blocks

-- The constant is the name of one of these globals, and no `getelementptr`.
abbrev pub names_one_of : List (List ℕ) → Const-F Const ConstGep TypedConst → Bool
names_one_of volatile (Const-F.Address name) = is_among volatile name
names_one_of volatile _ = false

-- An address is one of these registers, or the name of one of these globals.
abbrev pub lies_by : List (List ℕ) → List (List ℕ) → Operand → Bool
lies_by volatile registers (Reg name) = is_among registers name
lies_by volatile registers (Fixed value) = names_one_of volatile (out-Const value)

-- The instruction is a store whose address is one of these registers or globals.
abbrev pub stores_by : List (List ℕ) → List (List ℕ) → Instr → Bool
stores_by volatile registers (Store ty value addr align) = lies_by volatile registers addr
stores_by volatile registers _ = false

-- The sites of the direct stores of function f, given the volatile globals. The registers are those that its own
-- `alloca` instructions assign.
abbrev pub direct_in_function : List (List ℕ) → ℕ → Function → List Site
direct_in_function volatile f x =
    passing_in_blocks (stores_by volatile (met bytes_eq [] (alloca_names x.blocks))) f 0 x.blocks

-- The same for a list of functions, the first of which has number f.
abbrev pub direct_in_functions : List (List ℕ) → ℕ → List Function → List Site
direct_in_functions volatile f [] = []
direct_in_functions volatile f (x ∷ xs) =
    direct_in_function volatile f x ++ direct_in_functions volatile (suc f) xs
