-- Paths through a function, and what is assigned on them.
use Rattle.std.specs.Prelude.{ℕ, ◌≡◌, List, [], ◌∷◌, ◌++◌, map, take, Option, Some, slice_get, option_map, unwrap_or}
use Rattle.std.specs.List.{flat_map}
use Rattle.hip_tree.specs.declared.block.Block.{Block}
use Rattle.hip_tree.specs.declared.program.Function.{Function}
use Rattle.hip_names.specs.Names.{IsAmong}
use Rattle.hip_sound.specs.declared.point.Point.{Point}
use Rattle.hip_sound.specs.declared.point.Point.TheVariants.{Before, AtEnd}
use Rattle.hip_sound.specs.Registers.{Register, block_registers, phi_registers, body_registers, parameter_registers, end_labels}

-- The label of the function's block of that number; none if the block does not exist.
abbrev pub label_at : Function → ℕ → Option (List ℕ)
label_at f b = option_map (λ block. block.label) (slice_get f.blocks b)

-- The labels that the end of the block of that number names; empty if the block does not exist.
abbrev pub labels_named_at : Function → ℕ → List (List ℕ)
labels_named_at f b = unwrap_or (option_map (λ block. end_labels block.end) (slice_get f.blocks b)) []

-- The end of block b names the label of block c.
pub record BlockLeadsTo (f : Function) (b c : ℕ) : Type 0 where
  pub label : List ℕ
  pub here : label_at f c ≡ Some label
  pub named : IsAmong (labels_named_at f b) label

-- Block b leads to the first block of the list, and each block of the list leads to the next.
abbrev pub IsChain : Function → ℕ → List ℕ → Type 0
IsChain f b [] = Unit {0}
IsChain f b (c ∷ cs) = BlockLeadsTo f b c × IsChain f c cs

-- A path starts with the entry block, and the end of each of its blocks names the next.
pub record IsPathTo (f : Function) (path : List ℕ) (last : ℕ) : Type 0 where
  pub blocks : List ℕ
  pub is : path ≡ 0 ∷ blocks
  pub chain : IsChain f 0 blocks
  pub earlier : List ℕ
  pub last_is : path ≡ earlier ++ last ∷ []

-- The registers that a block assigns before a point of it.
abbrev pub registers_before : Point → Block → List Register
registers_before (Before k) b = phi_registers b.phis ++ body_registers (take k b.body)
registers_before AtEnd b = block_registers b

-- The names of registers, in their order.
abbrev pub names_of : List Register → List (List ℕ)
names_of rs = map (λ r. r.name) rs

-- The names of the registers that the block of that number assigns; empty if the block does not exist.
abbrev pub whole_block_names : Function → ℕ → List (List ℕ)
whole_block_names f b = unwrap_or (option_map (λ block. names_of (block_registers block)) (slice_get f.blocks b)) []

-- The names of registers that the block of that number assigns before the point; empty if the block does not exist.
abbrev pub names_before : Function → Point → ℕ → List (List ℕ)
names_before f point b =
    unwrap_or (option_map (λ block. names_of (registers_before point block)) (slice_get f.blocks b)) []

-- What is assigned on a path before a point in its last block; the path is given as the blocks before the last one.
abbrev pub assigned_on : Function → List ℕ → ℕ → Point → List (List ℕ)
assigned_on f earlier last point =
    names_of (parameter_registers f) ++ (flat_map (whole_block_names f) earlier ++ names_before f point last)

-- A path to the point that does not assign the register before it.
pub record IsUnassigned (f : Function) (last : ℕ) (point : Point) (name : List ℕ) (path : List ℕ) : Type 0 where
  pub leads : IsPathTo f path last
  pub earlier : List ℕ
  pub is : path ≡ earlier ++ last ∷ []
  pub none : ¬ IsAmong (assigned_on f earlier last point) name

-- Every path to the point assigns the register before it.
abbrev pub IsAssigned : Function → ℕ → Point → List ℕ → Type 0
IsAssigned f last point name = (path : List ℕ) → ¬ IsUnassigned f last point name path
