-- The meaning of the code's table of predecessors.
use Rattle.std.specs.Prelude.{ℕ, ◌≡◌, ◌&&◌, ◌||◌, List, [], Option, unwrap_or}
use Rattle.std.specs.Borrow.{Bor}
use Rattle.std.specs.Str.{bytes_eq}
use Rattle.indexmap.specs.IndexMap.{IndexMap, get_by}
use Rattle.hip_tree.specs.declared.block.Block.{Block}
use Rattle.hip_names.specs.Names.{is_among, Knows}
use Rattle.hip_sound.specs.Places.{predecessors}

-- The set of names that a table has under a name, if it has one.
abbrev pub found_at : {S : Type 0} → IndexMap (Bor (List ℕ)) (List (List ℕ)) S → List ℕ
    → Option (List (List ℕ))
found_at m label = get_by (λ k. bytes_eq label k.now) m

-- The set of names that a table has under a name; empty if it has none.
abbrev pub names_at : {S : Type 0} → IndexMap (Bor (List ℕ)) (List (List ℕ)) S → List ℕ → List (List ℕ)
names_at m label = unwrap_or (found_at m label) []

-- A table grows by a block with this label, whose end names these labels.
pub record Arrives {S : Type 0} (old new : IndexMap (Bor (List ℕ)) (List (List ℕ)) S) (labels : List (List ℕ))
    (from : List ℕ) : Type 0 where
  pub adds : (at name : List ℕ) →
      is_among (names_at new at) name ≡ (is_among (names_at old at) name
      || (is_among labels at && bytes_eq name from))

-- The table finds the predecessors of each block.
pub record FindsPredecessors {S : Type 0} (m : IndexMap (Bor (List ℕ)) (List (List ℕ)) S)
    (blocks : List Block) : Type 0 where
  pub finds : (label : List ℕ) → Knows (names_at m label) (predecessors blocks label)
