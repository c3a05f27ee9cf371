-- The clones of a plan: for each, the number of its original and its own number.
use Rattle.std.specs.Prelude.{◌≡◌, ℕ, suc, ◌-◌, true, List, [], ◌∷◌, length, Bool, Some, slice_get}
use Rattle.hip_tree.specs.declared.program.Function.{Function}
use Rattle.hip_tree.specs.declared.program.Program.{Program}
use Rattle.hip_tree.specs.declared.site.Site.{Site}
use Rattle.hip_calls.specs.Fresh.{fresh_names}
use Rattle.hip_repairs.specs.declared.plan.CloneOf.{CloneOf}
use Rattle.hip_repairs.specs.declared.plan.Plan.{Plan}
use Rattle.hip_repairs.specs.Repaired.{wanted_by, clones_of, cloned, repaired, repaired_function}

-- Pairs of these functions and their clones. The clones have consecutive numbers, the first of which is given.
abbrev pub numbered_from : ℕ → List ℕ → List CloneOf
numbered_from copy [] = []
numbered_from copy (f ∷ fs) = record { original = f; copy = copy } ∷ numbered_from (suc copy) fs

-- The clones of a plan with their numbers, which follow those of all functions of the program.
abbrev pub clone_numbers : Program → Plan → List CloneOf
clone_numbers P plan = numbered_from (length P.functions) (cloned P plan)

-- In the repaired program, the second function of the pair is the clone of the first, under the fresh name for its
-- place.
pub record IsCloneOf (P : Program) (plan : Plan) (skip : Site → Bool) (clone : CloneOf) : Type 0 where
  pub function : Function
  pub original : slice_get P.functions clone.original ≡ Some function
  pub name : List ℕ
  pub named : slice_get (fresh_names P (cloned P plan)) (clone.copy - length P.functions) ≡ Some name
  pub copy : slice_get (repaired P plan skip).functions clone.copy
      ≡ Some (repaired_function (clones_of P plan) (wanted_by plan skip) true clone.original name function)
