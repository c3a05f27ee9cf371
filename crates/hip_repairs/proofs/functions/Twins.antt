-- Functions of a program and what takes their place in the repaired program.
use Rattle.std.proofs.Common.{◌≡◌, ℕ, ◌+◌, ◌<◌, Bool, true, false, List, length, Some, None, slice_get}
use Rattle.hip_tree.specs.declared.program.Function.{Function}
use Rattle.hip_tree.specs.declared.program.Program.{Program}
use Rattle.hip_tree.specs.declared.site.Site.{Site}
use Rattle.hip_externs.specs.Externs.{call_of}
use Rattle.hip_sound.specs.NumberedNames.{function_number}
use Rattle.hip_runs.specs.Places.{blocks_of}
use Rattle.hip_repairs.specs.declared.plan.Plan.{Plan}
use Rattle.hip_repairs.specs.Harmless.{marked_at, marked_body}
use Rattle.hip_repairs.specs.Repaired.{wanted_by, clones_of, cloned, repaired, repaired_blocks, repaired_function}

-- Function f' of the repaired program is function f, or its clone.
pub record Twin (P : Program) (plan : Plan) (skip : Site → Bool) (clone : Bool) (f f' : ℕ) : Type 0 where
  pub plain : clone ≡ false → (f' ≡ f) × (f' < length P.functions)
  pub high : clone ≡ true → (k : ℕ) × (f' ≡ length P.functions + k) × (slice_get (cloned P plan) k ≡ Some f)
  pub blocks : blocks_of (repaired P plan skip) f' ≡ repaired_blocks (clones_of P plan) (wanted_by plan skip) clone f 0 (blocks_of P f)
  pub marked : (b : ℕ) → marked_at P plan skip f' b ≡ marked_body P (clones_of P plan) (wanted_by plan skip) clone f b

-- A call of a defined function, or of its clone.
pub record CallsTwin (P : Program) (plan : Plan) (skip : Site → Bool) (to_clone : Bool) (callee' : List ℕ) (g : ℕ) (fn : Function) : Type 0 where
  pub number : ℕ
  pub found : function_number (repaired P plan skip) callee' ≡ Some number
  pub free : call_of callee' ≡ None
  pub name : List ℕ
  pub code : slice_get (repaired P plan skip).functions number ≡ Some (repaired_function (clones_of P plan) (wanted_by plan skip) to_clone g name fn)
  pub twin : Twin P plan skip to_clone g number
