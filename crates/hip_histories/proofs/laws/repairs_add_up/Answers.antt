use Rattle.std.proofs.Common.{[], ◌∷◌}
use Rattle.hip_repairs.specs.Repaired.{repaired}
use Rattle.hip_repairs.proofs.Theorems.{repaired_is_sound, repairs_are_clean}
use Rattle.hip_repairs.specs.Laws.Unchanged.{valid_again}
use Rattle.hip_survival.specs.Laws.ChecksKept.{stays_clean}
use Rattle.hip_histories.proofs.Repairs.{all_covered, twice}
use Rattle.hip_histories.proofs.Rounds.{no_history_more}
use Rattle.hip_histories.proofs.laws.repairs_add_up.Goals as goal

pub returns : goal.returns
returns c = record {
  clean = λ P first second skip also s I v clean.
      stays_clean (repaired P first skip) second also (repaired_is_sound P first skip s) I
      (valid_again P first skip I v) clean;
  earlier = λ P first second skip also s I found v quiet is has.
      stays_clean (repaired P first skip) second also (repaired_is_sound P first skip s) I
      (valid_again P first skip I v) (repairs_are_clean P first skip I found s v quiet is has);
  later = λ P first second skip also s I found v quiet is has.
      repairs_are_clean (repaired P first skip) second also I found (repaired_is_sound P first skip s)
      (valid_again P first skip I v) quiet is has;
  harm = twice;
  covered = λ P first second skip also s quiet.
      all_covered P (record { plan = first; skip = skip }) (record { plan = second; skip = also } ∷ []) s quiet;
  histories = λ P first second skip also s bytes rounds h.
      no_history_more P (repaired (repaired P first skip) second also) (twice P first second skip also s) bytes rounds h;
}
