-- A run ends in one way.
use Rattle.std.proofs.Common.{◌≡◌, ℕ, true, Option, Some, None, is_some, refl, ap, ◌∙◌}
use Rattle.hip_tree.specs.declared.program.Program.{Program}
use Rattle.hip_runs.specs.Actions.{memory_of}
use Rattle.hip_runs.specs.Laws.EndLaws.{runs_end}
use Rattle.hip_runs.specs.Laws.OneEndLaws.{one_end}
use Rattle.hip_runs.specs.State.{State}
use Rattle.hip_runs.specs.Step.{has_ended, run}
use Rattle.hip_runs.specs.declared.event.Ending.{Ending}
use Rattle.hip_runs.specs.declared.input.Input.{Input}
use Rattle.hip_histories.specs.WholeRuns.{EndsInOneWay}

some_end : (P : Program) (I : Input) (k : ℕ) → has_ended (run P I k) ≡ true
    → (ending : Ending) × ((run P I k).world.ending ≡ Some ending)
some_end P I k h = by (run P I k).world.ending refl h
  where
    by : (o : Option Ending) → (run P I k).world.ending ≡ o → is_some o ≡ true
        → (ending : Ending) × ((run P I k).world.ending ≡ Some ending)
    by (Some e) is h = (e, is)
    by None is h = absurd (let z : ⊥ = cc in z)

pub ends_in_one_way : (P : Program) (I : Input) → EndsInOneWay P I
ends_in_one_way P I =
    let last = runs_end P I in
    let end = some_end P I last.0 last.1 in
    record {
      ending = end.0;
      output = (run P I last.0).world.output;
      memory = memory_of P I (run P I last.0).world;
      ends = (last.0, record { ended = end.1; printed = refl; working = refl });
      alone = λ n e h.
          let same : run P I n ≡ run P I last.0 = one_end P I n last.0 (ap is_some h) last.1 in
          record {
            ended = ap (λ (s : State). s.world.ending) same ∙ end.1;
            printed = ap (λ (s : State). s.world.output) same;
            working = ap (λ (s : State). memory_of P I s.world) same;
          };
    }
