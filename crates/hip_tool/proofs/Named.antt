-- The results of a command whose files have these names.
use Rattle.std.proofs.Common.{◌≡◌, ℕ, Bool, List, subst}
use Rattle.std.specs.Prelude.{Result}
use Rattle.hip_answers.specs.Answers.{Answer}
use Rattle.hip_answers.specs.declared.status.Status.{Status}
use Rattle.hip_command_io.specs.Results.{GivesResult}
use Rattle.hip_command_io.specs.declared.counts.Counts.{Counts}
use Rattle.hip_io.specs.Cabinets.{CabinetState}
use Rattle.hip_io.specs.Sinks.{SinkState}

-- A command gives a result for two names, which are those of the order.
pub named : (table : List ℕ → List ℕ → Answer → Type 0) (begins : Bool) (old new : CabinetState) {out out_new : SinkState}
    (given : Result Counts Status) {p q t u : List ℕ} → p ≡ q → t ≡ u
    → GivesResult (table p t) begins old new out out_new given → GivesResult (table q u) begins old new out out_new given
named table begins old new {out} {out_new} given {p} {q} {t} {u} program trace h =
    subst (λ (x : List ℕ). GivesResult (table x u) begins old new out out_new given) program
    (subst (λ (y : List ℕ). GivesResult (table p y) begins old new out out_new given) trace h)
