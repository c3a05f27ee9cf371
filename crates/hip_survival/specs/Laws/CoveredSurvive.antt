-- What was stored last under a hoisted call survives a crash after the fence that follows the call.
use Rattle.std.proofs.Common.{◌≡◌, ℕ, suc, ◌/◌, ◌<◌, Bool, List, length, Some, slice_get, subst, arith}
use Rattle.hip_tree.specs.declared.program.Program.{Program}
use Rattle.hip_tree.specs.declared.site.Site.{Site}
use Rattle.hip_lines.specs.Line.{Line}
use Rattle.hip_lines.specs.Loose.{IsLastOver, IsLooseBy}
use Rattle.hip_lines.specs.Laws.LooseLaws.{get-below, last_over-place}
use Rattle.hip_sound.specs.Sound.{IsSound}
use Rattle.hip_runs.specs.Crash.{covers}
use Rattle.hip_runs.specs.Laws.CrashLaws.{same_size}
use Rattle.hip_runs.specs.State.{StorePart}
use Rattle.hip_runs.specs.Step.{run}
use Rattle.hip_repairs.specs.Laws.Unchanged.{valid_again}
use Rattle.hip_repairs.specs.StayOutside.{StayOutside}
use Rattle.hip_repairs.specs.Repaired.{repaired}
use Rattle.hip_repairs.specs.declared.plan.Plan.{Plan}
use Rattle.hip_repairs.proofs.Theorems.{repaired_is_sound, hoisted_calls_are_covered}
use Rattle.hip_survival.specs.Laws.TightBytes.{tight_survives}
use Rattle.hip_survival.specs.Kept.{CoveredSurvive}

-- A byte is not loose if the last part over it is durable.
tight_last : (ls : List (Line StorePart)) (j : ℕ) (l : Line StorePart) → slice_get ls j ≡ Some l
    → (b k : ℕ) (x : StorePart)
    → IsLastOver covers l.parts b k x → k < l.durable
    → (m : Line StorePart) → slice_get ls j ≡ Some m → (k' : ℕ) (x' : StorePart)
    → IsLooseBy covers m b k' x' → ⊥
tight_last ls j l e b k x over lt m g k' x' h =
    let same : m ≡ l = cc in
    let h' : IsLooseBy covers l b k' x' = subst (λ z. IsLooseBy covers z b k' x') same h in
    let p : k ≡ k' = last_over-place covers l.parts b k k' x x' over h'.last_over in
    omega (arith, p, lt, h'.not_durable)

pub covered_survives : (P : Program) (plan : Plan) (skip : Site → Bool) → IsSound P → StayOutside P skip
    → CoveredSurvive P (repaired P plan skip)
covered_survives P plan skip s quiet I v j n after last b h =
    let covered = hoisted_calls_are_covered P plan skip s quiet in
    let durable : h.place < h.line.durable =
    covered.durable I v j n after last (b / 64) h.line h.at h.place h.part h.over.at h.since in
    let again = valid_again P plan skip I v in
    let there : b / 64 < length (run (repaired P plan skip) I (suc n)).lines =
    get-below (run (repaired P plan skip) I (suc n)).lines (b / 64) h.line h.at in
    let size = same_size (repaired P plan skip) I (suc n) again in
    tight_survives (repaired P plan skip) (repaired_is_sound P plan skip s) I again (suc n) b
    (omega (arith, there, size))
    (λ loose. tight_last (run (repaired P plan skip) I (suc n)).lines (b / 64) h.line h.at b h.place h.part h.over
    durable loose.0 loose.1 loose.2.0 loose.2.1 loose.2.2)
