-- What survives under hoisted calls after later repairs.
use Rattle.std.proofs.Common.{◌≡◌, ◌⊎◌, inl, inr, ℕ, zero, suc, ◌+◌, ◌-◌, ◌/◌, ◌<◌, ◌≤◌, List, length, Some, slice_get, subst, arith}
use Rattle.hip_histories.specs.Chains.{StaysCovered}
use Rattle.hip_histories.specs.NoHarm.{GoesAlong}
use Rattle.hip_lines.specs.Laws.LooseLaws.{get-below, last_over-place}
use Rattle.hip_lines.specs.Line.{Line}
use Rattle.hip_lines.specs.Loose.{IsLastOver, IsLooseBy}
use Rattle.hip_runs.specs.Crash.{covers}
use Rattle.hip_runs.specs.Laws.CrashLaws.{same_size}
use Rattle.hip_runs.specs.State.{StorePart}
use Rattle.hip_runs.specs.Step.{run}
use Rattle.hip_runs.specs.Validity.{IsValid}
use Rattle.hip_runs.specs.declared.input.Input.{Input}
use Rattle.hip_sound.specs.Sound.{IsSound}
use Rattle.hip_survival.specs.Laws.TightBytes.{tight_survives}
use Rattle.hip_tool.specs.Repair.{StaysSurviving}
use Rattle.hip_tree.specs.declared.program.Program.{Program}

-- More steps correspond to at least as many steps.
further : {original : ℕ → ℕ} {P Q : Program} {I : Input} (along : GoesAlong original P Q I) (m d : ℕ)
    → along.steps_of m ≤ along.steps_of (m + d)
further along m zero =
    let e : m ≡ m + 0 = omega arith in
    let le : along.steps_of m ≤ along.steps_of m = omega arith in
    subst (λ k. along.steps_of m ≤ along.steps_of k) e le
further along m (suc d) = go (further along m d) (along.onward (m + d))
  where
    to : suc (m + d) ≡ m + suc d
    to = omega arith

    go : along.steps_of m ≤ along.steps_of (m + d)
        → (along.steps_of (suc (m + d)) ≡ along.steps_of (m + d))
        ⊎ (along.steps_of (suc (m + d)) ≡ suc (along.steps_of (m + d)))
        → along.steps_of m ≤ along.steps_of (m + suc d)
    go le (inl e) = subst (λ k. along.steps_of m ≤ along.steps_of k) to (omega (arith, le, e))
    go le (inr e) = subst (λ k. along.steps_of m ≤ along.steps_of k) to (omega (arith, le, e))

onward : {original : ℕ → ℕ} {P Q : Program} {I : Input} (along : GoesAlong original P Q I) (m n : ℕ) → m ≤ n
    → along.steps_of m ≤ along.steps_of n
onward along m n le =
    let e : m + (n - m) ≡ n = omega (arith, le) in
    subst (λ k. along.steps_of m ≤ along.steps_of k) e (further along m (n - m))

-- A byte is not loose if the last part over it is durable.
never_loose : (ls : List (Line StorePart)) (j : ℕ) (l : Line StorePart) → slice_get ls j ≡ Some l → (b k : ℕ)
    (x : StorePart) → IsLastOver covers l.parts b k x → k < l.durable → (m : Line StorePart) → slice_get ls j ≡ Some m
    → (k' : ℕ) (x' : StorePart) → IsLooseBy covers m b k' x' → ⊥
never_loose ls j l e b k x over lt m g k' x' h =
    let same : m ≡ l = cc in
    let h' : IsLooseBy covers l b k' x' = subst (λ z. IsLooseBy covers z b k' x') same h in
    let p : k ≡ k' = last_over-place covers l.parts b k k' x x' over h'.last_over in
    omega (arith, p, lt, h'.not_durable)

pub stays_surviving : (P Q R : Program) → StaysCovered P Q R → IsSound R
    → ((I : Input) → IsValid Q I → IsValid R I) → StaysSurviving P Q R
stays_surviving P Q R covered sound valid original I v along j n after last corresponds from le b h =
    let upto = onward along from h.part.step h.since in
    let durable : h.place < h.line.durable =
    covered original I v along j n after last corresponds (b / 64) h.line h.at h.place h.part h.over.at
    (omega (arith, le, upto)) in
    let there : b / 64 < length (run R I (suc n)).lines = get-below (run R I (suc n)).lines (b / 64) h.line h.at in
    let size = same_size R I (suc n) (valid I v) in
    tight_survives R sound I (valid I v) (suc n) b (omega (arith, there, size))
    (λ loose. never_loose (run R I (suc n)).lines (b / 64) h.line h.at b h.place h.part h.over durable loose.0 loose.1
    loose.2.0 loose.2.1 loose.2.2)
