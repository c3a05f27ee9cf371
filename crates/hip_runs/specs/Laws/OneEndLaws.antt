-- A run ends in one way: once it has ended it stays as it is.
use Rattle.std.proofs.Common.{◌≡◌, ◌≤◌, ◌<◌, ◌+◌, ◌-◌, ◌⊎◌, ℕ, zero, suc, true, Some, is_some, sym, ap, ◌∙◌, inl, inr, arith}
use Rattle.std.proofs.lemmas.Bool.{cases_order}
use Rattle.hip_tree.specs.declared.program.Program.{Program}
use Rattle.hip_runs.specs.Laws.NextLaws.{rests-ended}
use Rattle.hip_runs.specs.State.{State}
use Rattle.hip_runs.specs.Step.{has_ended, run}
use Rattle.hip_runs.specs.declared.event.Ending.{Ending}
use Rattle.hip_runs.specs.declared.input.Input.{Input}

stays : (P : Program) (I : Input) (k n : ℕ) → has_ended (run P I k) ≡ true → run P I (k + n) ≡ run P I k
stays P I k zero ended = ap (run P I) (let e : k + 0 ≡ k = omega arith in e)
stays P I k (suc n) ended =
    let before = stays P I k n ended in
    ap (run P I) (let e : k + suc n ≡ suc (k + n) = omega arith in e)
    ∙ rests-ended P I (k + n) (ap has_ended before ∙ ended) ∙ before

-- A run that has ended stays as it is.
pub rests_later : (P : Program) (I : Input) (k m : ℕ) → k ≤ m → has_ended (run P I k) ≡ true
    → run P I m ≡ run P I k
rests_later P I k m less ended =
    ap (run P I) (let e : m ≡ k + (m - k) = omega (arith, less) in e) ∙ stays P I k (m - k) ended

pub one_end : (P : Program) (I : Input) (k m : ℕ) → has_ended (run P I k) ≡ true
    → has_ended (run P I m) ≡ true
    → run P I k ≡ run P I m
one_end P I k m at_k at_m = by_order (cases_order k m)
  where
    by_order : (k ≡ m) ⊎ ((k < m) ⊎ (m < k)) → run P I k ≡ run P I m
    by_order (inl same) = ap (run P I) same
    by_order (inr (inl less)) = sym (rests_later P I k m (omega (arith, less)) at_k)
    by_order (inr (inr more)) = rests_later P I m k (omega (arith, more)) at_m

pub one_ending : (P : Program) (I : Input) (k m : ℕ) (ending other : Ending)
    → (run P I k).world.ending ≡ Some ending
    → (run P I m).world.ending ≡ Some other → ending ≡ other
one_ending P I k m ending other at_k at_m =
    let same = one_end P I k m (ap is_some at_k) (ap is_some at_m) in
    let both : Some ending ≡ Some other = sym at_k ∙ ap (λ (s : State). s.world.ending) same ∙ at_m in
    cc
