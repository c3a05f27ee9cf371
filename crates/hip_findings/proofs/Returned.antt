-- If there is no standing call, all calls have returned.
use Rattle.std.proofs.Common.{◌≡◌, ℕ, suc, List, [], ◌∷◌, length, refl, ap, ◌∙◌, arith}
use Rattle.hip_runs.specs.State.{Level}
use Rattle.hip_findings.specs.CallPaths.{closed_by}

none_stands : (levels : List Level) → length levels ≡ closed_by [] levels
none_stands [] = refl
none_stands (l ∷ ls) = ap suc (none_stands ls)

-- If no births of standing calls are given, all calls have returned.
no_births : (births : List ℕ) (levels : List Level) → length births ≡ 0 → length levels ≡ closed_by births levels
no_births [] levels h = none_stands levels
no_births (b ∷ bs) levels h = absurd (omega (arith, h))

pub all_returned : (births : List ℕ) (levels : List Level) (count : ℕ) → length births ≡ 0 → count ≡ length levels → count ≡ closed_by births levels
all_returned births levels count h e = e ∙ no_births births levels h
