use Rattle.std.proofs.Common.{◌≡◌, refl, Bool, true, false, cond, ◌||◌, List, [], ◌∷◌, ◌++◌, ap, ap₂, ◌∙◌}
use Rattle.std.specs.Prelude.{if◌then◌else◌}
use Rattle.std.specs.List.{list_any}
use Rattle.hip_types.specs.Distinct.{met}
use Rattle.hip_runs.specs.Found.Marks.{same_mark}
use Rattle.hip_runs.specs.contracts.report.MarkPartialEq.TheImpl as impl
use Rattle.hip_runs.specs.declared.report.Mark.{Mark}
use Rattle.hip_ledger.proofs.MarkTests.{marks_alike}
use Rattle.hip_ledger.proofs.marks.insert.Goals as goal

any_alike : (eq : Mark → Mark → Bool) → ((a b : Mark) → eq a b ≡ same_mark a b) → (m : Mark) (ms : List Mark) → list_any (eq m) ms ≡ list_any (same_mark m) ms
any_alike eq h m [] = refl
any_alike eq h m (x ∷ ms) = ap₂ (λ s t. s || t) (h m x) (any_alike eq h m ms)

by_test : (t : Bool) (ms : List Mark) (m : Mark) → (if t then ms else ms ++ m ∷ []) ≡ cond t ms (ms ++ m ∷ [])
by_test true ms m = refl
by_test false ms m = refl

inserted : (eq : Mark → Mark → Bool) → ((a b : Mark) → eq a b ≡ same_mark a b) → (ms new : List Mark) (m : Mark)
    → new ≡ (if list_any (eq m) ms then ms else ms ++ m ∷ []) → new ≡ met same_mark ms (m ∷ [])
inserted eq h ms new m q = q ∙ by_test (list_any (eq m) ms) ms m ∙ ap (λ t. cond t ms (ms ++ m ∷ [])) (any_alike eq h m ms)

pub returns : goal.returns
returns c = inserted impl.eq-value.it marks_alike c.args.marks.now.keys c.insert.new.self.keys c.args.mark c.in_ok-_is_new.ensures.keys
