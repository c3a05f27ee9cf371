-- Images that are picked from a log.
use Rattle.std.proofs.Common.{◌≡◌, ℕ, ◌*◌, ◌<◌, List, length, Option, None, sym, subst}
use Rattle.hip_runs.specs.Crash.{IsCrashImage, crash_image}
use Rattle.hip_runs.specs.Laws.CrashLaws.{same_size, choice-image}
use Rattle.hip_runs.specs.Laws.HistoryLaws.{lines_ordered}
use Rattle.hip_runs.specs.Laws.ImageLaws.{image_valid}
use Rattle.hip_runs.specs.Validity.{IsValid}
use Rattle.hip_runs.specs.Seen.{Seen, state_of}
use Rattle.hip_crash.specs.LogState.{view_of, IsLogging}
use Rattle.hip_crash.specs.Numbers.{IsBetween}
use Rattle.hip_crash.specs.Picks.{bounds_of, first_failure, number_for, number_or, picked}
use Rattle.hip_crash.specs.declared.log.CrashLog.TheInside.{Inside}
use Rattle.hip_types.specs.declared.pick.Pick.{Pick}
use Rattle.hip_crash.proofs.PickLaws.{fit-between, fit-pick}
use Rattle.hip_crash.proofs.Steps.{get_there}

module _ (x : Inside) (h : IsLogging x) (s : Seen) (v : view_of x ≡ s) where
  pub valid-seen : IsValid s.program s.input
  valid-seen = subst (λ (y : Seen). IsValid y.program y.input) v h.valid

  pub size-seen : length s.input.image ≡ 64 * length (state_of s).lines
  size-seen = same_size s.program s.input s.taken valid-seen

  module _ (picks : List Pick) (fit : first_failure (state_of s) picks ≡ None) where
    pub number-between : (j : ℕ) → j < length (state_of s).lines → (number : Option ℕ) → number ≡ number_for picks j → IsBetween (bounds_of (state_of s) j) (number_or (bounds_of (state_of s) j).least number)
    number-between j lt number e =
        let l = get_there (state_of s).lines j lt in
        subst (λ n. IsBetween (bounds_of (state_of s) j) (number_or (bounds_of (state_of s) j).least n)) (sym e) (fit-between (state_of s) picks (lines_ordered s.program s.input s.taken) fit j l.0 l.1)

    pub picked-image : IsCrashImage s.input (state_of s) (crash_image s.input (state_of s) (picked (state_of s) picks))
    picked-image = choice-image s.program s.input s.taken (picked (state_of s) picks) valid-seen (fit-pick (state_of s) picks (lines_ordered s.program s.input s.taken) fit)

  pub image-valid : (content : List ℕ) → IsCrashImage s.input (state_of s) content → IsValid s.program (record s.input { image = content })
  image-valid content i = image_valid s.program s.input s.taken content valid-seen i
