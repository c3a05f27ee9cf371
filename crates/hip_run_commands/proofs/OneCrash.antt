-- The files give one answer of `crash`.
use Rattle.std.proofs.Common.{◌≡◌, ◌⊎◌, ◌<◌, ℕ, List, length, Some, None, inl, inr, sym, ap, ◌∙◌, subst, arith}
use Rattle.hip_answers.specs.Answers.{Answer, refusal}
use Rattle.hip_answers.specs.EndingLaws.{one_given}
use Rattle.hip_crash.specs.Picks.{first_failure, picked}
use Rattle.hip_run_commands.specs.Crash.{CrashTexts}
use Rattle.hip_run_commands.specs.ImagesAtEntries.{HasEntries, TraceHasEntry, HasImage, HasNoImage, LacksEntry, StateAtEntry, begun_with, status_of_refusal}
use Rattle.hip_answers.specs.Traces.{GivesTrace}
use Rattle.hip_run_commands.specs.declared.image_refusal.ImageRefusal.{ImageRefusal}
use Rattle.hip_run_commands.specs.declared.image_refusal.ImageRefusal.TheVariants as images
use Rattle.hip_tree.specs.declared.program.Program.{Program}
use Rattle.hip_types.specs.declared.pick.Pick.{Pick}
use Rattle.hip_run_traces.specs.Laws.TraceLaws.{one-trace}
use Rattle.hip_runs.specs.Crash.{crash_image}
use Rattle.hip_runs.specs.Laws.NextLaws.{entry_is_one}
use Rattle.hip_runs.specs.State.{State}
use Rattle.hip_runs.specs.Step.{run}
use Rattle.hip_runs.specs.declared.input.Input.{Input}
use Rattle.hip_runs.specs.declared.report.Findings.{Findings}

-- ---- the number of entries of a trace is one, and so is the state at an entry

module _ (P : Program) (I : Input) (entry : ℕ) (ps : List Pick) where
  one_number : (m n : ℕ) → HasEntries P I m → HasEntries P I n → m ≡ n
  one_number m n x y = x.many ∙ ap length (one-trace P I x.trace y.trace x.is_trace y.is_trace) ∙ sym y.many

  one_state : (s t : State) → StateAtEntry P I entry s → StateAtEntry P I entry t → s ≡ t
  one_state s t x y = x.state_is ∙ ap (run P I) (entry_is_one P I entry x.steps y.steps x.at y.at) ∙ sym y.state_is

  not_outside : (entries : ℕ) → LacksEntry P I entry entries → TraceHasEntry P I entry → ⊥
  not_outside entries x y = go x.outside
    where
      go : (entry ≡ 0) ⊎ (entries < entry) → ⊥
      go (inl none) = let some = y.some in absurd (omega (arith, none, some))
      go (inr more) =
          let same = one_number entries y.entries x.counted y.counted in
          let there = y.there in absurd (omega (arith, more, same, there))

  -- ---- one refusal

  one_refusal : (why other : ImageRefusal) → HasNoImage P I entry ps why → HasNoImage P I entry ps other → why ≡ other
  one_refusal (images.NoEntry m) (images.NoEntry n) x y = ap images.NoEntry (one_number m n x.counted y.counted)
  one_refusal (images.NoEntry m) (images.BadPick w) x y = absurd (not_outside m x y.at.has)
  one_refusal (images.BadPick w) (images.NoEntry n) x y = absurd (not_outside n y x.at.has)
  one_refusal (images.BadPick v) (images.BadPick w) x y =
      let same = one_state x.state y.state x.at y.at in
      let both : Some v ≡ Some w = sym x.failure ∙ ap (λ (s : State). first_failure s ps) same ∙ y.failure in
      made both
    where
      made : Some v ≡ Some w → images.BadPick v ≡ images.BadPick w
      made e = cc

  pub no_image : (why : ImageRefusal) (content : List ℕ) → HasNoImage P I entry ps why → HasImage P I entry ps content → ⊥
  no_image (images.NoEntry m) content x y = not_outside m x y.at.has
  no_image (images.BadPick w) content x y =
      let same = one_state x.state y.state x.at y.at in
      let both : Some w ≡ None = sym x.failure ∙ ap (λ (s : State). first_failure s ps) same ∙ y.fit in cc

  pub one_image : (c d : List ℕ) → HasImage P I entry ps c → HasImage P I entry ps d → c ≡ d
  one_image c d x y =
      x.content_is ∙ ap (λ (s : State). crash_image I s (picked s ps)) (one_state x.state y.state x.at y.at)
      ∙ sym y.content_is

  pub alike : (found : Findings) (a b : Answer) → CrashTexts entry ps P I found a → CrashTexts entry ps P I found b
      → a ≡ b
  alike found a b (inl u) (inl v) =
      u.is ∙ ap (λ w. refusal (status_of_refusal w)) (one_refusal u.why v.why u.cause v.cause) ∙ sym v.is
  alike found a b (inl u) (inr v) = absurd (no_image u.why v.content u.cause v.image)
  alike found a b (inr u) (inl v) = absurd (no_image v.why u.content v.cause u.image)
  alike found a b (inr u) (inr v) =
      let same = one_image u.content v.content u.image v.image in
      one_given P (begun_with I v.content) a b
      (subst (λ (c : List ℕ). GivesTrace P (begun_with I c) a) same u.recorded) v.recorded
