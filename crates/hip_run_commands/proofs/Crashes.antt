-- Images that are picked, and the runs that begin with them, as results.
use Rattle.std.proofs.Common.{◌≡◌, ℕ, true, List, Some, Err, inl, inr, refl, sym, ap, ◌∙◌, subst}
use Rattle.std.specs.Prelude.{Result}
use Rattle.std.specs.Result.{IsErrAnd}
use Rattle.hip_answers.specs.Answers.{Answer, HasAnswered, Refused, outcome_of, sinks}
use Rattle.hip_answers.specs.FetchLaws.{HasAll, ending_has_all}
use Rattle.hip_answers.specs.Fetches.{fetches_by}
use Rattle.hip_answers.specs.Laws as answers
use Rattle.hip_answers.specs.declared.status.Status.{Status}
use Rattle.hip_command_io.specs.ResultLaws.{given_by, gives_no_memory, on_exit}
use Rattle.hip_command_io.specs.Results.{GivesOnRun}
use Rattle.hip_command_io.specs.declared.counts.Counts.{Counts}
use Rattle.hip_crash.specs.Picks.{IsRefusal}
use Rattle.hip_io.specs.Sinks.{SinkState}
use Rattle.hip_run_commands.specs.StepsToEntry.{ReachesEntry}
use Rattle.hip_run_commands.specs.Crash.{CrashTexts}
use Rattle.hip_run_commands.specs.ImagesAtEntries.{HasImage, PicksImage, StateAtEntry, begun_with, failure_of_picks, status_of_image, status_of_refusal}
use Rattle.hip_answers.specs.Traces.{GivesTrace}
use Rattle.hip_run_commands.specs.declared.image_refusal.ImageRefusal.{ImageRefusal}
use Rattle.hip_run_commands.specs.declared.image_refusal.ImageRefusal.TheVariants as images
use Rattle.hip_tree.specs.declared.program.Program.{Program}
use Rattle.hip_program_files.specs.declared.failure.Failure.{Failure}
use Rattle.hip_program_files.specs.declared.failure.Failure.TheVariants as failures
use Rattle.hip_types.specs.declared.pick.Pick.{Pick}
use Rattle.hip_types.specs.declared.pick.PickRefusal.{PickRefusal}
use Rattle.hip_types.specs.declared.pick.PickRefusal.TheVariants as picks
use Rattle.hip_runs.specs.State.{State}
use Rattle.hip_runs.specs.declared.input.Input.{Input}
use Rattle.hip_runs.specs.declared.report.Findings.{Findings}
use Rattle.hip_runs.specs.Seen.{Seen}

-- ---- images

-- A refusal of picks at an entry.
pub unpicked : (P : Program) (I : Input) (entry : ℕ) (ps : List Pick) (state : State) (why : PickRefusal)
    → StateAtEntry P I entry state → IsRefusal state ps why → PicksImage P I entry ps (Err (failure_of_picks why))
unpicked P I entry ps state picks.NoMemory at r = tt {0}
unpicked P I entry ps state (picks.NoLine n) at (inr e) = record { state = state; at = at; failure = e }
unpicked P I entry ps state (picks.Repeated n) at (inr e) = record { state = state; at = at; failure = e }
unpicked P I entry ps state (picks.OutOfRange n least most) at (inr e) =
    record { state = state; at = at; failure = e }
unpicked P I entry ps state (picks.NoLine n) at (inl e) = absurd (let z : ⊥ = cc in z)
unpicked P I entry ps state (picks.Repeated n) at (inl e) = absurd (let z : ⊥ = cc in z)
unpicked P I entry ps state (picks.OutOfRange n least most) at (inl e) = absurd (let z : ⊥ = cc in z)

-- Memory ran out before there was an image.
pub out_of_memory : (P : Program) (I : Input) (entry : ℕ) (ps : List Pick) (r : Result (List ℕ) (Failure ImageRefusal))
    → IsErrAnd r (λ y. y ≡ failures.NoMemory) → PicksImage P I entry ps r
out_of_memory P I entry ps r exit =
    on_exit (λ (x : Result (List ℕ) (Failure ImageRefusal)). PicksImage P I entry ps x) r failures.NoMemory exit (tt {0})

-- What a log that has reached the entry gives is what the run gives there.
pub of_run : (start m : Seen) (entry : ℕ) (ps : List Pick) (result : Result (List ℕ) (Failure ImageRefusal))
    → ReachesEntry start m entry → PicksImage m.program m.input entry ps result
    → PicksImage start.program start.input entry ps result
of_run start m entry ps result r h =
    subst (λ (i : Input). PicksImage start.program i entry ps result) r.input
    (subst (λ (p : Program). PicksImage p m.input entry ps result) r.program h)

-- ---- answers

is_refused : (why : ImageRefusal) → outcome_of (status_of_refusal why) ≡ Refused
is_refused (images.NoEntry entries) = refl
is_refused (images.BadPick why) = refl

-- Whether there is an image or none: both files were fetched.
pub crash_has_all : (P : Program) (I : Input) (found : Findings) (entry : ℕ) (ps : List Pick)
    → HasAll 2 (CrashTexts entry ps P I found)
crash_has_all P I found entry ps a (inl u) = ap (λ (x : Answer). fetches_by 2 x.status) u.is ∙ none_picked u.why
  where
    none_picked : (why : ImageRefusal) → fetches_by 2 (status_of_refusal why) ≡ Some 2
    none_picked (images.NoEntry entries) = refl
    none_picked (images.BadPick why) = refl
crash_has_all P I found entry ps a (inr c) =
    ap (fetches_by 2) c.recorded.status_is ∙ ending_has_all 2 c.recorded.ending

module _ (P : Program) (I : Input) (entry : ℕ) (ps : List Pick) (found : Findings) where
  pub refused : {out : SinkState} (failure : Failure ImageRefusal) → PicksImage P I entry ps (Err failure)
      → GivesOnRun (CrashTexts entry ps P I found) true out out (Err (status_of_image failure))
  refused {out} (failures.Refused why) h = λ old new met. record {
    answered = λ notes notes_new status w.
        let s = sinks out out notes notes_new in
        subst (λ (x : Status). HasAnswered (CrashTexts entry ps P I found) true old new s x) (sym w.is)
        (answers.refused s (status_of_refusal why) (is_refused why) (inl (record { why = why; cause = h; is = refl }))
        refl w.line);
  }
  refused failures.ReadFault h = absurd h
  refused failures.NoMemory h = λ old new met. gives_no_memory met refl

  pub crashed : {out out_new : SinkState} (content : List ℕ) (given : Result Counts Status) → HasImage P I entry ps content
      → GivesOnRun (GivesTrace P (begun_with I content)) true out out_new given
      → GivesOnRun (CrashTexts entry ps P I found) true out out_new given
  crashed content given image h = λ old new met.
      given_by given (λ a recorded. inr (record { content = content; image = image; recorded = recorded }))
      (h old new met)
