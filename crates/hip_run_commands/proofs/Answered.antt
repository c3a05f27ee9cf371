-- An answer of `crash` for each run whose trace is given.
use Rattle.std.proofs.Common.{◌≡◌, ◌⊎◌, ◌≤◌, ◌<◌, ℕ, zero, suc, true, false, List, length, Option, Some, None, is_some, inl, inr, refl, sym, ap, ◌∙◌, subst, arith}
use Rattle.std.specs.Prelude.{IfSome, ◌≢◌}
use Rattle.hip_answers.specs.Answers.{Answer, refusal}
use Rattle.hip_answers.specs.Endings.{ending_line, status_of_ending}
use Rattle.hip_answers.specs.declared.status.Status.TheVariants as statuses
use Rattle.hip_crash.specs.Picks.{first_failure, picked}
use Rattle.hip_run_commands.proofs.Advances.{comes}
use Rattle.hip_run_commands.specs.Crash.{CrashTexts}
use Rattle.hip_run_commands.specs.ImagesAtEntries.{HasEntries, TraceHasEntry, HasImage, HasNoImage, StateAtEntry, begun_with, status_of_refusal}
use Rattle.hip_run_commands.specs.CrashLaws.{CrashesAreAnswered}
use Rattle.hip_answers.specs.Traces.{GivesTrace}
use Rattle.hip_run_commands.specs.declared.image_refusal.ImageRefusal.{ImageRefusal}
use Rattle.hip_run_commands.specs.declared.image_refusal.ImageRefusal.TheVariants as images
use Rattle.hip_io.specs.declared.cabinet.NamedFile.{NamedFile}
use Rattle.hip_tree.specs.declared.program.Program.{Program}
use Rattle.hip_program_files.specs.LoadedPrograms.{IsProgramOf}
use Rattle.hip_types.specs.declared.pick.Pick.{Pick}
use Rattle.hip_types.specs.declared.pick.PickRefusal.{PickRefusal}
use Rattle.hip_answers.specs.TraceFiles.{IsTraceFile}
use Rattle.hip_run_traces.specs.Laws.GivenLaws.{fit_pieces, header-given}
use Rattle.hip_run_traces.specs.Laws.TraceLaws.{whole-trace}
use Rattle.hip_run_traces.specs.Traces.{IsTrace}
use Rattle.hip_runs.specs.Crash.{IsCrashImage, crash_image}
use Rattle.hip_runs.specs.Found.Marks.{IsFound}
use Rattle.hip_runs.specs.Laws.Found.FoundLaws.{found_exists}
use Rattle.hip_runs.specs.Laws.ImageLaws.{image_valid}
use Rattle.hip_runs.specs.State.{State}
use Rattle.hip_runs.specs.Step.{run}
use Rattle.hip_runs.specs.Validity.{IsValid}
use Rattle.hip_runs.specs.declared.event.Ending.{Ending}
use Rattle.hip_runs.specs.declared.event.Ending.TheVariants as endings
use Rattle.hip_runs.specs.declared.input.Input.{Input}
use Rattle.hip_runs.specs.declared.report.Findings.{Findings}
use Rattle.hip_trace.specs.Texts.{lines_of}
use Rattle.hip_trace.specs.declared.entry.Entry.{Entry}

-- Picks of which none fails give a crash image.
abbrev FitsGive : Type 0
FitsGive =
    (P : Program) (I : Input) (n : ℕ) (ps : List Pick) → IsValid P I → first_failure (run P I n) ps ≡ None
    → IsCrashImage I (run P I n) (crash_image I (run P I n) (picked (run P I n) ps))

no_fault : (why : ImageRefusal) → status_of_refusal why ≡ statuses.ReadFault → ⊥
no_fault (images.NoEntry entries) e = cc
no_fault (images.BadPick why) e = cc

no_ending : (ending : Ending) → status_of_ending ending ≡ statuses.ReadFault → ⊥
no_ending (endings.Stop code) e = cc
no_ending (endings.Trap kind) e = cc
no_ending endings.Cut e = cc

-- The trace of a run, as an answer.
given : (P : Program) (I : Input) → (a : Answer) × (a.status ≢ statuses.ReadFault) × GivesTrace P I a
given P I = by_end (run P I traced.1.steps).world.ending refl
  where
    traced : (es : List Entry) × IsTrace P I es
    traced = whole-trace P I

    by_end : (e : Option Ending) → (run P I traced.1.steps).world.ending ≡ e
        → (a : Answer) × (a.status ≢ statuses.ReadFault) × GivesTrace P I a
    by_end None ended = absurd (let no : false ≡ true = sym (ap is_some ended) ∙ traced.1.ended in let z : ⊥ = cc in z)
    by_end (Some ending) ended = (
      record { status = status_of_ending ending; out = lines_of traced.0; notes = ending_line ending },
      no_ending ending,
      record {
        ending = ending;
        traced = record { trace = traced.0; is_trace = traced.1; ended = ended; is = refl };
        status_is = refl;
        notes_is = refl;
      },
    )

module _ (fits : FitsGive) (P : Program) (I : Input) (valid : IsValid P I) (entry : ℕ) (ps : List Pick)
    (found : Findings) where
  refuse : (why : ImageRefusal) → HasNoImage P I entry ps why
      → (a : Answer) × (a.status ≢ statuses.ReadFault) × CrashTexts entry ps P I found a
  refuse why cause =
      (refusal (status_of_refusal why), no_fault why, inl (record { why = why; cause = cause; is = refl }))

  -- The trace has the entry.
  at_entry : TraceHasEntry P I entry → (a : Answer) × (a.status ≢ statuses.ReadFault) × CrashTexts entry ps P I found a
  at_entry has = by_picks (first_failure state ps) refl
    where
      steps : ℕ
      steps = (comes P I entry has).0

      state : State
      state = run P I steps

      at : StateAtEntry P I entry state
      at = record { has = has; steps = steps; at = (comes P I entry has).1; state_is = refl }

      content : List ℕ
      content = crash_image I state (picked state ps)

      image : first_failure state ps ≡ None → HasImage P I entry ps content
      image fit =
          let is = fits P I steps ps valid fit in
          record {
            state = state;
            at = at;
            fit = fit;
            content_is = refl;
            image = is;
            valid = image_valid P I steps content valid is;
          }

      by_picks : (o : Option PickRefusal) → first_failure state ps ≡ o
          → (a : Answer) × (a.status ≢ statuses.ReadFault) × CrashTexts entry ps P I found a
      by_picks (Some why) e = refuse (images.BadPick why) (record { state = state; at = at; failure = e })
      by_picks None e =
          let trace = given P (begun_with I content) in
          (trace.0, trace.1, inr (record { content = content; image = image e; recorded = trace.2 }))

  answer : (a : Answer) × (a.status ≢ statuses.ReadFault) × CrashTexts entry ps P I found a
  answer = by_entry (where_is entry (length traced.0))
    where
      traced : (es : List Entry) × IsTrace P I es
      traced = whole-trace P I

      counted : HasEntries P I (length traced.0)
      counted = record { trace = traced.0; is_trace = traced.1; many = refl }

      where_is : (e n : ℕ) → ((e ≡ 0) ⊎ (n < e)) ⊎ ((1 ≤ e) × (e ≤ n))
      where_is zero n = inl (inl refl)
      where_is (suc e) n = by (order n (suc e))
        where
          order : (a b : ℕ) → (a < b) ⊎ (b ≤ a)
          order a b = grind arith

          by : (n < suc e) ⊎ (suc e ≤ n) → ((suc e ≡ 0) ⊎ (n < suc e)) ⊎ ((1 ≤ suc e) × (suc e ≤ n))
          by (inl h) = inl (inr h)
          by (inr h) = inr (omega arith, h)

      by_entry : ((entry ≡ 0) ⊎ (length traced.0 < entry)) ⊎ ((1 ≤ entry) × (entry ≤ length traced.0))
          → (a : Answer) × (a.status ≢ statuses.ReadFault) × CrashTexts entry ps P I found a
      by_entry (inl out) = refuse (images.NoEntry (length traced.0)) (record { counted = counted; outside = out })
      by_entry (inr h) =
          at_entry (record { entries = length traced.0; counted = counted; some = h.0; there = h.1 })

pub answered : FitsGive → CrashesAreAnswered
answered fits files old new p t P I entry ps stated loaded traced met =
    let found : (f : Findings) × IsFound P I f = found_exists P I in
    let valid : IsValid P I = (header-given P _ _ I (fit_pieces true traced.bytes) traced.trace.header_is).valid in
    let done = answer fits P I valid entry ps found.0 in (
      done.0,
      done.1,
      inr (inr (inr (record {
        program = P;
        loaded = subst (λ (fs : Option (List NamedFile)). IsProgramOf fs p P) (sym stated) loaded;
        input = I;
        traced = subst (λ (fs : Option (List NamedFile)). IfSome fs (λ files_stated. IsTraceFile files_stated t P I)) (sym stated) traced;
        valid = valid;
        found = found.0;
        found_is = found.1;
        met = met;
        texts = done.2;
      }))),
    )
