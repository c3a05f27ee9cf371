-- What each order answers on files that are known, if nothing fails.
use Rattle.std.proofs.Common.{◌≡◌, ◌⊎◌, inl, inr, ℕ, ℤ, Bool, true, false, List, Option, Some, refl, sym, ap, ◌∙◌, subst}
use Rattle.std.specs.Prelude.{IfSome}
use Rattle.hip_answers.specs.Answers.{Answer, Sinks}
use Rattle.hip_answers.specs.Programs.{IsUnloaded, LacksProgram}
use Rattle.hip_answers.specs.RunAnswers.{TraceAnswers}
use Rattle.hip_answers.specs.Same.{IsSameAnswer, pathless}
use Rattle.hip_answers.specs.TraceFiles.{HasNoTrace, IsTraceFile}
use Rattle.hip_answers.specs.TraceLaws.{never_both, same_trace}
use Rattle.hip_answers.specs.Traces.{GivesTrace}
use Rattle.hip_answers.specs.declared.status.Status.TheVariants as statuses
use Rattle.hip_answers.specs.declared.refusal.TraceFileRefusal.{TraceFileRefusal}
use Rattle.hip_answers.specs.declared.refusal.TraceFileRefusal.TheVariants as traces
use Rattle.hip_run_commands.specs.Record.{RecordAnswers}
use Rattle.hip_run_commands.specs.Run.{RunAnswers}
use Rattle.hip_io.specs.Cabinets.{CabinetState}
use Rattle.hip_io.specs.declared.cabinet.NamedFile.{NamedFile}
use Rattle.hip_repair_commands.specs.ManyLaws.{ManyAreAnswered, ManyAreOne}
use Rattle.hip_repair_commands.specs.Many.{HasRepairedMany, IsUntracedIn, ManyAnswers, status_in}
use Rattle.hip_repair_commands.specs.ManyRunLaws.{one_runs}
use Rattle.hip_repair_commands.specs.ManyRuns.{AreRunsOf, TracedRun}
use Rattle.hip_program_files.specs.Laws.OneAnswer.{loads_one}
use Rattle.hip_program_files.specs.LoadedPrograms.{HasNoProgram, IsProgramOf}
use Rattle.hip_program_files.specs.Outside.{HasMet}
use Rattle.hip_replay.specs.PrintedText.{IsPrinted}
use Rattle.hip_runs.specs.FirstInput.{first_input}
use Rattle.hip_runs.specs.Found.Marks.{IsFound}
use Rattle.hip_runs.specs.declared.input.Input.{Input}
use Rattle.hip_runs.specs.declared.report.Findings.{Findings}
use Rattle.hip_tool.proofs.WhatIsAnswered.{no_fault}
use Rattle.hip_tool.specs.Headline.{NothingFails, OfRun, WritesOutput}
use Rattle.hip_tree.specs.declared.program.Program.{Program}
use Rattle.hip_types.specs.declared.limits.TheConstants.{LOWEST_BASE}

-- ---- a program

module _ (files : List NamedFile) (p : List ℕ) (P : Program) (given : IsProgramOf (Some files) p P) (old new : CabinetState)
    (s : Sinks) (stated : old.files ≡ Some files) (nothing : NothingFails old new s) where
  never_failed : {missed : Bool} → HasMet missed true old new → ⊥
  never_failed {missed} met = let z : true ≡ false = no_fault old new s nothing missed true met in cc

  not_unloaded : (a : Answer) → IsUnloaded old new p a → ⊥
  not_unloaded a u =
      (loads_one files p).excluded P u.why given (subst (λ (fs : Option (List NamedFile)). HasNoProgram fs p u.why) stated u.cause)

  not_lacking : (a : Answer) → LacksProgram old new p a → ⊥
  not_lacking a (inl u) = not_unloaded a u
  not_lacking a (inr u) = never_failed u.failed.met

  same_program : (Q : Program) → IsProgramOf old.files p Q → Q ≡ P
  same_program Q loaded =
      (loads_one files p).programs Q P (subst (λ (fs : Option (List NamedFile)). IsProgramOf fs p Q) stated loaded) given

  pub runs : (limit : ℕ) (numbers : List ℤ) (a : Answer) → RunAnswers old new p limit numbers a
      → WritesOutput P (first_input P LOWEST_BASE limit numbers) a
  runs limit numbers a (inl u) = absurd (not_lacking a u)
  runs limit numbers a (inr h) = record {
    ending = h.ending;
    printed =
        subst (λ (Q : Program). IsPrinted Q (first_input Q LOWEST_BASE limit numbers) a.out h.ending)
        (same_program h.program h.loaded) h.printed;
    status_is = h.status_is;
    notes_is = h.notes_is;
  }

  pub records : (base limit : ℕ) (numbers : List ℤ) (a : Answer) → RecordAnswers old new p base limit numbers a
      → GivesTrace P (first_input P base limit numbers) a
  records base limit numbers a (inl u) = absurd (not_lacking a u)
  records base limit numbers a (inr h) =
      subst (λ (Q : Program). GivesTrace Q (first_input Q base limit numbers) a) (same_program h.program h.loaded)
      h.recorded

  -- ---- a trace

  module _ (t : List ℕ) (I : Input) (trace : IsTraceFile files t P I)
      (Texts : Program → Input → Findings → Answer → Type 0) where
    pub on_run : (a : Answer) → TraceAnswers Texts old new p t a → OfRun Texts P I a
    on_run a (inl u) = absurd (not_unloaded a u)
    on_run a (inr (inl u)) = absurd (never_failed u.failed.met)
    on_run a (inr (inr (inl (inr u)))) = absurd (never_failed u.met)
    on_run a (inr (inr (inl (inl u)))) =
        let cause = subst (λ (fs : Option (List NamedFile)). HasNoTrace fs t u.program u.why) stated u.cause in
        absurd (never_both files t P u.why I
        (subst (λ (Q : Program). HasNoTrace (Some files) t Q u.why) (same_program u.program u.loaded) cause) trace)
    on_run a (inr (inr (inr d))) =
        let programs_are = same_program d.program d.loaded in
        let traced = subst (λ (fs : Option (List NamedFile)). IfSome fs (λ fs. IsTraceFile fs t d.program d.input)) stated
        d.traced in
        let inputs_are = same_trace files t P d.input I
        (subst (λ (Q : Program). IsTraceFile files t Q d.input) programs_are traced) trace in (
          d.found,
          subst (λ (J : Input). IsFound P J d.found) inputs_are
              (subst (λ (Q : Program). IsFound Q d.input d.found) programs_are d.found_is),
          subst (λ (J : Input). Texts P J d.found a) inputs_are
              (subst (λ (Q : Program). Texts Q d.input d.found a) programs_are d.texts),
        )

  -- ---- many traces

  -- An answer that names a file which is not a trace is not an answer of `many` that is carried out.
  not_untraced : (number : ℕ) (why : TraceFileRefusal) → pathless (status_in number why) ≡ statuses.Done → ⊥
  not_untraced number traces.Missing e = cc
  not_untraced number (traces.Misfit entry kind) e = cc

  module _ (one : ManyAreOne) (answered : ManyAreAnswered) (names : List (List ℕ)) (rs : List TracedRun)
      (are : AreRunsOf (Some files) P names rs) where
    done : (b : Answer) × (b.status ≡ statuses.Done) × ManyAnswers old old p names b
    done = answered files old old p names P rs stated given are (record { files = refl; misses = refl; faults = refl })

    never_untraced : (a : Answer) → IsUntracedIn old new p names a → ⊥
    never_untraced a u = go (one p names files old new old old a done.0 stated stated (inr (inr (inl u))) done.2)
      where
        status : a.status ≡ status_in u.number u.why
        status = ap (λ (x : Answer). x.status) u.is

        not_fault : (number : ℕ) (why : TraceFileRefusal) → status_in number why ≡ statuses.ReadFault → ⊥
        not_fault number traces.Missing e = cc
        not_fault number (traces.Misfit entry kind) e = cc

        go : (a.status ≡ statuses.ReadFault) ⊎ ((done.0.status ≡ statuses.ReadFault) ⊎ IsSameAnswer a done.0) → ⊥
        go (inl e) = not_fault u.number u.why (sym status ∙ e)
        go (inr (inl e)) = let z : statuses.Done ≡ statuses.ReadFault = sym done.1 ∙ e in cc
        go (inr (inr same)) =
            not_untraced u.number u.why (ap pathless (sym status) ∙ same.status ∙ ap pathless done.1)

    pub runs_done : (a : Answer) → ManyAnswers old new p names a → HasRepairedMany P rs a
    runs_done a (inl u) = absurd (not_unloaded a u)
    runs_done a (inr (inl u)) = absurd (never_failed u.failed.met)
    runs_done a (inr (inr (inl u))) = absurd (never_untraced a u)
    runs_done a (inr (inr (inr (inl u)))) = absurd (never_failed u.met)
    runs_done a (inr (inr (inr (inr d)))) =
        let programs_are = same_program d.program d.loaded in
        let there = subst (λ (fs : Option (List NamedFile)). AreRunsOf fs d.program names d.runs) stated d.are in
        let runs_are = one_runs files P names d.runs rs
        (subst (λ (Q : Program). AreRunsOf (Some files) Q names d.runs) programs_are there) are in
        subst (λ (ts : List TracedRun). HasRepairedMany P ts a) runs_are
        (subst (λ (Q : Program). HasRepairedMany Q d.runs a) programs_are d.texts)
