-- Where the files are known, a command has one answer, unless a read fails.
use Rattle.std.proofs.Common.{◌≡◌, ◌≢◌, ◌⊎◌, ℕ, true, false, List, Option, Some, inl, inr, sym, ap, ◌∙◌, subst}
use Rattle.std.specs.Prelude.{IfSome}
use Rattle.hip_answers.specs.Answers.{Answer, refusal}
use Rattle.hip_answers.specs.Programs as absent
use Rattle.hip_answers.specs.Same.{IsSameAnswer}
use Rattle.hip_answers.specs.SameLaws.{same_answer, same_refusal}
use Rattle.hip_answers.specs.Statuses as programs
use Rattle.hip_answers.specs.declared.status.Status.TheVariants as statuses
use Rattle.hip_io.specs.Cabinets.{CabinetState}
use Rattle.hip_io.specs.declared.cabinet.NamedFile.{NamedFile}
use Rattle.hip_tree.specs.declared.program.Program.{Program}
use Rattle.hip_program_files.specs.Laws.OneAnswer.{loads_one}
use Rattle.hip_program_files.specs.Laws.{LoadsOne}
use Rattle.hip_program_files.specs.LoadedPrograms.{HasNoProgram, IsCurrent, IsProgramOf}
use Rattle.hip_program_files.specs.declared.refusal.LoadRefusal.{LoadRefusal}
use Rattle.hip_program_files.specs.declared.refusal.LoadRefusal.TheVariants as loads
use Rattle.hip_answers.specs.RunAnswers.{TraceAnswers}
use Rattle.hip_answers.specs.RunLaws.{FaultsHideNone, GivesOne}
use Rattle.hip_answers.specs.TraceFiles.{FailsToRead, HasNoTrace, IsTraceFile, ShowsNoMisfit, status_of_refusal}
use Rattle.hip_answers.specs.TraceLaws.{never_both, same_trace, untraced_once}
use Rattle.hip_answers.specs.declared.refusal.TraceFileRefusal.{TraceFileRefusal}
use Rattle.hip_answers.specs.declared.refusal.TraceFileRefusal.TheVariants as traces
use Rattle.hip_runs.specs.Found.Marks.{IsFound}
use Rattle.hip_runs.specs.Laws.Found.FoundLaws.{found_is_one}
use Rattle.hip_runs.specs.declared.input.Input.{Input}
use Rattle.hip_runs.specs.declared.report.Findings.{Findings}

-- ---- the answers on files that are known

-- There is no program in file p, and the answer says why.
pub record Unloaded (files : List NamedFile) (p : List ℕ) (a : Answer) : Type 0 where
  why : LoadRefusal
  cause : HasNoProgram (Some files) p why
  is : a ≡ refusal (programs.status_of_refusal why)

-- There is a program in file p, and file t is not the trace of a run of it; the answer says why.
pub record Untraced (files : List NamedFile) (p t : List ℕ) (a : Answer) : Type 0 where
  program : Program
  loaded : IsProgramOf (Some files) p program
  why : TraceFileRefusal
  cause : HasNoTrace (Some files) t program why
  is : a ≡ refusal (status_of_refusal why)

-- There is a program in file p, and file t is the trace of its run on the input, which found this; the answer has the
-- texts of that.
pub record Carried (Texts : Program → Input → Findings → Answer → Type 0) (files : List NamedFile)
    (p t : List ℕ) (a : Answer) : Type 0 where
  program : Program
  loaded : IsProgramOf (Some files) p program
  input : Input
  traced : IsTraceFile files t program input
  found : Findings
  found_is : IsFound program input found
  texts : Texts program input found a

-- What an answer is for: a read fault, no program, no trace of a run of it, or a run.
pub data View (Texts : Program → Input → Findings → Answer → Type 0) (files : List NamedFile) (p t : List ℕ)
    (a : Answer) : Type 0 where
  Faulted : a.status ≡ statuses.ReadFault → View Texts files p t a
  IsUnloaded : Unloaded files p a → View Texts files p t a
  IsUntraced : Untraced files p t a → View Texts files p t a
  IsCarried : Carried Texts files p t a → View Texts files p t a

module _ (Texts : Program → Input → Findings → Answer → Type 0) (files : List NamedFile) (p t : List ℕ) where
  view : (old new : CabinetState) (a : Answer) → old.files ≡ Some files → TraceAnswers Texts old new p t a
      → View Texts files p t a
  view old new a stated (inl u) = IsUnloaded
      (record { why = u.why; cause = subst (λ fs. HasNoProgram fs p u.why) stated u.cause; is = u.is })
  view old new a stated (inr (inl u)) = Faulted (ap (λ (x : Answer). x.status) u.is)
  view old new a stated (inr (inr (inl (inl u)))) = IsUntraced (record {
    program = u.program;
    loaded = subst (λ fs. IsProgramOf fs p u.program) stated u.loaded;
    why = u.why;
    cause = subst (λ fs. HasNoTrace fs t u.program u.why) stated u.cause;
    is = u.is;
  })
  view old new a stated (inr (inr (inl (inr u)))) = Faulted (ap (λ (x : Answer). x.status) u.is)
  view old new a stated (inr (inr (inr d))) = IsCarried (record {
    program = d.program;
    loaded = subst (λ fs. IsProgramOf fs p d.program) stated d.loaded;
    input = d.input;
    traced = subst (λ (fs : Option (List NamedFile)). IfSome fs
        (λ stated_files. IsTraceFile stated_files t d.program d.input)) stated d.traced;
    found = d.found;
    found_is = d.found_is;
    texts = d.texts;
  })

  -- ---- two of them

  one : LoadsOne files p
  one = loads_one files p

  two_untraced : (a b : Answer) → Untraced files p t a → Untraced files p t b → IsSameAnswer a b
  two_untraced a b u v =
      let programs_are = one.programs v.program u.program v.loaded u.loaded in
      let why = untraced_once files t u.program u.why v.why u.cause
      (subst (λ Q. HasNoTrace (Some files) t Q v.why) programs_are v.cause) in
      same_answer (u.is ∙ ap (λ w. refusal (status_of_refusal w)) why ∙ sym v.is)

  untraced_carried : (a b : Answer) → Untraced files p t a → Carried Texts files p t b → ⊥
  untraced_carried a b u d =
      let programs_are = one.programs d.program u.program d.loaded u.loaded in
      never_both files t u.program u.why d.input u.cause
      (subst (λ Q. IsTraceFile files t Q d.input) programs_are d.traced)

  module _ (alike : (P : Program) (I : Input) (found : Findings) (a b : Answer) → Texts P I found a
      → Texts P I found b → a ≡ b) where
    two_carried : (a b : Answer) → Carried Texts files p t a → Carried Texts files p t b → a ≡ b
    two_carried a b c d =
        let programs_are = one.programs d.program c.program d.loaded c.loaded in
        let inputs_are = sym (same_trace files t c.program c.input d.input c.traced
        (subst (λ Q. IsTraceFile files t Q d.input) programs_are d.traced)) in
        let there = subst (λ J. IsFound c.program J d.found) inputs_are
        (subst (λ Q. IsFound Q d.input d.found) programs_are d.found_is) in
        let found_are = found_is_one c.program c.input d.found c.found there c.found_is in
        let texts = subst (λ (f : Findings). Texts c.program c.input f b) found_are
        (subst (λ (J : Input). Texts c.program J d.found b) inputs_are
        (subst (λ (Q : Program). Texts Q d.input d.found b) programs_are d.texts)) in
        alike c.program c.input c.found a b c.texts texts

    two : (a b : Answer) → View Texts files p t a → View Texts files p t b
        → (a.status ≡ statuses.ReadFault) ⊎ ((b.status ≡ statuses.ReadFault) ⊎ IsSameAnswer a b)
    two a b (Faulted e) v = inl e
    two a b (IsUnloaded u) (Faulted e) = inr (inl e)
    two a b (IsUntraced u) (Faulted e) = inr (inl e)
    two a b (IsCarried u) (Faulted e) = inr (inl e)
    two a b (IsUnloaded u) (IsUnloaded v) = inr
        (inr (subst (λ x. IsSameAnswer x b) (sym u.is)
        (subst (λ y. IsSameAnswer (refusal (programs.status_of_refusal u.why)) y) (sym v.is)
        (same_refusal u.why v.why (one.refusals u.why v.why u.cause v.cause)))))
    two a b (IsUnloaded u) (IsUntraced v) = absurd (one.excluded v.program u.why v.loaded u.cause)
    two a b (IsUnloaded u) (IsCarried v) = absurd (one.excluded v.program u.why v.loaded u.cause)
    two a b (IsUntraced v) (IsUnloaded u) = absurd (one.excluded v.program u.why v.loaded u.cause)
    two a b (IsCarried v) (IsUnloaded u) = absurd (one.excluded v.program u.why v.loaded u.cause)
    two a b (IsUntraced u) (IsUntraced v) = inr (inr (two_untraced a b u v))
    two a b (IsUntraced u) (IsCarried v) = absurd (untraced_carried a b u v)
    two a b (IsCarried v) (IsUntraced u) = absurd (untraced_carried b a u v)
    two a b (IsCarried c) (IsCarried d) = inr (inr (same_answer (two_carried a b c d)))

pub gives_one : (Texts : Program → Input → Findings → Answer → Type 0)
    → ((P : Program) (I : Input) (found : Findings) (a b : Answer) → Texts P I found a → Texts P I found b
    → a ≡ b)
    → GivesOne Texts
gives_one Texts alike p t files old new other other_new a b stated stated' x y =
    two Texts files p t alike a b (view Texts files p t old new a stated x)
    (view Texts files p t other other_new b stated' y)

-- ---- read faults

no_read_fault : (why : LoadRefusal) → programs.status_of_refusal why ≡ statuses.ReadFault → ⊥
no_read_fault loads.Missing e = cc
no_read_fault loads.TooLarge e = cc
no_read_fault (loads.Bad why) e = cc

no_trace_fault : (why : TraceFileRefusal) → status_of_refusal why ≡ statuses.ReadFault → ⊥
no_trace_fault traces.Missing e = cc
no_trace_fault (traces.Misfit e k) q = cc

not_current : (new : CabinetState) → new.is_current ≡ true → new.is_current ≡ false → ⊥
not_current new current e = let k : true ≡ false = sym current ∙ e in cc

module _ {files : List NamedFile} (old new : CabinetState) {p : List ℕ} {P : Program}
    (stated : old.files ≡ Some files)
    (loaded : IsProgramOf (Some files) p P) (current : new.is_current ≡ true) where
  -- A refusal of the program is no read fault.
  pub loads_no_fault : (a : Answer) → a.status ≡ statuses.ReadFault → absent.IsUnloaded old new p a → ⊥
  loads_no_fault a status u = no_read_fault u.why (sym (ap (λ (x : Answer). x.status) u.is) ∙ status)

  -- Another file than the program's is current, so the program was read.
  pub reads_program : {t : List ℕ} (a : Answer) → new.name ≡ Some t → p ≢ t → absent.IsUnread old new p a
      → ⊥
  reads_program {t} a named apart u = go u.failed.unread
    where
      go : (new.is_current ≡ false) ⊎ IsCurrent p new → ⊥
      go (inl e) = not_current new current e
      go (inr e) = apart (sym (subst (λ (n : Option (List ℕ)). IfSome n (λ name. name ≡ p)) named e.named))

  -- A trace that could not be read to its end shows no misfit.
  pub shows_none : (t : List ℕ) (Q : Program) → IsProgramOf old.files p Q → FailsToRead old.files t Q new
      → ShowsNoMisfit files t P new.rest
  shows_none t Q there (inl e) = absurd (not_current new current e)
  shows_none t Q there (inr h) =
      let same = (loads_one files p).programs Q P (subst (λ fs. IsProgramOf fs p Q) stated there) loaded in
      subst (λ (R : Program). ShowsNoMisfit files t R new.rest) same
      (subst (λ (fs : Option (List NamedFile)). IfSome fs (λ known. ShowsNoMisfit known t Q new.rest)) stated h.taken)

pub hides_none : (Texts : Program → Input → Findings → Answer → Type 0)
    → ((P : Program) (I : Input) (found : Findings) (a : Answer) → Texts P I found a
    → a.status ≡ statuses.ReadFault → ⊥)
    → FaultsHideNone Texts
hides_none Texts done files old new p t P a stated loaded current named apart status (inl u) =
    absurd (loads_no_fault old new stated loaded current a status u)
hides_none Texts done files old new p t P a stated loaded current named apart status (inr (inl u)) =
    absurd (reads_program old new stated loaded current a named apart u)
hides_none Texts done files old new p t P a stated loaded current named apart status (inr (inr (inl (inl u)))) =
    absurd (no_trace_fault u.why (sym (ap (λ (x : Answer). x.status) u.is) ∙ status))
hides_none Texts done files old new p t P a stated loaded current named apart status (inr (inr (inl (inr u)))) =
    shows_none old new stated loaded current t u.program u.loaded u.unread
hides_none Texts done files old new p t P a stated loaded current named apart status (inr (inr (inr d))) =
    absurd (done d.program d.input d.found a d.texts status)

pub hide_none : (Texts : Program → Input → Findings → Answer → Type 0)
    → ((P : Program) (I : Input) (found : Findings) (a : Answer) → Texts P I found a → a.status ≡ statuses.Done)
    → FaultsHideNone Texts
hide_none Texts done = hides_none Texts (λ P I found a texts status.
    let both : statuses.Done ≡ statuses.ReadFault = sym (done P I found a texts) ∙ status in let z : ⊥ = cc in z)
