-- What the commands answer on a run, and a second repair.
use Rattle.std.proofs.Common.{◌≡◌, ℕ, zero, suc, true, List, [], length, Option, Some, inr, refl, sym, ap, ◌∙◌, subst}
use Rattle.std.specs.Prelude.{IfSome}
use Rattle.hip_answers.specs.Answers.{Answer}
use Rattle.hip_answers.specs.declared.status.Status.TheVariants.{Done}
use Rattle.hip_calls.specs.Reach.{reached}
use Rattle.hip_io.specs.Cabinets.{file_of}
use Rattle.hip_io.specs.declared.cabinet.NamedFile.{NamedFile}
use Rattle.hip_grammar.specs.Show.{show}
use Rattle.hip_tree.specs.declared.program.Program.{Program}
use Rattle.hip_program_files.specs.LoadedPrograms.{IsProgramOf}
use Rattle.hip_repair_answers.specs.Laws.Cures.{cures}
use Rattle.hip_repair_answers.specs.Answers.{HasChecked, HasRepaired, HasRerun}
use Rattle.hip_repair_answers.specs.Cured.{repaired_for}
use Rattle.hip_repair_answers.specs.Laws.{NothingToRepair, RerunsAreTraces, SecondRepair, no_counts}
use Rattle.hip_answers.specs.RunLaws.{AnswersRuns}
use Rattle.hip_answers.specs.TraceFiles.{IsTraceFile}
use Rattle.hip_repairs.proofs.Theorems.{repaired_is_sound}
use Rattle.hip_repairs.specs.Choice.{plan_for}
use Rattle.hip_repairs.specs.CloneNumbers.{clone_numbers, numbered_from}
use Rattle.hip_repairs.specs.Direct.{direct}
use Rattle.hip_repairs.specs.Laws.Unchanged.{nothing_planned, nothing_repaired, valid_again}
use Rattle.hip_repairs.specs.Repaired.{repaired}
use Rattle.hip_repairs.specs.Suits.{no_repairs}
use Rattle.hip_repairs.specs.declared.plan.Plan.{Plan}
use Rattle.hip_report_lines.specs.Counts.{check_counts, repair_counts, rerun_counts}
use Rattle.hip_report_lines.specs.Reports.{report_lines}
use Rattle.hip_run_traces.specs.Laws.GivenLaws.{fit_pieces, header-given}
use Rattle.hip_run_traces.specs.Laws.TraceLaws.{one-trace, whole-trace}
use Rattle.hip_run_traces.specs.Laws.WrittenLaws.{written-trace}
use Rattle.hip_run_traces.specs.Traces.{IsTrace}
use Rattle.hip_runs.specs.Found.Marks.{IsFound}
use Rattle.hip_runs.specs.Laws.Found.FoundLaws.{found_exists, found_is_one}
use Rattle.hip_runs.specs.Validity.{IsValid}
use Rattle.hip_runs.specs.declared.input.Input.{Input}
use Rattle.hip_runs.specs.declared.report.Findings.{Findings}
use Rattle.hip_runs.specs.declared.report.Report.{Report}
use Rattle.hip_trace.specs.Texts.{lines_of}
use Rattle.hip_trace.specs.declared.entry.Entry.{Entry}
use Rattle.hip_sound.specs.Sound.{IsSound}

-- ---- texts that are the same

pub answer_is : {a : Answer} (b : Answer) → a.status ≡ b.status → a.out ≡ b.out → a.notes ≡ b.notes
    → a ≡ b
answer_is b e f g = λ i. record { status = e i; out = f i; notes = g i }

pub checked_alike : (P : Program) (I : Input) (found : Findings) (a b : Answer) → HasChecked P I found a
    → HasChecked P I found b → a ≡ b
checked_alike P I found a b x y = answer_is b (x.status_is ∙ sym y.status_is) (x.out_is ∙ sym y.out_is)
    (x.notes_is ∙ sym y.notes_is)

pub repaired_alike : (P : Program) (I : Input) (found : Findings) (a b : Answer) → HasRepaired P I found a
    → HasRepaired P I found b → a ≡ b
repaired_alike P I found a b x y = answer_is b (x.status_is ∙ sym y.status_is) (x.out_is ∙ sym y.out_is)
    (x.notes_is ∙ sym y.notes_is)

pub rerun_alike : (P : Program) (I : Input) (found : Findings) (a b : Answer) → HasRerun P I found a
    → HasRerun P I found b → a ≡ b
rerun_alike P I found a b x y =
    let traces_are = one-trace (repaired_for P found) I x.trace y.trace x.is_trace y.is_trace in
    let after_are = found_is_one (repaired_for P found) I x.after y.after x.after_is y.after_is in
    answer_is b (x.status_is ∙ sym y.status_is) (x.out_is ∙ ap lines_of traces_are ∙ sym y.out_is)
    (x.notes_is ∙ ap (λ (f : Findings). rerun_counts (length found.reports) (length f.reports)) after_are
    ∙ sym y.notes_is)

-- ---- runs are answered

-- No report is left in the findings of the repaired program's run.
pub nothing_left : (P : Program) (I : Input) (found after : Findings) → IsSound P → IsValid P I
    → IsFound P I found
    → IsFound (repaired_for P found) I after → after.reports ≡ []
nothing_left P I found after sound valid is later =
    ap (λ (f : Findings). f.reports) later.is ∙ (cures P I found sound valid is).clean later.steps

-- There is an answer for each run.
abbrev pub Makes : (Program → Input → Findings → Answer → Type 0) → Type 0
Makes Texts = (P : Program) (I : Input) (found : Findings) → IsSound P → IsValid P I → IsFound P I found
    → (a : Answer) × (a.status ≡ Done) × Texts P I found a

pub checks : Makes HasChecked
checks P I found sound valid is = (
  record { status = Done; out = report_lines P found.reports; notes = check_counts (length found.reports) },
  refl,
  record { status_is = refl; out_is = refl; notes_is = refl },
)

pub repairs : Makes HasRepaired
repairs P I found sound valid is = (
  record {
    status = Done;
    out = show (repaired_for P found);
    notes = repair_counts (length found.reports) (plan_for P found) (length (clone_numbers P (plan_for P found)));
  },
  refl,
  record { status_is = refl; out_is = refl; notes_is = refl; cured = cures P I found sound valid is },
)

pub reruns : Makes HasRerun
reruns P I found sound valid is =
    let Q = repaired_for P found in
    let traced : (es : List Entry) × IsTrace Q I es = whole-trace Q I in
    let later : (f : Findings) × IsFound Q I f = found_exists Q I in (
      record {
        status = Done;
        out = lines_of traced.0;
        notes =
            rerun_counts (length found.reports) (length later.0.reports);
      },
      refl,
      record {
        trace = traced.0;
        is_trace = traced.1;
        after = later.0;
        after_is = later.1;
        none_left = nothing_left P I found later.0 sound valid is later.1;
        status_is = refl;
        out_is = refl;
        notes_is = refl;
      },
    )

pub answers_runs : (Texts : Program → Input → Findings → Answer → Type 0) → Makes Texts → AnswersRuns Texts
answers_runs Texts made files old new p t P I stated loaded traced met =
    let found : (f : Findings) × IsFound P I f = found_exists P I in
    let valid : IsValid P I = (header-given P _ _ I (fit_pieces true traced.bytes) traced.trace.header_is).valid in
    let done : (a : Answer) × (a.status ≡ Done)
    × Texts P I found.0 a = made P I found.0 loaded.sound valid found.1 in (
      done.0,
      done.1,
      inr (inr (inr (record {
        program = P;
        loaded = subst (λ fs. IsProgramOf fs p P) (sym stated) loaded;
        input = I;
        traced = subst (λ (fs : Option (List NamedFile)). IfSome fs (λ stated_files. IsTraceFile stated_files t P I))
            (sym stated) traced;
        valid = valid;
        found = found.0;
        found_is = found.1;
        met = met;
        texts = done.2;
      }))),
    )

-- ---- nothing to repair

none_reached : (P : Program) (n k : ℕ) → reached P n k [] ≡ []
none_reached P zero k = refl
none_reached P (suc n) zero = none_reached P n 1
none_reached P (suc n) (suc k) = none_reached P n (suc (suc k))

no_clones : (P : Program) → length (clone_numbers P no_repairs) ≡ 0
no_clones P = ap (λ fs. length (numbered_from (length P.functions) fs)) (none_reached P (length P.functions) 0)

five_zeros : (P : Program) (found : Findings) → found.reports ≡ []
    → repair_counts (length found.reports) (plan_for P found) (length (clone_numbers P (plan_for P found)))
    ≡ no_counts
five_zeros P found e =
    ap (λ (rs : List Report). repair_counts (length rs) (plan_for P found)
    (length (clone_numbers P (plan_for P found)))) e
    ∙ ap (λ (plan : Plan). repair_counts 0 plan (length (clone_numbers P plan))) (nothing_planned P found e)
    ∙ ap (λ n. repair_counts 0 no_repairs n) (no_clones P)

same_again : (P : Program) (found : Findings) → found.reports ≡ [] → repaired_for P found ≡ P
same_again P found e = ap (λ (plan : Plan). repaired P plan (direct P)) (nothing_planned P found e)
    ∙ nothing_repaired (direct P) P

pub nothing_to_repair : NothingToRepair
nothing_to_repair P I found a e r =
    (r.out_is ∙ ap show (same_again P found e), r.notes_is ∙ five_zeros P found e)

-- ---- a second repair

pub reruns_are_traces : RerunsAreTraces
reruns_are_traces P I found sound is_input valid es is =
    written-trace (repaired_for P found) (repaired_is_sound P (plan_for P found) (direct P) sound) I is_input
    (valid_again P (plan_for P found) (direct P) I valid) es is

pub second_repair : SecondRepair
second_repair P I found sound is_input valid is files p t on old new stated met =
    let Q = repaired_for P found in
    let cured = cures P I found sound valid is in
    let later : (f : Findings) × IsFound Q I f = found_exists Q I in
    let none : later.0.reports ≡ [] = nothing_left P I found later.0 sound valid is later.1 in
    let valid_q : IsValid Q I = valid_again P (plan_for P found) (direct P) I valid in
    record {
      program = Q;
      loaded = record {
        text = show Q;
        is_text = record {
          fits = on.fits;
          stated =
              subst (λ (fs : Option (List NamedFile)).
              IfSome fs (λ stated_files. file_of stated_files p ≡ Some (show Q)))
              (sym stated) on.text;
        };
        reads = cured.reads;
        sound = cured.sound;
      };
      input = I;
      traced = subst (λ (fs : Option (List NamedFile)). IfSome fs (λ stated_files. IsTraceFile stated_files t Q I))
          (sym stated) (record {
            bytes = lines_of on.trace;
            found = on.lines;
            trace = reruns_are_traces P I found sound is_input valid on.trace on.is_trace;
          });
      valid = valid_q;
      found = later.0;
      found_is = later.1;
      met = met;
      texts = record {
        status_is = refl;
        out_is = ap show (sym (same_again Q later.0 none));
        notes_is = sym (five_zeros Q later.0 none);
        cured = cures Q I later.0 cured.sound valid_q later.1;
      };
    }
