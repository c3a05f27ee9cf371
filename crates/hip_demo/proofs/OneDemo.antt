-- A seed and a size have one answer.
use Rattle.std.proofs.Common.{◌≡◌, List, length, inr, sym, ap, ◌∙◌, subst}
use Rattle.hip_answers.specs.Same.{pathless}
use Rattle.hip_demo.specs.Demo.{HasShown, demo_input, demo_text}
use Rattle.hip_demo.specs.Laws.{DemosAreOne}
use Rattle.hip_demo.specs.declared.shown.Shown.{Shown}
use Rattle.hip_gen.specs.Generated.{generated_program}
use Rattle.hip_tree.specs.declared.program.Program.{Program}
use Rattle.hip_repair_answers.specs.Cured.{repaired_for}
use Rattle.hip_repairs.specs.Choice.{plan_for}
use Rattle.hip_repairs.specs.CloneNumbers.{clone_numbers}
use Rattle.hip_run_traces.specs.Traces.{IsTrace}
use Rattle.hip_runs.specs.Found.Marks.{IsFound}
use Rattle.hip_runs.specs.declared.input.Input.{Input}
use Rattle.hip_runs.specs.declared.report.Findings.{Findings}
use Rattle.hip_trace.specs.declared.entry.Entry.{Entry}

abbrev pub FindsOne : Type 0
FindsOne = (P : Program) → (I : Input) → (a b : Findings) → IsFound P I a → IsFound P I b → a ≡ b

abbrev pub TracesOne : Type 0
TracesOne = (P : Program) → (I : Input) → (es fs : List Entry) → IsTrace P I es → IsTrace P I fs → es ≡ fs

-- What is counted, given the trace and the findings of each of the two runs.
abbrev counted : (P : Program) → List Entry → Findings → List Entry → Findings → Shown
counted P es found fs after = record {
  entries = length es;
  reports = length found.reports;
  plan = plan_for P found;
  clones = length (clone_numbers P (plan_for P found));
  rerun = length fs;
  after = length after.reports;
}

module _ (finds : FindsOne) (traces : TracesOne) (P : Program) (I : Input) where
  same_counts : (es es' : List Entry) (f f' : Findings) (fs fs' : List Entry) (g g' : Findings) → es ≡ es' → f ≡ f'
      → fs ≡ fs' → g ≡ g' → counted P es f fs g ≡ counted P es' f' fs' g'
  same_counts es es' f f' fs fs' g g' a b c d =
      ap (λ x. counted P x f fs g) a ∙ ap (λ x. counted P es' x fs g) b ∙ ap (λ x. counted P es' f' x g) c
      ∙ ap (λ x. counted P es' f' fs' x) d

  same_shown : (s t : Shown) → HasShown P I s → HasShown P I t → s ≡ t
  same_shown s t h k =
      let found : h.found ≡ k.found = finds P I h.found k.found h.found_is k.found_is in
      let after = subst (λ f. IsFound (repaired_for P f) I h.after) found h.after_is in
      let rerun = subst (λ f. IsTrace (repaired_for P f) I h.rerun) found h.is_rerun in
      h.shown_is
      ∙ same_counts h.trace k.trace h.found k.found h.rerun k.rerun h.after k.after
      (traces P I h.trace k.trace h.is_trace k.is_trace) found
      (traces (repaired_for P k.found) I h.rerun k.rerun rerun k.is_rerun)
      (finds (repaired_for P k.found) I h.after k.after after k.after_is)
      ∙ sym k.shown_is

pub one_demo : FindsOne → TracesOne → DemosAreOne
one_demo finds traces seed size files old new other other_new a b stated stated' h k =
    let shown = same_shown finds traces (generated_program seed size) (demo_input seed size) h.shown k.shown
    h.has_shown k.has_shown in
    let out : a.out ≡ b.out = h.out_is ∙ ap (demo_text seed size) shown ∙ sym k.out_is in
    let status : a.status ≡ b.status = h.status_is ∙ sym k.status_is in
    let notes : a.notes ≡ b.notes = h.notes_is ∙ sym k.notes_is in
    inr (inr (record { status = ap pathless status; out = out; notes = notes }))
