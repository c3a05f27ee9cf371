-- A run ends in one way, so only one answer has its trace.
use Rattle.std.proofs.Common.{◌≡◌, ◌≤◌, ◌<◌, ◌+◌, ◌-◌, ◌⊎◌, ℕ, zero, suc, true, false, List, Option, Some, None, is_some, refl, sym, ap, ◌∙◌, inl, inr, arith}
use Rattle.std.proofs.lemmas.Bool.{cases_order}
use Rattle.hip_answers.specs.Answers.{Answer, CarriedOut, outcome_of}
use Rattle.hip_answers.specs.Endings.{ending_line, status_of_ending}
use Rattle.hip_answers.specs.Traces.{GivesTrace}
use Rattle.hip_run_traces.specs.Laws.TraceLaws.{one-trace}
use Rattle.hip_run_traces.specs.TraceTexts.{IsTraceText}
use Rattle.hip_run_traces.specs.Traces.{IsTrace}
use Rattle.hip_runs.specs.Laws.OneEndLaws.{one_end, one_ending, rests_later}
use Rattle.hip_runs.specs.State.{State}
use Rattle.hip_runs.specs.Step.{has_ended, run}
use Rattle.hip_runs.specs.declared.event.Ending.{Ending}
use Rattle.hip_runs.specs.declared.event.Ending.TheVariants as endings
use Rattle.hip_runs.specs.declared.input.Input.{Input}
use Rattle.hip_trace.specs.Texts.{lines_of}
use Rattle.hip_trace.specs.declared.entry.Entry.{Entry}
use Rattle.hip_tree.specs.declared.program.Program.{Program}

-- ---- the answer of a run

-- With every ending the command was carried out.
pub is_carried_out : (ending : Ending) → outcome_of (status_of_ending ending) ≡ CarriedOut
is_carried_out (endings.Stop code) = refl
is_carried_out (endings.Trap kind) = refl
is_carried_out endings.Cut = refl

-- The answer for a run with this text and this ending.
abbrev pub answer_of : List ℕ → Ending → Answer
answer_of text ending = record { status = status_of_ending ending; out = text; notes = ending_line ending }

-- The lines of a run's trace are its text, and the run has ended in some way.
pub text_of : (P : Program) (I : Input) (trace : List Entry) → IsTrace P I trace
    → (ending : Ending) × IsTraceText P I (lines_of trace) ending
text_of P I trace t = by_end (run P I t.steps).world.ending refl
  where
    by_end : (e : Option Ending) → (run P I t.steps).world.ending ≡ e
        → (ending : Ending) × IsTraceText P I (lines_of trace) ending
    by_end (Some ending) ended = (ending, record { trace = trace; is_trace = t; ended = ended; is = refl })
    by_end None ended = absurd (let no : false ≡ true = sym (ap is_some ended) ∙ t.ended in let z : ⊥ = cc in z)

answer_is : {a : Answer} (b : Answer) → a.status ≡ b.status → a.out ≡ b.out → a.notes ≡ b.notes → a ≡ b
answer_is b e f g = λ i. record { status = e i; out = f i; notes = g i }

-- Two answers that have the trace of a run are equal.
pub one_given : (P : Program) (I : Input) (a b : Answer) → GivesTrace P I a → GivesTrace P I b → a ≡ b
one_given P I a b x y =
    let u = x.traced in
    let v = y.traced in
    let ending = one_ending P I u.is_trace.steps v.is_trace.steps x.ending y.ending u.ended v.ended in
    let trace = one-trace P I u.trace v.trace u.is_trace v.is_trace in
    answer_is b (x.status_is ∙ ap status_of_ending ending ∙ sym y.status_is)
    (u.is ∙ ap lines_of trace ∙ sym v.is) (x.notes_is ∙ ap ending_line ending ∙ sym y.notes_is)
