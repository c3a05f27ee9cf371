-- The entries that are written after some steps are a prefix of the run's trace.
use Rattle.std.proofs.Common.{◌≡◌, ℕ, suc, ◌+◌, ◌^◌, ◌<◌, List, [], ◌++◌, length, Option, Some, None, is_some, length-append, append-nil, refl, sym, ap, ◌∙◌, subst, arith}
use Rattle.std.specs.Prelude.{if◌then◌else◌}
use Rattle.std.proofs.lemmas.Grind.{flat_map-append}
use Rattle.hip_tree.specs.declared.program.Program.{Program}
use Rattle.hip_io.specs.Laws.SinkLaws.{prefix_of_more, writes_nothing}
use Rattle.hip_io.specs.Sinks.{SinkState, AppendsAll, AppendsPrefix}
use Rattle.hip_io.specs.declared.sink.Put.TheVariants.{Done}
use Rattle.hip_run_traces.specs.Laws.TraceLaws.{length-trace, next-trace, whole-front, whole-trace}
use Rattle.hip_run_traces.specs.Traces.{IsTrace, entry_list, entry_of_event, header_of, trace}
use Rattle.hip_runs.specs.Outputs.{ending_by}
use Rattle.hip_runs.specs.Step.{event, run}
use Rattle.hip_runs.specs.declared.event.Ending.{Ending}
use Rattle.hip_runs.specs.declared.event.Event.{Event}
use Rattle.hip_runs.specs.declared.input.Input.{Input}
use Rattle.hip_invariants.specs.Bounds.{CountsFit}
use Rattle.hip_runs.specs.Seen.{Seen, after_step}
use Rattle.hip_trace.specs.Texts.{line_of, lines_of}
use Rattle.hip_trace.specs.declared.entry.Entry.{Entry}
use Rattle.hip_replay.proofs.Deliveries.{all_of_both, delivers, fails_to_deliver, part_of_both}
use Rattle.hip_replay.specs.Delivery.{EndsOutOfMemory}
use Rattle.hip_runner.specs.Quiet.{ComesTo}
use Rattle.hip_replay.proofs.Quietly.{event_there, goes_there, trace_there}
use Rattle.hip_lockstep.proofs.Going.{IsGoing, IsStated, ending_next, goes_on, taken_next}
use Rattle.hip_lockstep.specs.declared.ended.Ended.{Ended}
use Rattle.hip_replay.specs.declared.refusal.RecordRefusal.{RecordRefusal}
use Rattle.hip_replay.specs.declared.refusal.RecordRefusal.TheVariants.{NoMemory, WriteFault}
use Rattle.hip_replay.specs.RecordedTrace.{HasPutTrace, HasFailedRecording, HasStoppedRecording, StopsRecording}

-- ---- lines one after another

pub both_lines : (es fs : List Entry) → lines_of (es ++ fs) ≡ lines_of es ++ lines_of fs
both_lines es fs = flat_map-append line_of es fs

pub part_of_more : {old new : SinkState} (es fs : List Entry) → AppendsPrefix old new (lines_of es) → AppendsPrefix old new (lines_of (es ++ fs))
part_of_more {old} {new} es fs p = subst (λ text. AppendsPrefix old new text) (sym (both_lines es fs)) (prefix_of_more old new (lines_of es) (lines_of fs) p)

-- ---- the run

-- A machine that goes on, where the lines of the trace of its steps were written.
pub record IsRecording (P : Program) (I : Input) (m : Seen) (old new : SinkState) : Type 0 where
  pub on : IsGoing P I m
  pub written : AppendsAll old new (lines_of (trace P I m.taken))

trace_zero : (P : Program) (I : Input) → trace P I 0 ≡ header_of I
unfolding trace
trace_zero P I = refl

failed_at : (P : Program) (I : Input) (old new : SinkState) (n : ℕ) → AppendsPrefix old new (lines_of (trace P I n)) → HasFailedRecording P I old new
failed_at P I old new n p =
    let whole = whole-trace P I in
    let front = whole-front P I n whole.0 whole.1 in
    record {
      trace = whole.0;
      is_trace = whole.1;
      written = subst (λ es. AppendsPrefix old new (lines_of es)) (sym front.1) (part_of_more (trace P I n) front.0 p);
    }

-- A write of the header failed.
pub header_failed : (P : Program) (I : Input) (old new : SinkState) → AppendsPrefix old new (lines_of (header_of I)) → HasFailedRecording P I old new
header_failed P I old new p = failed_at P I old new 0 (subst (λ es. AppendsPrefix old new (lines_of es)) (sym (trace_zero P I)) p)

stopped_at : (P : Program) (I : Input) (old new : SinkState) (front : List Entry) → ((es : List Entry) → IsTrace P I es → (more : List Entry) × (es ≡ front ++ more)) → AppendsAll old new (lines_of front) → HasStoppedRecording P I old new
stopped_at P I old new front begins p =
    let whole = whole-trace P I in
    let rest = begins whole.0 whole.1 in
    record { front = front; missing = rest.0; is_trace = subst (λ es. IsTrace P I es) rest.1 whole.1; written = p }

module _ {P : Program} {I : Input} {m : Seen} (stated : IsStated P I) (on : IsGoing P I m) where
  pub next_trace : (e : Event) → event P I (run P I m.taken) ≡ e → trace P I (suc m.taken) ≡ trace P I m.taken ++ entry_list (entry_of_event e)
  next_trace e at =
      next-trace P I m.taken
      ∙ ap (λ (o : Option Ending). trace P I m.taken ++ (if is_some o then [] else entry_list (entry_of_event (event P I (run P I m.taken))))) on.going
      ∙ ap (λ x. trace P I m.taken ++ entry_list (entry_of_event x)) at

  pub counted : (e : Event) (n more : ℕ) → event P I (run P I m.taken) ≡ e → n ≡ length (trace P I m.taken) → more ≡ length (entry_list (entry_of_event e)) → n + more ≡ length (trace P I (suc m.taken))
  counted e n more at all one =
      let both = length-append (trace P I m.taken) (entry_list (entry_of_event e)) in
      let next = ap (λ es. length es) (next_trace e at) in
      omega (arith, all, one, both, next)

  -- The number of entries fits 128 bits.
  pub count_fits : (e : Event) (n more : ℕ) → event P I (run P I m.taken) ≡ e → n ≡ length (trace P I m.taken) → more ≡ length (entry_list (entry_of_event e)) → ((k : ℕ) → CountsFit P I k) → n + more < 2 ^ 128
  count_fits e n more at all one fit =
      let total = counted e n more at all one in
      let same = length-trace P I (suc m.taken) in
      let less = (fit (suc m.taken)).entries in
      omega (arith, total, same, less)

  pub counted_on : (e : Event) (n more : ℕ) → event P I (run P I m.taken) ≡ e → n ≡ length (trace P I m.taken) → more ≡ length (entry_list (entry_of_event e)) → n + more ≡ length (trace P I (after_step m).taken)
  counted_on e n more at all one = counted e n more at all one ∙ ap (λ k. length (trace P I k)) (sym (taken_next stated on))

-- The lines of the trace after one more step.
lines_next : {P : Program} {I : Input} {m : Seen} (stated : IsStated P I) (on : IsGoing P I m) (e : Event) → event P I (run P I m.taken) ≡ e → lines_of (trace P I m.taken) ++ lines_of (entry_list (entry_of_event e)) ≡ lines_of (trace P I (suc m.taken))
lines_next {P} {I} {m} stated on e at = sym (ap (λ es. lines_of es) (next_trace stated on e at) ∙ both_lines (trace P I m.taken) (entry_list (entry_of_event e)))

module _ {P : Program} {I : Input} {m : Seen} {old mid : SinkState} (stated : IsStated P I) (is : IsRecording P I m old mid) where
  next_written : (e : Event) (new : SinkState) → event P I (run P I m.taken) ≡ e → AppendsAll mid new (lines_of (entry_list (entry_of_event e))) → AppendsAll old new (lines_of (trace P I (suc m.taken)))
  next_written e new at put = subst (λ text. AppendsAll old new text) (lines_next stated is.on e at) (all_of_both is.written put)

  pub stopped : HasStoppedRecording P I old mid
  stopped = stopped_at P I old mid (trace P I m.taken) (whole-front P I m.taken) is.written

  pub more : (e : Event) (new : SinkState) → event P I (run P I m.taken) ≡ e → ending_by e ≡ None → AppendsAll mid new (lines_of (entry_list (entry_of_event e))) → IsRecording P I (after_step m) old new
  more e new at goes put = record {
    on = goes_on stated is.on e at goes;
    written = subst (λ n. AppendsAll old new (lines_of (trace P I n))) (sym (taken_next stated is.on)) (next_written e new at put);
  }

  pub failed : (e : Event) (new : SinkState) → event P I (run P I m.taken) ≡ e → AppendsPrefix mid new (lines_of (entry_list (entry_of_event e))) → HasFailedRecording P I old new
  failed e new at put = failed_at P I old new (suc m.taken) (subst (λ text. AppendsPrefix old new text) (lines_next stated is.on e at) (part_of_both is.written put))

  pub recorded : (e : Event) (new : SinkState) (ending : Ending) (n more : ℕ) → event P I (run P I m.taken) ≡ e → ending_by e ≡ Some ending → AppendsAll mid new (lines_of (entry_list (entry_of_event e))) → n ≡ length (trace P I m.taken) → more ≡ length (entry_list (entry_of_event e)) → HasPutTrace P I old new (record { ending = ending; entries = n + more })
  recorded e new ending n more at ends put all one =
      let ended : (run P I (suc m.taken)).world.ending ≡ Some ending = ending_next stated is.on e at ∙ ends in
      record {
        trace = trace P I (suc m.taken);
        is_trace = record { steps = suc m.taken; ended = ap is_some ended; are = refl };
        ended = ended;
        entries = counted stated is.on e n more at all one;
        written = next_written e new at put;
      }

-- ---- the next event

module _ {P : Program} {I : Input} {m : Seen} {old mid : SinkState} (stated : IsStated P I) (is : IsRecording P I m old mid) {next : Seen} {e : Event} (c : ComesTo m next e) where
  -- What holds before the step that has the event.
  before_event : IsRecording P I c.before old mid
  before_event = record {
    on = goes_there stated is.on c;
    written = subst (λ es. AppendsAll old mid (lines_of es)) (sym (trace_there stated is.on c)) is.written;
  }

  pub failed_next : (new : SinkState) → AppendsPrefix mid new (lines_of (entry_list (entry_of_event e))) → HasFailedRecording P I old new
  failed_next new put = failed stated before_event e new (event_there stated is.on c) put

  pub written_next : (new : SinkState) → ending_by e ≡ None → AppendsAll mid new (lines_of (entry_list (entry_of_event e))) → IsRecording P I next old new
  written_next new goes put =
      subst (λ (n : Seen). IsRecording P I n old new) (sym c.step) (more stated before_event e new (event_there stated is.on c) goes put)

  pub recorded_last : (new : SinkState) (ending : Ending) (n count : ℕ) → ending_by e ≡ Some ending → AppendsAll mid new (lines_of (entry_list (entry_of_event e))) → n ≡ length (trace P I m.taken) → count ≡ length (entry_list (entry_of_event e)) → HasPutTrace P I old new (record { ending = ending; entries = n + count })
  recorded_last new ending n count ends put all one =
      recorded stated before_event e new ending n count (event_there stated is.on c) ends put (all ∙ ap length (sym (trace_there stated is.on c))) one

module _ {P : Program} {I : Input} {m next : Seen} {e : Event} (stated : IsStated P I) (on : IsGoing P I m) (c : ComesTo m next e) (n count : ℕ) (all : n ≡ length (trace P I m.taken)) (one : count ≡ length (entry_list (entry_of_event e))) where
  all_before : n ≡ length (trace P I c.before.taken)
  all_before = all ∙ ap length (sym (trace_there stated on c))

  pub count_fits_next : ((k : ℕ) → CountsFit P I k) → n + count < 2 ^ 128
  count_fits_next fit = count_fits stated (goes_there stated on c) e n count (event_there stated on c) all_before one fit

  pub counted_next : n + count ≡ length (trace P I next.taken)
  counted_next =
      counted_on stated (goes_there stated on c) e n count (event_there stated on c) all_before one
      ∙ ap (λ (s : Seen). length (trace P I s.taken)) (sym c.step)

-- Memory ran out before anything was written.
pub stopped_first : (P : Program) (I : Input) (s : SinkState) → HasStoppedRecording P I s s
stopped_first P I s = stopped_at P I s s [] (λ es t. (es, refl)) (writes_nothing Done s).how

-- Memory ran out after the header was written.
pub stopped_header : (P : Program) (I : Input) (old new : SinkState) → AppendsAll old new (lines_of (header_of I)) → HasStoppedRecording P I old new
stopped_header P I old new p =
    stopped_at P I old new (trace P I 0) (whole-front P I 0) (subst (λ es. AppendsAll old new (lines_of es)) (sym (trace_zero P I)) p)

-- Memory ran out after the whole trace was written.
pub stopped_whole : (P : Program) (I : Input) (old new : SinkState) (done : Ended) → HasPutTrace P I old new done → HasStoppedRecording P I old new
stopped_whole P I old new done h = record {
  front = h.trace;
  missing = [];
  is_trace = subst (λ es. IsTrace P I es) (sym (append-nil h.trace)) h.is_trace;
  written = h.written;
}

pub header_at : (P : Program) (I : Input) (old new : SinkState) (n : ℕ) → n ≡ 0 → AppendsAll old new (lines_of (header_of I)) → AppendsAll old new (lines_of (trace P I n))
header_at P I old new n fresh p =
    subst (λ k. AppendsAll old new (lines_of (trace P I k))) (sym fresh) (subst (λ es. AppendsAll old new (lines_of es)) (sym (trace_zero P I)) p)

pub count_at : (P : Program) (I : Input) (n count : ℕ) → n ≡ 0 → count ≡ length (header_of I) → count ≡ length (trace P I n)
count_at P I n count fresh e = e ∙ ap (λ es. length es) (sym (trace_zero P I)) ∙ ap (λ k. length (trace P I k)) (sym fresh)

-- ---- at the end

module _ {P : Program} {I : Input} {old mid new : SinkState} where
  pub has_put : {done : Ended} → HasPutTrace P I old mid done → AppendsAll mid new [] → HasPutTrace P I old new done
  has_put p q = record { trace = p.trace; is_trace = p.is_trace; ended = p.ended; entries = p.entries; written = delivers p.written q }

  pub not_delivered : {done : Ended} → HasPutTrace P I old mid done → AppendsPrefix mid new [] → HasFailedRecording P I old new
  not_delivered p q = record { trace = p.trace; is_trace = p.is_trace; written = fails_to_deliver p.written q }

pub ran_out : {P : Program} {I : Input} {old mid : SinkState} (new : SinkState) (refusal : RecordRefusal) → HasStoppedRecording P I old mid → EndsOutOfMemory mid new refusal → StopsRecording P I old new refusal
ran_out {P} {I} {old} {mid} new NoMemory p q = record { front = p.front; missing = p.missing; is_trace = p.is_trace; written = delivers p.written q }
ran_out {P} {I} {old} {mid} new WriteFault p q = record {
  trace = p.front ++ p.missing;
  is_trace = p.is_trace;
  written = part_of_more p.front p.missing (fails_to_deliver p.written q);
}
