-- What a run has printed after some steps is a prefix of what it prints.
use Rattle.std.proofs.Common.{◌≡◌, ℕ, zero, suc, ◌+◌, true, List, [], ◌++◌, Option, Some, None, is_some, append-nil, append_assoc, refl, sym, ap, ◌∙◌, subst, arith}
use Rattle.hip_tree.specs.declared.program.Program.{Program}
use Rattle.std.specs.Prelude.{Err}
use Rattle.hip_io.specs.Laws.SinkLaws.{prefix_of_more, writes_nothing}
use Rattle.hip_io.specs.Sinks.{SinkState, AppendsAll, AppendsPrefix}
use Rattle.hip_io.specs.declared.sink.Put.TheVariants.{Done}
use Rattle.hip_runs.specs.Outputs.{ending_by, printed_by}
use Rattle.hip_runs.specs.Step.{event, run}
use Rattle.hip_runs.specs.declared.event.Ending.{Ending}
use Rattle.hip_runs.specs.declared.event.Event.{Event}
use Rattle.hip_runs.specs.declared.event.Event.TheVariants as events
use Rattle.hip_runs.specs.declared.input.Input.{Input}
use Rattle.hip_runner.specs.Silent.{ComesToPrint}
use Rattle.hip_lockstep.proofs.Going.{IsGoing, IsStated, ended_stays, ending_next, goes_on, none_ends, starts, taken_next}
use Rattle.hip_replay.proofs.Deliveries.{all_of_both, delivers, fails_to_deliver, part_of_both}
use Rattle.hip_replay.proofs.Silently.{goes_silently, print_there, same_output}
use Rattle.hip_replay.specs.Delivery.{EndsOutOfMemory}
use Rattle.hip_replay.specs.PrintedText.{IsPrinted, HasPrinted, PrintHasFailed, PrintHasStopped, Prints}
use Rattle.hip_replay.specs.declared.refusal.RecordRefusal.{RecordRefusal}
use Rattle.hip_replay.specs.declared.refusal.RecordRefusal.TheVariants.{NoMemory, WriteFault}
use Rattle.hip_runs.specs.Seen.{Seen, after_step}

-- A machine that goes on, and what its steps print was written.
pub record IsPrinting (P : Program) (I : Input) (m : Seen) (old new : SinkState) : Type 0 where
  pub on : IsGoing P I m
  pub written : AppendsAll old new (run P I m.taken).world.output

module _ (P : Program) (I : Input) (stated : (n : ℕ) → (run P I (suc n)).world.output ≡ (run P I n).world.output ++ printed_by (event P I (run P I n))) where
  -- The output after more steps begins with the output after fewer.
  grown : (n d : ℕ) → (more : List ℕ) × ((run P I (n + d)).world.output ≡ (run P I n).world.output ++ more)
  grown n zero = ([], ap (λ k. (run P I k).world.output) (let e : n + 0 ≡ n = omega arith in e) ∙ sym (append-nil (run P I n).world.output))
  grown n (suc d) = go (grown n d)
    where
      go : (more : List ℕ) × ((run P I (n + d)).world.output ≡ (run P I n).world.output ++ more) → (more : List ℕ) × ((run P I (n + suc d)).world.output ≡ (run P I n).world.output ++ more)
      go (more, is) = (
        more ++ printed_by (event P I (run P I (n + d))),
        ap (λ k. (run P I k).world.output) (let e : n + suc d ≡ suc (n + d) = omega arith in e) ∙ stated (n + d)
            ∙ ap (λ text. text ++ printed_by (event P I (run P I (n + d)))) is ∙ append_assoc (run P I n).world.output more (printed_by (event P I (run P I (n + d)))),
      )

-- The output after some steps is a prefix of what the run prints.
pub record IsFront (P : Program) (I : Input) (front : List ℕ) : Type 0 where
  pub missing : List ℕ
  pub ending : Ending
  pub printed : IsPrinted P I (front ++ missing) ending

pub front_of : (P : Program) (I : Input) → IsStated P I → (n : ℕ) → IsFront P I (run P I n).world.output
front_of P I stated n = go (run P I stated.ends.0).world.ending refl stated.ends.1
  where
    go : (o : Option Ending) → (run P I stated.ends.0).world.ending ≡ o → is_some (run P I stated.ends.0).world.ending ≡ true → IsFront P I (run P I n).world.output
    go None none ended = absurd (none_ends (run P I stated.ends.0).world.ending none ended)
    go (Some e) ends ended =
        let more = grown P I stated.output n stated.ends.0 in
        let last : run P I (n + stated.ends.0) ≡ run P I stated.ends.0 =
        ap (λ m. run P I m) (let swap : n + stated.ends.0 ≡ stated.ends.0 + n = omega arith in swap) ∙ ended_stays P I stated.ends.0 e ends n in
        record {
          missing = more.0;
          ending = e;
          printed = record { steps = stated.ends.0; ended = ends; is = sym more.1 ∙ ap (λ s. s.world.output) last };
        }

-- A step that ends a run prints nothing.
ends_silent : (x : Event) (e : Ending) → ending_by x ≡ Some e → printed_by x ≡ []
ends_silent events.Quiet e h = refl
ends_silent (events.Print z) e h = cc
ends_silent (events.Store a v n) e h = refl
ends_silent (events.Flush a n) e h = refl
ends_silent (events.Persist a n) e h = refl
ends_silent events.Fence e h = refl
ends_silent (events.Assert a n) e h = refl
ends_silent (events.End f) e h = refl

module _ {P : Program} {I : Input} {m : Seen} {old mid : SinkState} (stated : IsStated P I) (is : IsPrinting P I m old mid) where
  pub stopped : PrintHasStopped P I old mid
  stopped =
      let front = front_of P I stated m.taken in
      record { front = (run P I m.taken).world.output; missing = front.missing; ending = front.ending; printed = front.printed; written = is.written }

  printed_next : (e : Event) → event P I (run P I m.taken) ≡ e → (run P I (suc m.taken)).world.output ≡ (run P I m.taken).world.output ++ printed_by e
  printed_next e at = stated.output m.taken ∙ ap (λ x. (run P I m.taken).world.output ++ printed_by x) at

  printed : (x : Event) (e : Ending) → event P I (run P I m.taken) ≡ x → ending_by x ≡ Some e → HasPrinted P I old mid e
  printed x e at ends = record {
    text = (run P I m.taken).world.output;
    printed = record {
      steps = suc m.taken;
      ended = ending_next stated is.on x at ∙ ends;
      is = sym (printed_next x at ∙ ap (λ text. (run P I m.taken).world.output ++ text) (ends_silent x e ends) ∙ append-nil (run P I m.taken).world.output);
    };
    written = is.written;
  }

  failed : (e : Event) (new : SinkState) → event P I (run P I m.taken) ≡ e → AppendsPrefix mid new (printed_by e) → PrintHasFailed P I old new
  failed e new at put =
      let front = front_of P I stated (suc m.taken) in
      record {
        text = (run P I (suc m.taken)).world.output ++ front.missing;
        ending = front.ending;
        printed = front.printed;
        written = prefix_of_more old new (run P I (suc m.taken)).world.output front.missing (subst (λ text. AppendsPrefix old new text) (sym (printed_next e at)) (part_of_both is.written put));
      }

  more : (e : Event) (new : SinkState) → event P I (run P I m.taken) ≡ e → ending_by e ≡ None → AppendsAll mid new (printed_by e) → IsPrinting P I (after_step m) old new
  more e new at goes put =
      record {
        on = goes_on stated is.on e at goes;
        written = subst (λ n. AppendsAll old new (run P I n).world.output) (sym (taken_next stated is.on)) (subst (λ text. AppendsAll old new text) (sym (printed_next e at)) (all_of_both is.written put));
      }

-- ---- the next print

module _ {P : Program} {I : Input} {m : Seen} {old mid : SinkState} (stated : IsStated P I) (is : IsPrinting P I m old mid) {next : Seen} {e : Event} (c : ComesToPrint m next e) where
  -- What holds before the step that has the event.
  before_event : IsPrinting P I c.before old mid
  before_event = record {
    on = goes_silently is.on c.silent;
    written = subst (λ text. AppendsAll old mid text) (sym (same_output is.on c.silent)) is.written;
  }

  pub prints_last : (ending : Ending) → ending_by e ≡ Some ending → HasPrinted P I old mid ending
  prints_last ending ends = printed stated before_event e ending (print_there stated is.on c) ends

  pub fails_next : (new : SinkState) → AppendsPrefix mid new (printed_by e) → PrintHasFailed P I old new
  fails_next new put = failed stated before_event e new (print_there stated is.on c) put

  pub prints_next : (new : SinkState) → ending_by e ≡ None → AppendsAll mid new (printed_by e) → IsPrinting P I next old new
  prints_next new goes put =
      subst (λ (n : Seen). IsPrinting P I n old new) (sym c.step) (more stated before_event e new (print_there stated is.on c) goes put)

starts_silent : (P : Program) (I : Input) → (run P I 0).world.output ≡ []
unfolding run
starts_silent P I = refl

-- Before the first step nothing is printed, and the machine goes on.
pub started : (P : Program) (I : Input) (s : SinkState) → IsPrinting P I (record { program = P; input = I; taken = 0 }) s s
started P I s = record {
  on = starts P I;
  written = subst (λ text. AppendsAll s s text) (sym (starts_silent P I)) (writes_nothing Done s).how;
}

-- ---- at the end

module _ {P : Program} {I : Input} {old mid new : SinkState} where
  pub has_printed : {ending : Ending} → HasPrinted P I old mid ending → AppendsAll mid new [] → HasPrinted P I old new ending
  has_printed p q = record { text = p.text; printed = p.printed; written = delivers p.written q }

  pub not_delivered : {ending : Ending} → HasPrinted P I old mid ending → AppendsPrefix mid new [] → PrintHasFailed P I old new
  not_delivered {ending} p q = record { text = p.text; ending = ending; printed = p.printed; written = fails_to_deliver p.written q }

pub ran_out : {P : Program} {I : Input} {old mid : SinkState} (new : SinkState) (refusal : RecordRefusal) → PrintHasStopped P I old mid → EndsOutOfMemory mid new refusal → Prints P I old new (Err refusal)
ran_out {P} {I} {old} {mid} new NoMemory p q = record { front = p.front; missing = p.missing; ending = p.ending; printed = p.printed; written = delivers p.written q }
ran_out {P} {I} {old} {mid} new WriteFault p q = record {
  text = p.front ++ p.missing;
  ending = p.ending;
  printed = p.printed;
  written = prefix_of_more old new p.front p.missing (fails_to_deliver p.written q);
}
