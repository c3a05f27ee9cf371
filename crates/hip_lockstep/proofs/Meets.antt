-- What follows from one step of a run that follows a trace.
use Rattle.std.proofs.Common.{◌≡◌, ℕ, suc, ◌+◌, ◌^◌, ◌<◌, true, List, [], ◌∷◌, ◌++◌, length, Option, Some, None, is_some, Err, refl, sym, ap, ◌∙◌, subst, arith, append-nil, append_assoc, length-append}
use Rattle.hip_io.specs.Cabinets.{CabinetState}
use Rattle.hip_tree.specs.declared.program.Program.{Program}
use Rattle.hip_run_traces.specs.Headers.{Gives, header}
use Rattle.hip_run_traces.specs.Laws.TraceLaws.{whole-front, whole-trace}
use Rattle.hip_run_traces.specs.Misfits.{IsMisfit, IsTraceOf}
use Rattle.hip_run_traces.specs.Traces.{IsTrace, entry_list, entry_of_event, trace, stated}
use Rattle.hip_run_traces.specs.declared.misfit.MisfitKind.TheVariants.{Malformed, Differs, Early, Extra}
use Rattle.hip_runs.specs.Outputs.{ending_by}
use Rattle.hip_runs.specs.Step.{event, header_entries, run}
use Rattle.hip_runs.specs.declared.event.Ending.{Ending}
use Rattle.hip_runs.specs.declared.event.Event.{Event}
use Rattle.hip_runs.specs.declared.input.Input.{Input}
use Rattle.hip_trace.specs.Pieces.{spelled}
use Rattle.hip_trace.specs.Reads.{ReaderState, HasNext, HasNone, ahead, one_more}
use Rattle.hip_trace.specs.declared.entry.Entry.{Entry}
use Rattle.hip_lockstep.specs.Laws.Readings.{next_read, reads_more, stated_at, stated_map}
use Rattle.hip_lockstep.specs.Laws.RunSteps.{differs_run, ending_after, fits_more, no_entry, no_entry_goes_on, read_fault, spelled_malformed, spelled_next, spelled_none, trace_after}
use Rattle.hip_lockstep.specs.InStep.{IsInStep, HasFollowed}
use Rattle.hip_lockstep.specs.Nexts.{ReadsEnd, ReadsEntry}
use Rattle.hip_lockstep.specs.ReadEntries.{HasReadEntries, EntriesAreRead}
use Rattle.hip_lockstep.specs.Refusals.{HasMisfit, Refuses}
use Rattle.hip_lockstep.specs.declared.refusal.ReplayRefusal.{ReplayRefusal}
use Rattle.hip_lockstep.specs.declared.refusal.ReplayRefusal.TheVariants as refusals
use Rattle.hip_lockstep.specs.declared.steps.Lockstep.{Lockstep}

module _ {e : Event} {r : ReaderState} {s : CabinetState} {at : Lockstep} (P : Program) (I : Input) (start : CabinetState) (n : ℕ) (is : IsInStep P I start n r s at) (here : event P I (run P I n) ≡ e) where
  -- After a step without an entry the run and the trace are still in step.
  pub silent : entry_of_event e ≡ None → IsInStep P I start (suc n) r s at
  silent q =
      let same : trace P I (suc n) ≡ trace P I n = trace_after P I n e is.going here ∙ ap (λ o. trace P I n ++ entry_list o) q ∙ append-nil (trace P I n) in
      record {
        valid = is.valid;
        going = ending_after P I n e here ∙ no_entry_goes_on e q;
        read = subst (λ es. HasReadEntries start r s (es ++ at.next ∷ [])) (sym same) is.read;
        counted = is.counted ∙ ap (λ es. length es) (sym same);
        header = is.header;
      }

  -- If the step's entry is not the one that was read, the trace is refused.
  pub differs : (made : Entry) → entry_of_event e ≡ Some made → (made ≡ at.next → ⊥) → Refuses P r start s (refusals.Misfit (at.entries + 1) Differs)
  differs made q other =
      let step : trace P I (suc n) ≡ trace P I n ++ made ∷ [] = trace_after P I n e is.going here ∙ ap (λ o. trace P I n ++ entry_list o) q in
      subst (λ k. HasMisfit P r start s (k + 1) Differs) (sym is.counted) (record {
        reading = is.read.reading;
        stated = stated_map (λ bytes. EntriesAreRead bytes (trace P I n ++ at.next ∷ []) (ahead r s)) (λ bytes. IsMisfit P bytes true (length (trace P I n) + 1) Differs) start.rest is.read.stated
            (λ bytes there h.
            let spells = spelled_next bytes (trace P I n) at.next (ahead r s) h in
            let w = whole-trace P I in
            let f = whole-front P I (suc n) w.0 w.1 in
            differs_run P I start is.valid n bytes (Some at.next ∷ spells.0) w.0 (made ∷ f.0) Differs
            (stated_at (λ b. header P (spelled true b) ≡ Gives (header_entries I) I) start.rest bytes there is.header) spells.1 w.1
            (f.1 ∙ ap (λ es. es ++ f.0) step ∙ append_assoc (trace P I n) (made ∷ []) f.0)
            ((λ p. let same : at.next ≡ made = cc in other (sym same)), refl));
        count = is.read.count ∙ length-append (trace P I n) (at.next ∷ []);
      })

  -- The step's entry is the one that was read.
  module _ (made : Entry) (q : entry_of_event e ≡ Some made) (same : made ≡ at.next) (few : at.entries + 2 < 2 ^ 128) where
    step_is : trace P I (suc n) ≡ trace P I n ++ at.next ∷ []
    step_is = trace_after P I n e is.going here ∙ ap (λ o. trace P I n ++ entry_list o) (q ∙ ap (λ x. Some x) same)

    counted_next : at.entries + 1 ≡ length (trace P I (suc n))
    counted_next = ap (λ k. k + 1) is.counted ∙ sym (ap (λ es. length es) step_is ∙ length-append (trace P I n) (at.next ∷ []))

    room : length (trace P I (suc n)) + 1 < 2 ^ 128
    room = let c = counted_next in omega (arith, c, few)

    read_so_far : HasReadEntries start r s (trace P I (suc n))
    read_so_far = subst (λ es. HasReadEntries start r s es) (sym step_is) is.read

    header_here : (bytes : List ℕ) → start.rest ≡ Some bytes → header P (spelled true bytes) ≡ Gives (header_entries I) I
    header_here bytes there = stated_at (λ b. header P (spelled true b) ≡ Gives (header_entries I) I) start.rest bytes there is.header

    pub next_in_step : (r' : ReaderState) (s' : CabinetState) (next : Entry) → ending_by e ≡ None → HasNext r r' s s' next → IsInStep P I start (suc n) r' s' (record { next = next; entries = at.entries + 1 })
    next_in_step r' s' next goes h = record {
      valid = is.valid;
      going = ending_after P I n e here ∙ goes;
      read = next_read start s s' r r' (trace P I (suc n)) next room read_so_far h;
      counted = counted_next;
      header = is.header;
    }

    pub next_missing : (r' : ReaderState) (s' : CabinetState) (refusal : ReplayRefusal) → ending_by e ≡ None → ReadsEntry (at.entries + 1) r r' s s' (Err refusal) → Refuses P r' start s' refusal
    next_missing r' s' refusal goes h =
        no_entry P I start is.valid (suc n) r s (ending_after P I n e here ∙ goes) room read_so_far (λ bytes there rest spells bad. header_here bytes there) r' s' refusal
        (subst (λ k. ReadsEntry k r r' s s' (Err refusal)) counted_next h)

    ended_here : (ending : Ending) → ending_by e ≡ Some ending → (run P I (suc n)).world.ending ≡ Some ending
    ended_here ending ends = ending_after P I n e here ∙ ends

    whole_here : (ending : Ending) → ending_by e ≡ Some ending → IsTrace P I (trace P I (suc n))
    whole_here ending ends = record { steps = suc n; ended = ap (λ (o : Option Ending). is_some o) (ended_here ending ends); are = refl }

    pub followed : (r' : ReaderState) (s' : CabinetState) (ending : Ending) → ending_by e ≡ Some ending → HasNone r r' s s' → HasFollowed P I start (suc n) r' s' (at.entries + 1) ending
    followed r' s' ending ends none = record {
      reading = reads_more start s s' read_so_far.reading none.reading;
      ended = ended_here ending ends;
      counted = counted_next;
      begun = none.count ∙ read_so_far.count;
      progress = none.progress;
      stated = stated_map (λ bytes. EntriesAreRead bytes (trace P I (suc n)) (ahead r s)) (λ bytes. IsTraceOf P bytes I) start.rest read_so_far.stated
          (λ bytes there h. record {
            entries = header_entries I;
            header_is = header_here bytes there;
            trace = trace P I (suc n);
            is_trace = whole_here ending ends;
            spells = spelled_none bytes (trace P I (suc n)) r s h none.ended ∙ append-nil (stated (trace P I (suc n)));
          });
      left = none.left;
    }

    pub end_missing : (r' : ReaderState) (s' : CabinetState) (refusal : ReplayRefusal) (ending : Ending) → ending_by e ≡ Some ending → ReadsEnd (at.entries + 1) r r' s s' (Err refusal) → Refuses P r' start s' refusal
    end_missing r' s' (refusals.Misfit entry Extra) ending ends (number, (x, h)) =
        let read = next_read start s s' r r' (trace P I (suc n)) x room read_so_far h in
        subst (λ k. HasMisfit P r' start s' k Extra) (sym (number ∙ ap (λ k. k + 1) counted_next)) (record {
          reading = read.reading;
          stated = stated_map (λ bytes. EntriesAreRead bytes (trace P I (suc n) ++ x ∷ []) (ahead r' s')) (λ bytes. IsMisfit P bytes true (length (trace P I (suc n)) + 1) Extra) start.rest read.stated
              (λ bytes there k.
              let spells = spelled_next bytes (trace P I (suc n)) x (ahead r' s') k in
              differs_run P I start is.valid (suc n) bytes (Some x ∷ spells.0) (trace P I (suc n)) [] Extra (header_here bytes there) spells.1 (whole_here ending ends) (sym (append-nil (trace P I (suc n)))) refl);
          count = read.count ∙ length-append (trace P I (suc n)) (x ∷ []);
        })
    end_missing r' s' (refusals.Misfit entry Malformed) ending ends (number, bad) =
        subst (λ k. HasMisfit P r' start s' k Malformed) (sym (number ∙ ap (λ k. k + 1) counted_next)) (record {
          reading = reads_more start s s' read_so_far.reading bad.reading;
          stated = stated_map (λ bytes. EntriesAreRead bytes (trace P I (suc n)) (ahead r s)) (λ bytes. IsMisfit P bytes true (length (trace P I (suc n)) + 1) Malformed) start.rest read_so_far.stated
              (λ bytes there k.
              let spells = spelled_malformed bytes (trace P I (suc n)) r s k bad.entries in
              differs_run P I start is.valid (suc n) bytes (None ∷ spells.0) (trace P I (suc n)) [] Malformed (header_here bytes there) spells.1 (whole_here ending ends) (sym (append-nil (trace P I (suc n)))) refl);
          count = bad.count ∙ ap one_more read_so_far.count ∙ fits_more (length (trace P I (suc n))) room;
        })
    end_missing r' s' (refusals.Misfit entry Differs) ending ends h = absurd h
    end_missing r' s' (refusals.Misfit entry Early) ending ends h = absurd h
    end_missing r' s' refusals.ReadFault ending ends f = read_fault P I start is.valid (suc n) r r' s s' read_so_far f
    end_missing r' s' refusals.NoMemory ending ends h = absurd h
