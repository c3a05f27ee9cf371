-- What reading one more entry of a trace answers.
use Rattle.std.specs.Prelude.{◌≡◌, ◌+◌, ℕ, Option, Some, None, Result, Ok, Err}
use Rattle.hip_io.specs.Cabinets.{CabinetState}
use Rattle.hip_run_traces.specs.declared.misfit.MisfitKind.TheVariants.{Malformed, Differs, Early, Extra}
use Rattle.hip_trace.specs.Reads.{ReaderState, HasNext, HasNone, HasMalformed, ReadHasFailed}
use Rattle.hip_trace.specs.declared.entry.Entry.{Entry}
use Rattle.hip_trace.specs.declared.refusal.TraceRefusal.{TraceRefusal}
use Rattle.hip_trace.specs.declared.refusal.TraceRefusal.TheVariants as unread
use Rattle.hip_lockstep.specs.declared.refusal.ReplayRefusal.{ReplayRefusal}
use Rattle.hip_lockstep.specs.declared.refusal.ReplayRefusal.TheVariants as refusals

-- The entry that was read after `count` others, or why there is none.
abbrev pub FindsEntry : ℕ → Result (Option Entry) TraceRefusal → Result Entry ReplayRefusal → Type 0
FindsEntry count (Ok (Some e)) result = result ≡ Ok e
FindsEntry count (Ok None) result = result ≡ Err (refusals.Misfit (count + 1) Early)
FindsEntry count (Err unread.Malformed) result = result ≡ Err (refusals.Misfit (count + 1) Malformed)
FindsEntry count (Err unread.ReadFault) result = result ≡ Err refusals.ReadFault

-- Nothing was read after `count` entries, or why something was.
abbrev pub EndsHere : ℕ → Result (Option Entry) TraceRefusal → Result (Unit {0}) ReplayRefusal → Type 0
EndsHere count (Ok (Some e)) result = result ≡ Err (refusals.Misfit (count + 1) Extra)
EndsHere count (Ok None) result = result ≡ Ok tt
EndsHere count (Err unread.Malformed) result = result ≡ Err (refusals.Misfit (count + 1) Malformed)
EndsHere count (Err unread.ReadFault) result = result ≡ Err refusals.ReadFault

-- An entry after `count` others, or the cause why there is none.
abbrev pub ReadsEntry : ℕ → ReaderState → ReaderState → CabinetState → CabinetState
    → Result Entry ReplayRefusal
    → Type 0
ReadsEntry count r r' s s' (Ok e) = HasNext r r' s s' e
ReadsEntry count r r' s s' (Err (refusals.Misfit entry Early)) = (entry ≡ count + 1) × HasNone r r' s s'
ReadsEntry count r r' s s' (Err (refusals.Misfit entry Malformed)) = (entry ≡ count + 1) × HasMalformed r r' s s'
ReadsEntry count r r' s s' (Err (refusals.Misfit entry Differs)) = ⊥
ReadsEntry count r r' s s' (Err (refusals.Misfit entry Extra)) = ⊥
ReadsEntry count r r' s s' (Err refusals.ReadFault) = ReadHasFailed r r' s s'
ReadsEntry count r r' s s' (Err refusals.NoMemory) = ⊥

-- An entry after n others, which is kept, or the cause why there is none.
abbrev pub KeepsEntry : ℕ → ReaderState → ReaderState → CabinetState → CabinetState → Entry
    → Result (Unit {0}) ReplayRefusal
    → Type 0
KeepsEntry count r r' s s' kept (Ok _) = HasNext r r' s s' kept
KeepsEntry count r r' s s' kept (Err refusal) = ReadsEntry count r r' s s' (Err refusal)

-- Some entry was read where the file should have ended.
abbrev pub HasMore : ReaderState → ReaderState → CabinetState → CabinetState → Type 0
HasMore r r' s s' = (e : Entry) × HasNext r r' s s' e

-- The end of the file after `count` entries, or the cause why the file does not end there.
abbrev pub ReadsEnd : ℕ → ReaderState → ReaderState → CabinetState → CabinetState
    → Result (Unit {0}) ReplayRefusal
    → Type 0
ReadsEnd count r r' s s' (Ok _) = HasNone r r' s s'
ReadsEnd count r r' s s' (Err (refusals.Misfit entry Extra)) = (entry ≡ count + 1) × HasMore r r' s s'
ReadsEnd count r r' s s' (Err (refusals.Misfit entry Malformed)) = (entry ≡ count + 1) × HasMalformed r r' s s'
ReadsEnd count r r' s s' (Err (refusals.Misfit entry Differs)) = ⊥
ReadsEnd count r r' s s' (Err (refusals.Misfit entry Early)) = ⊥
ReadsEnd count r r' s s' (Err refusals.ReadFault) = ReadHasFailed r r' s s'
ReadsEnd count r r' s s' (Err refusals.NoMemory) = ⊥
