-- A machine that follows a trace.
use Rattle.std.proofs.Common.{◌≡◌, ℕ, [], ◌∷◌, ◌++◌, length, Option, is_some, refl, sym, ap, ◌∙◌, subst}
use Rattle.hip_io.specs.Cabinets.{CabinetState}
use Rattle.hip_tree.specs.declared.program.Program.{Program}
use Rattle.hip_lockstep.specs.InStep.{HasFollowed, IsInStep}
use Rattle.hip_lockstep.specs.HeaderInput.{HasHeader}
use Rattle.hip_lockstep.specs.ReadEntries.{HasReadEntries}
use Rattle.hip_lockstep.specs.Refusals.{HasStoppedReplay}
use Rattle.hip_lockstep.specs.declared.header_input.Begun.{Begun}
use Rattle.hip_run_traces.specs.Traces.{header_of, trace}
use Rattle.hip_runs.specs.declared.event.Ending.{Ending}
use Rattle.hip_runs.specs.declared.input.Input.{Input}
use Rattle.hip_trace.specs.Reads.{ReaderState}
use Rattle.hip_lockstep.proofs.Going.{starts}
use Rattle.hip_ledger.specs.declared.sought.Sought.{Sought}
use Rattle.hip_replay.specs.Replays.{HasFound, HasReplayed}
use Rattle.hip_replay.specs.declared.compared.Followed.{Followed}

pub trace_zero : (P : Program) (I : Input) → trace P I 0 ≡ header_of I
unfolding trace
trace_zero P I = refl

-- After the header, and before the first step, the run and the trace are in step.
pub begins_in_step : (P : Program) (start : CabinetState) (r : ReaderState) (s : CabinetState) (begun : Begun) → HasHeader P start r s begun → IsInStep P begun.input start 0 r s begun.lockstep
begins_in_step P start r s begun h = record {
  valid = h.valid;
  going = (starts P begun.input).going;
  read = subst (λ es. HasReadEntries start r s (es ++ begun.lockstep.next ∷ [])) (sym (trace_zero P begun.input)) h.read;
  counted = h.counted ∙ ap (λ es. length es) (sym (trace_zero P begun.input));
  header = h.header;
}

-- A run that was followed to its end was replayed.
pub replayed_by : (P : Program) (start : CabinetState) (r0 r : ReaderState) (s0 s : CabinetState) (begun : Begun) (sought : Sought) (followed : Followed) → HasHeader P start r0 s0 begun → HasFound P begun.input sought start r s followed → HasReplayed P sought r start s (record { input = begun.input; findings = followed.findings; ending = followed.ending; entries = followed.entries })
replayed_by P start r0 r s0 s begun sought followed h f = record {
  reading = f.over.reading;
  valid = h.valid;
  found = f.found;
  trace = trace P begun.input f.steps;
  is_trace = record { steps = f.steps; ended = ap (λ (o : Option Ending). is_some o) f.over.ended; are = refl };
  ended = f.over.ended;
  entries = f.over.counted;
  stated = f.over.stated;
  left = f.over.left;
  count = f.over.begun;
  progress = f.over.progress;
}

-- Memory ran out, after the file was read to its end.
pub stopped_over : (P : Program) (I : Input) (start : CabinetState) (n : ℕ) (r : ReaderState) (s : CabinetState) (entries : ℕ) (ending : Ending) → HasFollowed P I start n r s entries ending → HasStoppedReplay start s
stopped_over P I start n r s entries ending h = record { reading = h.reading }
