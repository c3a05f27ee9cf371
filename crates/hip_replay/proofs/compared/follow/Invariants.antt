use Rattle.std.proofs.Common.{◌≡◌, true}
use Rattle.hip_io.specs.Cabinets.{CabinetState}
use Rattle.hip_lockstep.specs.InStep.{IsInStep}
use Rattle.hip_report.specs.TrackerView.{HasNoted}
use Rattle.hip_lockstep.proofs.Going.{steps_ahead}
use Rattle.hip_replay.proofs.compared.follow.Given as goal

abbrev pub invariant-steps : goal.invariant-steps
invariant-steps g l = record {
  program : l.machine.program ≡ l.fn.machine.program;
  input : l.machine.input ≡ l.fn.machine.input;
  current : (g.C.Cabinet.state l.cabinet).is_current ≡ true;
  so_far : (start : CabinetState) → IsInStep l.fn.machine.program l.fn.machine.input start l.fn.machine.taken l.fn.reader (g.C.Cabinet.state l.fn.cabinet) l.fn.lockstep → IsInStep l.fn.machine.program l.fn.machine.input start l.machine.taken l.reader (g.C.Cabinet.state l.cabinet) l.lockstep;
  noted : HasNoted l.tracker l.machine;
  header : l.tracker.header ≡ l.fn.tracker.header;
  sought : l.tracker.sought ≡ l.fn.tracker.sought;
}

abbrev pub decreases-steps : goal.decreases-steps
decreases-steps g l = steps_ahead l.fn.machine.program l.fn.machine.input l.machine.taken
