use Rattle.std.proofs.Common.{[], ◌∷◌, ◌++◌, sym, subst}
use Rattle.std.proofs.lemmas.Result.{err_from_is_err_and}
use Rattle.hip_io.specs.Cabinets.{CabinetState}
use Rattle.hip_lockstep.specs.Laws.Openings.{stopped_after}
use Rattle.hip_lockstep.specs.InStep.{IsInStep}
use Rattle.hip_run_traces.specs.Traces.{header_of}
use Rattle.hip_replay.proofs.Followed.{begins_in_step}
use Rattle.hip_replay.specs.Replays.{Follows}
use Rattle.hip_replay.proofs.compared.run_beside.Goals as goal

pub returns-in_err-machine : goal.returns-in_err-machine
returns-in_err-machine g c = λ start h.
    let p = err_from_is_err_and c.from_residual.result c.from_residual.ensures.1 in
    rw (p.1, p.2)
    (stopped_after start c.args.reader.now (g.C.Cabinet.state c.args.cabinet.now) (header_of c.args.input.now ++ c.args.lockstep.next ∷ []) h.read)

pub note_beside-requires-clause-begun : goal.note_beside-requires-clause-begun
note_beside-requires-clause-begun g c = (
  c.requires.begun.0,
  subst (λ m. IsInStep m.program m.input c.requires.begun.0 0 c.args.reader.now (g.C.Cabinet.state c.args.cabinet.now) c.args.lockstep) (sym c.in_ok-machine.ensures)
      (begins_in_step c.args.searched.checked.now c.requires.begun.0 c.args.reader.now (g.C.Cabinet.state c.args.cabinet.now) (record { input = c.args.input.now; lockstep = c.args.lockstep }) c.requires.begun.1),
)

pub returns : goal.returns
returns g c = λ start h.
    (subst (λ m. (start : CabinetState) → IsInStep m.program m.input start 0 c.args.reader.now (g.C.Cabinet.state c.args.cabinet.now) c.args.lockstep → Follows m.program m.input c.args.searched.sought start c.note_beside.new.reader (g.C.Cabinet.state c.note_beside.new.cabinet) c.note_beside.result) c.in_ok-machine.ensures c.note_beside.ensures)
    start
    (begins_in_step c.args.searched.checked.now start c.args.reader.now (g.C.Cabinet.state c.args.cabinet.now) (record { input = c.args.input.now; lockstep = c.args.lockstep }) h)
