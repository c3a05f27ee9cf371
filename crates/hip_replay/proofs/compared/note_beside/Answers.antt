use Rattle.std.proofs.Common.{[], ◌∷◌, ◌++◌, length, sym, ap, ◌∙◌, subst}
use Rattle.std.proofs.lemmas.Result.{err_from_is_err_and}
use Rattle.hip_lockstep.specs.Laws.Openings.{stopped_after}
use Rattle.hip_lockstep.specs.InStep.{IsInStep}
use Rattle.hip_run_traces.specs.Laws.TraceLaws.{length-header_of}
use Rattle.hip_run_traces.specs.Traces.{trace}
use Rattle.hip_ledger.specs.SoughtFindings.{Finds}
use Rattle.hip_report.specs.TrackerView.{Tracked}
use Rattle.hip_runs.specs.Step.{header_entries}
use Rattle.hip_sound.specs.Sound.{IsSound}
use Rattle.hip_replay.proofs.Followed.{stopped_over, trace_zero}
use Rattle.hip_lockstep.proofs.Rooms.{header_small}
use Rattle.hip_replay.proofs.compared.note_beside.Goals as goal

pub new-requires : goal.new-requires
new-requires g c = header_small c.args.machine.now.program c.args.machine.now.input (subst (λ p. IsSound p) c.checked.ensures c.program-program.ensures.sound) c.requires.begun.1.valid (c.runs_are_bounded.ensures.bounded c.args.machine.now.program c.args.machine.now.input) c.args.lockstep.entries (c.requires.begun.1.counted ∙ ap (λ es. length es) (trace_zero c.args.machine.now.program c.args.machine.now.input))

pub returns-in_err-tracker : goal.returns-in_err-tracker
returns-in_err-tracker g c = λ start h.
    let p = err_from_is_err_and c.from_residual.result c.from_residual.ensures.1 in
    rw (p.1, p.2)
    (stopped_after start c.args.reader.now (g.C.Cabinet.state c.args.cabinet.now) (trace c.args.machine.now.program c.args.machine.now.input 0 ++ c.args.lockstep.next ∷ []) h.read)

pub follow-requires-clause-begun : goal.follow-requires-clause-begun
follow-requires-clause-begun g c = let start = c.requires.begun.0 in let h = c.requires.begun.1 in (start, (subst (λ n. IsInStep c.args.machine.now.program c.args.machine.now.input start n c.args.reader.now (g.C.Cabinet.state c.args.cabinet.now) c.args.lockstep) (sym c.requires.fresh) h))

pub returns-in_err-ended : goal.returns-in_err-ended
returns-in_err-ended g c = λ start h.
    let p = err_from_is_err_and c.from_residual-in_err-ended.result c.from_residual-in_err-ended.ensures.1 in
    rw (p.1, p.2)
    (c.in_err-ended.ensures.steps start (subst (λ n. IsInStep c.args.machine.now.program c.args.machine.now.input start n c.args.reader.now (g.C.Cabinet.state c.args.cabinet.now) c.args.lockstep) (sym c.requires.fresh) h))

pub close-requires-clause-header : goal.close-requires-clause-header
close-requires-clause-header g c =
    c.in_ok-ended.ensures.over.header ∙ ap (λ t. t.header) c.in_ok-tracker.ensures ∙ (c.requires.begun.1.counted ∙ ap (λ es. length es) (trace_zero c.args.machine.now.program c.args.machine.now.input)) ∙ length-header_of c.args.machine.now.input
    ∙ ap header_entries (sym c.in_ok-ended.ensures.over.input)

pub returns : goal.returns
returns g c = λ start h.
    let f = c.in_ok-ended.ensures.steps start (subst (λ n. IsInStep c.args.machine.now.program c.args.machine.now.input start n c.args.reader.now (g.C.Cabinet.state c.args.cabinet.now) c.args.lockstep) (sym c.requires.fresh) h) in
    record {
      steps = f.0;
      over = f.1;
      found =
          subst (λ w. Finds w c.args.machine.now.program c.args.machine.now.input c.in_ok-findings.findings) (c.in_ok-ended.ensures.over.sought ∙ ap (λ (t : Tracked). t.sought) c.in_ok-tracker.ensures)
          (subst (λ p. Finds c.follow.new.tracker.sought p c.args.machine.now.input c.in_ok-findings.findings) c.in_ok-ended.ensures.over.program
          (subst (λ i. Finds c.follow.new.tracker.sought c.follow.new.machine.program i c.in_ok-findings.findings) c.in_ok-ended.ensures.over.input c.in_ok-findings.ensures));
    }

pub returns-in_err-findings : goal.returns-in_err-findings
returns-in_err-findings g c = λ start h.
    let f = c.in_ok-ended.ensures.steps start (subst (λ n. IsInStep c.args.machine.now.program c.args.machine.now.input start n c.args.reader.now (g.C.Cabinet.state c.args.cabinet.now) c.args.lockstep) (sym c.requires.fresh) h) in
    let p = err_from_is_err_and c.from_residual-in_err-findings.result c.from_residual-in_err-findings.ensures.1 in
    rw (p.1, p.2)
    (stopped_over c.args.machine.now.program c.args.machine.now.input start f.0 c.follow.new.reader (g.C.Cabinet.state c.follow.new.cabinet) c.in_ok-ended.ended.entries c.in_ok-ended.ended.ending f.1)
