use Rattle.std.proofs.Common.{refl, sym, ap, ◌∙◌, subst}
use Rattle.std.proofs.lemmas.Result.{err_from_is_err_and}
use Rattle.hip_run_traces.specs.Laws.TraceLaws.{length-header_of}
use Rattle.hip_ledger.specs.SoughtFindings.{Finds}
use Rattle.hip_runs.specs.Step.{header_entries}
use Rattle.hip_sound.specs.Sound.{IsSound}
use Rattle.hip_lockstep.proofs.Rooms.{header_small}
use Rattle.hip_replay.proofs.TraceTexts.{ran_out, stopped_header, stopped_whole}
use Rattle.hip_report.specs.TrackerView.{HasNoted, Tracked}
use Rattle.hip_replay.proofs.record.record_steps.Goals as goal

pub returns-in-Err-clause-records : goal.returns-in-Err-clause-records
returns-in-Err-clause-records g c = λ start h.
    ran_out (g.S.Sink.state c.out_of_memory.new.out) c.out_of_memory.result (stopped_header c.args.machine.now.program c.args.machine.now.input start (g.S.Sink.state c.args.out.now) h) c.out_of_memory.ensures.ends

pub new-requires : goal.new-requires
new-requires g c = header_small c.args.machine.now.program c.args.machine.now.input (subst (λ p. IsSound p) c.checked.ensures c.program-program.ensures.sound) c.requires.valid (c.runs_are_bounded.ensures.bounded c.args.machine.now.program c.args.machine.now.input) c.args.header c.requires.counted

pub returns-in_err-ended-clause-records : goal.returns-in_err-ended-clause-records
returns-in_err-ended-clause-records g c = λ start h.
    let p = err_from_is_err_and c.from_residual.result c.from_residual.ensures.1 in
    rw (p.1, p.2) (c.in_err-ended.ensures.trace start h)

pub put_noted-requires-clause-noted : goal.put_noted-requires-clause-noted
put_noted-requires-clause-noted g c = subst (λ (t : Tracked). HasNoted t c.args.machine.now) (sym c.in-Ok.ensures) (record { working = refl; all = c.requires.fresh })

pub close-requires-clause-header : goal.close-requires-clause-header
close-requires-clause-header g c =
    c.in_ok-ended.ensures.ended.header ∙ ap (λ (t : Tracked). t.header) c.in-Ok.ensures ∙ c.requires.counted
    ∙ length-header_of c.args.machine.now.input ∙ ap header_entries (sym c.in_ok-ended.ensures.ended.input)

pub returns-clause-records : goal.returns-clause-records
returns-clause-records g c = λ start h. record {
  put = c.in_ok-ended.ensures.trace start h;
  found =
      subst (λ w. Finds w c.args.machine.now.program c.args.machine.now.input c.in_ok-findings.findings) (c.in_ok-ended.ensures.ended.sought ∙ ap (λ (t : Tracked). t.sought) c.in-Ok.ensures)
      (subst (λ p. Finds c.put_noted.new.tracker.sought p c.args.machine.now.input c.in_ok-findings.findings) c.in_ok-ended.ensures.ended.program
      (subst (λ i. Finds c.put_noted.new.tracker.sought c.put_noted.new.machine.program i c.in_ok-findings.findings) c.in_ok-ended.ensures.ended.input c.in_ok-findings.ensures));
}

pub returns-in_err-findings-clause-records : goal.returns-in_err-findings-clause-records
returns-in_err-findings-clause-records g c = λ start h.
    let p = err_from_is_err_and c.from_residual-in_err-findings.result c.from_residual-in_err-findings.ensures.1 in
    rw (p.1, p.2)
    (stopped_whole c.args.machine.now.program c.args.machine.now.input start (g.S.Sink.state c.put_noted.new.out) c.in_ok-ended.ended
    (c.in_ok-ended.ensures.trace start h))
