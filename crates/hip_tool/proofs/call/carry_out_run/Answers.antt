use Rattle.std.proofs.Common.{ℕ, List, Some, true, sym, subst}
use Rattle.hip_command_io.specs.Results.{GivesResult}
use Rattle.hip_run_commands.specs.Crash.{CrashAnswers}
use Rattle.hip_run_commands.specs.Record.{RecordAnswers}
use Rattle.hip_run_commands.specs.Run.{RunAnswers}
use Rattle.hip_tool.proofs.Named.{named}
use Rattle.hip_tool.specs.Call.{AnswersTo, begins}
use Rattle.hip_tool.proofs.call.carry_out_run.Goals as goal

pub returns-in-Crash-clause-gives : goal.returns-in-Crash-clause-gives
returns-in-Crash-clause-gives g c =
    let old = g.C.Cabinet.state c.args.cabinet.now in
    let new = g.C.Cabinet.state c.crash_file.new.cabinet in
    let out = g.S.Sink.state c.args.out.now in
    let out_new = g.S.Sink.state c.crash_file.new.out in
    subst (λ o. GivesResult (AnswersTo (Some o) old new) (begins (Some o)) old new out out_new c.crash_file.result)
    (sym c.in-Crash.is)
    (named (λ p t. CrashAnswers old new p t c.in-Crash.entry c.in-Crash.picks) true old new c.crash_file.result c.as_str-in-Crash.ensures c.as_str-in-Crash-2.ensures
    c.crash_file.ensures.gives)

pub returns-in-Run-clause-gives : goal.returns-in-Run-clause-gives
returns-in-Run-clause-gives g c =
    let old = g.C.Cabinet.state c.args.cabinet.now in
    let new = g.C.Cabinet.state c.run_file.new.cabinet in
    let out = g.S.Sink.state c.args.out.now in
    let out_new = g.S.Sink.state c.run_file.new.out in
    subst (λ o. GivesResult (AnswersTo (Some o) old new) (begins (Some o)) old new out out_new c.run_file.result)
    (sym c.in-Run.is)
    (subst (λ (p : List ℕ). GivesResult (RunAnswers old new p c.in-Run.limit c.in-Run.numbers) true old new out out_new c.run_file.result) c.as_str.ensures
    c.run_file.ensures.gives)

pub returns-in-Record-clause-gives : goal.returns-in-Record-clause-gives
returns-in-Record-clause-gives g c =
    let old = g.C.Cabinet.state c.args.cabinet.now in
    let new = g.C.Cabinet.state c.record_file.new.cabinet in
    let out = g.S.Sink.state c.args.out.now in
    let out_new = g.S.Sink.state c.record_file.new.out in
    subst (λ o. GivesResult (AnswersTo (Some o) old new) (begins (Some o)) old new out out_new c.record_file.result)
    (sym c.in-Record.is)
    (subst (λ (p : List ℕ). GivesResult (RecordAnswers old new p c.in-Record.base c.in-Record.limit c.in-Record.numbers) true old new out out_new c.record_file.result) c.as_str-in-Record.ensures
    c.record_file.ensures.gives)
