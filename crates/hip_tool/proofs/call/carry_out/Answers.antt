use Rattle.std.proofs.Common.{Some, false, true, ◌+◌, length, inl, refl, ap, sym, subst}
use Rattle.hip_answers.specs.Fetches.{FetchesFiles, fetches_by}
use Rattle.hip_command_io.specs.ResultLaws.{given_with_all}
use Rattle.hip_command_io.specs.Results.{GivesResult, status_of}
use Rattle.hip_repair_answers.specs.Answers.{CheckAnswers, RepairAnswers, RerunAnswers}
use Rattle.hip_repair_commands.specs.Many.{ManyAnswers}
use Rattle.hip_repair_commands.specs.Thin.{ThinAnswers}
use Rattle.hip_tool.proofs.Named.{named}
use Rattle.hip_tool.specs.Call.{AnswersTo, begins, files_of}
use Rattle.hip_tool.proofs.call.carry_out.Goals as goal

pub returns-in-Demo-clause-gives : goal.returns-in-Demo-clause-gives
returns-in-Demo-clause-gives g c =
    let files = g.C.Cabinet.state c.args.cabinet.now in
    subst (λ o. GivesResult (AnswersTo (Some o) files files) (begins (Some o)) files files (g.S.Sink.state c.args.out.now)
    (g.S.Sink.state c.demo.new.out) c.demo.result) (sym c.in-Demo.is) (c.demo.ensures.gives files)

pub returns-in-Many-clause-gives : goal.returns-in-Many-clause-gives
returns-in-Many-clause-gives g c =
    let old = g.C.Cabinet.state c.args.cabinet.now in
    let new = g.C.Cabinet.state c.many_file.new.cabinet in
    let out = g.S.Sink.state c.args.out.now in
    let out_new = g.S.Sink.state c.many_file.new.out in
    subst (λ o. GivesResult (AnswersTo (Some o) old new) (begins (Some o)) old new out out_new c.many_file.result)
    (sym c.in-Many.is)
    (subst (λ names. GivesResult (ManyAnswers old new c.in-Many.program names) false old new out out_new c.many_file.result)
    c.as_slice.ensures
    (subst (λ p. GivesResult (ManyAnswers old new p c.as_slice.result.now) false old new out out_new c.many_file.result)
    c.as_str-in-Many.ensures c.many_file.ensures.gives))

pub returns-in-Demo-clause-fetches : goal.returns-in-Demo-clause-fetches
returns-in-Demo-clause-fetches g c =
    let files = g.C.Cabinet.state c.args.cabinet.now in
    subst (λ o. FetchesFiles (files_of (Some o)) (status_of c.demo.result) files files) (sym c.in-Demo.is)
    (given_with_all 0 c.demo.result (inl (refl, refl)) (λ a h. ap (fetches_by 0) h.status_is) (c.demo.ensures.gives files))

pub returns-in-Many-clause-fetches : goal.returns-in-Many-clause-fetches
returns-in-Many-clause-fetches g c =
    let old = g.C.Cabinet.state c.args.cabinet.now in
    let new = g.C.Cabinet.state c.many_file.new.cabinet in
    subst (λ o. FetchesFiles (files_of (Some o)) (status_of c.many_file.result) old new) (sym c.in-Many.is)
    (subst (λ names. FetchesFiles (1 + length names) (status_of c.many_file.result) old new) c.as_slice.ensures
    c.many_file.ensures.fetches)

pub returns-in-Check-clause-gives : goal.returns-in-Check-clause-gives
returns-in-Check-clause-gives g c =
    let old = g.C.Cabinet.state c.args.cabinet.now in
    let new = g.C.Cabinet.state c.check_file.new.cabinet in
    let out = g.S.Sink.state c.args.out.now in
    let out_new = g.S.Sink.state c.check_file.new.out in
    subst (λ o. GivesResult (AnswersTo (Some o) old new) (begins (Some o)) old new out out_new c.check_file.result)
    (sym c.in-Check.is)
    (named (λ p t. CheckAnswers old new p t) false old new c.check_file.result c.as_str.ensures c.as_str-in-Check.ensures
    c.check_file.ensures.gives)

pub returns-in-Repair-clause-gives : goal.returns-in-Repair-clause-gives
returns-in-Repair-clause-gives g c =
    let old = g.C.Cabinet.state c.args.cabinet.now in
    let new = g.C.Cabinet.state c.repair_file.new.cabinet in
    let out = g.S.Sink.state c.args.out.now in
    let out_new = g.S.Sink.state c.repair_file.new.out in
    subst (λ o. GivesResult (AnswersTo (Some o) old new) (begins (Some o)) old new out out_new c.repair_file.result)
    (sym c.in-Repair.is)
    (named (λ p t. RepairAnswers old new p t) false old new c.repair_file.result c.as_str-in-Repair.ensures c.as_str-in-Repair-2.ensures
    c.repair_file.ensures.gives)

pub returns-in-Rerun-clause-gives : goal.returns-in-Rerun-clause-gives
returns-in-Rerun-clause-gives g c =
    let old = g.C.Cabinet.state c.args.cabinet.now in
    let new = g.C.Cabinet.state c.rerun_file.new.cabinet in
    let out = g.S.Sink.state c.args.out.now in
    let out_new = g.S.Sink.state c.rerun_file.new.out in
    subst (λ o. GivesResult (AnswersTo (Some o) old new) (begins (Some o)) old new out out_new c.rerun_file.result)
    (sym c.in-Rerun.is)
    (named (λ p t. RerunAnswers old new p t) true old new c.rerun_file.result c.as_str-in-Rerun.ensures c.as_str-in-Rerun-2.ensures
    c.rerun_file.ensures.gives)

pub returns-in-Thin-clause-gives : goal.returns-in-Thin-clause-gives
returns-in-Thin-clause-gives g c =
    let old = g.C.Cabinet.state c.args.cabinet.now in
    let new = g.C.Cabinet.state c.thin_file.new.cabinet in
    let out = g.S.Sink.state c.args.out.now in
    let out_new = g.S.Sink.state c.thin_file.new.out in
    subst (λ o. GivesResult (AnswersTo (Some o) old new) (begins (Some o)) old new out out_new c.thin_file.result)
    (sym c.in-Thin.is)
    (named (λ p t. ThinAnswers old new p t) false old new c.thin_file.result c.as_str-in-Thin.ensures c.as_str-in-Thin-2.ensures
    c.thin_file.ensures.gives)
