use Rattle.std.proofs.Common.{◌+◌, ap, arith, subst, sym}
use Rattle.hip_runs.specs.Seen.{Seen}
use Rattle.hip_ledger.specs.Noted.{IsLedger}
use Rattle.hip_ledger.specs.declared.ledger.Ledger.{Ledger}
use Rattle.hip_report.proofs.Plainly.{noted_passed, passed_few, plainly_quiet}
use Rattle.hip_report.proofs.plain_steps.pass_plainly.Goals as goal

pub count_steps-requires : goal.count_steps-requires
count_steps-requires c =
    let m = c.args.machine.now in
    let k = c.pass_plain_steps-count.result in
    passed_few m c.pass_plain_steps-count.new.self k c.pass_plain_steps-count.ensures c.args.ledger.now c.requires.noted
    (c.runs_are_bounded.ensures.bounded m.program m.input (m.taken + k)) c.input-input.ensures.valid.limit c.requires.short

pub returns-clause-passes : goal.returns-clause-passes
returns-clause-passes c = plainly_quiet c.args.machine.now c.pass_plain_steps-count.new.self c.pass_plain_steps-count.result c.pass_plain_steps-count.ensures

pub returns-clause-noted : goal.returns-clause-noted
returns-clause-noted c =
    let m = c.pass_plain_steps-count.new.self in
    subst (λ (x : Ledger). IsLedger m.program m.input m.taken x) (sym c.count_steps.ensures)
    (noted_passed c.args.machine.now m c.pass_plain_steps-count.result c.pass_plain_steps-count.ensures c.args.ledger.now c.requires.noted)

pub returns-clause-few : goal.returns-clause-few
returns-clause-few c =
    let m = c.args.machine.now in
    let k = c.pass_plain_steps-count.result in
    let few = passed_few m c.pass_plain_steps-count.new.self k c.pass_plain_steps-count.ensures c.args.ledger.now c.requires.noted
    (c.runs_are_bounded.ensures.bounded m.program m.input (m.taken + k)) c.input-input.ensures.valid.limit c.requires.short in
    let taken = ap (λ (x : Seen). x.taken) c.pass_plain_steps-count.ensures.is in
    let steps = c.requires.noted.steps in
    omega (arith, few, taken, steps)
