use Rattle.std.proofs.Common.{Option, ◌∙◌, ap, subst, sym}
use Rattle.hip_types.specs.Distinct.{met}
use Rattle.hip_runs.specs.Found.Marks.{same_mark}
use Rattle.hip_runs.specs.Seen.{state_of}
use Rattle.hip_ledger.specs.Sights.{AddAlike, marks_to}
use Rattle.hip_report.specs.BeforeStep.{TellsGlobal}
use Rattle.hip_report.specs.declared.sight.Target.{Target}
use Rattle.hip_report.proofs.Sighted.{all_marked, one_marked}
use Rattle.hip_report.proofs.sight.pointed_among.Goals as goal

pub operands-init : goal.operands-init
operands-init c =
    let m = c.args.machine.now in
    record {
      marks = ap (met same_mark c.args.ledger.now.marks.keys) c.nothing_pointed-pointed.ensures.marks;
      last = subst (λ (o : Option Target). TellsGlobal m.program m.input o) (sym c.nothing_pointed-pointed.ensures.last) tt;
    }

pub operands-preserved : goal.operands-preserved
operands-preserved c =
    let m = c.args.machine.now in
    let before = c.args.ledger.now.marks.keys in
    record {
      marks = subst (λ k. AddAlike before c.push_operand.new.pointed.marks (marks_to m.program m.input (state_of m) c.args.site k)) (sym c.in_ok-next-in-Some.ensures)
          (one_marked m.program m.input (state_of m) c.args.site before c.operands.pointed.marks c.push_operand.new.pointed.marks c.operands.operand c.in-Some.addr (sym (c.requires.values c.operands.operand) ∙ sym c.in-Some.ensures)
          c.operands.invariant.marks c.in_ok-push_operand-in-Some.ensures.marks);
      last = c.in_ok-push_operand-in-Some.ensures.last;
    }

pub returns-in-None-clause-marks : goal.returns-in-None-clause-marks
returns-in-None-clause-marks c =
    let m = c.args.machine.now in
    all_marked m.program m.input (state_of m) c.args.site c.args.ledger.now.marks.keys c.operands.pointed.marks c.operands.operand c.requires.site (sym (c.requires.values c.operands.operand) ∙ sym c.in-None.ensures) c.operands.invariant.marks
