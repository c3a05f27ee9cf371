use Rattle.std.proofs.Common.{Option, sym, ◌∙◌, ap, is_some, subst}
use Rattle.hip_types.specs.Distinct.{met}
use Rattle.hip_runs.specs.Found.Marks.{same_mark}
use Rattle.hip_runs.specs.Seen.{state_of}
use Rattle.hip_runner.specs.Quiet.{next_event}
use Rattle.hip_ledger.specs.Sights.{marks_ahead}
use Rattle.hip_ledger.proofs.MarksAtHand.{unless_alike}
use Rattle.hip_report.specs.BeforeStep.{TellsGlobal}
use Rattle.hip_report.specs.declared.sight.Target.{Target}
use Rattle.hip_report.proofs.sight.look_at_others.Goals as goal

pub returns : goal.returns
returns c =
    let m = c.args.machine.now in
    let before = c.args.ledger.now.marks.keys in
    record {
      ended = sym c.if-is_some.false ∙ c.is_some.ensures ∙ ap is_some c.ending.ensures;
      site = c.site-site.ensures;
      marks = λ k. unless_alike (next_event m) before c.nothing_pointed.result.marks (marks_ahead m.program m.input (state_of m))
          (ap (met same_mark before) c.nothing_pointed.ensures.marks ∙ c.has_known_marks.ensures c.if-not-has_known_marks.false);
      last = subst (λ (o : Option Target). TellsGlobal m.program m.input o) (sym c.nothing_pointed.ensures.last) tt;
    }
