use Rattle.std.proofs.Common.{ap, sym, ◌∙◌}
use Rattle.hip_types.specs.Distinct.{met}
use Rattle.hip_runs.specs.Found.Marks.{same_mark}
use Rattle.hip_runs.specs.Seen.{state_of}
use Rattle.hip_ledger.proofs.MarksAhead.{none_ahead, none_pointed}
use Rattle.hip_report.proofs.sight.has_known_marks.Goals as goal

pub returns-then-not-may_point : goal.returns-then-not-may_point
returns-then-not-may_point c true =
    let m = c.args.machine.now in
    ap (met same_mark c.args.ledger.now.marks.keys) (sym (none_pointed m.program m.input (state_of m) (c.may_point.ensures c.if-not-may_point.true 0)))

pub are_known-requires-clause-site : goal.are_known-requires-clause-site
are_known-requires-clause-site c = sym c.requires.site ∙ c.in-Some.is

pub returns-in-None : goal.returns-in-None
returns-in-None c true =
    let m = c.args.machine.now in
    ap (met same_mark c.args.ledger.now.marks.keys) (sym (none_ahead m.program m.input (state_of m) (sym c.requires.site ∙ c.in-None.is)))
