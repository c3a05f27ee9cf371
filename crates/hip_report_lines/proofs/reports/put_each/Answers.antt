use Rattle.std.proofs.Common.{◌++◌, [], sym, ap, ◌∙◌, append_assoc, append-nil}
use Rattle.hip_io.specs.Laws.SinkLaws.{and_then, same_text, writes_nothing}
use Rattle.hip_report_lines.specs.Reports.{report_line, report_lines}
use Rattle.hip_report_lines.proofs.reports.put_each.Goals as goal

pub each-init : goal.each-init
each-init g c = ([], writes_nothing _ _, ap (report_lines c.args.program.now) (c.into_iter-report-iterator.ensures.into_iter_gives ∙ c.iter-report-items.ensures))

pub each-preserved : goal.each-preserved
each-preserved g c =
    let i = c.each.invariant in
    let text = report_line c.args.program.now c.in-Some.report in (
      i.0 ++ text,
      and_then i.1 c.put_report-put.ensures,
      append_assoc i.0 text _ ∙ ap (λ reports. i.0 ++ report_lines c.args.program.now reports) (sym c.in-Some.ensures.steps) ∙ i.2,
    )

pub returns : goal.returns
returns g c =
    let i = c.each.invariant in
    same_text (sym (append-nil i.0) ∙ ap (λ reports. i.0 ++ report_lines c.args.program.now reports) (sym c.in-None.ensures.steps.0) ∙ i.2) i.1
