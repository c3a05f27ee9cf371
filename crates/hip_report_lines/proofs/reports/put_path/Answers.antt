use Rattle.std.proofs.Common.{◌++◌, [], codes, sym, ap, ◌∙◌, append_assoc, append-nil}
use Rattle.hip_io.specs.Laws.SinkLaws.{and_then, same_text, writes_nothing}
use Rattle.hip_report_lines.specs.Reports.{path_text, site_text}
use Rattle.hip_report_lines.proofs.reports.put_path.Goals as goal

pub each-init : goal.each-init
each-init g c = ([], writes_nothing _ _, ap (path_text c.args.program.now) (c.into_iter-site-iterator.ensures.into_iter_gives ∙ c.path-site-items.ensures))

pub each-preserved : goal.each-preserved
each-preserved g c =
    let i = c.each.invariant in
    let text = codes " " ++ site_text c.args.program.now c.in-Some.site in (
      i.0 ++ text,
      and_then i.1 c.put_step-put.ensures,
      append_assoc i.0 text _ ∙ ap (λ sites. i.0 ++ path_text c.args.program.now sites) (sym c.in-Some.ensures.steps) ∙ i.2,
    )

pub returns : goal.returns
returns g c =
    let i = c.each.invariant in
    same_text (sym (append-nil i.0) ∙ ap (λ sites. i.0 ++ path_text c.args.program.now sites) (sym c.in-None.ensures.steps.0) ∙ i.2) i.1
