use Rattle.std.proofs.Common.{sym, ◌∙◌, ap, is_some}
use Rattle.hip_report.proofs.Sighted.{store_marked}
use Rattle.hip_report.proofs.sight.look_at_store.Goals as goal

pub returns : goal.returns
returns c =
    let there = sym c.site.ensures ∙ c.in_ok-site.was in
    record {
      ended = sym c.if-is_some.false ∙ c.is_some.ensures ∙ ap is_some c.ending.ensures;
      site = sym there;
      marks = λ k. store_marked c.args.machine.now c.in_ok-site.site c.args.addr c.args.ledger.now.marks.keys c.in_ok-pointed.pointed.marks there c.requires.points c.in_ok-pointed.ensures.marks;
      last = c.in_ok-pointed.ensures.last;
    }
