use Rattle.std.proofs.Common.{sym, ◌∙◌}
use Rattle.hip_storage.specs.Fields.{contents_of}
use Rattle.hip_storage.proofs.Flushes.{IsReached, flushes}
use Rattle.hip_storage.proofs.storage.Storage.flush_range.Goals as goal

pub returns-then-is_inside-clause-ok : goal.returns-then-is_inside-clause-ok
returns-then-is_inside-clause-ok c =
    let reached : IsReached (contents_of c.self.inside) c.self.inside.base c.self.inside.size c.args.addr c.args.size = record {
      base_is = c.self.invariant.base;
      size_is = c.self.invariant.size;
      some = c.if-size-gt0.true;
      within = sym c.is_inside.ensures.within ∙ c.if-is_inside.true;
      low = c.if-is_inside.ensures.bounds.0;
      high = c.if-is_inside.ensures.bounds.1;
    } in
    rw (← c.self.view_is) (flushes reached c.first_line.ensures c.lines_size.ensures)
