use Rattle.std.proofs.Common.{ℕ, arith, ap}
use Rattle.std.specs.Prelude.{is_some}
use Rattle.std.proofs.lemmas.Map.Keys.{le_from_not_gt}
use Rattle.hip_ledger.specs.Pending.{lines_of}
use Rattle.hip_ledger.specs.declared.pending.LineNote.{LineNote}
use Rattle.hip_ledger.proofs.Ranges.{at_head, cmp_le, cmp_less, less_cmp, none_before}
use Rattle.hip_ledger.proofs.pending.first_line.Goals as goal

pub returns-in-Some-clause-some : goal.returns-in-Some-clause-some
returns-in-Some-clause-some c =
    let h = c.range.ensures.in_range tt in
    let line = c.in-Some.line.now in
    let e : ℕ × LineNote = (line, c.in-Some.field-0-1.now) in
    let a = at_head _ c.range.result e c.next.new.self c.in-Some.ensures.steps h.1 in (
      le_from_not_gt c.args.from line a.0.0,
      less_cmp line c.args.end a.0.1,
      ap is_some a.1,
      λ j low lt. none_before (lines_of c.args.lines.now) line j (λ some. le_from_not_gt line j (at_head _ c.range.result e c.next.new.self c.in-Some.ensures.steps (h.2 j (cmp_le c.args.from j low, cmp_less j c.args.end (let q = less_cmp line c.args.end a.0.1 in omega (arith, q, lt))) some))) lt,
    )
