use Rattle.std.proofs.Common.{arith}
use Rattle.hip_lines.proofs.Helds.{length-lines_of, lines-empty, below-empty, none_listed-empty}
use Rattle.hip_lines.proofs.lines.Lines.new.Goals as goal

pub invariant_of-result : goal.invariant_of-result
invariant_of-result c = record {
  small = omega (arith, c.requires.small);
  below = below-empty _ _ c.in_ok-new.ensures.none;
  flushed = none_listed-empty _ _ c.new-2.ensures.items c.in_ok-new.ensures.none;
  spare = omega (arith, c.in_ok-new.ensures.count);
  room = tt;
}

pub returns-clause-lines : goal.returns-clause-lines
returns-clause-lines c = lines-empty _ _ c.in_ok-new.ensures.none

pub returns-clause-length : goal.returns-clause-length
returns-clause-length c = length-lines_of _ _
