use Rattle.std.proofs.Common.{◌≡◌, ℕ, None}
use Rattle.std.specs.Ordering.{nat_cmp}
use Rattle.std.specs.BTreeMap as tree
use Rattle.hip_lines.specs.Parts.{loose_from}
use Rattle.hip_ledger.specs.CheckGroups.{StaysWithLast, group_from}
use Rattle.hip_ledger.specs.Pending.{lines_of}
use Rattle.hip_ledger.proofs.checks.groups_of.Given as goal

abbrev pub invariant-bytes : goal.invariant-bytes
invariant-bytes l = record {
  groups : (tag : ℕ) → group_from (lines_of l.notes) tag (tree.get nat_cmp l.groups tag) l.byte-iterator ≡ group_from (lines_of l.notes) tag None (loose_from l.lines.lines l.fn.range.offset l.fn.range.size);
  last : StaysWithLast (lines_of l.notes) l.groups l.last;
}
