use Rattle.std.proofs.Common.{◌≡◌, ◌++◌, drop}
use Rattle.std.specs.List.{flat_map}
use Rattle.std.specs.Ordering.{nat_cmp}
use Rattle.std.specs.BTreeSet as bag
use Rattle.hip_ledger.specs.Noted.{flush_among}
use Rattle.hip_ledger.proofs.forget.flushes_among.Given as goal

abbrev pub invariant-each : goal.invariant-each
invariant-each l = record {
  kept : l.kept ++ flat_map (flush_among (bag.contains nat_cmp l.steps)) (drop l.flush-index l.flushes) ≡ flat_map (flush_among (bag.contains nat_cmp l.steps)) l.flushes;
}
