use Rattle.std.proofs.Common.{◌≡◌, ◌+◌, ◌≤◌, drop, length}
use Rattle.std.specs.List.{filter}
use Rattle.hip_tree.specs.Sites.{has_site}
use Rattle.hip_run_repairs.specs.Spared.{is_spared_by}
use Rattle.hip_run_repairs.proofs.spared.count_spared.Given as goal

abbrev pub invariant-each : goal.invariant-each
invariant-each l = record {
  few : l.count ≤ l.index;
  counted : l.count + length (filter (is_spared_by l.cloned.keys (has_site l.direct) (has_site l.flushed)) (drop l.index l.low)) ≡ length (filter (is_spared_by l.cloned.keys (has_site l.direct) (has_site l.flushed)) l.low);
}
