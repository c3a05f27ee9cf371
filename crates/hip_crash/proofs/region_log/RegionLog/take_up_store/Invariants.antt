use Rattle.std.proofs.Common.{◌≡◌, ◌≤◌, ◌/◌, ℕ}
use Rattle.hip_crash.specs.Region.{seen_at}
use Rattle.hip_crash.proofs.Stores.{WaitsFrom}
use Rattle.hip_crash.proofs.region_log.RegionLog.take_up_store.Given as goal

abbrev pub invariant-parts : goal.invariant-parts
invariant-parts l = record {
  low : l.stored.offset / 64 ≤ l.line;
  waiting : WaitsFrom l.stored l.line l.self.waiting;
  same : (j : ℕ) → seen_at l.self l.image j ≡ seen_at l.initial.self l.image j;
}
