use Rattle.std.proofs.Common.{◌≡◌, ◌+◌, length}
use Rattle.hip_findings.specs.CallPaths.{closed_by}
use Rattle.hip_findings.proofs.call_path.CallPath.closed.Given as goal

abbrev pub invariant-calls : goal.invariant-calls
invariant-calls l = record {
  closed : l.closed + closed_by l.births l.rest ≡ closed_by l.births l.self;
  within : l.closed + length l.rest ≡ length l.self;
}
