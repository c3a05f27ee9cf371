use Rattle.std.proofs.Common.{◌≡◌, length}
use Rattle.hip_code.specs.Entries.{entry}
use Rattle.hip_scope.specs.Grown.{grown}
use Rattle.hip_resolve.specs.Made.{IsFront}
use Rattle.hip_resolve.proofs.resolver.add_functions.Given as goal

abbrev pub invariant-functions : goal.invariant-functions
invariant-functions l = record {
  front : IsFront l.known.program.now l.known.base l.ops (grown l.tables);
  place : length l.ops ≡ entry l.known.program.now l.number 0;
}
