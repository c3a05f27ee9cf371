use Rattle.hip_directory.proofs.Counts.{count-zeros}
use Rattle.hip_directory.proofs.directory.Directory.new.Goals as goal

pub invariant_of-result-clause-counted : goal.invariant_of-result-clause-counted
invariant_of-result-clause-counted c = count-zeros _ c.in_ok-entries.ensures.zero
