use Rattle.hip_mem.specs.Recents.{start_in}
use Rattle.hip_mem.proofs.pages.Pages.new.Goals as goal

pub invariant_of-result-clause-starts : goal.invariant_of-result-clause-starts
invariant_of-result-clause-starts c = c.new-recent.ensures (start_in _ _)
