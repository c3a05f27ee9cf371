use Rattle.std.proofs.Common.{◌∙◌}
use Rattle.hip_mem.specs.Recents.{start_in}
use Rattle.hip_mem.proofs.Starts.{place-start}
use Rattle.hip_mem.proofs.pages.Pages.note_page.Goals as goal

pub invariant_of-self-clause-starts : goal.invariant_of-self-clause-starts
invariant_of-self-clause-starts c =
    let m = c.find_page.new.self in
    c.put.ensures (start_in m.directory m.region) m.starts (c.find_start-start.ensures.value ∙ place-start m c.args.number)
