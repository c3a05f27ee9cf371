use Rattle.std.proofs.Common.{◌≡◌, OnOk, subst}
use Rattle.hip_fix.specs.Walk.{wanted_in}
use Rattle.hip_fix.proofs.Walks.{added_at}
use Rattle.hip_fix.proofs.repair.RepairSites.add_repaired.Goals as goal

pub returns : goal.returns
returns c =
    let r = c.args.self.now in
    subst (λ b. OnOk c.add_fence_after.result (c.add_fence_after.new.self ≡ b))
    (added_at r.clones (wanted_in r) c.args.is_clone c.args.site c.args.instr.now c.in_ok-renamed.field-0 c.args.body.now c.add.new.self c.add_flush_after.new.self
    c.names_clone-to_clone.result c.is_flushed.result c.is_fenced.result
    c.names_clone-to_clone.ensures c.in_ok-renamed.ensures c.in_ok-add.ensures c.is_flushed.ensures c.in_ok-add_flush_after.ensures c.is_fenced.ensures)
    c.add_fence_after.ensures
