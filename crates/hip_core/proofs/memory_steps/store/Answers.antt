use Rattle.std.proofs.Common.{subst}
use Rattle.hip_storage.specs.Calls.{IsRefusedFor}
use Rattle.hip_storage.specs.Contents.{access_trap}
use Rattle.hip_core.proofs.MemoryArms.{acts_store, acts_store_trap}
use Rattle.hip_core.proofs.memory_steps.store.Goals as goal

pub returns-in-Ok-clause-ok : goal.returns-in-Ok-clause-ok
returns-in-Ok-clause-ok c =
    acts_store c.store.new.self c.read_here-address.result c.read_here-number.result c.read_here-address.ensures c.read_here-number.ensures c.requires.within.2 c.in-Ok.ensures.ok c.pass.ensures

pub returns-in-Err-Trap-clause-ok : goal.returns-in-Err-Trap-clause-ok
returns-in-Err-Trap-clause-ok c =
    acts_store_trap c.store.new.self c.read_here-address.result c.read_here-number.result c.in-Err-Trap.kind c.read_here-address.ensures c.read_here-number.ensures c.requires.within.2
    (subst (IsRefusedFor (access_trap c.args.core.now.storage c.read_here-address.result c.args.size c.args.align)) c.in-Err-Trap.field-0-is c.in-Err-Trap.ensures.refusal) c.in-Err-Trap.ensures.err c.trap.ensures.does
