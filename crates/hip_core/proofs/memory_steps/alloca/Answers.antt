use Rattle.std.proofs.Common.{◌+◌, sym, ap, ◌∙◌, subst, slice_set}
use Rattle.hip_storage.specs.Calls.{IsRefusedFor}
use Rattle.hip_storage.specs.Contents.{after_pop, block_trap}
use Rattle.hip_core.specs.Acts.{KeepsStates}
use Rattle.hip_core.specs.declared.core_parts.Core.{Core}
use Rattle.hip_core.proofs.CallArms.{on_err}
use Rattle.hip_core.proofs.MemoryArms.{acts_alloca, acts_alloca_trap, past_block, keeps_storage, mark_rises, taken_back}
use Rattle.std.proofs.Common.{arith}
use Rattle.hip_core.proofs.memory_steps.alloca.Goals as goal

pub keep_block-requires-clause-past : goal.keep_block-requires-clause-past
keep_block-requires-clause-past c = past_block c.args.core.now.blocks c.in-Ok.ensures.ok c.requires.laid.past

pub keep_block-requires-clause-high : goal.keep_block-requires-clause-high
keep_block-requires-clause-high c = let m = c.mark-mark.ensures.mark in let r = mark_rises c.in-Ok.ensures.ok in omega (arith, m, r)

pub returns-in_err-keep_block-in-Ok-clause-err : goal.returns-in_err-keep_block-in-Ok-clause-err
returns-in_err-keep_block-in-Ok-clause-err c =
    let st = c.push.new.self in
    on_err c.from_residual.result (subst (λ (k : Core). KeepsStates c.args.core.now k) (sym c.in_err-keep_block-in-Ok.ensures.err)
    (keeps_storage (after_pop c.mark-mark.result st) (ap (λ k. after_pop k st) c.mark-mark.ensures.mark ∙ taken_back c.in-Ok.ensures.ok)))

pub returns-in_ok-keep_block-in-Ok-clause-ok : goal.returns-in_ok-keep_block-in-Ok-clause-ok
returns-in_ok-keep_block-in-Ok-clause-ok c =
    let kept = c.in_ok-keep_block-in-Ok.ensures.ok in
    acts_alloca c.push.new.self c.in-Ok.addr c.in-Ok.ensures.ok
    (c.assign.ensures.others ∙ ap (λ (k : Core). record k { slots = c.assign.new.self.slots; top = record k.top { place = k.top.place + 1 }; taken = k.taken + 1; turns = k.turns + 1 }) kept)
    (c.assign.ensures.slots ∙ ap (λ (k : Core). slice_set k.slots.items (k.top.base + c.args.dest) c.in-Ok.addr) kept)

pub returns-in-Err-Trap-clause-ok : goal.returns-in-Err-Trap-clause-ok
returns-in-Err-Trap-clause-ok c =
    acts_alloca_trap c.push.new.self c.in-Err-Trap.kind (subst (IsRefusedFor (block_trap c.args.core.now.storage c.args.size c.args.align)) c.in-Err-Trap.field-0-is c.in-Err-Trap.ensures.refusal) c.in-Err-Trap.ensures.err c.trap.ensures.does
