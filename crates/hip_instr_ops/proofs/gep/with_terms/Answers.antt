use Rattle.std.proofs.Common.{◌∙◌}
use Rattle.hip_instr_ops.proofs.GepOps.{makes_terms}
use Rattle.hip_instr_ops.proofs.gep.with_terms.Goals as goal

pub returns : goal.returns
returns c =
    makes_terms _ c.args.base c.args.offset c.in_ok-from.from c.in_ok-count.count c.args.terms.now _ c.in_ok-extend_from_slice.ensures.ok
    (c.in_ok-from.ensures ∙ c.len.ensures) (c.in_ok-count.ensures)
