use Rattle.std.proofs.Common.{arith}
use Rattle.hip_types.specs.Laws.LayoutLaws.{align_of-alignment, alignment-high}
use Rattle.hip_instr_ops.proofs.memory.small_align.Goals as goal

pub overflow_cast-result : goal.overflow_cast-result
overflow_cast-result c =
    let e = c.align.ensures in let most = alignment-high _ (align_of-alignment c.args.ty.now) in omega (arith, e, most)
