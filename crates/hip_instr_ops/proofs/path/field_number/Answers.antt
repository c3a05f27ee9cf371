use Rattle.std.proofs.Common.{sym, ap, ◌∙◌}
use Rattle.hip_tree.specs.declared.instr.Operand.TheVariants.{Fixed}
use Rattle.hip_instr_ops.proofs.path.field_number.Goals as goal

pub returns : goal.returns
returns c = record { bits = c.in-Int.bits; is = c.in-Fixed.is ∙ ap Fixed c.in-Int.is; number_is = sym c.index.ensures }
