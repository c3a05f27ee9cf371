use Rattle.std.proofs.Common.{codes}
use Rattle.hip_grammar.specs.Show.{assigned_text, operand_text}
use Rattle.hip_grammar.specs.Words.{cast_text, scalar_text}
use Rattle.hip_write.proofs.Regrouped.{after_four}
use Rattle.hip_write.proofs.instructions.put_instr.Goals as goal

pub returns-in-Select : goal.returns-in-Select
returns-in-Select g c =
    rw (c.in-Select.is, ← c.get.ensures)
    (after_four (assigned_text c.in-Select.dest) (codes "select i1 ") (operand_text c.get.result.now) (codes ", ") c.put_condition-put.ensures c.put_choices.ensures)

pub returns-in-Cast : goal.returns-in-Cast
returns-in-Cast g c =
    rw c.in-Cast.is
    (after_four (assigned_text c.in-Cast.dest) (cast_text c.in-Cast.op) (codes " ") (scalar_text c.in-Cast.from) c.put_conversion-put.ensures c.put_converted.ensures)
