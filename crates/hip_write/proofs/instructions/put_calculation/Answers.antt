use Rattle.std.proofs.Common.{codes}
use Rattle.hip_grammar.specs.Show.{assigned_text, flags_text}
use Rattle.hip_grammar.specs.Words.{binary_text, pred_text}
use Rattle.hip_write.proofs.Regrouped.{after_four}
use Rattle.hip_write.proofs.instructions.put_calculation.Goals as goal

pub returns-in-Binary : goal.returns-in-Binary
returns-in-Binary g c =
    rw c.in-Binary.is
    (after_four (assigned_text c.in-Binary.dest) (binary_text c.in-Binary.op) (codes " ") (flags_text c.in-Binary.flags) c.put_operation-put.ensures c.put_typed_operands.ensures)

pub returns-in-Compare : goal.returns-in-Compare
returns-in-Compare g c =
    rw c.in-Compare.is
    (after_four (assigned_text c.in-Compare.dest) (codes "icmp ") (pred_text c.in-Compare.pred) (codes " ") c.put_comparison-put.ensures c.put_typed_operands-in-Compare.ensures)
