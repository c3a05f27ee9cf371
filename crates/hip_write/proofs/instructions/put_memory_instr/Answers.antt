use Rattle.std.proofs.Common.{codes}
use Rattle.hip_grammar.specs.Show.{assigned_text, inbounds_text, type_text}
use Rattle.hip_write.proofs.Regrouped.{after_four}
use Rattle.hip_write.proofs.instructions.put_memory_instr.Goals as goal

pub returns-in-Gep : goal.returns-in-Gep
returns-in-Gep g c =
    rw c.in-Gep.is
    (after_four (assigned_text c.in-Gep.dest) (codes "getelementptr ") (inbounds_text c.in-Gep.inbounds) (type_text c.in-Gep.ty) c.put_indexed_type-put.ensures c.put_indexed.ensures)
