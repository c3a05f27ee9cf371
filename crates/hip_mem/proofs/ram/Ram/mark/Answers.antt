use Rattle.std.proofs.Common.{sym, ap, ◌∙◌, subst}
use Rattle.hip_mem.specs.Areas.{IsLaidOut, mark_of}
use Rattle.hip_mem.proofs.RamAreas.{laid_out, mark-is}
use Rattle.hip_mem.proofs.ram.Ram.mark.Goals as goal

pub returns-clause-value : goal.returns-clause-value
returns-clause-value c = sym (mark-is c.self.inside c.self.invariant) ∙ ap mark_of c.self.view_is

pub returns-clause-laid_out : goal.returns-clause-laid_out
returns-clause-laid_out c = subst IsLaidOut c.self.view_is (laid_out c.self.inside c.self.invariant)
