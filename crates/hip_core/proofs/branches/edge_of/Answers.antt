use Rattle.std.proofs.Common.{sym, subst}
use Rattle.hip_code.specs.Numbers.{entries_of}
use Rattle.hip_code.specs.Ops.{EdgeWithin, GoWithin}
use Rattle.hip_core.specs.Acts.{numbers_of}
use Rattle.hip_core.proofs.BranchArms.{case_within}
use Rattle.hip_core.proofs.branches.edge_of.Goals as goal

pub returns-in-Switch-clause-within : goal.returns-in-Switch-clause-within
returns-in-Switch-clause-within c =
    let n = numbers_of c.args.code.now c.args.core.now in
    let w = subst (GoWithin n) c.in-Switch.is c.requires in
    subst (EdgeWithin n) (sym c.switch_edge.ensures) (case_within n c.read_here-number.result (entries_of c.in-Switch.cases c.args.code.now.cases.items) c.in-Switch.other w.2 w.3)
