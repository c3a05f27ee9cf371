use Rattle.hip_invariants.specs.Laws.FittingOperands.{are_uncut, operands_fit_at, stop_fits}
use Rattle.hip_invariants.proofs.laws.operands_fit_their_types.Goals as goal

pub returns : goal.returns
returns c = record {
  operands = λ P s I v n f fs t. operands_fit_at P s I v n f fs t;
  code = λ P s I v n f arg t e. stop_fits P s I v n f arg t e;
  uncut = are_uncut;
}
