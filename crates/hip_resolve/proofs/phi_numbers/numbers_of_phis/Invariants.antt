use Rattle.std.proofs.Common.{◌≡◌, ◌<◌, ℕ, Some, length, slice_get}
use Rattle.hip_tree.specs.declared.block.Phi.{Phi}
use Rattle.hip_scope.specs.PhiNumbers.{HasNumbers}
use Rattle.hip_resolve.proofs.phi_numbers.numbers_of_phis.Given as goal

pub record Invariant (l : goal.Live-each) : Type 0 where
  pub as_long : length l.tables ≡ l.number
  pub numbers : (j : ℕ) (p : Phi) → j < l.number → slice_get l.phis j ≡ Some p → HasNumbers l.tables j p

abbrev pub invariant-each : goal.invariant-each
invariant-each l = Invariant l
