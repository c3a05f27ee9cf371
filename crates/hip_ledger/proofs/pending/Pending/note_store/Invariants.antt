use Rattle.std.proofs.Common.{◌≡◌, ◌≤◌, ℕ, ◌++◌, ◌∷◌, [], cond, Some}
use Rattle.hip_ledger.specs.Pending.{is_between, lines_of, with_store}
use Rattle.hip_ledger.proofs.pending.Pending.note_store.Given as goal

abbrev pub invariant-each : goal.invariant-each
invariant-each l = record {
  stores : l.self.stores.items ≡ l.fn.self.stores.items ++ l.fn.note ∷ [];
  low : l.initial.line-counter ≤ l.line-counter;
  stated : (j : ℕ) → lines_of l.self.lines j ≡ cond (is_between l.initial.line-counter l.line-counter j) (Some (with_store (lines_of l.fn.self.lines j))) (lines_of l.fn.self.lines j);
}
