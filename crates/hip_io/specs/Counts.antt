-- Counts of faults.
use Rattle.std.specs.Prelude.{ℕ, ◌+◌, ◌-◌, ◌^◌, ◌≤◌, min}

-- A count rose in a call: it is greater after the call, or it is the last value that it can have.
abbrev pub Rose : ℕ → ℕ → Type 0
Rose before after = min (before + 1) (2 ^ 64 - 1) ≤ after

-- The count plus one, or the last value that it can have.
abbrev pub counted : ℕ → ℕ
counted before = min (before + 1) (2 ^ 64 - 1)
