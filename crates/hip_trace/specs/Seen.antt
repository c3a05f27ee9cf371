-- The values of the code's borrowed fields.
use Rattle.std.specs.Prelude.{ℕ, List, [], Option, Some, None}
use Rattle.std.specs.Borrow.{Bor}
use Rattle.hip_trace.specs.Entries.{fields}

-- The fields of the text after a field, if there is one.
abbrev pub fields_after : Option (Bor (List ℕ)) → List (List ℕ)
fields_after None = []
fields_after (Some text) = fields text.now

-- The texts of two borrowed fields.
abbrev pub pair_seen : Bor (List ℕ) × Bor (List ℕ) → List ℕ × List ℕ
pair_seen p = (p.0.now, p.1.now)

-- The texts of three borrowed fields.
abbrev pub triple_seen : Bor (List ℕ) × Bor (List ℕ) × Bor (List ℕ) → List ℕ × List ℕ × List ℕ
triple_seen p = (p.0.now, p.1.now, p.2.now)
