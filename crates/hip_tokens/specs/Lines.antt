-- Lines, counted from 1 by line feeds.
use Rattle.hip_tokens.specs.Bytes.{byte}
use Rattle.std.specs.Prelude.{ℕ, ◌+◌, ◌-◌, List, length, take, count_by, ◌==◌}

-- The line of the last byte, or 1 of an empty text; a line feed is on the line that it ends.
abbrev pub last_line : List ℕ → ℕ
last_line text = 1 + count_by (λ b. b == byte "\n") (take (length text - 1) text)
