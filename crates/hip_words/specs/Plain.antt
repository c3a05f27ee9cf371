-- Words that `clap` takes for no flag.
use Rattle.std.specs.Prelude.{Bool, true, not, ◌==◌, [], ◌∷◌}
use Rattle.clap.specs.Words.{Text}

-- The word does not begin with `-`.
abbrev pub is_plain : Text → Bool
is_plain [] = true
is_plain (b ∷ bs) = not (b == 45)
