-- Names for copies of functions, none of which is in use.
use Rattle.std.specs.Prelude.{ℕ, zero, suc, ◌+◌, ◌/◌, ◌%◌, nat_lt, cond, if◌then◌else◌, List, [], ◌∷◌, ◌++◌, map, length, codes, slice_get}
use Rattle.hip_tree.specs.declared.program.Program.{Program}
use Rattle.hip_names.specs.Names.{is_among}
use Rattle.hip_sound.specs.NumberedNames.{name_in}
use Rattle.hip_sound.specs.Sound.{top_names}

-- The last digits of a number, at most the given count of them.
abbrev pub numeral_in : ℕ → ℕ → List ℕ
numeral_in zero n = []
numeral_in (suc more) n = if nat_lt n 10 then (48 + n) ∷ [] else numeral_in more (n / 10) ++ (48 + n % 10) ∷ []

-- A number in decimal, however long it is. (`decimal` of std stops at 64 digits, and names have to differ for all
-- numbers.)
abbrev pub numeral : ℕ → List ℕ
numeral n = numeral_in (suc n) n

-- `f.pm`, `f.pm1`, `f.pm2` and so on.
abbrev pub candidate : List ℕ → ℕ → List ℕ
candidate name zero = name ++ codes ".pm"
candidate name (suc k) = name ++ (codes ".pm" ++ numeral (suc k))

-- The first of `more` candidates from number k on that is not taken. If all are taken, the next candidate.
abbrev pub fresh_from : List (List ℕ) → List ℕ → ℕ → ℕ → List ℕ
fresh_from taken name zero k = candidate name k
fresh_from taken name (suc more) k =
    cond (is_among taken (candidate name k)) (fresh_from taken name more (suc k)) (candidate name k)

-- The first candidate that is not taken. One more candidate than there are taken names is tried, so one of them is
-- free.
abbrev pub fresh_name : List (List ℕ) → List ℕ → List ℕ
fresh_name taken name = fresh_from taken name (length taken) 0

-- A fresh name for each of these names; the fresh names differ from one another too.
abbrev pub fresh_for : List (List ℕ) → List (List ℕ) → List (List ℕ)
fresh_for taken [] = []
fresh_for taken (name ∷ names) = fresh_name taken name ∷ fresh_for (fresh_name taken name ∷ taken) names

-- The name of the function of a number.
abbrev pub name_of : Program → ℕ → List ℕ
name_of P f = name_in (slice_get P.functions f)

-- Fresh names for copies of the functions of these numbers.
abbrev pub fresh_names : Program → List ℕ → List (List ℕ)
fresh_names P functions = fresh_for (top_names P) (map (name_of P) functions)
