-- What the definition of an order implies for words that do not begin with `-`, for the inputs of runs, and for
-- generated programs.
use Rattle.std.specs.Prelude.{◌≡◌, ◌<◌, ◌≤◌, ℕ, ℤ, true, List, [], ◌∷◌, Some, codes, length, option_and_then, option_map}
use Rattle.std.specs.List.{list_all}
use Rattle.clap.specs.Words.{Text}
use Rattle.hip_gen.specs.declared.limits.TheConstants.{LARGEST_SIZE, SEED_END}
use Rattle.hip_globals.specs.Addresses.{IsBase}
use Rattle.hip_runs.specs.declared.limits.TheConstants.{DEFAULT_LIMIT, MOST_NUMBERS, MOST_TURNS}
use Rattle.hip_num.specs.Texts.{decimal_of}
use Rattle.hip_types.specs.declared.limits.TheConstants.{LOWEST_BASE}
use Rattle.hip_words.specs.Order.{is_seed, is_size, numbers_of, order, picks_of, traces_of, where_so}
use Rattle.hip_words.specs.Plain.{is_plain}
use Rattle.hip_words.specs.declared.order.Order.TheVariants.{Check, Crash, Demo, Many, Record, Repair, Rerun, Run, Thin}

-- If neither of the two words after `check`, `repair`, `rerun` or `thin` begins with `-`, the first is the program and
-- the second the trace.
abbrev pub FilesArePlain : Type 0
FilesArePlain =
    (program trace : Text) → is_plain program ≡ true → is_plain trace ≡ true
    → (order (codes "check" ∷ program ∷ trace ∷ []) ≡ Some (Check program trace))
    × (order (codes "repair" ∷ program ∷ trace ∷ []) ≡ Some (Repair program trace))
    × (order (codes "rerun" ∷ program ∷ trace ∷ []) ≡ Some (Rerun program trace))
    × (order (codes "thin" ∷ program ∷ trace ∷ []) ≡ Some (Thin program trace))

-- If no word after `run` begins with `-`, the first is the program, the others are the numbers, and the limit is
-- 1,000,000,000 turns. There is no order if the numbers are too many or one of them is not a number.
abbrev pub RunsArePlain : Type 0
RunsArePlain =
    (program : Text) (numbers : List Text) → is_plain program ≡ true → list_all is_plain numbers ≡ true
    → order (codes "run" ∷ program ∷ numbers)
    ≡ option_map (λ ns. Run program DEFAULT_LIMIT ns) (numbers_of numbers)

-- If no word after `record` begins with `-`, the first is the program, the others are the numbers, the region begins at
-- the lowest base, 2^32, and the limit is 1,000,000,000 turns. There is no order if the numbers are too many or one of
-- them is not a number.
abbrev pub RecordsArePlain : Type 0
RecordsArePlain =
    (program : Text) (numbers : List Text) → is_plain program ≡ true → list_all is_plain numbers ≡ true
    → order (codes "record" ∷ program ∷ numbers)
    ≡ option_map (λ ns. Record program LOWEST_BASE DEFAULT_LIMIT ns) (numbers_of numbers)

-- If no word after `many` begins with `-`, the first is the program, and the others are the traces. There is no order if
-- there is no trace, or more than 1,024.
abbrev pub ManyArePlain : Type 0
ManyArePlain =
    (program : Text) (traces : List Text) → is_plain program ≡ true → list_all is_plain traces ≡ true
    → order (codes "many" ∷ program ∷ traces) ≡ option_map (λ names. Many program names) (traces_of traces)

-- If no word after `crash` begins with `-`, the first is the program, the second the trace, the third the number of the
-- entry, and the others are the picks. There is no order if one of them cannot be read, or the picks are too many.
abbrev pub CrashesArePlain : Type 0
CrashesArePlain =
    (program trace entry : Text) (picks : List Text) → is_plain program ≡ true → is_plain trace ≡ true
    → is_plain entry ≡ true → list_all is_plain picks ≡ true
    → order (codes "crash" ∷ program ∷ trace ∷ entry ∷ picks)
    ≡ option_and_then (λ n. option_map (λ ps. Crash program trace n ps) (picks_of picks)) (decimal_of entry)

-- If neither of the two words after `demo` begins with `-`, the first is the seed and the second the size. There is no
-- order if one of them is not a number within its bounds.
abbrev pub DemosArePlain : Type 0
DemosArePlain =
    (seed size : Text) → is_plain seed ≡ true → is_plain size ≡ true
    → order (codes "demo" ∷ seed ∷ size ∷ [])
    ≡ option_and_then (λ n. option_map (λ m. Demo n m) (option_and_then (where_so is_size) (decimal_of size)))
    (option_and_then (where_so is_seed) (decimal_of seed))

-- An order to run allows at most 2^40 turns and 1,048,576 numbers.
abbrev pub RunsAreValid : Type 0
RunsAreValid =
    (words : List Text) (program : Text) (limit : ℕ) (numbers : List ℤ)
    → order words ≡ Some (Run program limit numbers)
    → (limit ≤ MOST_TURNS) × (length numbers ≤ MOST_NUMBERS)

-- An order to record allows at most 2^40 turns and 1,048,576 numbers, and the region may begin at its base.
abbrev pub RecordsAreValid : Type 0
RecordsAreValid =
    (words : List Text) (program : Text) (base limit : ℕ) (numbers : List ℤ)
    → order words ≡ Some (Record program base limit numbers)
    → IsBase base × (limit ≤ MOST_TURNS) × (length numbers ≤ MOST_NUMBERS)

-- `demo` has a seed and a size for which a program can be generated.
abbrev pub DemosAreValid : Type 0
DemosAreValid =
    (words : List Text) (seed size : ℕ) → order words ≡ Some (Demo seed size)
    → (seed < SEED_END) × (1 ≤ size) × (size ≤ LARGEST_SIZE)
