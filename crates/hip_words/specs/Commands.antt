-- The commands in clap's terms, and what clap reads of the words.
use Rattle.std.specs.Prelude.{◌≡◌, true, List, [], ◌∷◌, Option, Some, None, Result, Ok, Err, codes}
use Rattle.clap.specs.Words.{App, Kinds, Row, Rule, Text, fault_of, found_of, matches_of, new_app, new_rule, rows_of, with_rule}
use Rattle.clap.specs.Simple.{on_top}
use Rattle.clap.specs.declared.builder.action.ArgAction.TheVariants.{Append}
use Rattle.clap.specs.declared.parser.matches.ArgMatches.{ArgMatches}
use Rattle.hip_words.specs.declared.refusal.WordsRefusal.{WordsRefusal}
use Rattle.hip_words.specs.declared.refusal.WordsRefusal.TheVariants as refusals

-- ---- arguments

-- A positional that is required.
abbrev pub required : Text → Rule
required id = record (new_rule id) { required = true }

-- A positional of any number of words.
abbrev pub any_number : Text → Rule
any_number id = record (new_rule id) { action = Some Append }

-- A positional of one word or more.
abbrev pub one_or_more : Text → Rule
one_or_more id = record (new_rule id) { action = Some Append; required = true }

-- An option with a value, and its default.
abbrev pub with_default : Text → Text → Rule
with_default id value = record (new_rule id) { long = Some id; defaults = value ∷ [] }

-- `--limit N`: the run takes at most N turns; 1,000,000,000 by default.
abbrev pub limit : Rule
limit = with_default (codes "limit") (codes "1000000000")

-- `--base N`: the region begins at address N; 2^32, the lowest base, by default.
abbrev pub base : Rule
base = with_default (codes "base") (codes "4294967296")

-- ---- commands

-- A command with no argument, and without a flag for help.
abbrev pub bare : Text → App
bare name = on_top (λ s. record s { disable_help_flag = true }) (new_app name)

-- `run PROGRAM [--limit N] [NUMBERS...]`.
abbrev pub run_app : App
run_app =
    with_rule (with_rule (with_rule (bare (codes "run")) (required (codes "program"))) limit)
    (any_number (codes "numbers"))

-- `record PROGRAM [--base N] [--limit N] [NUMBERS...]`.
abbrev pub record_app : App
record_app =
    with_rule (with_rule (with_rule (with_rule (bare (codes "record")) (required (codes "program"))) base) limit)
    (any_number (codes "numbers"))

-- `PROGRAM TRACE`.
abbrev pub files_app : Text → App
files_app name = with_rule (with_rule (bare name) (required (codes "program"))) (required (codes "trace"))

-- `demo SEED SIZE`.
abbrev pub demo_app : App
demo_app = with_rule (with_rule (bare (codes "demo")) (required (codes "seed"))) (required (codes "size"))

-- `many PROGRAM TRACES...`, with one trace or more.
abbrev pub many_app : App
many_app = with_rule (with_rule (bare (codes "many")) (required (codes "program"))) (one_or_more (codes "traces"))

-- `crash PROGRAM TRACE ENTRY [PICKS...]`.
abbrev pub crash_app : App
crash_app =
    with_rule (with_rule (with_rule (with_rule (bare (codes "crash"))
    (required (codes "program"))) (required (codes "trace"))) (required (codes "entry")))
    (any_number (codes "picks"))

-- ---- what clap reads

-- The rows, if there are no kinds of error.
abbrev pub where_none : Kinds → List Row → Option (List Row)
where_none [] rows = Some rows
where_none (k ∷ ks) rows = None

-- The arguments with their texts, if the command takes the words after the first.
unfoldable pub reads : App → List Text → Option (List Row)
reads app words = where_none (fault_of app words) (matches_of app words)

-- What clap answers: matches with these rows, Usage exactly if there are none, and NoMemory at any time.
abbrev pub GivesRows : Option (List Row) → Result ArgMatches WordsRefusal → Type 0
GivesRows given (Ok matches) = given ≡ Some (rows_of (found_of matches))
GivesRows given (Err refusals.Usage) = given ≡ None
GivesRows given (Err refusals.NoMemory) = Unit {0}
