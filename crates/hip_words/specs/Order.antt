-- The order that the words give.
use Rattle.std.specs.Prelude.{ℕ, ℤ, ◌^◌, Bool, ◌&&◌, ◌==◌, nat_le, nat_lt, List, [], ◌∷◌, Option, Some, None, if◌then◌else◌, codes, length, option_map, option_and_then, unwrap_or}
use Rattle.std.specs.List.{after_first, before_first, position_or_len}
use Rattle.std.specs.Str.{bytes_eq}
use Rattle.clap.specs.Words.{App, Row, Text, all_of, first_of}
use Rattle.hip_gen.specs.declared.limits.TheConstants.{LARGEST_SIZE, SEED_END}
use Rattle.hip_globals.specs.Addresses.{is_base}
use Rattle.hip_types.specs.declared.pick_limits.TheConstants.{MOST_PICKS}
use Rattle.hip_types.specs.declared.pick.Pick.{Pick}
use Rattle.hip_runs.specs.declared.limits.TheConstants.{MOST_NUMBERS, MOST_TURNS}
use Rattle.hip_words.specs.declared.limits.TheConstants.{MOST_TRACES}
use Rattle.hip_words.specs.Commands.{crash_app, demo_app, files_app, many_app, reads, record_app, run_app}
use Rattle.hip_num.specs.Texts.{decimal_of, signed_of}
use Rattle.hip_words.specs.declared.order.Order.{Order}
use Rattle.hip_words.specs.declared.order.Order.TheVariants.{Check, Crash, Demo, Many, Record, Repair, Rerun, Run, Thin}
use Rattle.hip_words.specs.declared.order.Verb.{Verb}
use Rattle.hip_words.specs.declared.order.Verb.TheVariants as verbs

-- ---- bounds

-- A limit that a run may have: at most 2^40 turns.
abbrev pub is_limit : ℕ → Bool
is_limit limit = nat_le limit MOST_TURNS

-- A seed from which a program can be generated: below 2^31.
abbrev pub is_seed : ℕ → Bool
is_seed seed = nat_lt seed SEED_END

-- A size that a generated program may have: from 1 to 50,000 groups of instructions.
abbrev pub is_size : ℕ → Bool
is_size size = nat_le 1 size && nat_le size LARGEST_SIZE

-- The value, if it passes the test.
abbrev pub where_so : {A : Type 0} → (A → Bool) → A → Option A
where_so test x = if test x then Some x else None

-- ---- one argument

-- All words of an argument.
abbrev pub texts_in : Text → List Row → List Text
texts_in id rows = unwrap_or (all_of id rows) []

-- The number that an argument's word writes.
abbrev pub decimal_in : Text → List Row → Option ℕ
decimal_in id rows = option_and_then decimal_of (first_of id rows)

-- The number that an argument's word writes, if the number is within its bounds.
abbrev pub number_in : (ℕ → Bool) → Text → List Row → Option ℕ
number_in test id rows = option_and_then (where_so test) (decimal_in id rows)

-- What each text reads as, if each can be read.
abbrev pub each : {A : Type 0} → (Text → Option A) → List Text → Option (List A)
each read [] = Some []
each read (t ∷ ts) = option_and_then (λ x. option_map (λ xs. x ∷ xs) (each read ts)) (read t)

-- The texts, if there are at most n.
abbrev pub at_most : ℕ → List Text → Option (List Text)
at_most most = where_so (λ texts. nat_le (length texts) most)

-- At most 1,048,576 numbers, each from -2^63 to 2^63 - 1; nothing if there are more, or a text is no such number.
abbrev pub numbers_of : List Text → Option (List ℤ)
numbers_of texts = option_and_then (each (signed_of (2 ^ 63))) (at_most MOST_NUMBERS texts)

-- The names of traces, if there are from 1 to 1,024 of them.
abbrev pub traces_of : List Text → Option (List Text)
traces_of = where_so (λ texts. nat_le 1 (length texts) && nat_le (length texts) MOST_TRACES)

-- The byte is `:`.
abbrev pub is_colon : ℕ → Bool
is_colon b = b == 58

-- The pick of a line's number and of its number of first parts, if both can be read.
abbrev pub pick_from : Option ℕ → Option ℕ → Option Pick
pick_from (Some line) (Some upto) = Some (record { line = line; upto = upto })
pick_from _ _ = None

-- `LINE:UPTO`, cut at its first colon.
abbrev pub pick_of : Text → Option Pick
pick_of text = if nat_lt (position_or_len is_colon text) (length text)
    then pick_from (decimal_of (before_first is_colon text)) (decimal_of (after_first is_colon text)) else None

-- At most 1,048,576 picks; nothing if there are more, or a text is not a pick.
abbrev pub picks_of : List Text → Option (List Pick)
picks_of texts = option_and_then (each pick_of) (at_most MOST_PICKS texts)

-- ---- the orders

-- `run`: a program, a limit within its bound, and numbers.
abbrev pub run_in : List Row → Option Order
run_in rows =
    option_and_then (λ program. option_and_then (λ limit. option_map (λ numbers. Run program limit numbers)
    (numbers_of (texts_in (codes "numbers") rows)))
    (number_in is_limit (codes "limit") rows))
    (first_of (codes "program") rows)

-- `record`: a program, a base and a limit within their bounds, and numbers.
abbrev pub record_in : List Row → Option Order
record_in rows =
    option_and_then (λ program. option_and_then (λ base. option_and_then (λ limit.
    option_map (λ numbers. Record program base limit numbers)
    (numbers_of (texts_in (codes "numbers") rows)))
    (number_in is_limit (codes "limit") rows))
    (number_in is_base (codes "base") rows))
    (first_of (codes "program") rows)

-- `many`: a program, and from 1 to 1,024 traces.
abbrev pub many_in : List Row → Option Order
many_in rows = option_and_then (λ program. option_map (λ traces. Many program traces)
    (traces_of (texts_in (codes "traces") rows)))
    (first_of (codes "program") rows)

-- `crash`: a program, a trace, the number of an entry, which is any below 2^64, and picks.
abbrev pub crash_in : List Row → Option Order
crash_in rows =
    option_and_then (λ program. option_and_then (λ trace. option_and_then (λ entry.
    option_map (λ picks. Crash program trace entry picks)
    (picks_of (texts_in (codes "picks") rows)))
    (decimal_in (codes "entry") rows))
    (first_of (codes "trace") rows))
    (first_of (codes "program") rows)

-- `demo`: a seed and a size within their bounds.
abbrev pub demo_in : List Row → Option Order
demo_in rows = option_and_then (λ seed. option_map (λ size. Demo seed size)
    (number_in is_size (codes "size") rows))
    (number_in is_seed (codes "seed") rows)

-- `check`, `repair`, `rerun` and `thin`: a program and a trace.
abbrev pub files_in : List Row → Option (Text × Text)
files_in rows = option_and_then (λ program. option_map (λ trace. (program, trace))
    (first_of (codes "trace") rows))
    (first_of (codes "program") rows)

-- The command of a verb, in clap's terms.
abbrev pub command_of : Verb → App
command_of verbs.Run = run_app
command_of verbs.Record = record_app
command_of verbs.Check = files_app (codes "check")
command_of verbs.Repair = files_app (codes "repair")
command_of verbs.Rerun = files_app (codes "rerun")
command_of verbs.Demo = demo_app
command_of verbs.Many = many_app
command_of verbs.Crash = crash_app
command_of verbs.Thin = files_app (codes "thin")

-- The order of a verb, by what clap reads.
abbrev pub order_in : Verb → List Row → Option Order
order_in verbs.Run rows = run_in rows
order_in verbs.Record rows = record_in rows
order_in verbs.Check rows = option_map (λ p. Check p.0 p.1) (files_in rows)
order_in verbs.Repair rows = option_map (λ p. Repair p.0 p.1) (files_in rows)
order_in verbs.Rerun rows = option_map (λ p. Rerun p.0 p.1) (files_in rows)
order_in verbs.Demo rows = demo_in rows
order_in verbs.Many rows = many_in rows
order_in verbs.Crash rows = crash_in rows
order_in verbs.Thin rows = option_map (λ p. Thin p.0 p.1) (files_in rows)

-- The order of a verb, by all words.
abbrev pub order_by : Verb → List Text → Option Order
order_by verb words = option_and_then (order_in verb) (reads (command_of verb) words)

-- The command that a word names.
unfoldable pub verb_of : Text → Option Verb
verb_of word =
    if bytes_eq word (codes "run") then Some verbs.Run
    else (if bytes_eq word (codes "record") then Some verbs.Record
    else (if bytes_eq word (codes "check") then Some verbs.Check
    else (if bytes_eq word (codes "repair") then Some verbs.Repair
    else (if bytes_eq word (codes "rerun") then Some verbs.Rerun
    else (if bytes_eq word (codes "demo") then Some verbs.Demo
    else (if bytes_eq word (codes "many") then Some verbs.Many
    else (if bytes_eq word (codes "crash") then Some verbs.Crash
    else (if bytes_eq word (codes "thin") then Some verbs.Thin
    else None))))))))

-- The order that all words give. The first word names the command.
unfoldable pub order : List Text → Option Order
order [] = None
order (word ∷ rest) = option_and_then (λ verb. order_by verb (word ∷ rest)) (verb_of word)
