-- The numbers of an order are within bounds.
use Rattle.std.proofs.Common.{◌≡◌, ◌^◌, ◌<◌, ◌≤◌, ℕ, suc, Bool, true, false, cond, List, [], ◌∷◌, length, Option, Some, None, IfSome, option_map, refl, ap, subst, arith}
use Rattle.std.specs.Prelude.{codes, nat_le, option_and_then}
use Rattle.std.proofs.lemmas.Bool.{and_parts, leb-true, ltb-true}
use Rattle.clap.specs.Words.{Row, Text, first_of}
use Rattle.hip_gen.specs.declared.limits.TheConstants.{LARGEST_SIZE, SEED_END}
use Rattle.hip_globals.specs.Addresses.{IsBase, is_base}
use Rattle.hip_globals.specs.Laws.BaseLaws.{base_valid}
use Rattle.hip_runs.specs.declared.limits.TheConstants.{MOST_NUMBERS, MOST_TURNS}
use Rattle.hip_words.specs.Commands.{reads}
use Rattle.hip_words.specs.Laws.{DemosAreValid, RecordsAreValid, RunsAreValid}
use Rattle.hip_num.specs.Texts.{signed_of}
use Rattle.hip_words.specs.Order.{command_of, crash_in, decimal_in, demo_in, each, files_in, is_limit, is_seed, is_size, many_in, number_in, numbers_of, order, order_by, order_in, picks_of, record_in, run_in, texts_in, traces_of, verb_of, where_so}
use Rattle.hip_words.specs.declared.order.Order.{Order}
use Rattle.hip_words.specs.declared.order.Order.TheVariants.{Check, Crash, Demo, Many, Record, Repair, Rerun, Run, Thin}
use Rattle.hip_words.specs.declared.order.Verb.{Verb}
use Rattle.hip_words.specs.declared.order.Verb.TheVariants as verbs

abbrev within : Option Order → Type 0
within None = Unit {0}
within (Some (Run program limit numbers)) = (limit ≤ MOST_TURNS) × (length numbers ≤ MOST_NUMBERS)
within (Some (Record program base limit numbers)) =
    IsBase base × (limit ≤ MOST_TURNS) × (length numbers ≤ MOST_NUMBERS)
within (Some (Demo seed size)) = (seed < SEED_END) × (1 ≤ size) × (size ≤ LARGEST_SIZE)
within (Some _) = Unit {0}

record IsWithin (o : Option Order) : Type 0 where
  bounds : within o

-- ---- through options

given : {A : Type 0} (P : A → Type 0) (o : Option A) (f : A → Option Order) → IfSome o P → ((x : A) → P x → IsWithin (f x)) → IsWithin (option_and_then f o)
given P None f h k = record { bounds = tt }
given P (Some x) f h k = k x h

made : {A : Type 0} (P : A → Type 0) (o : Option A) (f : A → Order) → IfSome o P → ((x : A) → P x → IsWithin (Some (f x))) → IsWithin (option_map f o)
made P None f h k = record { bounds = tt }
made P (Some x) f h k = k x h

always : {A : Type 0} (o : Option A) → IfSome o (λ _. Unit {0})
always None = tt
always (Some x) = tt

any_given : {A : Type 0} (o : Option A) (f : A → Option Order) → ((x : A) → IsWithin (f x)) → IsWithin (option_and_then f o)
any_given o f k = given (λ _. Unit {0}) o f (always o) (λ x u. k x)

any_made : {A : Type 0} (o : Option A) (f : A → Order) → ((x : A) → IsWithin (Some (f x))) → IsWithin (option_map f o)
any_made o f k = made (λ _. Unit {0}) o f (always o) (λ x u. k x)

-- ---- the limit and the numbers

-- A number that passes a test has the property that the test decides.
passed : (P : ℕ → Type 0) (test : ℕ → Bool) (o : Option ℕ) → ((n : ℕ) → test n ≡ true → P n) → IfSome (option_and_then (where_so test) o) P
passed P test None h = tt
passed P test (Some n) h = go (test n) refl
  where
    go : (b : Bool) → test n ≡ b → IfSome (cond b (Some n) None) P
    go true e = h n e
    go false e = tt

limit_within : (o : Option ℕ) → IfSome (option_and_then (where_so is_limit) o) (λ l. l ≤ MOST_TURNS)
limit_within o = passed (λ l. l ≤ MOST_TURNS) is_limit o (λ l e. leb-true _ _ e)

base_within : (o : Option ℕ) → IfSome (option_and_then (where_so is_base) o) IsBase
base_within o = passed IsBase is_base o base_valid

seed_within : (o : Option ℕ) → IfSome (option_and_then (where_so is_seed) o) (λ seed. seed < SEED_END)
seed_within o = passed (λ seed. seed < SEED_END) is_seed o (λ seed e. ltb-true seed SEED_END e)

size_within : (o : Option ℕ) → IfSome (option_and_then (where_so is_size) o) (λ size. (1 ≤ size) × (size ≤ LARGEST_SIZE))
size_within o =
    passed (λ size. (1 ≤ size) × (size ≤ LARGEST_SIZE)) is_size o
    (λ size e. let both = and_parts (nat_le 1 size) (nat_le size LARGEST_SIZE) e in (leb-true 1 size both.0, leb-true size LARGEST_SIZE both.1))

one_more : {A : Type 0} (o : Option A) (os : Option (List A)) (n : ℕ) → IfSome os (λ xs. length xs ≡ n) → IfSome (option_and_then (λ x. option_map (λ xs. x ∷ xs) os) o) (λ xs. length xs ≡ suc n)
one_more None os n h = tt
one_more (Some x) None n h = tt
one_more (Some x) (Some xs) n h = ap suc h

as_many : {A : Type 0} (read : Text → Option A) (ts : List Text) → IfSome (each read ts) (λ xs. length xs ≡ length ts)
as_many read [] = refl
as_many read (t ∷ ts) = one_more (read t) (each read ts) (length ts) (as_many read ts)

at_most_as : {A : Type 0} (os : Option (List A)) (n m : ℕ) → IfSome os (λ xs. length xs ≡ n) → n ≤ m → IfSome os (λ xs. length xs ≤ m)
at_most_as None n m h le = tt
at_most_as (Some xs) n m h le = omega (arith, h, le)

numbers_within : (ts : List Text) → IfSome (numbers_of ts) (λ ns. length ns ≤ MOST_NUMBERS)
numbers_within ts = go (nat_le (length ts) MOST_NUMBERS) refl
  where
    go : (b : Bool) → nat_le (length ts) MOST_NUMBERS ≡ b → IfSome (option_and_then (each (signed_of (2 ^ 63))) (cond b (Some ts) None)) (λ ns. length ns ≤ MOST_NUMBERS)
    go true e = at_most_as (each (signed_of (2 ^ 63)) ts) (length ts) MOST_NUMBERS (as_many (signed_of (2 ^ 63)) ts) (leb-true _ _ e)
    go false e = tt

-- ---- the orders

run_within : (rows : List Row) → IsWithin (run_in rows)
run_within rows =
    any_given (first_of (codes "program") rows) _ (λ program.
    given (λ l. l ≤ MOST_TURNS) (number_in is_limit (codes "limit") rows) _ (limit_within (decimal_in (codes "limit") rows)) (λ limit l.
    made (λ ns. length ns ≤ MOST_NUMBERS) (numbers_of (texts_in (codes "numbers") rows)) (λ numbers. Run program limit numbers) (numbers_within (texts_in (codes "numbers") rows)) (λ numbers n.
    record { bounds = (l, n) })))

record_within : (rows : List Row) → IsWithin (record_in rows)
record_within rows =
    any_given (first_of (codes "program") rows) _ (λ program.
    given IsBase (number_in is_base (codes "base") rows) _ (base_within (decimal_in (codes "base") rows)) (λ base b.
    given (λ l. l ≤ MOST_TURNS) (number_in is_limit (codes "limit") rows) _ (limit_within (decimal_in (codes "limit") rows)) (λ limit l.
    made (λ ns. length ns ≤ MOST_NUMBERS) (numbers_of (texts_in (codes "numbers") rows)) (λ numbers. Record program base limit numbers) (numbers_within (texts_in (codes "numbers") rows)) (λ numbers n.
    record { bounds = (b, l, n) }))))

many_within : (rows : List Row) → IsWithin (many_in rows)
many_within rows =
    any_given (first_of (codes "program") rows) _ (λ program.
    any_made (traces_of (texts_in (codes "traces") rows)) (λ traces. Many program traces) (λ traces. record { bounds = tt }))

crash_within : (rows : List Row) → IsWithin (crash_in rows)
crash_within rows =
    any_given (first_of (codes "program") rows) _ (λ program.
    any_given (first_of (codes "trace") rows) _ (λ trace.
    any_given (decimal_in (codes "entry") rows) _ (λ entry.
    any_made (picks_of (texts_in (codes "picks") rows)) (λ picks. Crash program trace entry picks) (λ picks. record { bounds = tt }))))

demo_within : (rows : List Row) → IsWithin (demo_in rows)
demo_within rows =
    given (λ seed. seed < SEED_END) (number_in is_seed (codes "seed") rows) _ (seed_within (decimal_in (codes "seed") rows)) (λ seed s.
    made (λ size. (1 ≤ size) × (size ≤ LARGEST_SIZE)) (number_in is_size (codes "size") rows) (λ size. Demo seed size) (size_within (decimal_in (codes "size") rows)) (λ size z.
    record { bounds = (s, z.0, z.1) }))

in_within : (verb : Verb) (rows : List Row) → IsWithin (order_in verb rows)
in_within verbs.Run rows = run_within rows
in_within verbs.Record rows = record_within rows
in_within verbs.Check rows = any_made (files_in rows) (λ p. Check p.0 p.1) (λ p. record { bounds = tt })
in_within verbs.Repair rows = any_made (files_in rows) (λ p. Repair p.0 p.1) (λ p. record { bounds = tt })
in_within verbs.Rerun rows = any_made (files_in rows) (λ p. Rerun p.0 p.1) (λ p. record { bounds = tt })
in_within verbs.Demo rows = demo_within rows
in_within verbs.Many rows = many_within rows
in_within verbs.Crash rows = crash_within rows
in_within verbs.Thin rows = any_made (files_in rows) (λ p. Thin p.0 p.1) (λ p. record { bounds = tt })

order_within : (words : List Text) → IsWithin (order words)
unfolding order
order_within [] = record { bounds = tt }
order_within (word ∷ rest) =
    any_given (verb_of word) (λ verb. order_by verb (word ∷ rest)) (λ verb.
    any_given (reads (command_of verb) (word ∷ rest)) (order_in verb) (in_within verb))

pub runs_valid : RunsAreValid
runs_valid words program limit numbers e = subst within e (order_within words).bounds

pub records_valid : RecordsAreValid
records_valid words program base limit numbers e = subst within e (order_within words).bounds

pub demos_valid : DemosAreValid
demos_valid words seed size e = subst within e (order_within words).bounds
