-- Where stores and flushes of a run lie.
use Rattle.std.proofs.Common.{◌≡◌, ℕ, ◌+◌, ◌-◌, ◌*◌, ◌/◌, ◌<◌, ◌≤◌, true, ◌&&◌, nat_le, nat_lt, length, arith}
use Rattle.std.proofs.lemmas.Bool.Decides.{nat_tests}
use Rattle.hip_tree.specs.declared.program.Program.{Program}
use Rattle.hip_types.specs.declared.areas.TheConstants.{LINE_SIZE}
use Rattle.hip_runs.specs.State.{State}
use Rattle.hip_runs.specs.Step.{event}
use Rattle.hip_runs.specs.Laws.StepLaws.{Cases, is_plain, step-cases}
use Rattle.hip_runs.specs.declared.event.Event.{Event}
use Rattle.hip_runs.specs.declared.input.Input.{Input}
use Rattle.hip_runs.specs.declared.event.Event.TheVariants as events

-- A store lies in the region, and a flush in the cache lines that have a byte of it.
abbrev pub lies : Input → Event → Type 0
lies I (events.Store a v n) = (I.base ≤ a) × (a - I.base + n ≤ length I.image)
lies I (events.Flush line size) = (I.base ≤ line) × (line - I.base + size ≤ LINE_SIZE * ((length I.image + 63) / LINE_SIZE))
lies I (events.Persist line size) = (I.base ≤ line) × (line - I.base + size ≤ LINE_SIZE * ((length I.image + 63) / LINE_SIZE))
lies I _ = Unit {0}

pub record Lies (I : Input) (e : Event) : Type 0 where
  pub is : lies I e

plain : (I : Input) (e : Event) → is_plain e ≡ true → Lies I e
plain I events.Quiet p = record { is = tt {0} }
plain I (events.Print z) p = record { is = tt {0} }
plain I (events.Store a v n) p = absurd (let z : ⊥ = cc in z)
plain I (events.Flush line size) p = absurd (let z : ⊥ = cc in z)
plain I (events.Persist line size) p = absurd (let z : ⊥ = cc in z)
plain I events.Fence p = absurd (let z : ⊥ = cc in z)
plain I (events.Assert a n) p = record { is = tt {0} }
plain I (events.End e) p = record { is = tt {0} }

stored : (base size a n : ℕ) → nat_le base a && nat_le (a + n) (base + size) ≡ true → (base ≤ a) × (a - base + n ≤ size)
stored base size a n h = (grind (arith, nat_tests), grind (arith, nat_tests))

within : (base size a n : ℕ) → nat_lt 0 n && (nat_le base a && nat_le (a + n) (base + size)) ≡ true → (0 < n) × (base ≤ a) × (a - base + n ≤ size)
within base size a n h = (grind (arith, nat_tests), grind (arith, nat_tests), grind (arith, nat_tests))

rounded : (base size o n : ℕ) → 0 < n → o + n ≤ size
    → base + 64 * (o / 64) - base + (64 * ((o + n - 1) / 64 + 1) - 64 * (o / 64)) ≤ 64 * ((size + 63) / 64)
rounded base size o n some le = omega (arith, some, le)

flushed : (base size a n : ℕ) → nat_lt 0 n && (nat_le base a && nat_le (a + n) (base + size)) ≡ true
    → (base ≤ base + 64 * ((a - base) / 64)) × (base + 64 * ((a - base) / 64) - base + (64 * ((a - base + n - 1) / 64 + 1) - 64 * ((a - base) / 64)) ≤ 64 * ((size + 63) / 64))
flushed base size a n h = let w = within base size a n h in (omega arith, rounded base size (a - base) n w.0 w.2)

all : (I : Input) (s : State) → Cases I s (λ e ls. Lies I e)
all I s = record {
  plain = λ e p. plain I e p;
  store = λ f fs t a bytes e w. record { is = stored I.base (length I.image) a (length bytes) e };
  flush = λ f fs t a n e. record { is = flushed I.base (length I.image) a n e };
  persist = λ f fs t a n e. record { is = flushed I.base (length I.image) a n e };
  fence = record { is = tt {0} };
}

pub event_lies : (P : Program) (I : Input) (s : State) → Lies I (event P I s)
event_lies P I s = step-cases P I s (λ e ls. Lies I e) (all I s)
