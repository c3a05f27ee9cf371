-- What is known before a step whose notes are taken after it.
use Rattle.std.specs.Prelude.{◌≡◌, ℕ, ◌-◌, ◌<◌, ◌^◌, false, Option, None, Some}
use Rattle.hip_tree.specs.declared.program.Program.{Program}
use Rattle.hip_runs.specs.Ends.{longest}
use Rattle.hip_runs.specs.Found.Objects.{global_at}
use Rattle.hip_runs.specs.Seen.{Seen, after_step, next_site, state_of}
use Rattle.hip_runs.specs.State.{State}
use Rattle.hip_runs.specs.Step.{event, has_ended, run}
use Rattle.hip_runs.specs.declared.event.Event.{Event}
use Rattle.hip_runs.specs.declared.event.Object.{Object}
use Rattle.hip_runs.specs.declared.event.Object.TheVariants as objects
use Rattle.hip_runs.specs.declared.input.Input.{Input}
use Rattle.hip_ledger.specs.Noted.{IsLedger}
use Rattle.hip_ledger.specs.Sights.{AddUnlessEnded, marks_ahead}
use Rattle.hip_ledger.specs.declared.ledger.Ledger.{Ledger}
use Rattle.hip_ledger.specs.declared.sought.Sought.TheVariants.{Findings}
use Rattle.hip_report.specs.declared.sight.Sight.{Sight}
use Rattle.hip_report.specs.declared.sight.Target.{Target}

-- A machine took a step, which had this event.
pub record TakesStep (old new : Seen) (e : Event) : Type 0 where
  pub step : new ≡ after_step old
  pub event : e ≡ event old.program old.input (state_of old)

-- The ledger is those of the steps of a machine; its program has no block of 2^64 instructions.
pub record Tracks (m : Seen) (c : Ledger) : Type 0 where
  pub noted : IsLedger m.program m.input m.taken c
  pub short : longest m.program < 2 ^ 64

-- ---- what is seen before a step

-- The number of the global, if the object is one.
abbrev pub global_of : Option Object → Option ℕ
global_of (Some (objects.Global g)) = Some g
global_of _ = None

-- The object of a target, if there is one, is the global at its address.
abbrev pub TellsGlobal : Program → Input → Option Target → Type 0
TellsGlobal P I None = Unit {0}
TellsGlobal P I (Some t) = global_of t.object ≡ global_at P I.base t.addr

-- What is seen in a state, beside the ledger of what was met before; the marks only if they are sought.
pub record Sees (P : Program) (I : Input) (s : State) (c : Ledger) (sight : Sight) : Type 0 where
  pub ended : sight.ended ≡ has_ended s
  pub site : sight.site ≡ next_site P s
  pub marks : c.sought ≡ Findings → AddUnlessEnded (event P I s) c.marks.keys sight.pointed.marks (marks_ahead P I s)
  pub last : TellsGlobal P I sight.pointed.last

-- ---- a step that a machine has taken

-- After n steps the run goes on, and its next step has this event. The ledger is those of the n steps, and this is what
-- is seen before the next one.
pub record StandsBefore (P : Program) (I : Input) (n : ℕ) (e : Event) (c : Ledger) (sight : Sight) : Type 0 where
  pub noted : IsLedger P I n c
  pub short : longest P < 2 ^ 64
  pub going : has_ended (run P I n) ≡ false
  pub seen : e ≡ event P I (run P I n)
  pub sees : Sees P I (run P I n) c sight

-- A machine has taken a step with this event. Before it the ledger were these, and this was seen.
abbrev pub HasTaken : Seen → Event → Ledger → Sight → Type 0
HasTaken m e c sight = (0 < m.taken) × StandsBefore m.program m.input (m.taken - 1) e c sight

-- A machine took a step with this event, or had ended. Before it the ledger were these, and this was seen.
pub record HasStepped (m : Seen) (e : Event) (c : Ledger) (sight : Sight) : Type 0 where
  pub before : Seen
  pub takes : TakesStep before m e
  pub tracks : Tracks before c
  pub sees : Sees before.program before.input (state_of before) c sight
