-- Notes of a machine's run.
use Rattle.std.proofs.Common.{◌≡◌, ◌<◌, ◌^◌, Option, Some, None, sym, ap, ◌∙◌, subst}
use Rattle.std.specs.Prelude.{IfOk, OnOk, Result, Ok, Err}
use Rattle.hip_tree.specs.declared.program.Program.{Program}
use Rattle.hip_runs.specs.Ends.{longest}
use Rattle.hip_runs.specs.declared.event.Event.{Event}
use Rattle.hip_runs.specs.declared.input.Input.{Input}
use Rattle.hip_runs.specs.Seen.{Seen, after_step}
use Rattle.hip_runner.specs.Quiet.{ComesTo}
use Rattle.hip_ledger.specs.Noted.{IsLedger}
use Rattle.hip_report.specs.TrackerView.{HasLedger, IsSource, NotesOf, seen_in}
use Rattle.hip_ledger.specs.declared.ledger.Ledger.{Ledger}
use Rattle.hip_report.specs.declared.tracker.NotedRun.{NotedRun}

pub if_ok : {A B : Type 0} (Q : A → Type 0) (R S : Type 0) (r : Result A B) → IfOk r Q → OnOk r R → ((x : A) → Q x → R → S) → OnOk r S
if_ok Q R S (Ok x) h k f = f x h k
if_ok Q R S (Err e) h k f = h

pub under_ok : {A B : Type 0} (Q R : A → Type 0) (r : Result A B) → ((x : A) → Q x → R x) → IfOk r Q → IfOk r R
under_ok Q R (Ok x) f h = f x h
under_ok Q R (Err e) f h = h

-- A machine in the same run.
pub record IsInRun (m m' : Seen) : Type 0 where
  pub program : m'.program ≡ m.program
  pub input : m'.input ≡ m.input

pub step_in_run : (m m' : Seen) → m' ≡ after_step m → IsInRun m m'
step_in_run m m' e = record { program = ap (λ (x : Seen). x.program) e; input = ap (λ (x : Seen). x.input) e }

pub event_in_run : (m m' : Seen) (e : Event) → ComesTo m m' e → IsInRun m m'
event_in_run m m' e c = record {
  program = ap (λ (x : Seen). x.program) c.step ∙ ap (λ (x : Seen). x.program) c.quiet.is;
  input = ap (λ (x : Seen). x.input) c.step ∙ ap (λ (x : Seen). x.input) c.quiet.is;
}

notes_of : (o : Option NotedRun) (m m' : Seen) (c : Ledger) → IsSource o m → longest m.program < 2 ^ 64 → IsInRun m m' → IsLedger m'.program m'.input m'.taken c → NotesOf o c
notes_of None m m' c s short e h = absurd s
notes_of (Some s) m m' c is short e h =
    let p : m'.program ≡ s.checked.now = e.program ∙ sym is.0 in
    let i : m'.input ≡ s.input.now = e.input ∙ sym is.1 in (
      subst (λ k. IsLedger s.checked.now s.input.now k c) (sym h.steps) (subst (λ (x : Input). IsLedger s.checked.now x m'.taken c) i (subst (λ (x : Program). IsLedger x m'.input m'.taken c) p h)),
      subst (λ (x : Program). longest x < 2 ^ 64) (sym is.0) short,
    )

seen_is : (o : Option NotedRun) (m m' : Seen) (c : Ledger) → IsSource o m → IsInRun m m' → IsLedger m'.program m'.input m'.taken c → seen_in o c.steps ≡ Some m'
seen_is None m m' c s e h = absurd s
seen_is (Some s) m m' c is e h =
    let p : s.checked.now ≡ m'.program = is.0 ∙ sym e.program in
    let i : s.input.now ≡ m'.input = is.1 ∙ sym e.input in
    ap (λ (x : Program). Some (record { program = x; input = s.input.now; taken = c.steps })) p
    ∙ ap (λ (x : Input). Some (record { program = m'.program; input = x; taken = c.steps })) i
    ∙ ap (λ k. Some (record { program = m'.program; input = m'.input; taken = k })) h.steps

pub has_notes : (o : Option NotedRun) (m m' : Seen) (c : Ledger) → IsSource o m → longest m.program < 2 ^ 64 → IsInRun m m' → IsLedger m'.program m'.input m'.taken c → HasLedger o c m'
has_notes o m m' c s short e h = record { ledger = notes_of o m m' c s short e h; seen = seen_is o m m' c s e h }
