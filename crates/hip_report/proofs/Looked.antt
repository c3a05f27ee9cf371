-- The ledger after a look at the calls, before the rest of a step is noted.
use Rattle.std.proofs.Common.{◌≡◌, ℕ, suc, ◌-◌, Bool, true, false, refl, sym, ap, ◌∙◌, subst}
use Rattle.hip_tree.specs.declared.program.Program.{Program}
use Rattle.hip_runs.specs.Seen.{Seen}
use Rattle.hip_runs.specs.State.{Level, levels_of}
use Rattle.hip_runs.specs.Step.{event, run}
use Rattle.hip_runs.specs.declared.event.Event.{Event}
use Rattle.hip_runs.specs.declared.input.Input.{Input}
use Rattle.hip_ledger.specs.Noted.{IsLedger, Stood}
use Rattle.hip_ledger.specs.Sights.{needs_calls}
use Rattle.hip_ledger.specs.declared.ledger.Ledger.{Ledger}
use Rattle.hip_ledger.proofs.noting.Assembled.{looked_at, stood_now}
use Rattle.hip_ledger.proofs.noting.CallsStay.{calls_stay}
use Rattle.hip_report.specs.StandingCalls.{LooksAt}
use Rattle.std.specs.Prelude.{List}

-- The ledger is those of n steps, and have the standing calls after n steps if the next step needs them.
pub record Looked (P : Program) (I : Input) (n : ℕ) (c : Ledger) : Type 0 where
  pub noted : IsLedger P I n c
  pub calls : needs_calls (event P I (run P I n)) ≡ true → c.calls ≡ levels_of (run P I n).frames

-- If a step needs the calls, the standing calls after it are those before it.
pub looked_before : (m : Seen) {e : Event} → e ≡ event m.program m.input (run m.program m.input (m.taken - 1)) → suc (m.taken - 1) ≡ m.taken → (c c' : Ledger) → IsLedger m.program m.input (m.taken - 1) c
    → LooksAt e m c c' → Looked m.program m.input (m.taken - 1) c'
looked_before m {e} seen next c c' h l = record { noted = looked_at P I n c c' h (stood (needs_calls e) refl) l.rest; calls = calls }
  where
    P : Program
    P = m.program

    I : Input
    I = m.input

    n : ℕ
    n = m.taken - 1

    calls : needs_calls (event P I (run P I n)) ≡ true → c'.calls ≡ levels_of (run P I n).frames
    calls needs = l.looked (ap needs_calls seen ∙ needs) ∙ ap (λ i. levels_of (run P I i).frames) (sym next) ∙ calls_stay P I n needs

    stood : (b : Bool) → needs_calls e ≡ b → Stood P I n c'.calls
    stood true q = stood_now P I n c'.calls (calls (ap needs_calls (sym seen) ∙ q))
    stood false q = subst (λ (ls : List Level). Stood P I n ls) (sym (l.same q)) h.calls
