-- Ops that give a value, load, branch, return, or call a function without a pointer take plain steps.
use Rattle.std.proofs.Common.{◌≡◌, ◌⊎◌, inl, inr, ℕ, ◌+◌, ◌<◌, ◌≤◌, true, Some, None, is_some, slice_get, refl, sym, ap, ◌∙◌, subst, arith}
use Rattle.hip_tree.specs.declared.program.Program.{Program}
use Rattle.hip_code.specs.Ops.{op_turn}
use Rattle.hip_code.specs.declared.code.Code.{Code}
use Rattle.hip_code.specs.declared.op.Memory.TheVariants as memories
use Rattle.hip_code.specs.declared.op.Op.{Op}
use Rattle.hip_code.specs.declared.op.Op.TheVariants as ops
use Rattle.hip_runs.specs.Seen.{Seen}
use Rattle.hip_runs.specs.Step.{event, run}
use Rattle.hip_runs.specs.declared.event.Event.TheVariants as events
use Rattle.hip_runs.specs.declared.input.Input.{Input}
use Rattle.hip_core.specs.declared.core_parts.Core.{Core}
use Rattle.hip_runner.specs.PlainSteps.{IsPlainStep, PassesPlainly, is_plain_op}
use Rattle.hip_runner.specs.Quiet.{GoesQuietly, after_steps}
use Rattle.hip_runner.specs.RunnerState.{IsOnItsWay, seen_of}
use Rattle.hip_runner.proofs.OpsStated.{plain_nowhere}
use Rattle.hip_runner.proofs.Runs.{ending_are}

-- ---- steps

-- A step without an event at such an op is plain.
pub plain_here : {P : Program} {I : Input} {code : Code} {core : Core} → IsOnItsWay P I code core → core.ending ≡ None → (o : Op) → slice_get code.ops.items core.top.place ≡ Some o → is_plain_op o ≡ true
    → event P I (run P I core.taken) ≡ events.Quiet → IsPlainStep (seen_of P I core)
plain_here r going o here plain quiet = record {
  going = ap is_some (sym (ending_are r) ∙ going);
  quiet = quiet;
  pointer = λ operand. sym (plain_nowhere r o here going plain operand);
}

-- ---- passes

-- A run that takes no step takes only plain steps.
pub passes_none : (m : Seen) → PassesPlainly m 0 m
passes_none m = record {
  is = ap (λ n. record m { taken = n }) (let e : m.taken ≡ m.taken + 0 = omega arith in e);
  plain = λ n lt. absurd (let z : ⊥ = omega (arith, lt) in z);
}

-- Plain steps, and one more.
pub passes_next : (old mid : Seen) (k : ℕ) → PassesPlainly old k mid → IsPlainStep mid → PassesPlainly old (k + 1) (record mid { taken = mid.taken + 1 })
passes_next old mid k p next = record {
  is = ap (λ (m : Seen). record m { taken = m.taken + 1 }) p.is ∙ ap (λ n. record old { taken = n }) (let e : old.taken + k + 1 ≡ old.taken + (k + 1) = omega arith in e);
  plain = λ n lt. by n lt (compare n);
}
  where
    compare : (n : ℕ) → (n < k) ⊎ (k ≤ n)
    compare n = grind arith

    by : (n : ℕ) → n < k + 1 → (n < k) ⊎ (k ≤ n) → IsPlainStep (after_steps old n)
    by n lt (inl below) = p.plain n below
    by n lt (inr past) = subst (λ i. IsPlainStep (after_steps old i)) (let e : k ≡ n = omega (arith, lt, past) in e) (subst IsPlainStep p.is next)

-- Plain steps have no event.
pub passes_quietly : (old new : Seen) (k : ℕ) → PassesPlainly old k new → GoesQuietly old new
passes_quietly old new k p = record { steps = k; is = p.is; quiet = λ n lt. (p.plain n lt).quiet }

-- ---- turns

-- A plain op is a turn.
pub plain_turn : (o : Op) → is_plain_op o ≡ true → op_turn o ≡ true
plain_turn (ops.Value dest value) e = refl
plain_turn (ops.Memory (memories.Load dest width align addr)) e = refl
plain_turn (ops.Memory (memories.Store size align value addr)) e = refl
plain_turn (ops.Memory (memories.Effect effect)) e = absurd (let z : ⊥ = cc in z)
plain_turn (ops.Control control) e = refl
