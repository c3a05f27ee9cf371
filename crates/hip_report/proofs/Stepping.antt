-- What is known before a step still holds after the machine has taken the step.
use Rattle.std.proofs.Common.{◌≡◌, ℕ, suc, ◌-◌, Bool, true, false, cond, List, [], ◌∷◌, Option, Some, None, option_map, refl, sym, ap, ◌∙◌, subst, arith}
use Rattle.hip_mem.specs.Memory.{range_contains}
use Rattle.hip_tree.specs.declared.program.Program.{Program}
use Rattle.hip_runs.specs.Found.Objects.{global_at, object_at, or_else, slot_at, slot_in}
use Rattle.hip_runs.specs.Seen.{after_step, Seen, state_of}
use Rattle.hip_runs.specs.State.{Frame, Slot}
use Rattle.hip_runs.specs.Step.{has_ended}
use Rattle.hip_runs.specs.declared.event.Event.{Event}
use Rattle.hip_runs.specs.declared.event.Object.{Object}
use Rattle.hip_runs.specs.declared.event.Object.TheVariants as objects
use Rattle.hip_ledger.specs.declared.ledger.Ledger.{Ledger}
use Rattle.hip_report.specs.BeforeStep.{HasStepped, HasTaken, StandsBefore, global_of}
use Rattle.hip_ledger.specs.Noted.{IsLedger}
use Rattle.hip_report.specs.declared.sight.Sight.{Sight}

pub has_taken : (m m' : Seen) (e : Event) (c : Ledger) (sight : Sight) → m' ≡ after_step m → has_ended (state_of m) ≡ false
    → StandsBefore m.program m.input m.taken e c sight → HasTaken m' e c sight
has_taken m m' e c sight step going h =
    let back : suc m.taken - 1 ≡ m.taken = omega arith in
    subst (λ (x : Seen). HasTaken x e c sight) (sym step)
    (subst (λ t. HasTaken (record m { taken = cond t m.taken (suc m.taken) }) e c sight) (sym going)
    (omega arith, subst (λ i. StandsBefore m.program m.input i e c sight) (sym back) h))

-- Where the run goes on, the machine has taken a step.
pub taken_by : (m : Seen) (e : Event) (c : Ledger) (sight : Sight) → HasStepped m e c sight → sight.ended ≡ false → HasTaken m e c sight
taken_by m e c sight h on =
    let going = sym h.sees.ended ∙ on in
    has_taken h.before m e c sight h.takes.step going (record {
      noted = h.tracks.noted;
      short = h.tracks.short;
      going = going;
      seen = h.takes.event;
      sees = h.sees;
    })

-- Where the run has ended, the ledger stay.
pub stays_noted : (m : Seen) (e : Event) (c : Ledger) (sight : Sight) → HasStepped m e c sight → sight.ended ≡ true → IsLedger m.program m.input m.taken c
stays_noted m e c sight h off =
    let ended = sym h.sees.ended ∙ off in
    let same : m ≡ h.before = h.takes.step ∙ ap (λ t. record h.before { taken = cond t h.before.taken (suc h.before.taken) }) ended in
    subst (λ (x : Seen). IsLedger x.program x.input x.taken c) (sym same) h.tracks.noted

-- ---- the global that an object is

no_slot : (xs : List Slot) (a g : ℕ) → slot_in xs a ≡ Some (objects.Global g) → ⊥
no_slot [] a g e = let z : ⊥ = cc in z
no_slot (x ∷ xs) a g e = go (λ q. no_slot xs a g q) (range_contains x.addr x.size a) e
  where
    go : (slot_in xs a ≡ Some (objects.Global g) → ⊥) → (t : Bool) → cond t (Some (objects.Slot x.site)) (slot_in xs a) ≡ Some (objects.Global g) → ⊥
    go rest true e = let z : ⊥ = cc in z
    go rest false e = rest e

no_slot_at : (fs : List Frame) (a g : ℕ) → slot_at fs a ≡ Some (objects.Global g) → ⊥
no_slot_at [] a g e = let z : ⊥ = cc in z
no_slot_at (f ∷ fs) a g e = go (λ q. no_slot_at fs a g q) (slot_in f.slots a) refl e
  where
    go : (slot_at fs a ≡ Some (objects.Global g) → ⊥) → (o : Option Object) → slot_in f.slots a ≡ o → or_else o (slot_at fs a) ≡ Some (objects.Global g) → ⊥
    go rest None q e = rest e
    go rest (Some x) q e = no_slot f.slots a g (q ∙ e)

-- The object at an address is a global exactly if the address is in that global.
pub the_global : (P : Program) (base a : ℕ) (fs : List Frame) → global_of (object_at P base fs a) ≡ global_at P base a
the_global P base a fs = by (global_at P base a)
  where
    slots : (o : Option Object) → slot_at fs a ≡ o → global_of o ≡ None
    slots None e = refl
    slots (Some (objects.Slot s)) e = refl
    slots (Some (objects.Global g)) e = absurd (no_slot_at fs a g e)

    by : (o : Option ℕ) → global_of (or_else (option_map objects.Global o) (slot_at fs a)) ≡ o
    by None = slots (slot_at fs a) refl
    by (Some g) = refl
