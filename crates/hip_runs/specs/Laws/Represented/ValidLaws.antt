-- The two tests on valid bytes agree.
use Rattle.std.proofs.Common.{◌≡◌, ℕ, zero, suc, ◌+◌, ◌<◌, ◌≤◌, ◌⊎◌, inl, inr, Option, Some, None, cond, nat_eq, ◌%◌, Bool, true, false, ◌||◌, List, length, ◌∷◌, [], ◌++◌, refl, sym, ap, ap₂, ◌∙◌, arith}
use Rattle.std.proofs.lemmas.Bool.Decides.{nat_tests}
use Rattle.std.specs.Cmp.{both_ways}
use Rattle.hip_tree.specs.declared.program.Program.{Program}
use Rattle.hip_mem.specs.declared.refusal.MemTrap.{MemTrap}
use Rattle.hip_mem.specs.declared.refusal.MemTrap.TheVariants as mem_traps
use Rattle.hip_runs.specs.declared.event.TrapKind.TheVariants as traps
use Rattle.hip_mem.specs.Areas.{Areas, access_trap, after_write}
use Rattle.hip_mem.specs.Areas as areas
use Rattle.hip_mem.specs.Laws.AreasLaws.{FitsOne, are_valid-fits, fits-are_valid, holds-write, mark_of-after_write, laid_out-after_write}
use Rattle.hip_mem.specs.Memory.{Write}
use Rattle.hip_types.specs.Areas.{volatile_start, stack_start}
use Rattle.hip_globals.specs.Addresses.{volatile_end}
use Rattle.hip_globals.specs.Initial.{volatile_bytes}
use Rattle.hip_runs.specs.declared.input.Input.{Input}
use Rattle.hip_runs.specs.Actions.{Action, Traps, accessed, are_valid, in_region, is_within}
use Rattle.hip_runs.specs.State.{World}
use Rattle.hip_runs.specs.Represented.{HoldsMemory}

within_true : (from to a n : ℕ) → from ≤ a → a + n ≤ to → is_within from to a n ≡ true
within_true from to a n p q = grind (arith, nat_tests)

within_is : (from to a n : ℕ) → is_within from to a n ≡ true → (from ≤ a) × (a + n ≤ to)
within_is from to a n e = grind (arith, nat_tests)

three : (x y z : Bool) → x || (y || z) ≡ true → (x ≡ true) ⊎ ((y ≡ true) ⊎ (z ≡ true))
three true y z e = inl refl
three false true z e = inr (inl refl)
three false false z e = inr (inr e)

first_true : (x y z : Bool) → x ≡ true → x || (y || z) ≡ true
first_true x y z e = ap (λ b. b || (y || z)) e

second_true : (x y z : Bool) → y ≡ true → x || (y || z) ≡ true
second_true true y z e = refl
second_true false y z e = ap (λ b. b || z) e

third_true : (x y z : Bool) → z ≡ true → x || (y || z) ≡ true
third_true true y z e = refl
third_true false true z e = refl
third_true false false z e = e

-- The n bytes from address a on lie in the area of the volatile globals.
abbrev in_volatile : Program → ℕ → ℕ → Bool
in_volatile P a n = is_within volatile_start (volatile_end P) a n

-- The n bytes from address a on lie in the stack below the mark.
abbrev in_stack : World → ℕ → ℕ → Bool
in_stack w a n = is_within stack_start w.mark a n

valid_same : (P : Program) (I : Input) (w : World) (r : Areas) (a n : ℕ)
    → volatile_start + length (volatile_bytes P I.base) ≡ volatile_end P → HoldsMemory P I r w.writes w.mark
    → areas.are_valid r a (suc n) ≡ are_valid P I w a (suc n)
valid_same P I w r a n v h = both_ways (areas.are_valid r a (suc n)) (are_valid P I w a (suc n)) there back
  where
    volatile_is : volatile_start + length r.volatile ≡ volatile_end P
    volatile_is = ap (λ k. volatile_start + k) h.holds.volatile ∙ v

    region_is : r.base + length r.region ≡ I.base + length I.image
    region_is = ap₂ (λ x y. x + y) h.holds.base h.holds.region

    go : FitsOne r a (suc n) → are_valid P I w a (suc n) ≡ true
    go (inl x) =
        first_true (in_volatile P a (suc n)) (in_stack w a (suc n)) (in_region I a (suc n))
        (within_true volatile_start (volatile_end P) a (suc n) x.0 (omega (arith, x.1, volatile_is)))
    go (inr (inl x)) =
        second_true (in_volatile P a (suc n)) (in_stack w a (suc n)) (in_region I a (suc n))
        (within_true stack_start w.mark a (suc n) x.0 (omega (arith, x.1, h.mark_is)))
    go (inr (inr x)) =
        third_true (in_volatile P a (suc n)) (in_stack w a (suc n)) (in_region I a (suc n))
        (within_true I.base (I.base + length I.image) a (suc n) (omega (arith, x.0, h.holds.base))
        (omega (arith, x.1, region_is)))

    there : areas.are_valid r a (suc n) ≡ true → are_valid P I w a (suc n) ≡ true
    there e = go (are_valid-fits r n a h.laid_out e)

    fits : (in_volatile P a (suc n) ≡ true) ⊎ ((in_stack w a (suc n) ≡ true) ⊎ (in_region I a (suc n) ≡ true))
        → FitsOne r a (suc n)
    fits (inl x) =
        let q = within_is volatile_start (volatile_end P) a (suc n) x in inl (q.0, omega (arith, q.1, volatile_is))
    fits (inr (inl x)) =
        let q = within_is stack_start w.mark a (suc n) x in inr (inl (q.0, omega (arith, q.1, h.mark_is)))
    fits (inr (inr x)) =
        let q = within_is I.base (I.base + length I.image) a (suc n) x in
        inr (inr (omega (arith, q.0, h.holds.base), omega (arith, q.1, region_is)))

    back : are_valid P I w a (suc n) ≡ true → areas.are_valid r a (suc n) ≡ true
    back e =
        fits-are_valid r (suc n) a (fits (three (in_volatile P a (suc n)) (in_stack w a (suc n))
        (in_region I a (suc n)) e))

pub valid_is : (P : Program) (I : Input) (w : World) (r : Areas) (a n : ℕ) → 0 < n
    → volatile_start + length (volatile_bytes P I.base) ≡ volatile_end P → HoldsMemory P I r w.writes w.mark
    → areas.are_valid r a n ≡ are_valid P I w a n
valid_is P I w r a zero some v h = absurd (omega (arith, some))
valid_is P I w r a (suc n) some v h = valid_same P I w r a n v h

-- The action after the memory's answer: the trap, or the action.
abbrev pub unless_trap : Option MemTrap → Action → Action
unless_trap None go = go
unless_trap (Some mem_traps.Misaligned) go = Traps traps.Misaligned
unless_trap (Some mem_traps.BadAddress) go = Traps traps.Address

-- An access traps in the memory of the code exactly if it does in the run.
pub accessed_is : (P : Program) (I : Input) (w : World) (r : Areas) (a n align : ℕ) (go : Action) → 0 < n
    → volatile_start + length (volatile_bytes P I.base) ≡ volatile_end P → HoldsMemory P I r w.writes w.mark →
    accessed P I w a n align go ≡ unless_trap (access_trap r a n align) go
unfolding accessed
accessed_is P I w r a n align go some v h =
    ap (λ b. cond (nat_eq (a % align) 0) (cond b go (Traps traps.Address)) (Traps traps.Misaligned))
    (sym (valid_is P I w r a n some v h)) ∙ by_tests (nat_eq (a % align) 0) (areas.are_valid r a n)
  where
    by_tests : (b c : Bool)
        → cond b (cond c go (Traps traps.Address))
        (Traps traps.Misaligned)
        ≡ unless_trap (cond b (cond c None (Some mem_traps.BadAddress)) (Some mem_traps.Misaligned)) go
    by_tests true true = refl
    by_tests true false = refl
    by_tests false c = refl

pub memory_written : {P : Program} {I : Input} {r : Areas} {ws : List Write} {mark : ℕ} (x : Write)
    → HoldsMemory P I r ws mark → HoldsMemory P I (after_write x r) (ws ++ x ∷ []) mark
memory_written {P} {I} {r} {ws} x h = record {
  holds =
      holds-write x r (record { base = I.base; volatile = volatile_bytes P I.base; region = I.image; writes = ws })
      h.holds;
  mark_is = mark_of-after_write x r ∙ h.mark_is;
  laid_out = laid_out-after_write x r h.laid_out;
}
