-- What the next step of a run reads is there.
use Rattle.std.proofs.Common.{◌≡◌, inl, inr, ℕ, Bool, true, false, cond, List, [], ◌∷◌, ◌++◌, None, refl, ap, arith}
use Rattle.std.specs.Prelude.{All}
use Rattle.std.specs.Str.{bytes_eq}
use Rattle.std.proofs.lemmas.List.Elements.{All-head, All-tail}
use Rattle.std.proofs.lemmas.Slice.Eq.{bytes_eq-Decides}
use Rattle.hip_tree.specs.declared.instr.Operand.{Operand}
use Rattle.hip_tree.specs.declared.instr.Operand.TheVariants.{Reg, Fixed}
use Rattle.hip_tree.specs.declared.program.Program.{Program}
use Rattle.hip_names.specs.Names.{IsAmong}
use Rattle.hip_sound.specs.Registers.{Use, operand_registers, used_registers}
use Rattle.hip_runs.specs.Places.{code_at}
use Rattle.hip_runs.specs.State.{Frame, Registers}
use Rattle.hip_invariants.specs.NeverStuck.{ReadsAssigned}
use Rattle.hip_invariants.specs.Reached.{assigned_names, IsReached}
use Rattle.hip_code.specs.Extents.{keeps_extent}
use Rattle.hip_code.specs.Frames.{are_known, UsesAreKnown, IsKnown, is_assigned, names_at}
use Rattle.hip_code.specs.Ops.{is_end}
use Rattle.hip_code.specs.Resolved.{KnowsPhis}
use Rattle.hip_code.specs.declared.op.Control.TheVariants as controls
use Rattle.hip_code.specs.declared.op.Op.{Op}
use Rattle.hip_code.specs.declared.op.Op.TheVariants as ops
use Rattle.hip_core.specs.Acts.{keeps_values}

assigned_is : (rs : Registers) (name : List ℕ) → IsAmong (assigned_names rs) name → is_assigned rs name ≡ true
assigned_is [] name h = absurd h
assigned_is (r ∷ rs) name (inl e) = ap (λ b. cond b true (is_assigned rs name)) ((bytes_eq-Decides r.0 name).1 e)
assigned_is (r ∷ rs) name (inr h) = go (bytes_eq r.0 name) (assigned_is rs name h)
  where
    go : (b : Bool) → is_assigned rs name ≡ true → cond b true (is_assigned rs name) ≡ true
    go true e = refl
    go false e = e

-- A register that has a value is among the registers that have one.
pub among_assigned : (rs : Registers) (name : List ℕ) → is_assigned rs name ≡ true → IsAmong (assigned_names rs) name
among_assigned [] name e = cc
among_assigned (r ∷ rs) name e = go (bytes_eq r.0 name) refl e (λ q. among_assigned rs name q)
  where
    go : (b : Bool) → bytes_eq r.0 name ≡ b → cond b true (is_assigned rs name) ≡ true → (is_assigned rs name ≡ true → IsAmong (assigned_names rs) name) → IsAmong (r.0 ∷ assigned_names rs) name
    go true t q later = inl ((bytes_eq-Decides r.0 name).0 t)
    go false t q later = inr (later q)

-- A call keeps the slots of the registers that have a value.
pub values_kept : (P : Program) (f b k : ℕ) (rs : Registers) (o : Op) → IsReached P None f b k rs → keeps_extent P f b o → keeps_values (names_at P f) rs o
values_kept P f b k rs (ops.Value dest value) r e = tt
values_kept P f b k rs (ops.Memory memory) r e = tt
values_kept P f b k rs (ops.Control (controls.Go go)) r e = tt
values_kept P f b k rs (ops.Control (controls.Call call)) r e = record {
  at = λ name slot n a.
      let below = e.covers r.fn name slot r.here (record { earlier = r.earlier; leads = r.leads; assigned = r.only name (inl (among_assigned rs name a)) }) n in
      omega (arith, below);
}
values_kept P f b k rs (ops.Control (controls.Exit exit)) r e = tt

-- The end of a block is no call.
pub end_keeps : (names : List (List ℕ)) (rs : Registers) (o : Op) → is_end o ≡ true → keeps_values names rs o
end_keeps names rs (ops.Value dest value) e = tt
end_keeps names rs (ops.Memory memory) e = tt
end_keeps names rs (ops.Control (controls.Go go)) e = tt
end_keeps names rs (ops.Control (controls.Call call)) e = absurd (let z : ⊥ = cc in z)
end_keeps names rs (ops.Control (controls.Exit exit)) e = tt

module _ (rs : Registers) where
  abbrev HasValue : List ℕ → Type 0
  HasValue name = IsAmong (assigned_names rs) name

  pub operand_known : (o : Operand) → All HasValue (operand_registers o) → IsKnown rs o
  operand_known (Reg name) h = assigned_is rs name (All-head HasValue name [] h)
  operand_known (Fixed value) h = tt

  first_known : (o : Operand) (us : List Use) → All HasValue (operand_registers o ++ used_registers us) → (All HasValue (used_registers us) → are_known rs us) → IsKnown rs o × are_known rs us
  first_known (Reg name) us h later = (assigned_is rs name (All-head HasValue name (used_registers us) h), later (All-tail HasValue name (used_registers us) h))
  first_known (Fixed value) us h later = (tt, later h)

  uses_known : (us : List Use) → All HasValue (used_registers us) → are_known rs us
  uses_known [] h = tt
  uses_known (u ∷ us) h = first_known u.operand us h (λ r. uses_known us r)

  pub all_known : (us : List Use) → All HasValue (used_registers us) → UsesAreKnown rs us
  all_known us h = record { all = uses_known us h }

-- The operands of phis have values.
pub phis_known : (P : Program) (f : Frame) → ReadsAssigned P f → code_at P f ≡ [] → KnowsPhis P f.function f.block f.registers
phis_known P f r done = record {
  phis = λ c j m to p e at phi edge label. operand_known f.registers e.value (r.phis c j m to p e done at phi edge label);
}
