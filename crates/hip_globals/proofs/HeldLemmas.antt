-- Each global's bytes are at the global's address.
use Rattle.std.proofs.Common.{ℕ, zero, suc, ◌+◌, ◌-◌, ◌<◌, ◌≤◌, ◌≡◌, Bool, true, false, List, [], ◌∷◌, ◌++◌, take, drop, length, Some, Result, Ok, Err, IfOk, refl, sym, ap, subst, ◌∙◌, arith, append_assoc, append-nil, length-take, ◌⊎◌, inl, inr}
use Rattle.std.specs.Prelude.{if◌then◌else◌, slice_get}
use Rattle.std.proofs.Math.Seq.{take-append_seam, drop-append_seam}
use Rattle.std.proofs.Math.ListN.{drop_of_length-le}
use Rattle.std.proofs.lemmas.Bool.{cases_lt}
use Rattle.std.proofs.lemmas.List.{drop-append-le, take-append-le}
use Rattle.hip_types.specs.declared.memory.NoMemory.{NoMemory}
use Rattle.hip_types.specs.Layout.{size_of}
use Rattle.hip_tree.specs.declared.program.GlobalVar.{GlobalVar}
use Rattle.hip_tree.specs.declared.program.Program.{Program}
use Rattle.hip_types.specs.Areas.{volatile_start}
use Rattle.hip_globals.specs.Addresses.{start_of, global_align, global_start, same_truth}
use Rattle.hip_globals.specs.Initial.{laid_bytes, region_bytes, volatile_bytes}
use Rattle.hip_globals.specs.Values.{global_address, aligned, constant_bytes}
use Rattle.hip_globals.specs.Held.{HoldsAt, HoldsGlobals}
use Rattle.hip_globals.proofs.InitialLemmas.{length-aligned, length_more}

-- The whole begins with the bytes of the front.
record GoesOn (whole front : List ℕ) : Type 0 where
  pub rest : List ℕ
  pub is : whole ≡ front ++ rest

goes_further : (whole front more : List ℕ) → GoesOn whole (front ++ more) → GoesOn whole front
goes_further whole front more g = record { rest = more ++ g.rest; is = g.is ∙ append_assoc front more g.rest }

next_front : (b : Bool) (a : List ℕ → ℕ) (start : ℕ) (so_far : List ℕ) (g : GlobalVar) → (more : List ℕ) × ((if b then aligned start (global_align g) so_far ++ constant_bytes a g.init g.ty else so_far) ≡ so_far ++ more)
next_front true a start so_far g = (_, append_assoc so_far _ (constant_bytes a g.init g.ty))
next_front false a start so_far g = ([], sym (append-nil so_far))

laid_goes_on : (a : List ℕ → ℕ) (k : Bool) (start : ℕ) (so_far : List ℕ) (gs : List GlobalVar) → GoesOn (laid_bytes a k start so_far gs) so_far
laid_goes_on a k start so_far [] = record { rest = []; is = sym (append-nil so_far) }
laid_goes_on a k start so_far (g ∷ gs) =
    let next = if same_truth g.persistent k then aligned start (global_align g) so_far ++ constant_bytes a g.init g.ty else so_far in
    let more = next_front (same_truth g.persistent k) a start so_far g in
    goes_further (laid_bytes a k start next gs) so_far more.0 (subst (λ (front : List ℕ). GoesOn (laid_bytes a k start next gs) front) more.1 (laid_goes_on a k start next gs))

-- If the whole begins with a front and then some bytes, it has these bytes after the front.
held_past : (whole front bytes : List ℕ) → GoesOn whole (front ++ bytes) → HoldsAt whole (length front) bytes
held_past whole front bytes g = record {
  is =
      ap (λ (w : List ℕ). take (length bytes) (drop (length front) w)) (g.is ∙ append_assoc front bytes g.rest)
      ∙ ap (λ (w : List ℕ). take (length bytes) w) (drop-append_seam front (bytes ++ g.rest)) ∙ take-append_seam bytes g.rest;
}

held_first : (a : List ℕ → ℕ) (k : Bool) (start at : ℕ) (so_far : List ℕ) (g : GlobalVar) (gs : List GlobalVar) → start + length so_far ≡ at → same_truth g.persistent k ≡ true → HoldsAt (laid_bytes a k start so_far (g ∷ gs)) (global_start at g - start) (constant_bytes a g.init g.ty)
held_first a k start at so_far g gs e kind =
    let front = aligned start (global_align g) so_far in
    let bytes = constant_bytes a g.init g.ty in
    let place : length front ≡ global_start at g - start = rw (← e) (omega (arith, length-aligned start (global_align g) so_far)) in
    let on : GoesOn (laid_bytes a k start so_far (g ∷ gs)) (front ++ bytes) = rw kind (laid_goes_on a k start (front ++ bytes) gs) in
    subst (λ (n : ℕ). HoldsAt (laid_bytes a k start so_far (g ∷ gs)) n bytes) place (held_past (laid_bytes a k start so_far (g ∷ gs)) front bytes on)

pub held : (a : List ℕ → ℕ) (k : Bool) (start at : ℕ) (so_far : List ℕ) (gs : List GlobalVar) (n : ℕ) (g : GlobalVar) → start + length so_far ≡ at → slice_get gs n ≡ Some g → same_truth g.persistent k ≡ true → HoldsAt (laid_bytes a k start so_far gs) (start_of k at gs n - start) (constant_bytes a g.init g.ty)
held a k start at so_far [] n g e here kind = cc
held a k start at so_far (x ∷ xs) zero g e here kind =
    let it : x ≡ g = cc in
    subst (λ (y : GlobalVar). HoldsAt (laid_bytes a k start so_far (x ∷ xs)) (global_start at x - start) (constant_bytes a y.init y.ty)) it (held_first a k start at so_far x xs e (rw it kind))
held a k start at so_far (x ∷ xs) (suc n) g e here kind =
    let next = if same_truth x.persistent k then aligned start (global_align x) so_far ++ constant_bytes a x.init x.ty else so_far in
    let after = if same_truth x.persistent k then global_start at x + size_of x.ty else at in
    let moved : start + length next ≡ after = length_more (same_truth x.persistent k) a start so_far x ∙ ap (λ m. if same_truth x.persistent k then global_start m x + size_of x.ty else m) e in
    held a k start after next xs n g moved here kind

holds_more_by : (whole more bytes : List ℕ) (place : ℕ) → (place ≤ length whole) ⊎ (length whole < place) → HoldsAt whole place bytes → HoldsAt (whole ++ more) place bytes
holds_more_by whole more bytes place (inl within) h =
    let enough : length bytes ≤ length (drop place whole) = omega (arith, ap length h.is, length-take (length bytes) (drop place whole)) in
    record { is = ap (λ (w : List ℕ). take (length bytes) w) (drop-append-le place whole more within) ∙ take-append-le (length bytes) (drop place whole) more enough ∙ h.is }
holds_more_by whole more bytes place (inr past) h =
    let none : drop place whole ≡ [] = drop_of_length-le whole (omega arith) in
    let short : length bytes ≡ 0 = omega (arith, ap length h.is, length-take (length bytes) (drop place whole), ap length none) in
    let empty : take (length bytes) (drop place whole) ≡ [] = rw short refl in
    let is_empty : bytes ≡ [] = sym h.is ∙ empty in
    record { is = ap (λ (n : ℕ). take n (drop place (whole ++ more))) short ∙ sym is_empty }

holds_more : (whole more bytes : List ℕ) (place : ℕ) → HoldsAt whole place bytes → HoldsAt (whole ++ more) place bytes
holds_more whole more bytes place h = holds_more_by whole more bytes place (elim (cases_lt (length whole) place) [ inl past ↦ inr past | inr within ↦ inl within ]) h

volatile_held : (P : Program) (base : ℕ) → HoldsGlobals P base false volatile_start (volatile_bytes P base)
volatile_held P base = record { holds = λ n g here kind. held (global_address P.globals base) false volatile_start volatile_start [] P.globals n g (let none : List ℕ = [] in let e : volatile_start + length none ≡ volatile_start = refl in e) here kind }

region_held : (P : Program) (base : ℕ) → HoldsGlobals P base true 0 (region_bytes P base)
region_held P base = record {
  holds = λ n g here kind.
      holds_more (laid_bytes (global_address P.globals base) true 0 [] P.globals) _ (constant_bytes (global_address P.globals base) g.init g.ty) (start_of true 0 P.globals n - 0)
      (held (global_address P.globals base) true 0 0 [] P.globals n g (let none : List ℕ = [] in let e : 0 + length none ≡ 0 = refl in e) here kind);
}

pub volatile_holds : (P : Program) (base : ℕ) (r : Result (List ℕ) NoMemory) → IfOk r (λ bytes. bytes ≡ volatile_bytes P base) → IfOk r (λ bytes. HoldsGlobals P base false volatile_start bytes)
volatile_holds P base (Ok bytes) h = subst (λ (bs : List ℕ). HoldsGlobals P base false volatile_start bs) (sym h) (volatile_held P base)
volatile_holds P base (Err e) h = tt

pub region_holds : (P : Program) (base : ℕ) (bytes : List ℕ) → bytes ≡ region_bytes P base → HoldsGlobals P base true 0 bytes
region_holds P base bytes h = subst (λ (bs : List ℕ). HoldsGlobals P base true 0 bs) (sym h) (region_held P base)
