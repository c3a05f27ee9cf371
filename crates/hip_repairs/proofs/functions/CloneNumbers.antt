-- The clones of a plan are in the repaired program under their numbers.
use Rattle.std.proofs.Common.{◌≡◌, inl, inr, ℕ, suc, ◌+◌, ◌-◌, Bool, List, [], ◌∷◌, length, Some, slice_get, refl, sym, ap, ◌∙◌, arith}
use Rattle.hip_tree.specs.declared.program.Program.{Program}
use Rattle.hip_tree.specs.declared.site.Site.{Site}
use Rattle.hip_runs.specs.StoredParts.Parts.{In}
use Rattle.hip_repairs.specs.declared.plan.CloneOf.{CloneOf}
use Rattle.hip_repairs.specs.declared.plan.Plan.{Plan}
use Rattle.hip_repairs.specs.CloneNumbers.{numbered_from, clone_numbers, IsCloneOf}
use Rattle.hip_repairs.specs.Repaired.{cloned, repaired}
use Rattle.hip_repairs.proofs.functions.Clones.{fresh, fresh_there, cloned_is_there, clone_code}

-- The place of a clone among the clones that are numbered from a number on.
record IsNumbered (n : ℕ) (fs : List ℕ) (c : CloneOf) : Type 0 where
  place : ℕ
  original : slice_get fs place ≡ Some c.original
  copy : c.copy ≡ n + place

numbered : (n : ℕ) (fs : List ℕ) (c : CloneOf) → In c (numbered_from n fs) → IsNumbered n fs c
numbered n [] c i = absurd i
numbered n (f ∷ fs) c (inl e) =
    let q : c.copy ≡ n = ap (λ (x : CloneOf). x.copy) e in
    record { place = 0; original = ap Some (sym (ap (λ (x : CloneOf). x.original) e)); copy = omega (arith, q) }
numbered n (f ∷ fs) c (inr i) = let r = numbered (suc n) fs c i in record { place = suc r.place; original = r.original; copy = omega (arith, r.copy) }

pub clone_there : (P : Program) (plan : Plan) (skip : Site → Bool) (c : CloneOf) → In c (clone_numbers P plan) → IsCloneOf P plan skip c
clone_there P plan skip c i =
    let r = numbered (length P.functions) (cloned P plan) c i in
    let fn = cloned_is_there P plan skip c.original r.place r.original in
    let name = fresh_there P plan skip r.place c.original r.original in
    let at : r.place ≡ c.copy - length P.functions = omega (arith, r.copy) in
    record {
      function = fn.0;
      original = fn.1;
      name = name.0;
      named = ap (slice_get (fresh P plan skip)) (sym at) ∙ name.1;
      copy = ap (slice_get (repaired P plan skip).functions) r.copy ∙ clone_code P plan skip r.place c.original name.0 fn.0 r.original name.1 fn.1;
    }

-- Each function that is cloned has a clone.
pub cloned_there : (P : Program) (plan : Plan) (f : ℕ) → In f (cloned P plan) → (c : CloneOf) × In c (clone_numbers P plan) × (c.original ≡ f)
cloned_there P plan f i = go (length P.functions) (cloned P plan) i
  where
    go : (n : ℕ) (fs : List ℕ) → In f fs → (c : CloneOf) × In c (numbered_from n fs) × (c.original ≡ f)
    go n [] i = absurd i
    go n (g ∷ fs) (inl e) = (record { original = g; copy = n }, inl refl, sym e)
    go n (g ∷ fs) (inr i) = let r = go (suc n) fs i in (r.0, inr r.1, r.2)
