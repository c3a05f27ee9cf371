-- The declarations that a repair adds.
use Rattle.std.proofs.Common.{◌≡◌, ⊎_elim, ℕ, zero, suc, Bool, true, false, cond, not, ◌&&◌, List, [], ◌∷◌, ◌++◌, map, Some, None, slice_get, refl, subst}
use Rattle.std.proofs.lemmas.Option.{same_Some}
use Rattle.hip_types.specs.declared.number.Scalar.TheVariants.{Int, Ptr}
use Rattle.hip_types.specs.declared.number.Width.TheVariants.{W64}
use Rattle.hip_tree.specs.declared.program.Extern.{Extern}
use Rattle.hip_tree.specs.declared.program.Program.{Program}
use Rattle.hip_names.specs.Names.{is_among}
use Rattle.hip_repairs.specs.declared.plan.Plan.{Plan}
use Rattle.hip_repairs.specs.Repaired.{Wanted, clwb_name, sfence_name, pmem_flush_name, needs, added_externs}
use Rattle.hip_repairs.proofs.functions.Clones.{in_append}

abbrev pub clwb_extern : Extern
clwb_extern = record { ret = None; name = clwb_name; params = Ptr ∷ [] }

abbrev pub sfence_extern : Extern
sfence_extern = record { ret = None; name = sfence_name; params = [] }

abbrev pub pmem_flush_extern : Extern
pmem_flush_extern = record { ret = None; name = pmem_flush_name; params = Ptr ∷ Int W64 ∷ [] }

abbrev pub extern_names : Program → List (List ℕ)
extern_names P = map (λ e. e.name) P.externs

-- An added declaration.
pub data IsAdded : Extern → Type 0 where
  adds_clwb : IsAdded clwb_extern
  adds_sfence : IsAdded sfence_extern
  adds_pmem_flush : IsAdded pmem_flush_extern

-- A test that holds of the three declarations holds of each added one.
pub added_passes : (test : Extern → Bool) → test clwb_extern ≡ true → test sfence_extern ≡ true → test pmem_flush_extern ≡ true → (e : Extern) → IsAdded e → test e ≡ true
added_passes test a b c e adds_clwb = a
added_passes test a b c e adds_sfence = b
added_passes test a b c e adds_pmem_flush = c

abbrev IsMissing : Program → Extern → Type 0
IsMissing P e = IsAdded e × (is_among (extern_names P) e.name ≡ false)

missing_at : (P : Program) (x : Extern) → IsAdded x → (b c : Bool) → is_among (extern_names P) x.name ≡ c → (k : ℕ) (e : Extern) → slice_get (cond (b && not c) (x ∷ []) []) k ≡ Some e → IsMissing P e
missing_at P x a true false g zero e h = subst (IsMissing P) (same_Some x e h) (a, g)
missing_at P x a true false g (suc k) e h = cc
missing_at P x a true true g k e h = cc
missing_at P x a false c g k e h = cc

-- Each is one of the three, and the program does not declare it.
pub added_at : (P : Program) (plan : Plan) (w : Wanted) (k : ℕ) (e : Extern) → slice_get (added_externs P plan w) k ≡ Some e → IsMissing P e
added_at P plan w k e h =
    ⊎_elim (λ first. missing_at P clwb_extern adds_clwb (needs P plan w clwb_name) (is_among (extern_names P) clwb_name) refl k e first)
    (λ rest. ⊎_elim (λ second. missing_at P sfence_extern adds_sfence (needs P plan w sfence_name) (is_among (extern_names P) sfence_name) refl rest.0 e second)
    (λ third. missing_at P pmem_flush_extern adds_pmem_flush (needs P plan w pmem_flush_name) (is_among (extern_names P) pmem_flush_name) refl third.0 e third.1)
    (in_append seconds thirds rest.0 e rest.1))
    (in_append firsts (seconds ++ thirds) k e h)
  where
    firsts : List Extern
    firsts = cond (needs P plan w clwb_name && not (is_among (extern_names P) clwb_name)) (clwb_extern ∷ []) []

    seconds : List Extern
    seconds = cond (needs P plan w sfence_name && not (is_among (extern_names P) sfence_name)) (sfence_extern ∷ []) []

    thirds : List Extern
    thirds = cond (needs P plan w pmem_flush_name && not (is_among (extern_names P) pmem_flush_name)) (pmem_flush_extern ∷ []) []
