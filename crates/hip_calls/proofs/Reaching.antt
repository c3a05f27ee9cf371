-- The steps in which the list of reached functions grows.
use Rattle.std.proofs.Common.{ℕ, zero, suc, ◌+◌, ◌-◌, ◌<◌, ◌≡◌, List, [], ◌∷◌, Some, None, refl, sym, ap, ◌∙◌, arith}
use Rattle.std.specs.Prelude.{nat_eq, slice_get}
use Rattle.hip_types.specs.Distinct.{met}
use Rattle.hip_tree.specs.declared.program.Program.{Program}
use Rattle.hip_calls.specs.Reach.{called_from, extended, reached}

nothing_after : (xs : List ℕ) (k : ℕ) → slice_get xs k ≡ None → slice_get xs (suc k) ≡ None
nothing_after [] k e = refl
nothing_after (x ∷ xs) zero e = cc
nothing_after (x ∷ xs) (suc k) e = nothing_after xs k e

-- At the end of the list, nothing more is reached.
pub reached-end : (P : Program) (steps place : ℕ) (seen : List ℕ) → slice_get seen place ≡ None → reached P steps place seen ≡ seen
reached-end P zero place seen e = refl
reached-end P (suc steps) place seen e =
    ap (λ o. reached P steps (suc place) (extended P seen o)) e ∙ reached-end P steps (suc place) seen (nothing_after seen place e)

pub reached-next : (P : Program) (n place : ℕ) (seen : List ℕ) (f : ℕ) → place < n → Some f ≡ slice_get seen place →
    reached P (n - (place + 1)) (place + 1) (met nat_eq seen (called_from P f)) ≡ reached P (n - place) place seen
reached-next P n place seen f h e =
    let more : n - place ≡ suc (n - (place + 1)) = omega arith in
    let next : place + 1 ≡ suc place = omega arith in
    ap (λ p. reached P (n - (place + 1)) p (met nat_eq seen (called_from P f))) next
    ∙ ap (λ o. reached P (n - (place + 1)) (suc place) (extended P seen o)) e
    ∙ ap (λ m. reached P m place seen) (sym more)
