-- Tests that are paired with items: if there are more tests than items, or fewer, the tests fail.
use Rattle.std.proofs.Common.{ℕ, suc, ◌+◌, ◌-◌, ◌<◌, ◌≡◌, ◌&&◌, Bool, true, false, List, [], ◌∷◌, Option, map, take, drop, length, get_or, refl, sym, ap, ◌∙◌, arith}
use Rattle.std.specs.Prelude.{◌==◌}
use Rattle.std.proofs.lemmas.List.{at_drop_more}
use Rattle.std.proofs.Math.Seq.{take_all}
use Rattle.hip_types.specs.declared.number.Bits.{Bits}
use Rattle.hip_types.specs.declared.ty.Ty.{Ty, out-Ty}
use Rattle.hip_globals.specs.Constants.{index_of}
use Rattle.hip_sound.specs.Constants.{entered, enters, goes_in, path_exists}
use Rattle.hip_sound.specs.Types.{all_pass}

fails_too : (b c : Bool) → c ≡ false → (b && c) ≡ false
fails_too true c e = e
fails_too false c e = refl

pub all_pass-lengths : {A B : Type 0} (test : B → A → Bool) (ys : List B) (xs : List A) → ¬ (length ys ≡ length xs) → all_pass (map test ys) xs ≡ false
all_pass-lengths test [] [] h = absurd (h refl)
all_pass-lengths test [] (x ∷ xs) h = refl
all_pass-lengths test (y ∷ ys) [] h = refl
all_pass-lengths test (y ∷ ys) (x ∷ xs) h = fails_too (test y x) _ (all_pass-lengths test ys xs (λ e. h (ap suc e)))

-- ---- indices that enter

-- All indices after the first.
pub enters_rest : (indices : List Bits) (t : Ty) → (length indices == 0) ≡ false → enters (take (length indices - 1) (drop 1 indices)) t ≡ path_exists indices t
enters_rest [] t e = cc
enters_rest (x ∷ xs) t e = ap (λ (is : List Bits). enters is t) (take_all (length (x ∷ xs) - 1) xs (omega arith))

pub enters_next : (indices : List Bits) (i : ℕ) (b : Bits) (t : Ty) (at : ℕ) (found : Option Ty) → i < length indices → b ≡ get_or indices i b → at ≡ index_of b → found ≡ entered at (out-Ty t) → enters (drop i indices) t ≡ goes_in (enters (drop (i + 1) indices)) found
enters_next indices i b t at found within is at_is found_is =
    at_drop_more (λ (is : List Bits). enters is t) indices i b within
    ∙ ap (λ (x : Bits). goes_in (enters (drop (i + 1) indices)) (entered (index_of x) (out-Ty t))) (sym is)
    ∙ ap (λ (k : ℕ). goes_in (enters (drop (i + 1) indices)) (entered k (out-Ty t))) (sym at_is)
    ∙ ap (λ (o : Option Ty). goes_in (enters (drop (i + 1) indices)) o) (sym found_is)
