-- Fresh names depend only on which names are taken.
use Rattle.std.proofs.Common.{ℕ, zero, suc, ◌+◌, ◌-◌, ◌<◌, ◌≡◌, ◌≢◌, ◌||◌, Bool, true, false, cond, List, [], ◌∷◌, ◌++◌, length, map, drop, get_or, append_assoc, refl, sym, ap, ◌∙◌, arith}
use Rattle.std.specs.Prelude.{codes, if◌then◌else◌}
use Rattle.std.specs.Str.{bytes_eq}
use Rattle.std.specs.List.{list_any}
use Rattle.std.specs.Cmp.{both_ways}
use Rattle.std.specs.Cmp.Lexicographic.{nat_list_eq_equiv}
use Rattle.std.proofs.lemmas.List.{at_drop_more}
use Rattle.std.proofs.lemmas.List.Folds.{list_any-append}
use Rattle.hip_tree.specs.declared.program.Program.{Program}
use Rattle.hip_names.specs.Names.{is_among}
use Rattle.hip_sound.specs.Sound.{top_names}
use Rattle.hip_calls.specs.Fresh.{candidate, fresh_from, fresh_name, fresh_for, name_of, numeral}
use Rattle.hip_calls.specs.Laws.FreshLaws.{IsFirstFree, fresh-first, fresh-free, first_alike, among_alike}

-- Two lists have the same taken names.
abbrev pub Alike : List (List ℕ) → List (List ℕ) → Type 0
Alike xs ys = (q : List ℕ) → is_among xs q ≡ is_among ys q

apart : (i j : ℕ) → (i < j → ⊥) → (j < i → ⊥) → i ≡ j
apart i j low high = omega (arith, low, high)

one_first : (taken : List (List ℕ)) (name x y : List ℕ) → IsFirstFree taken name x → IsFirstFree taken name y → x ≡ y
one_first taken name x y f g =
    f.is ∙ ap (candidate name) (apart f.number g.number (λ h. never (g.earlier f.number h) (ap (is_among taken) (sym f.is) ∙ f.free)) (λ h. never (f.earlier g.number h) (ap (is_among taken) (sym g.is) ∙ g.free))) ∙ sym g.is
  where
    never : {b : Bool} → b ≡ true → b ≡ false → ⊥
    never e f = cc

pub fresh_name-alike : (xs ys : List (List ℕ)) (name : List ℕ) → Alike xs ys → fresh_name xs name ≡ fresh_name ys name
fresh_name-alike xs ys name alike = one_first ys name _ _ (first_alike xs ys name (fresh_name xs name) alike (fresh-first xs name)) (fresh-first ys name)

pub fresh_for-alike : (xs ys names : List (List ℕ)) → Alike xs ys → fresh_for xs names ≡ fresh_for ys names
fresh_for-alike xs ys [] alike = refl
fresh_for-alike xs ys (name ∷ names) alike =
    let first = fresh_name-alike xs ys name alike in
    ap (λ x. x ∷ fresh_for (fresh_name xs name ∷ xs) names) first
    ∙ ap (λ rest. fresh_name ys name ∷ rest) (fresh_for-alike (fresh_name xs name ∷ xs) (fresh_name ys name ∷ ys) names (λ q. ap (λ x. bytes_eq q x || is_among xs q) first ∙ ap (λ b. bytes_eq q (fresh_name ys name) || b) (alike q)))

pub after-alike : (front xs ys : List (List ℕ)) → Alike xs ys → Alike (front ++ xs) (front ++ ys)
after-alike front xs ys alike q = list_any-append (bytes_eq q) front xs ∙ ap (λ b. list_any (bytes_eq q) front || b) (alike q) ∙ sym (list_any-append (bytes_eq q) front ys)

-- ---- candidates

pub candidate-later : (name : List ℕ) (n : ℕ) → n ≢ 0 → (name ++ codes ".pm") ++ numeral n ≡ candidate name n
candidate-later name zero h = absurd (h refl)
candidate-later name (suc n) h = append_assoc name (codes ".pm") (numeral (suc n))

pub fresh-next : (taken : List (List ℕ)) (name : List ℕ) (limit k : ℕ) (b : Bool) → k < limit → is_among taken (candidate name k) ≡ b →
    fresh_from taken name (limit - k) k ≡ cond b (fresh_from taken name (limit - (k + 1)) (k + 1)) (candidate name k)
fresh-next taken name limit k b h e =
    let more : limit - k ≡ suc (limit - (k + 1)) = omega arith in
    let next : suc k ≡ k + 1 = omega arith in
    ap (λ m. fresh_from taken name m k) more
    ∙ ap (λ t. cond t (fresh_from taken name (limit - (k + 1)) (suc k)) (candidate name k)) e
    ∙ ap (λ j. cond b (fresh_from taken name (limit - (k + 1)) j) (candidate name k)) next

-- ---- the next fresh name

pub fresh_for-next : (earlier set : List (List ℕ)) (functions : List ℕ) (P : Program) (k f d : ℕ) →
    Alike set (top_names P) → k < length functions → f ≡ get_or functions k d →
    (earlier ++ fresh_name (earlier ++ set) (name_of P f) ∷ []) ++ fresh_for ((earlier ++ fresh_name (earlier ++ set) (name_of P f) ∷ []) ++ top_names P) (map (name_of P) (drop (k + 1) functions))
    ≡ earlier ++ fresh_for (earlier ++ top_names P) (map (name_of P) (drop k functions))
fresh_for-next earlier set functions P k f d alike h e =
    let x = fresh_name (earlier ++ set) (name_of P f) in
    let y = fresh_name (earlier ++ top_names P) (name_of P f) in
    let same : x ≡ y = fresh_name-alike (earlier ++ set) (earlier ++ top_names P) (name_of P f) (after-alike earlier set (top_names P) alike) in
    let rest = map (name_of P) (drop (k + 1) functions) in
    append_assoc earlier (x ∷ []) (fresh_for ((earlier ++ x ∷ []) ++ top_names P) rest)
    ∙ ap (λ z. earlier ++ z ∷ fresh_for ((earlier ++ z ∷ []) ++ top_names P) rest) same
    ∙ ap (λ ns. earlier ++ y ∷ ns) (fresh_for-alike ((earlier ++ y ∷ []) ++ top_names P) (y ∷ (earlier ++ top_names P)) rest (λ q. ap (λ zs. is_among zs q) (append_assoc earlier (y ∷ []) (top_names P)) ∙ among_alike earlier (top_names P) y q))
    ∙ ap (λ g. earlier ++ fresh_for (earlier ++ top_names P) (name_of P g ∷ rest)) e
    ∙ sym (at_drop_more (λ fs. earlier ++ fresh_for (earlier ++ top_names P) (map (name_of P) fs)) functions k d h)

-- A fresh name is put after the earlier ones.
pub fresh-put : (earlier set : List (List ℕ)) (name : List ℕ) → (if list_any (bytes_eq (fresh_name (earlier ++ set) name)) earlier then earlier else earlier ++ fresh_name (earlier ++ set) name ∷ []) ≡ earlier ++ fresh_name (earlier ++ set) name ∷ []
fresh-put earlier set name = by_test (list_any (bytes_eq x) earlier) (list_any (bytes_eq x) set) (sym (list_any-append (bytes_eq x) earlier set) ∙ fresh-free (earlier ++ set) name)
  where
    x : List ℕ
    x = fresh_name (earlier ++ set) name

    by_test : (b c : Bool) → (b || c) ≡ false → (if b then earlier else earlier ++ x ∷ []) ≡ earlier ++ x ∷ []
    by_test true c e = cc
    by_test false c e = refl
