-- The first piece of the bytes ahead.
use Rattle.std.proofs.Common.{◌≡◌, ℕ, suc, ◌+◌, ◌<◌, ◌≤◌, Bool, true, false, ◌||◌, List, [], ◌∷◌, ◌++◌, length, take, drop, get_or, map, slice_get, Some, None, refl, sym, ap, subst, ◌∙◌, arith, length-append, add-one, drop-cons}
use Rattle.std.specs.Prelude.{position, cond, nat_lt}
use Rattle.std.specs.List.{list_any, onto_first, position_or_len}
use Rattle.std.proofs.lemmas.Bool.{lt-ltb, ltb-false, le-ltb}
use Rattle.std.proofs.lemmas.List.{take-append-drop, get_or-take, length-take}
use Rattle.std.proofs.lemmas.List.Quantifiers.{position-Some}
use Rattle.hip_trace.specs.Entries.{entry_of}
use Rattle.hip_num.specs.Texts.{is_nonempty}
use Rattle.hip_trace.specs.Pieces.{is_separator, parts, counted, pieces, spelled}
use Rattle.hip_trace.specs.Laws.FieldLaws.{some_field}

-- ---- bytes with no separator

none_by_place : (xs : List ℕ) → ((k : ℕ) → k < length xs → is_separator (get_or xs k 0) ≡ false)
    → list_any is_separator xs ≡ false
none_by_place [] h = refl
none_by_place (x ∷ xs) h = let first : is_separator x ≡ false = h 0 (omega arith) in
    rw first (none_by_place xs (λ k lt. h (suc k) (omega arith)))

-- If no byte is a separator, the first byte is not a separator and no later byte is.
pub first_none : (x : ℕ) (xs : List ℕ) → list_any is_separator (x ∷ xs) ≡ false → (is_separator x ≡ false)
    × (list_any is_separator xs ≡ false)
first_none x xs e = by (is_separator x) (list_any is_separator xs) e
  where
    by : (a b : Bool) → (a || b) ≡ false → (a ≡ false) × (b ≡ false)
    by true b e = absurd cc
    by false b e = (refl, e)

-- The bytes up to the first separator, which is at place n.
pub record IsCut (xs : List ℕ) (n : ℕ) : Type 0 where
  pub within : n < length xs
  pub separates : is_separator (get_or xs n 0) ≡ true
  pub whole : list_any is_separator (take n xs) ≡ false
  pub bytes : xs ≡ take n xs ++ get_or xs n 0 ∷ drop (n + 1) xs

pub cut_at : (xs : List ℕ) (n : ℕ) → position is_separator xs ≡ Some n → IsCut xs n
cut_at xs n e =
    let h = position-Some is_separator xs n 0 e in
    let within : n < length xs = h.0 in
    let tail : drop n xs ≡ get_or xs n 0 ∷ drop (n + 1) xs = rw (add-one, drop-cons xs n 0) refl in
    record {
      within = within;
      separates = h.1;
      whole = none_by_place (take n xs) (λ k lt.
          let len = length-take n xs in
          let below : k < n = omega (arith, lt, len) in
          subst (λ (b : ℕ). is_separator b ≡ false) (sym (get_or-take n xs k 0 below)) (h.2 k below));
      bytes = sym (take-append-drop n xs) ∙ ap (λ (ys : List ℕ). take n xs ++ ys) tail;
    }

-- No byte is a separator if `position` finds none.
none_by : (xs : List ℕ) → length xs ≤ position_or_len is_separator xs → list_any is_separator xs ≡ false
none_by [] le = refl
none_by (x ∷ xs) le = go (is_separator x) refl (λ less. none_by xs less)
  where
    go : (b : Bool) → is_separator x ≡ b
        → (length xs ≤ position_or_len is_separator xs → list_any is_separator xs ≡ false)
        → list_any is_separator (x ∷ xs) ≡ false
    go true k ih = let z : position_or_len is_separator (x ∷ xs) ≡ 0 = rw k refl in
        absurd (let y : ⊥ = omega (arith, z, le) in y)
    go false k ih = let z : position_or_len is_separator (x ∷ xs) ≡ 1 + position_or_len is_separator xs =
        rw k refl in rw k (ih (omega (arith, z, le)))

pub none_found : (xs : List ℕ) → position is_separator xs ≡ None → list_any is_separator xs ≡ false
none_found xs e = none_by xs (go (nat_lt (position_or_len is_separator xs) (length xs)) refl e)
  where
    go : (b : Bool) → nat_lt (position_or_len is_separator xs) (length xs) ≡ b
        → cond b (Some (position_or_len is_separator xs)) None ≡ None
        → length xs ≤ position_or_len is_separator xs
    go true k e = absurd (let z : ⊥ = cc in z)
    go false k e = ltb-false _ _ k

-- ---- parts

pub parts_at : (xs : List ℕ) (sep : ℕ) (ys : List ℕ) → list_any is_separator xs ≡ false
    → is_separator sep ≡ true → parts (xs ++ sep ∷ ys) ≡ xs ∷ parts ys
parts_at [] sep ys e s = rw s refl
parts_at (x ∷ xs) sep ys e s = let h = first_none x xs e in rw (h.0, parts_at xs sep ys h.1 s) refl

pub parts_none : (xs : List ℕ) → list_any is_separator xs ≡ false → parts xs ≡ xs ∷ []
parts_none [] e = refl
parts_none (x ∷ xs) e = let h = first_none x xs e in rw (h.0, parts_none xs h.1) refl

-- The parts, with a front that has no separator put before the first part.
abbrev onto_part : List ℕ → List (List ℕ) → List (List ℕ)
onto_part front [] = front ∷ []
onto_part front (part ∷ more) = (front ++ part) ∷ more

onto_more : (x : ℕ) (xs : List ℕ) (ps : List (List ℕ))
    → onto_first x (onto_part xs ps) ≡ onto_part (x ∷ xs) ps
onto_more x xs [] = refl
onto_more x xs (p ∷ ps) = refl

parts_onto : (xs ys : List ℕ) → list_any is_separator xs ≡ false → parts (xs ++ ys) ≡ onto_part xs (parts ys)
parts_onto [] ys e = let h = some_field is_separator ys in rw h.2 refl
parts_onto (x ∷ xs) ys e = let h = first_none x xs e in rw (h.0, parts_onto xs ys h.1) (onto_more x xs (parts ys))

-- ---- entries

entries_after : (whole : Bool) (front rest : List ℕ)
    → map entry_of (counted whole (front ∷ parts rest)) ≡ entry_of front ∷ spelled whole rest
entries_after whole front rest = let h = some_field is_separator rest in rw h.2 refl

pub spelled_first : (whole : Bool) (xs : List ℕ) (sep : ℕ) (ys : List ℕ) → list_any is_separator xs ≡ false
    → is_separator sep ≡ true → spelled whole (xs ++ sep ∷ ys) ≡ entry_of xs ∷ spelled whole ys
spelled_first whole xs sep ys e s = ap (λ (ps : List (List ℕ)). map entry_of (counted whole ps))
    (parts_at xs sep ys e s) ∙ entries_after whole xs ys

pub spelled_at : (xs : List ℕ) (sep : ℕ) (ys : List ℕ) → list_any is_separator xs ≡ false
    → is_separator sep ≡ true → spelled true (xs ++ sep ∷ ys) ≡ entry_of xs ∷ spelled true ys
spelled_at xs sep ys e s = spelled_first true xs sep ys e s

pub spelled_last : (xs : List ℕ) → list_any is_separator xs ≡ false → is_nonempty xs ≡ true
    → spelled true xs ≡ entry_of xs ∷ []
spelled_last xs e n = ap (λ (ps : List (List ℕ)). map entry_of (counted true ps)) (parts_none xs e) ∙ rw n refl

-- A front of more than 256 bytes spells nothing, whatever follows it.
too_long : (front : List ℕ) → 256 < length front → entry_of front ≡ None
unfolding entry_of
too_long front lt = rw (lt-ltb 256 (length front) lt) refl

long_part : (front : List ℕ) (ps : List (List ℕ)) → 256 < length front
    → slice_get (map entry_of (counted true (onto_part front ps))) 0 ≡ Some None
long_part [] ps lt = absurd (omega arith)
long_part (b ∷ bs) [] lt = rw (too_long (b ∷ bs) lt) refl
long_part (b ∷ bs) (p ∷ []) lt = rw (too_long ((b ∷ bs) ++ p) (omega (arith, length-append (b ∷ bs) p))) refl
long_part (b ∷ bs) (p ∷ q ∷ ps) lt =
    rw (too_long ((b ∷ bs) ++ p) (omega (arith, length-append (b ∷ bs) p))) refl

pub spelled_long : (front rest : List ℕ) → list_any is_separator front ≡ false → 256 < length front
    → slice_get (spelled true (front ++ rest)) 0 ≡ Some None
spelled_long front rest e lt = ap (λ (ps : List (List ℕ)). slice_get (map entry_of (counted true ps)) 0)
    (parts_onto front rest e) ∙ long_part front (parts rest) lt

-- At most 256 bytes with no separator have no piece if more bytes may follow.
pub no_piece : (held : List ℕ) → list_any is_separator held ≡ false → length held ≤ 256
    → pieces false held ≡ []
no_piece held e le = ap (counted false) (parts_none held e) ∙ rw (le-ltb 256 (length held) le) refl
