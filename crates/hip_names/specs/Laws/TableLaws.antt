-- Tables that grow by one entry.
use Rattle.std.proofs.Common.{ℕ, suc, ◌+◌, ◌≡◌, ◌||◌, not, nat_lt, Bool, true, false, cond, List, [], ◌∷◌, ◌++◌, length, Option, Some, None, refl, sym, ap, ◌∙◌, arith}
use Rattle.std.specs.Prelude.{if◌then◌else◌, option_and_then, slice_get}
use Rattle.std.specs.List.{position_or_len}
use Rattle.std.specs.Str.{bytes_eq}
use Rattle.std.proofs.lemmas.Bool.Decides.{nat_tests}
use Rattle.std.proofs.lemmas.List.{length-append}
use Rattle.std.proofs.lemmas.Slice.Eq.{bytes_eq-Decides}
use Rattle.hip_names.specs.Names.{is_among}
use Rattle.hip_names.specs.Laws.NameLaws.{bytes_eq-sym}
use Rattle.hip_names.specs.Tables.{Entry, value_of, value_beside, TableStandsFor}

module _ {V : Type 0} where
  abbrev or_later : Option V → Option V → Option V
  or_later (Some v) later = Some v
  or_later None later = later

  abbrev at_name : Bool → V → Option V
  at_name b v = if b then Some v else None

  shifted : (b : Bool) (at : ℕ) (v : V) (vs : List V)
      → option_and_then (slice_get (v ∷ vs)) (cond b (Some (1 + at)) None) ≡ option_and_then (slice_get vs)
      (cond b (Some at) None)
  shifted true at v vs = let e : 1 + at ≡ suc at = omega arith in rw e refl
  shifted false at v vs = refl

  at_place : (b : Bool) (at len : ℕ) (v : V) (vs : List V) →
      option_and_then (slice_get (v ∷ vs)) (cond (nat_lt (cond (not b) (1 + at) 0) (suc len))
      (Some (cond (not b) (1 + at) 0)) None) ≡
      (if b then Some v else option_and_then (slice_get vs) (cond (nat_lt at len) (Some at) None))
  at_place true at len v vs = let e : nat_lt 0 (suc len) ≡ true = grind (arith, nat_tests) in rw e refl
  at_place false at len v vs =
      let e : nat_lt (1 + at) (suc len) ≡ nat_lt at len =
      grind (arith, nat_tests) in rw e (shifted (nat_lt at len) at v vs)

  pub beside-cons : (n : List ℕ) (ns : List (List ℕ)) (v : V) (vs : List V) (name : List ℕ)
      → value_beside (n ∷ ns) (v ∷ vs) name ≡ (if bytes_eq name n then Some v else value_beside ns vs name)
  beside-cons n ns v vs name = at_place (bytes_eq name n) (position_or_len (bytes_eq name) ns) (length ns) v vs

  later_if : (b : Bool) (v : V) (o later : Option V)
      → (if b then Some v else or_later o later) ≡ or_later (if b then Some v else o) later
  later_if true v o later = refl
  later_if false v o later = refl

  beside-push : (ns : List (List ℕ)) (vs : List V) (n : List ℕ) (v : V) (name : List ℕ)
      → length ns ≡ length vs →
      value_beside (ns ++ n ∷ []) (vs ++ v ∷ []) name
      ≡ or_later (value_beside ns vs name) (at_name (bytes_eq name n) v)
  beside-push [] [] n v name e = beside-cons n [] v [] name
  beside-push [] (w ∷ vs) n v name e = absurd (omega arith)
  beside-push (m ∷ ns) [] n v name e = absurd (omega arith)
  beside-push (m ∷ ns) (w ∷ vs) n v name e =
      beside-cons m (ns ++ n ∷ []) w (vs ++ v ∷ []) name
      ∙ ap (λ o. if bytes_eq name m then Some w else o) (beside-push ns vs n v name (omega arith))
      ∙ later_if (bytes_eq name m) w (value_beside ns vs name) (at_name (bytes_eq name n) v)
      ∙ ap (λ o. or_later o (at_name (bytes_eq name n) v)) (sym (beside-cons m ns w vs name))

  of-push : (es : List (Entry V)) (e : Entry V) (name : List ℕ)
      → value_of (es ++ e ∷ []) name ≡ or_later (value_of es name) (at_name (bytes_eq e.name name) e.value)
  of-push [] e name = refl
  of-push (x ∷ es) e name =
      ap (λ o. if bytes_eq x.name name then Some x.value else o) (of-push es e name)
      ∙ later_if (bytes_eq x.name name) x.value (value_of es name) (at_name (bytes_eq e.name name) e.value)

  -- After a new name is added, the table finds it.
  pub entry_added : (ns : List (List ℕ)) (vs : List V) (es : List (Entry V)) (n : List ℕ) (v : V)
      → TableStandsFor ns vs es
      → TableStandsFor (ns ++ n ∷ []) (vs ++ v ∷ []) (es ++ record { name = n; value = v } ∷ [])
  entry_added ns vs es n v s = record {
    as_long = omega (arith, s.as_long, length-append ns (n ∷ []), length-append vs (v ∷ []));
    finds = λ name.
        beside-push ns vs n v name s.as_long ∙ ap (λ o. or_later o (at_name (bytes_eq name n) v)) (s.finds name)
        ∙ ap (λ b. or_later (value_of es name) (at_name b v)) (bytes_eq-sym name n)
        ∙ sym (of-push es (record { name = n; value = v }) name);
  }

  -- A name that is there has a value.
  has_value : (ns : List (List ℕ)) (vs : List V) (name : List ℕ) → length ns ≡ length vs
      → is_among ns name ≡ true
      → value_beside ns vs name ≡ None → ⊥
  has_value [] vs name e there none = cc
  has_value (n ∷ ns) [] name e there none = omega arith
  has_value (n ∷ ns) (v ∷ vs) name e there none =
      found (bytes_eq name n) (λ t o. has_value ns vs name (omega arith) t o) there
      (sym (beside-cons n ns v vs name) ∙ none)
    where
      found : (b : Bool) → (is_among ns name ≡ true → value_beside ns vs name ≡ None → ⊥)
          → (b || is_among ns name) ≡ true → (if b then Some v else value_beside ns vs name) ≡ None → ⊥
      found true rest t o = cc
      found false rest t o = rest t o

  kept : (o later : Option V) → (o ≡ None → later ≡ None) → or_later o later ≡ o
  kept (Some v) later h = refl
  kept None later h = h refl

  -- A name that is there keeps its value.
  pub entry_kept : (ns : List (List ℕ)) (vs : List V) (es : List (Entry V)) (n : List ℕ) (v : V)
      → is_among ns n ≡ true
      → TableStandsFor ns vs es → TableStandsFor ns vs (es ++ record { name = n; value = v } ∷ [])
  entry_kept ns vs es n v there s = record {
    as_long = s.as_long;
    finds =
        λ name. s.finds name ∙ sym (kept (value_of es name) (at_name (bytes_eq n name) v)
        (other name (bytes_eq n name) refl)) ∙ sym (of-push es (record { name = n; value = v }) name);
  }
    where
      other : (name : List ℕ) (b : Bool) → bytes_eq n name ≡ b → value_of es name ≡ None
          → at_name b v ≡ None
      other name false e none = refl
      other name true e none =
          let same : n ≡ name = (bytes_eq-Decides n name).0 e in
          absurd (has_value ns vs n s.as_long there (s.finds n ∙ ap (value_of es) same ∙ none))
