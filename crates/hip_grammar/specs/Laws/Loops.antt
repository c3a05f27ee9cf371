-- Parts read one after the other, as a loop reads them.
use Rattle.std.proofs.Common.{◌≡◌, ℕ, zero, suc, ◌≤◌, ◌<◌, Bool, true, false, cond, List, [], ◌∷◌, ◌++◌, length, Option, Some, None, Ok, Err, refl, sym, ap, ◌∙◌, append_assoc, arith}
use Rattle.std.proofs.lemmas.List.{append-nil}
use Rattle.hip_tokens.specs.Tokens.{Tok, At}
use Rattle.std.specs.Prelude.{if◌then◌else◌}
use Rattle.hip_grammar.specs.Rule.{Yes, No}
use Rattle.hip_grammar.specs.Production.{Production, one_more_by}
use Rattle.hip_grammar.specs.Reader.{Outcome, Reader, on_ok, judged, next, times_at, many_at, with_front, taken_up, leading_at, leaders_at, with_leaders}

-- The reader takes at least one token.
abbrev pub TakesSome : {F A : Type 0} → Reader F A → Type 0
TakesSome {F} {A} r = (ts : List At) (x : A × List At) → r ts ≡ Ok x → length x.1 < length ts

-- One more part after a token that passes takes at least one token.
pub another_some : {F A : Type 0} (k : Tok → Bool) (l : Production F A)
    → ((ts : List At) (x : A × List At) → l.read ts ≡ Ok x → length x.1 ≤ length ts)
    → TakesSome (one_more_by k l).read
unfolding one_more_by
another_some k l within [] x e = absurd cc
another_some {F} {A} k l within (t ∷ ts) x e = by_test (k t.tok) e
  where
    by_test : (b : Bool)
        → on_ok {F = F} {B = A} (judged (if b then Yes (tt {0}) else No) t ts) (λ _ more. l.read more) ≡ Ok x
        → length x.1 < suc (length ts)
    by_test true h = let le = within ts x h in omega arith
    by_test false h = absurd cc

module _ (F A : Type 0) (k : Tok → Bool) (r : Reader F A) (some : TakesSome r) where
  abbrev onto : A → Outcome F (List A) → Outcome F (List A)
  onto x o = on_ok o (λ xs rest. Ok (x ∷ xs, rest))

  abbrev step : ℕ → Outcome F A → Outcome F (List A)
  step n o = on_ok o (λ x more. onto x (times_at k r n more))

  same_step : (n m : ℕ) (ts : List At) (o : Outcome F A) → r ts ≡ o → length ts ≤ suc n
      → length ts ≤ suc m
      → ((more : List At) → length more ≤ n → length more ≤ m → times_at k r n more ≡ times_at k r m more)
      → step n o ≡ step m o
  same_step n m ts (Ok x) e p q h = let lt = some ts x e in ap (onto x.0) (h x.1 (omega arith) (omega arith))
  same_step n m ts (Err f) e p q h = refl

  -- A limit on the number of parts that is greater than the number of tokens changes nothing.
  fuel : (n m : ℕ) (ts : List At) → length ts ≤ n → length ts ≤ m → times_at k r n ts ≡ times_at k r m ts
  unfolding times_at
  fuel zero zero ts p q = refl
  fuel zero (suc m) [] p q = refl
  fuel zero (suc m) (t ∷ ts) p q = absurd (omega arith)
  fuel (suc n) zero [] p q = refl
  fuel (suc n) zero (t ∷ ts) p q = absurd (omega arith)
  fuel (suc n) (suc m) ts p q =
      ap (λ (o : Outcome F (List A)). cond (next k ts) o (Ok ([], ts)))
      (same_step n m ts (r ts) refl p q (λ more a b. fuel n m more a b))

  opened : (ts : List At) → next k ts ≡ true → many_at k r ts ≡ step (length ts) (r ts)
  unfolding times_at
  opened [] e = absurd cc
  opened (t ∷ ts) e =
      rw e (same_step (length ts) (suc (length ts)) (t ∷ ts) (r (t ∷ ts)) refl (omega arith) (omega arith)
      (λ more a b. fuel (length ts) (suc (length ts)) more a b))

  pub closed : (ts : List At) → next k ts ≡ false → many_at k r ts ≡ Ok ([], ts)
  unfolding times_at
  closed [] e = refl
  closed (t ∷ ts) e = rw e refl

  pub one_more : (ts : List At) (x : A) (after : List At) → next k ts ≡ true → r ts ≡ Ok (x, after)
      → many_at k r ts ≡ onto x (many_at k r after)
  one_more ts x after e h =
      let lt = some ts (x, after) h in
      let same : times_at k r (length ts) after ≡ many_at k r after =
      fuel (length ts) (length after) after (omega arith) (omega arith) in
      opened ts e ∙ ap (step (length ts)) h ∙ ap (onto x) same

  pub refused : (ts : List At) (f : Option F × List At) → next k ts ≡ true → r ts ≡ Err f
      → many_at k r ts ≡ Err f
  refused ts f e h = opened ts e ∙ ap (step (length ts)) h

  -- ---- a loop that pushes each part to a list

  regroup : (front : List A) (x : A) (o : Outcome F (List A))
      → with_front front (onto x o) ≡ with_front (front ++ x ∷ []) o
  regroup front x (Ok y) = ap (λ (xs : List A). Ok (xs, y.1)) (simp append_assoc)
  regroup front x (Err e) = refl

  pub starts : (ts : List At) → with_front [] (many_at k r ts) ≡ many_at k r ts
  starts ts = nothing_before (many_at k r ts)
    where
      nothing_before : (o : Outcome F (List A)) → with_front [] o ≡ o
      nothing_before (Ok x) = refl
      nothing_before (Err e) = refl

  pub goes_on : (front : List A) (ts : List At) (x : A) (after : List At) (total : Outcome F (List A))
      → next k ts ≡ true → r ts ≡ Ok (x, after) → with_front front (many_at k r ts) ≡ total
      → with_front (front ++ x ∷ []) (many_at k r after) ≡ total
  goes_on front ts x after total e h so_far =
      sym (regroup front x (many_at k r after)) ∙ ap (with_front front) (sym (one_more ts x after e h)) ∙ so_far

  pub fails : (front : List A) (ts : List At) (f : Option F × List At) (total : Outcome F (List A))
      → next k ts ≡ true
      → r ts ≡ Err f → with_front front (many_at k r ts) ≡ total → total ≡ Err f
  fails front ts f total e h so_far = sym so_far ∙ ap (with_front front) (refused ts f e h)

  pub is_done : (front : List A) (ts : List At) (total : Outcome F (List A)) → next k ts ≡ false
      → with_front front (many_at k r ts) ≡ total → total ≡ Ok (front, ts)
  is_done front ts total e so_far =
      sym so_far ∙ ap (with_front front) (closed ts e) ∙ ap (λ (xs : List A). Ok (xs, ts)) (append-nil front)

  -- ---- a loop that folds each part into a value

  module _ (S : Type 0) (take_up : S → A → S) where
    shifted : (s : S) (x : A) (o : Outcome F (List A))
        → taken_up take_up s (onto x o) ≡ taken_up take_up (take_up s x) o
    shifted s x (Ok y) = refl
    shifted s x (Err e) = refl

    pub takes_up : (s : S) (ts : List At) (x : A) (after : List At) (total : Outcome F S) → next k ts ≡ true
        → r ts ≡ Ok (x, after) → taken_up take_up s (many_at k r ts) ≡ total
        → taken_up take_up (take_up s x) (many_at k r after) ≡ total
    takes_up s ts x after total e h so_far =
        sym (shifted s x (many_at k r after)) ∙ ap (taken_up take_up s) (sym (one_more ts x after e h)) ∙ so_far

    pub fails_up : (s : S) (ts : List At) (f : Option F × List At) (total : Outcome F S) → next k ts ≡ true
        → r ts ≡ Err f → taken_up take_up s (many_at k r ts) ≡ total → total ≡ Err f
    fails_up s ts f total e h so_far = sym so_far ∙ ap (taken_up take_up s) (refused ts f e h)

    pub is_taken_up : (s : S) (ts : List At) (total : Outcome F S) → next k ts ≡ false
        → taken_up take_up s (many_at k r ts) ≡ total → total ≡ Ok (s, ts)
    is_taken_up s ts total e so_far = sym so_far ∙ ap (taken_up take_up s) (closed ts e)

-- ---- a loop over leading parts

module _ (F X P : Type 0) (kh : Tok → Bool) (rh : Reader F X) (kf : Tok → Bool) (rf : X → Reader F P)
    (some : TakesSome rh)
    (within : (x : X) (ts : List At) (p : P × List At) → rf x ts ≡ Ok p → length p.1 ≤ length ts) where
  abbrev led : P → Outcome F (List P × Option X) → Outcome F (List P × Option X)
  led p o = on_ok o (λ q rest. Ok ((p ∷ q.0, q.1), rest))

  abbrev led_part : ℕ → Outcome F P → Outcome F (List P × Option X)
  led_part n o = on_ok o (λ p more. led p (leading_at kh rh kf rf n more))

  abbrev led_past : ℕ → X → List At → Outcome F (List P × Option X)
  led_past n x m = cond (next kf m) (led_part n (rf x m)) (Ok (([], Some x), m))

  same_part : (n m : ℕ) (x : X) (ts : List At) (o : Outcome F P) → rf x ts ≡ o → length ts ≤ n
      → length ts ≤ m
      → ((more : List At) → length more ≤ n → length more ≤ m → leading_at kh rh kf rf n more
      ≡ leading_at kh rh kf rf m more) → led_part n o ≡ led_part m o
  same_part n m x ts (Ok p) e a b h = let le = within x ts p e in ap (led p.0) (h p.1 (omega arith) (omega arith))
  same_part n m x ts (Err f) e a b h = refl

  same_head : (n m : ℕ) (ts : List At) (o : Outcome F X) → rh ts ≡ o → length ts ≤ suc n
      → length ts ≤ suc m
      → ((more : List At) → length more ≤ n → length more ≤ m → leading_at kh rh kf rf n more
      ≡ leading_at kh rh kf rf m more) → on_ok o (led_past n) ≡ on_ok o (led_past m)
  same_head n m ts (Ok x) e a b h =
      let lt = some ts x e in ap (λ (o : Outcome F (List P × Option X)). cond (next kf x.1) o
      (Ok (([], Some x.0), x.1))) (same_part n m x.0 x.1 (rf x.0 x.1) refl (omega arith) (omega arith) h)
  same_head n m ts (Err f) e a b h = refl

  leading_fuel : (n m : ℕ) (ts : List At) → length ts ≤ n → length ts ≤ m
      → leading_at kh rh kf rf n ts ≡ leading_at kh rh kf rf m ts
  unfolding leading_at
  leading_fuel zero zero ts a b = refl
  leading_fuel zero (suc m) [] a b = refl
  leading_fuel zero (suc m) (t ∷ ts) a b = absurd (omega arith)
  leading_fuel (suc n) zero [] a b = refl
  leading_fuel (suc n) zero (t ∷ ts) a b = absurd (omega arith)
  leading_fuel (suc n) (suc m) ts a b =
      ap (λ (o : Outcome F (List P × Option X)). cond (next kh ts) o (Ok (([], None), ts)))
      (same_head n m ts (rh ts) refl a b (λ more c d. leading_fuel n m more c d))

  leaders_opened : (ts : List At) → next kh ts ≡ true
      → leaders_at kh rh kf rf ts ≡ on_ok (rh ts) (led_past (length ts))
  unfolding leading_at
  leaders_opened [] e = absurd cc
  leaders_opened (t ∷ ts) e =
      rw e (same_head (length ts) (suc (length ts)) (t ∷ ts) (rh (t ∷ ts)) refl (omega arith) (omega arith)
      (λ more a b. leading_fuel (length ts) (suc (length ts)) more a b))

  leaders_closed : (ts : List At) → next kh ts ≡ false → leaders_at kh rh kf rf ts ≡ Ok (([], None), ts)
  unfolding leading_at
  leaders_closed [] e = refl
  leaders_closed (t ∷ ts) e = rw e refl

  one_leader : (ts : List At) (x : X) (m : List At) (p : P) (after : List At) → next kh ts ≡ true
      → rh ts ≡ Ok (x, m)
      → next kf m ≡ true → rf x m ≡ Ok (p, after)
      → leaders_at kh rh kf rf ts ≡ led p (leaders_at kh rh kf rf after)
  one_leader ts x m p after e h g q =
      let lt = some ts (x, m) h in
      let le = within x m (p, after) q in
      let same : leading_at kh rh kf rf (length ts) after ≡ leaders_at kh rh kf rf after =
      leading_fuel (length ts) (length after) after (omega arith) (omega arith) in
      leaders_opened ts e ∙ rw (h, g, q) (ap (led p) same)

  head_alone : (ts : List At) (x : X) (m : List At) → next kh ts ≡ true → rh ts ≡ Ok (x, m)
      → next kf m ≡ false
      → leaders_at kh rh kf rf ts ≡ Ok (([], Some x), m)
  head_alone ts x m e h g = leaders_opened ts e ∙ rw (h, g) refl

  head_refused : (ts : List At) (f : Option F × List At) → next kh ts ≡ true → rh ts ≡ Err f
      → leaders_at kh rh kf rf ts ≡ Err f
  head_refused ts f e h = leaders_opened ts e ∙ rw h refl

  part_refused : (ts : List At) (x : X) (m : List At) (f : Option F × List At) → next kh ts ≡ true
      → rh ts ≡ Ok (x, m)
      → next kf m ≡ true → rf x m ≡ Err f → leaders_at kh rh kf rf ts ≡ Err f
  part_refused ts x m f e h g q = leaders_opened ts e ∙ rw (h, g, q) refl

  led_regroup : (front : List P) (p : P) (o : Outcome F (List P × Option X))
      → with_leaders front (led p o) ≡ with_leaders (front ++ p ∷ []) o
  led_regroup front p (Ok y) = ap (λ (xs : List P). Ok ((xs, y.0.1), y.1)) (simp append_assoc)
  led_regroup front p (Err e) = refl

  pub leaders_start : (ts : List At) → with_leaders [] (leaders_at kh rh kf rf ts) ≡ leaders_at kh rh kf rf ts
  leaders_start ts = nothing_before (leaders_at kh rh kf rf ts)
    where
      nothing_before : (o : Outcome F (List P × Option X)) → with_leaders [] o ≡ o
      nothing_before (Ok x) = refl
      nothing_before (Err e) = refl

  pub leader_goes_on : (front : List P) (ts : List At) (x : X) (m : List At) (p : P) (after : List At)
      (total : Outcome F (List P × Option X)) → next kh ts ≡ true → rh ts ≡ Ok (x, m) → next kf m ≡ true
      → rf x m ≡ Ok (p, after)
      → with_leaders front (leaders_at kh rh kf rf ts) ≡ total
      → with_leaders (front ++ p ∷ []) (leaders_at kh rh kf rf after) ≡ total
  leader_goes_on front ts x m p after total e h g q so_far =
      sym (led_regroup front p (leaders_at kh rh kf rf after))
      ∙ ap (with_leaders front) (sym (one_leader ts x m p after e h g q)) ∙ so_far

  pub leader_ends_at : (front : List P) (ts : List At) (x : X) (m : List At) (total : Outcome F (List P × Option X))
      → next kh ts ≡ true → rh ts ≡ Ok (x, m) → next kf m ≡ false
      → with_leaders front (leaders_at kh rh kf rf ts) ≡ total → total ≡ Ok ((front, Some x), m)
  leader_ends_at front ts x m total e h g so_far =
      sym so_far ∙ ap (with_leaders front) (head_alone ts x m e h g)
      ∙ ap (λ (xs : List P). Ok ((xs, Some x), m)) (append-nil front)

  pub leaders_end : (front : List P) (ts : List At) (total : Outcome F (List P × Option X)) → next kh ts ≡ false
      → with_leaders front (leaders_at kh rh kf rf ts) ≡ total → total ≡ Ok ((front, None), ts)
  leaders_end front ts total e so_far =
      sym so_far ∙ ap (with_leaders front) (leaders_closed ts e)
      ∙ ap (λ (xs : List P). Ok ((xs, None), ts)) (append-nil front)

  pub leader_head_fails : (front : List P) (ts : List At) (f : Option F × List At)
      (total : Outcome F (List P × Option X)) → next kh ts ≡ true → rh ts ≡ Err f
      → with_leaders front (leaders_at kh rh kf rf ts) ≡ total → total ≡ Err f
  leader_head_fails front ts f total e h so_far = sym so_far ∙ ap (with_leaders front) (head_refused ts f e h)

  pub leader_part_fails : (front : List P) (ts : List At) (x : X) (m : List At) (f : Option F × List At)
      (total : Outcome F (List P × Option X)) → next kh ts ≡ true → rh ts ≡ Ok (x, m) → next kf m ≡ true
      → rf x m ≡ Err f
      → with_leaders front (leaders_at kh rh kf rf ts) ≡ total → total ≡ Err f
  leader_part_fails front ts x m f total e h g q so_far =
      sym so_far ∙ ap (with_leaders front) (part_refused ts x m f e h g q)
