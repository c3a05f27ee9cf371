-- Readers of any number of parts, or of at most one, that are exact for their rules.
use Rattle.std.proofs.Common.{◌≡◌, ℕ, zero, suc, ◌≤◌, ◌<◌, Bool, true, false, cond, List, [], ◌∷◌, length, Option, Some, None, Ok, Err, ◌⊎◌, inl, inr, refl, sym, ap, subst, ◌∙◌, arith}
use Rattle.hip_tokens.specs.Tokens.{Tok, At}
use Rattle.hip_grammar.specs.Rule.{Rule, Later, AllDerive, many, perhaps}
use Rattle.hip_grammar.specs.Reader.{Outcome, Reader, on_ok, next, perhaps_at, times_at, many_at}
use Rattle.hip_grammar.specs.Laws.Exact.{Accepts, ClosedFronts, Exactly, IsAbsent, IsExact, Rejects, joined, later_antisym, later_order, later_same, later_trans, next_left, next_right}

-- ---- any number of parts

some_first : (k : Tok → Bool) (ts : List At) → next k ts ≡ true → 0 < length ts
some_first k [] e = absurd cc
some_first k (t ∷ ts) e = omega arith

module _ (F A : Type 0) (l : Rule F A) (r : Reader F A) (k c : Tok → Bool) (p : IsExact l r c)
    (stay : (ts : List At) → next k ts ≡ false → IsAbsent l ts)
    (ends : (ts : List At) → next c ts ≡ true → IsAbsent l ts)
    (takes_some : (ts : List At) (a : A) (rest : List At) → l.Derives ts a rest → length rest < length ts) where
  -- What may follow a part: one part more, or what may follow the last.
  abbrev kc : Tok → Bool
  kc = joined k c

  many_empty : (ts : List At) → (many l).Front ts ts
  unfolding many
  many_empty ts = ([], ts, refl, p.empty ts)

  many_whole : (ts : List At) (xs : List A) (rest : List At) → (many l).Derives ts xs rest → (many l).Front ts rest
  unfolding many
  many_whole ts xs rest t = (xs, rest, t, p.empty rest)

  all_within : (xs : List A) (ts m rest : List At) → AllDerive l ts xs m → l.Front m rest
      → length rest ≤ length ts
  all_within [] ts m rest t f = let k = p.within m rest f in let e = ap length t in omega arith
  all_within (x ∷ xs) ts m rest t f =
      let k = all_within xs t.0 m rest t.2 f in let j = takes_some ts x t.0 t.1 in omega arith

  many_within : (ts rest : List At) → (many l).Front ts rest → length rest ≤ length ts
  unfolding many
  many_within ts rest t = all_within t.0 ts t.1 rest t.2 t.3

  all_later : (xs : List A) (ts m rest : List At) → AllDerive l ts xs m → l.Front m rest → Later ts rest
  all_later [] ts m rest t f = subst (λ z. Later z rest) t (p.later m rest f)
  all_later (x ∷ xs) ts m rest t f =
      later_trans ts t.0 rest (p.later ts t.0 (p.whole ts x t.0 t.1)) (all_later xs t.0 m rest t.2 f)

  many_later : (ts rest : List At) → (many l).Front ts rest → Later ts rest
  unfolding many
  many_later ts rest t = all_later t.0 ts t.1 rest t.2 t.3

  all_closed : (xs : List A) (ts m w at : List At) → AllDerive l ts xs m → l.Front m w → Later ts at
      → Later at w
      → (many l).Front ts at
  unfolding many
  all_closed [] ts m w at t f a b = ([], ts, refl, p.closed ts w at (subst (λ z. l.Front z w) t f) a b)
  all_closed (x ∷ xs) ts m w at t f a b = elim (later_order ts at t.0 a (p.later ts t.0 (p.whole ts x t.0 t.1))) [
    | inl k ↦ ([], ts, refl, p.closed ts t.0 at (p.whole ts x t.0 t.1) a k)
    | inr k ↦ let r = all_closed xs t.0 m w at t.2 f k b in (x ∷ r.0, r.1, (t.0, t.1, r.2), r.3)
  ]

  many_closed : ClosedFronts (many l)
  unfolding many
  many_closed ts w at t a b = all_closed t.0 ts t.1 w at t.2 t.3 a b

  none_is : (ts : List At) → IsAbsent l ts → (b : List A) (m : List At) → AllDerive l ts b m → (b ≡ [])
      × (m ≡ ts)
  none_is ts q [] m t = (refl, t)
  none_is ts q (x ∷ xs) m t = absurd (q.derives x t.0 t.1)

  many_none : (ts : List At) → IsAbsent l ts → Accepts (many l) kc ts [] ts
  unfolding many
  many_none ts q = record {
    derives = refl;
    only = λ b m t. inl (none_is ts q b m t);
    last =
        λ m t. let here = (none_is ts q t.0 t.1 t.2).1 in
        rw (q.front m (subst (λ u. l.Front u m) here t.3)) (omega arith);
    unrefused =
        λ why m t. let here = (none_is ts q t.0 t.1 t.2).1 in
        q.refused why m (subst (λ u. l.Refuses why u m) here t.3);
  }

  -- Where the next token passes the test c, no part takes a token.
  ended : (m : List At) → next c m ≡ true → (ys : List A) (w : List At) → AllDerive l m ys w → w ≡ m
  ended m g ys w t = (none_is m (ends m g) ys w t).1

  ended_next : (m : List At) → next c m ≡ true → (ys : List A) (w : List At) → AllDerive l m ys w
      → next kc w ≡ true
  ended_next m g ys w t = rw (ended m g ys w t) (next_right k c m g)

  ended_front : (m : List At) → next c m ≡ true → (ys : List A) (m' w : List At) → AllDerive l m ys m'
      → l.Front m' w
      → w ≡ m
  ended_front m g ys m' w t f = (ends m g).front w (subst (λ u. l.Front u w) (ended m g ys m' t) f)

  ended_refuses : (m : List At) → next c m ≡ true → (ys : List A) (m' w : List At) (why : F)
      → AllDerive l m ys m'
      → l.Refuses why m' w → ⊥
  ended_refuses m g ys m' w why t f = (ends m g).refused why w (subst (λ u. l.Refuses why u w) (ended m g ys m' t) f)

  module _ (ts : List At) (x : A) (m : List At) (first : Accepts l c ts x m) (begins : next k ts ≡ true) where
    more_only : (xs : List A) (rest : List At)
        → ((b : List A) (w : List At) → AllDerive l m b w → ((b ≡ xs) × (w ≡ rest)) ⊎ (next kc w ≡ true))
        → (b : List A) (w : List At) → AllDerive l ts b w → ((b ≡ x ∷ xs) × (w ≡ rest))
        ⊎ (next kc w ≡ true)
    more_only xs rest h [] w t = inr (rw t (next_left k c ts begins))
    more_only xs rest h (y ∷ ys) w t = elim (first.only y t.0 t.1) [
      | inl e ↦ elim (h ys w (subst (λ u. AllDerive l u ys w) e.1 t.2)) [
        | inl q
            ↦ (let a = e.0 in let b = q.0 in inl (cc, q.1))
        | inr g ↦ inr g
      ]
      | inr g ↦ inr (ended_next t.0 g ys w t.2)
    ]

    more_refused : ((b : List A) (w : List At) → AllDerive l m b w → next kc w ≡ true)
        → (b : List A) (w : List At)
        → AllDerive l ts b w → next kc w ≡ true
    more_refused h [] w t = rw t (next_left k c ts begins)
    more_refused h (y ∷ ys) w t =
        elim (first.only y t.0 t.1) [
          | inl e ↦ h ys w (subst (λ u. AllDerive l u ys w) e.1 t.2)
          | inr g
              ↦ ended_next t.0 g ys w t.2
        ]

    more_last : (n : ℕ) → n ≤ length m
        → ((ys : List A) (m' w : List At) → AllDerive l m ys m' → l.Front m' w → n ≤ length w)
        → (ys : List A) (m' w : List At) → AllDerive l ts ys m' → l.Front m' w → n ≤ length w
    more_last n le h [] m' w t f = let k = first.last w (subst (λ u. l.Front u w) t f) in omega arith
    more_last n le h (y ∷ ys) m' w t f = elim (first.only y t.0 t.1) [
      | inl e ↦ h ys m' w (subst (λ u. AllDerive l u ys m') e.1 t.2) f
      | inr g ↦ let k = first.last t.0 (p.whole ts y t.0 t.1) in rw (ended_front t.0 g ys m' w t.2 f) (omega arith)
    ]

    more_refuses : (why : F) (G : List At → Type 0)
        → ((ys : List A) (m' w : List At) → AllDerive l m ys m' → l.Refuses why m' w → G w)
        → (ys : List A) (m' w : List At) → AllDerive l ts ys m' → l.Refuses why m' w → G w
    more_refuses why G h [] m' w t f = absurd (first.unrefused why w (subst (λ u. l.Refuses why u w) t f))
    more_refuses why G h (y ∷ ys) m' w t f = elim (first.only y t.0 t.1) [
      | inl e ↦ h ys m' w (subst (λ u. AllDerive l u ys m') e.1 t.2) f
      | inr g ↦ absurd (ended_refuses t.0 g ys m' w why t.2 f)
    ]

    many_more : (o : Outcome F (List A)) → Exactly (many l) kc m o
        → Exactly (many l) kc ts (on_ok o (λ xs rest. Ok (x ∷ xs, rest)))
    unfolding many
    many_more (Ok y) q = record {
      derives = (m, first.derives, q.derives);
      only = more_only y.0 y.1 q.only;
      last =
          λ w t. more_last (length y.1) (q.last m ([], m, refl, p.empty m))
          (λ ys m' v a b. q.last v (ys, m', a, b)) t.0 t.1 w t.2 t.3;
      unrefused =
          λ why w t. more_refuses why (λ v. ⊥) (λ ys m' v a b. q.unrefused why v (ys, m', a, b)) t.0 t.1 w t.2 t.3;
    }
    many_more (Err e) q = record {
      front = (x ∷ q.front.0, q.front.1, (m, first.derives, q.front.2), q.front.3);
      only = more_refused q.only;
      last =
          λ w t. more_last (length e.1) (q.last m ([], m, refl, p.empty m))
          (λ ys m' v a b. q.last v (ys, m', a, b)) t.0 t.1 w t.2 t.3;
      refused =
          λ why w t. more_refuses why (λ v. (v ≡ e.1) × (e.0 ≡ Some why))
          (λ ys m' v a b. q.refused why v (ys, m', a, b)) t.0 t.1 w t.2 t.3;
      reason = λ w g. let s = q.reason w g in (x ∷ s.0, s.1, (m, first.derives, s.2), s.3);
    }

  module _ (ts : List At) (e : Option F × List At) (q : Rejects l c ts e.0 e.1) (begins : next k ts ≡ true) where
    first_only : (ys : List A) (w : List At) → AllDerive l ts ys w → next kc w ≡ true
    first_only [] w t = rw t (next_left k c ts begins)
    first_only (y ∷ ys) w t = ended_next t.0 (q.only y t.0 t.1) ys w t.2

    first_last : (ys : List A) (m w : List At) → AllDerive l ts ys m → l.Front m w → length e.1 ≤ length w
    first_last [] m w t f = q.last w (subst (λ u. l.Front u w) t f)
    first_last (y ∷ ys) m w t f =
        rw (ended_front t.0 (q.only y t.0 t.1) ys m w t.2 f) (q.last t.0 (p.whole ts y t.0 t.1))

    first_refuses : (why : F) (ys : List A) (m w : List At) → AllDerive l ts ys m → l.Refuses why m w
        → (w ≡ e.1) × (e.0 ≡ Some why)
    first_refuses why [] m w t f = q.refused why w (subst (λ u. l.Refuses why u w) t f)
    first_refuses why (y ∷ ys) m w t f = absurd (ended_refuses t.0 (q.only y t.0 t.1) ys m w why t.2 f)

    first_rejected : Rejects (many l) kc ts e.0 e.1
    unfolding many
    first_rejected = record {
      front = ([], ts, refl, q.front);
      only = first_only;
      last = λ w t. first_last t.0 t.1 w t.2 t.3;
      refused = λ why w t. first_refuses why t.0 t.1 w t.2 t.3;
      reason = λ w g. ([], ts, refl, q.reason w g);
    }

  many_first : (n : ℕ) (ts : List At) (o : Outcome F A)
      → ((m : List At) → length m ≤ n → Exactly (many l) kc m (times_at k r n m)) → length ts ≤ suc n
      → next k ts ≡ true
      → Exactly l c ts o
      → Exactly (many l) kc ts (on_ok o (λ x more. on_ok (times_at k r n more) (λ xs rest. Ok (x ∷ xs, rest))))
  many_first n ts (Ok x) others le begins q =
      many_more ts x.0 x.1 q begins (times_at k r n x.1)
      (others x.1 (let h = takes_some ts x.0 x.1 q.derives in omega arith))
  many_first n ts (Err e) others le begins q = first_rejected ts e q begins

  many_next : (n : ℕ) (ts : List At) (b : Bool) → next k ts ≡ b
      → ((m : List At) → length m ≤ n → Exactly (many l) kc m (times_at k r n m)) → length ts ≤ suc n
      → Exactly (many l) kc ts (cond b (on_ok (r ts)
      (λ x more. on_ok (times_at k r n more) (λ xs rest. Ok (x ∷ xs, rest)))) (Ok ([], ts)))
  many_next n ts true e others le = many_first n ts (r ts) others le e (p.reads ts)
  many_next n ts false e others le = many_none ts (stay ts e)

  many_reads : (n : ℕ) (ts : List At) → length ts ≤ n → Exactly (many l) kc ts (times_at k r n ts)
  unfolding times_at
  many_reads zero [] le = many_none [] (stay [] refl)
  many_reads zero (t ∷ ts) le = absurd (omega arith)
  many_reads (suc n) ts le = many_next n ts (next k ts) refl (many_reads n) le

  pub many_exact : IsExact (many l) (many_at k r) (joined k c)
  many_exact =
      record {
        empty = many_empty;
        whole = many_whole;
        within = many_within;
        later = many_later;
        closed = many_closed;
        reads = λ ts. many_reads (length ts) ts (omega arith);
      }

-- ---- a part or nothing

module _ (F A : Type 0) (l : Rule F A) (r : Reader F A) (k c : Tok → Bool) (p : IsExact l r c)
    (stay : (ts : List At) → next k ts ≡ false → IsAbsent l ts) where
  perhaps_some : (ts : List At) → next k ts ≡ true → (o : Outcome F A) → Exactly l c ts o
      → Exactly (perhaps l) (joined k c) ts (on_ok o (λ x more. Ok (Some x, more)))
  unfolding perhaps
  perhaps_some ts begins (Ok x) q = record {
    derives = inr (x.0, refl, q.derives);
    only = λ b m t. elim t [
      | inl t ↦ inr (rw t.0 (next_left k c ts begins))
      | inr t ↦ elim (q.only t.0 m t.2) [
        | inl e ↦ inl (t.1 ∙ ap (λ (a : A). Some a) e.0, e.1)
        | inr g
            ↦ inr (next_right k c m g)
      ]
    ];
    last = λ m t. elim t [ inl t ↦ rw t (p.within ts x.1 (p.whole ts x.0 x.1 q.derives)) | inr t ↦ q.last m t ];
    unrefused = q.unrefused;
  }
  perhaps_some ts begins (Err e) q = record {
    front = inr q.front;
    only = λ b m t. elim t [
      | inl t ↦ rw t.0 (next_left k c ts begins)
      | inr t ↦
          next_right k c m (q.only t.0 m t.2)
    ];
    last = λ m t. elim t [ inl t ↦ rw t (p.within ts e.1 q.front) | inr t ↦ q.last m t ];
    refused = q.refused;
    reason = q.reason;
  }

  perhaps_none : (ts : List At) → IsAbsent l ts → Accepts (perhaps l) (joined k c) ts None ts
  unfolding perhaps
  perhaps_none ts q = record {
    derives = inl (refl, refl);
    only = λ b m t. elim t [ inl t ↦ inl (t.1, t.0) | inr t ↦ absurd (q.derives t.0 m t.2) ];
    last = λ m t. elim t [ inl t ↦ rw t (omega arith) | inr t ↦ rw (q.front m t) (omega arith) ];
    unrefused = q.refused;
  }

  perhaps_next : (ts : List At) (b : Bool) → next k ts ≡ b
      → Exactly (perhaps l) (joined k c) ts (cond b (on_ok (r ts) (λ x more. Ok (Some x, more))) (Ok (None, ts)))
  perhaps_next ts true e = perhaps_some ts e (r ts) (p.reads ts)
  perhaps_next ts false e = perhaps_none ts (stay ts e)

  perhaps_whole : (ts : List At) (o : Option A) (rest : List At) → (perhaps l).Derives ts o rest
      → (perhaps l).Front ts rest
  unfolding perhaps
  perhaps_whole ts o rest t = elim t [ inl t ↦ inl t.0 | inr t ↦ inr (p.whole ts t.0 rest t.2) ]

  perhaps_within : (ts rest : List At) → (perhaps l).Front ts rest → length rest ≤ length ts
  unfolding perhaps
  perhaps_within ts rest t = elim t [ inl t ↦ rw t (omega arith) | inr t ↦ p.within ts rest t ]

  perhaps_later : (ts rest : List At) → (perhaps l).Front ts rest → Later ts rest
  unfolding perhaps
  perhaps_later ts rest t = elim t [ inl t ↦ later_same ts rest (sym t) | inr t ↦ p.later ts rest t ]

  perhaps_closed : ClosedFronts (perhaps l)
  unfolding perhaps
  perhaps_closed ts m at t a b =
      elim t [
        | inl t ↦ inl (later_antisym ts at a (subst (λ z. Later at z) t b))
        | inr t
            ↦ inr (p.closed ts m at t a b)
      ]

  perhaps_empty : (ts : List At) → (perhaps l).Front ts ts
  unfolding perhaps
  perhaps_empty ts = inl refl

  pub perhaps_exact : IsExact (perhaps l) (perhaps_at k r) (joined k c)
  perhaps_exact =
      record {
        empty = perhaps_empty;
        whole = perhaps_whole;
        within = perhaps_within;
        later = perhaps_later;
        closed = perhaps_closed;
        reads = λ ts. perhaps_next ts (next k ts) refl;
      }
