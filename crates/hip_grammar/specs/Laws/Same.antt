-- Rules that mean the same: laws by which a rule may be rewritten.
use Rattle.std.proofs.Common.{Bool, List, [], ◌∷◌, Ok, Err, inl, inr, refl, subst}
use Rattle.hip_tokens.specs.Tokens.{Tok, At}
use Rattle.hip_grammar.specs.Rule.{Rule, both, many, AllDerive, ◌or◌}
use Rattle.hip_grammar.specs.Reader.{Reader, Outcome}
use Rattle.hip_grammar.specs.Laws.Exact.{IsExact, Exactly, IsAbsent}

-- Both rules derive the same values, have the same fronts, and refuse the same tokens for the same reasons.
pub record SameRule {F A : Type 0} (l m : Rule F A) : Type 0 where
  pub derives : (ts : List At) (a : A) (rest : List At) → l.Derives ts a rest → m.Derives ts a rest
  pub derives_back : (ts : List At) (a : A) (rest : List At) → m.Derives ts a rest → l.Derives ts a rest
  pub front : (ts rest : List At) → l.Front ts rest → m.Front ts rest
  pub front_back : (ts rest : List At) → m.Front ts rest → l.Front ts rest
  pub refuses : (w : F) (ts rest : List At) → l.Refuses w ts rest → m.Refuses w ts rest
  pub refuses_back : (w : F) (ts rest : List At) → m.Refuses w ts rest → l.Refuses w ts rest

pub same_exactly : {F A : Type 0} (l m : Rule F A) (c : Tok → Bool) (ts : List At) (o : Outcome F A) → SameRule l m
    → Exactly l c ts o → Exactly m c ts o
same_exactly l m c ts (Ok x) s q = record {
  derives = s.derives ts x.0 x.1 q.derives;
  only = λ b w t. q.only b w (s.derives_back ts b w t);
  last = λ w t. q.last w (s.front_back ts w t);
  unrefused = λ why w t. q.unrefused why w (s.refuses_back why ts w t);
}
same_exactly l m c ts (Err e) s q = record {
  front = s.front ts e.1 q.front;
  only = λ b w t. q.only b w (s.derives_back ts b w t);
  last = λ w t. q.last w (s.front_back ts w t);
  refused = λ why w t. q.refused why w (s.refuses_back why ts w t);
  reason = λ w k. s.refuses w ts e.1 (q.reason w k);
}

pub same_exact : {F A : Type 0} (l m : Rule F A) (r : Reader F A) (c : Tok → Bool) → SameRule l m → IsExact l r c
    → IsExact m r c
same_exact l m r c s p = record {
  empty = λ ts. s.front ts ts (p.empty ts);
  whole = λ ts a rest t. s.front ts rest (p.whole ts a rest (s.derives_back ts a rest t));
  within = λ ts rest t. p.within ts rest (s.front_back ts rest t);
  later = λ ts rest t. p.later ts rest (s.front_back ts rest t);
  closed = λ ts m at t a b. s.front ts at (p.closed ts m at (s.front_back ts m t) a b);
  reads = λ ts. same_exactly l m c ts (r ts) s (p.reads ts);
}

-- A front that two cases share may be read once.
pub factored : {F A B : Type 0} (l : Rule F A) (f g : A → Rule F B)
    → SameRule (both l (λ x. f x or g x)) ((both l f) or (both l g))
unfolding both ◌or◌
factored l f g = record {
  derives = λ ts a rest t. elim t.3 [ inl u ↦ inl (t.0, t.1, t.2, u) | inr u ↦ inr (t.0, t.1, t.2, u) ];
  derives_back = λ ts a rest t. elim t [ inl t ↦ (t.0, t.1, t.2, inl t.3) | inr t ↦ (t.0, t.1, t.2, inr t.3) ];
  front =
      λ ts rest t. elim t [
        | inl t ↦ inl (inl t)
        | inr t
            ↦ elim t.3 [ inl u ↦ inl (inr (t.0, t.1, t.2, u)) | inr u ↦ inr (inr (t.0, t.1, t.2, u)) ]
      ];
  front_back =
      λ ts rest t. elim t [
        | inl t ↦ elim t [ inl u ↦ inl u | inr u ↦ inr (u.0, u.1, u.2, inl u.3) ]
        | inr t
            ↦ elim t [ inl u ↦ inl u | inr u ↦ inr (u.0, u.1, u.2, inr u.3) ]
      ];
  refuses =
      λ w ts rest t. elim t [
        | inl t ↦ inl (inl t)
        | inr t
            ↦ elim t.3 [ inl u ↦ inl (inr (t.0, t.1, t.2, u)) | inr u ↦ inr (inr (t.0, t.1, t.2, u)) ]
      ];
  refuses_back =
      λ w ts rest t. elim t [
        | inl t ↦ elim t [ inl u ↦ inl u | inr u ↦ inr (u.0, u.1, u.2, inl u.3) ]
        | inr t
            ↦ elim t [ inl u ↦ inl u | inr u ↦ inr (u.0, u.1, u.2, inr u.3) ]
      ];
}

pub same_refl : {F A : Type 0} (l : Rule F A) → SameRule l l
same_refl l =
    record {
      derives = λ ts a rest t. t;
      derives_back = λ ts a rest t. t;
      front = λ ts rest t. t;
      front_back = λ ts rest t. t;
      refuses = λ w ts rest t. t;
      refuses_back = λ w ts rest t. t;
    }

pub same_sym : {F A : Type 0} (l m : Rule F A) → SameRule l m → SameRule m l
same_sym l m s =
    record {
      derives = s.derives_back;
      derives_back = s.derives;
      front = s.front_back;
      front_back = s.front;
      refuses = s.refuses_back;
      refuses_back = s.refuses;
    }

pub same_trans : {F A : Type 0} (l m n : Rule F A) → SameRule l m → SameRule m n → SameRule l n
same_trans l m n s r = record {
  derives = λ ts a rest t. r.derives ts a rest (s.derives ts a rest t);
  derives_back = λ ts a rest t. s.derives_back ts a rest (r.derives_back ts a rest t);
  front = λ ts rest t. r.front ts rest (s.front ts rest t);
  front_back = λ ts rest t. s.front_back ts rest (r.front_back ts rest t);
  refuses = λ w ts rest t. r.refuses w ts rest (s.refuses w ts rest t);
  refuses_back = λ w ts rest t. s.refuses_back w ts rest (r.refuses_back w ts rest t);
}

pub or_same : {F A : Type 0} (l m n k : Rule F A) → SameRule l n → SameRule m k → SameRule (l or m) (n or k)
unfolding ◌or◌
or_same l m n k s r = record {
  derives = λ ts a rest t. elim t [ inl t ↦ inl (s.derives ts a rest t) | inr t ↦ inr (r.derives ts a rest t) ];
  derives_back =
      λ ts a rest t. elim t [
        | inl t ↦ inl (s.derives_back ts a rest t)
        | inr t ↦
            inr (r.derives_back ts a rest t)
      ];
  front = λ ts rest t. elim t [ inl t ↦ inl (s.front ts rest t) | inr t ↦ inr (r.front ts rest t) ];
  front_back = λ ts rest t. elim t [ inl t ↦ inl (s.front_back ts rest t) | inr t ↦ inr (r.front_back ts rest t) ];
  refuses = λ w ts rest t. elim t [ inl t ↦ inl (s.refuses w ts rest t) | inr t ↦ inr (r.refuses w ts rest t) ];
  refuses_back =
      λ w ts rest t. elim t [
        | inl t ↦ inl (s.refuses_back w ts rest t)
        | inr t ↦
            inr (r.refuses_back w ts rest t)
      ];
}

pub or_assoc : {F A : Type 0} (l m n : Rule F A) → SameRule ((l or m) or n) (l or (m or n))
unfolding ◌or◌
or_assoc l m n = record {
  derives = λ ts a rest t. elim t [
    | inl t ↦ elim t [ inl u ↦ inl u | inr u ↦ inr (inl u) ]
    | inr t ↦
        inr (inr t)
  ];
  derives_back = λ ts a rest t. elim t [
    | inl t ↦ inl (inl t)
    | inr t ↦
        elim t [ inl u ↦ inl (inr u) | inr u ↦ inr u ]
  ];
  front = λ ts rest t. elim t [ inl t ↦ elim t [ inl u ↦ inl u | inr u ↦ inr (inl u) ] | inr t ↦ inr (inr t) ];
  front_back = λ ts rest t. elim t [
    | inl t ↦ inl (inl t)
    | inr t ↦
        elim t [ inl u ↦ inl (inr u) | inr u ↦ inr u ]
  ];
  refuses = λ w ts rest t. elim t [
    | inl t ↦ elim t [ inl u ↦ inl u | inr u ↦ inr (inl u) ]
    | inr t ↦
        inr (inr t)
  ];
  refuses_back = λ w ts rest t. elim t [
    | inl t ↦ inl (inl t)
    | inr t ↦
        elim t [ inl u ↦ inl (inr u) | inr u ↦ inr u ]
  ];
}

pub both_assoc : {F A B C : Type 0} (l : Rule F A) (f : A → Rule F B) (g : B → Rule F C)
    → SameRule (both (both l f) g) (both l (λ x. both (f x) g))
unfolding both
both_assoc l f g = record {
  derives = λ ts c rest t. let u = t.2 in (u.0, u.1, u.2, (t.0, t.1, u.3, t.3));
  derives_back = λ ts c rest t. let u = t.3 in (u.0, u.1, (t.0, t.1, t.2, u.2), u.3);
  front =
      λ ts rest t. elim t [
        | inl t ↦ elim t [ inl u ↦ inl u | inr u ↦ inr (u.0, u.1, u.2, inl u.3) ]
        | inr t
            ↦ let u = t.2 in inr (u.0, u.1, u.2, inr (t.0, t.1, u.3, t.3))
      ];
  front_back =
      λ ts rest t. elim t [
        | inl t ↦ inl (inl t)
        | inr t
            ↦ elim t.3 [
              | inl u ↦ inl (inr (t.0, t.1, t.2, u))
              | inr u ↦
                  inr (u.0, u.1, (t.0, t.1, t.2, u.2), u.3)
            ]
      ];
  refuses =
      λ w ts rest t. elim t [
        | inl t ↦ elim t [ inl u ↦ inl u | inr u ↦ inr (u.0, u.1, u.2, inl u.3) ]
        | inr t
            ↦ let u = t.2 in inr (u.0, u.1, u.2, inr (t.0, t.1, u.3, t.3))
      ];
  refuses_back =
      λ w ts rest t. elim t [
        | inl t ↦ inl (inl t)
        | inr t
            ↦ elim t.3 [
              | inl u ↦ inl (inr (t.0, t.1, t.2, u))
              | inr u ↦
                  inr (u.0, u.1, (t.0, t.1, t.2, u.2), u.3)
            ]
      ];
}

pub both_over_or : {F A B : Type 0} (l m : Rule F A) (f : A → Rule F B)
    → SameRule (both (l or m) f) (both l f or both m f)
unfolding both ◌or◌
both_over_or l m f = record {
  derives = λ ts b rest t. elim t.2 [ inl u ↦ inl (t.0, t.1, u, t.3) | inr u ↦ inr (t.0, t.1, u, t.3) ];
  derives_back = λ ts b rest t. elim t [ inl t ↦ (t.0, t.1, inl t.2, t.3) | inr t ↦ (t.0, t.1, inr t.2, t.3) ];
  front =
      λ ts rest t. elim t [
        | inl t ↦ elim t [ inl u ↦ inl (inl u) | inr u ↦ inr (inl u) ]
        | inr t
            ↦ elim t.2 [ inl u ↦ inl (inr (t.0, t.1, u, t.3)) | inr u ↦ inr (inr (t.0, t.1, u, t.3)) ]
      ];
  front_back =
      λ ts rest t. elim t [
        | inl t ↦ elim t [ inl u ↦ inl (inl u) | inr u ↦ inr (u.0, u.1, inl u.2, u.3) ]
        | inr t
            ↦ elim t [ inl u ↦ inl (inr u) | inr u ↦ inr (u.0, u.1, inr u.2, u.3) ]
      ];
  refuses =
      λ w ts rest t. elim t [
        | inl t ↦ elim t [ inl u ↦ inl (inl u) | inr u ↦ inr (inl u) ]
        | inr t
            ↦ elim t.2 [ inl u ↦ inl (inr (t.0, t.1, u, t.3)) | inr u ↦ inr (inr (t.0, t.1, u, t.3)) ]
      ];
  refuses_back =
      λ w ts rest t. elim t [
        | inl t ↦ elim t [ inl u ↦ inl (inl u) | inr u ↦ inr (u.0, u.1, inl u.2, u.3) ]
        | inr t
            ↦ elim t [ inl u ↦ inl (inr u) | inr u ↦ inr (u.0, u.1, inr u.2, u.3) ]
      ];
}

pub both_same : {F A B : Type 0} (l : Rule F A) (f g : A → Rule F B) → ((a : A) → SameRule (f a) (g a))
    → SameRule (both l f) (both l g)
unfolding both
both_same l f g s = record {
  derives = λ ts b rest t. (t.0, t.1, t.2, (s t.0).derives t.1 b rest t.3);
  derives_back = λ ts b rest t. (t.0, t.1, t.2, (s t.0).derives_back t.1 b rest t.3);
  front = λ ts rest t. elim t [ inl t ↦ inl t | inr t ↦ inr (t.0, t.1, t.2, (s t.0).front t.1 rest t.3) ];
  front_back = λ ts rest t. elim t [
    | inl t ↦ inl t
    | inr t ↦
        inr (t.0, t.1, t.2, (s t.0).front_back t.1 rest t.3)
  ];
  refuses = λ w ts rest t. elim t [ inl t ↦ inl t | inr t ↦ inr (t.0, t.1, t.2, (s t.0).refuses w t.1 rest t.3) ];
  refuses_back =
      λ w ts rest t. elim t [ inl t ↦ inl t | inr t ↦ inr (t.0, t.1, t.2, (s t.0).refuses_back w t.1 rest t.3) ];
}

pub same_absent : {F A : Type 0} (l m : Rule F A) (ts : List At) → SameRule l m → IsAbsent l ts → IsAbsent m ts
same_absent l m ts s q = record {
  derives = λ a rest t. q.derives a rest (s.derives_back ts a rest t);
  front = λ rest t. q.front rest (s.front_back ts rest t);
  refused = λ w rest t. q.refused w rest (s.refuses_back w ts rest t);
}

-- ---- the first part of a repetition

module _ (F A B : Type 0) (l : Rule F A) (k : List A → Rule F B) where
  abbrev pub unrolled : Rule F B
  unrolled = both l (λ x. both (many l) (λ xs. k (x ∷ xs))) or k []

  unroll_derives : (ts : List At) (xs : List A) (m : List At) (b : B) (rest : List At) → AllDerive l ts xs m
      → (k xs).Derives m b rest → unrolled.Derives ts b rest
  unfolding both many ◌or◌
  unroll_derives ts [] m b rest t u = inr (subst (λ z. (k []).Derives z b rest) t u)
  unroll_derives ts (x ∷ xs) m b rest t u = inl (x, t.0, t.1, (xs, m, t.2, u))

  unroll_front : (ts : List At) (xs : List A) (m rest : List At) → AllDerive l ts xs m → l.Front m rest
      → unrolled.Front ts rest
  unfolding both many ◌or◌
  unroll_front ts [] m rest t u = inl (inl (subst (λ z. l.Front z rest) t u))
  unroll_front ts (x ∷ xs) m rest t u = inl (inr (x, t.0, t.1, inl (xs, m, t.2, u)))

  unroll_end : (ts : List At) (xs : List A) (m rest : List At) → AllDerive l ts xs m → (k xs).Front m rest
      → unrolled.Front ts rest
  unfolding both many ◌or◌
  unroll_end ts [] m rest t u = inr (subst (λ z. (k []).Front z rest) t u)
  unroll_end ts (x ∷ xs) m rest t u = inl (inr (x, t.0, t.1, inr (xs, m, t.2, u)))

  unroll_stop : (w : F) (ts : List At) (xs : List A) (m rest : List At) → AllDerive l ts xs m → l.Refuses w m rest
      → unrolled.Refuses w ts rest
  unfolding both many ◌or◌
  unroll_stop w ts [] m rest t u = inl (inl (subst (λ z. l.Refuses w z rest) t u))
  unroll_stop w ts (x ∷ xs) m rest t u = inl (inr (x, t.0, t.1, inl (xs, m, t.2, u)))

  unroll_end_stop : (w : F) (ts : List At) (xs : List A) (m rest : List At) → AllDerive l ts xs m
      → (k xs).Refuses w m rest → unrolled.Refuses w ts rest
  unfolding both many ◌or◌
  unroll_end_stop w ts [] m rest t u = inr (subst (λ z. (k []).Refuses w z rest) t u)
  unroll_end_stop w ts (x ∷ xs) m rest t u = inl (inr (x, t.0, t.1, inr (xs, m, t.2, u)))

  pub many_unrolls : SameRule unrolled (both (many l) k)
  unfolding both many ◌or◌
  many_unrolls = record {
    derives =
        λ ts b rest t. elim t [
          | inl t ↦ let r = t.3 in
              (t.0 ∷ r.0, r.1, (t.1, t.2, r.2), r.3)
          | inr t ↦ ([], ts, refl, t)
        ];
    derives_back = λ ts b rest t. unroll_derives ts t.0 t.1 b rest t.2 t.3;
    front = λ ts rest t. elim t [
      | inl t ↦ elim t [
        | inl u ↦ inl ([], ts, refl, u)
        | inr u
            ↦ elim u.3 [
              | inl r ↦ inl (u.0 ∷ r.0, r.1, (u.1, u.2, r.2), r.3)
              | inr r
                  ↦ inr (u.0 ∷ r.0, r.1, (u.1, u.2, r.2), r.3)
            ]
      ]
      | inr t ↦ inr ([], ts, refl, t)
    ];
    front_back =
        λ ts rest t. elim t [
          | inl u ↦ unroll_front ts u.0 u.1 rest u.2 u.3
          | inr u
              ↦ unroll_end ts u.0 u.1 rest u.2 u.3
        ];
    refuses = λ w ts rest t. elim t [
      | inl t ↦ elim t [
        | inl u ↦ inl ([], ts, refl, u)
        | inr u
            ↦ elim u.3 [
              | inl r ↦ inl (u.0 ∷ r.0, r.1, (u.1, u.2, r.2), r.3)
              | inr r
                  ↦ inr (u.0 ∷ r.0, r.1, (u.1, u.2, r.2), r.3)
            ]
      ]
      | inr t ↦ inr ([], ts, refl, t)
    ];
    refuses_back =
        λ w ts rest t. elim t [
          | inl u ↦ unroll_stop w ts u.0 u.1 rest u.2 u.3
          | inr u
              ↦ unroll_end_stop w ts u.0 u.1 rest u.2 u.3
        ];
  }

-- Repeated parts of two cases, of which one begins with a head, and their close are the same as three cases: the head
-- and the rest of the first part, the first part of the other case, or the close alone. The other parts follow a first
-- part.
pub head_or_other : {F X A B : Type 0} (h : Rule F X) (f : X → Rule F A) (e : Rule F A) (k : List A → Rule F B)
    → SameRule (both h (λ x. both (f x)
    (λ i. both (many (both h f or e)) (λ is. k (i ∷ is)))) or (both e (λ i. both (many (both h f or e))
    (λ is. k (i ∷ is))) or k [])) (both (many (both h f or e)) k)
head_or_other {F} {X} {A} {B} h f e k =
    let G : A → Rule F B = λ i. both (many (both h f or e)) (λ is. k (i ∷ is)) in
    let one : SameRule (both h (λ x. both (f x) G) or (both e G or k []))
    ((both h (λ x. both (f x) G) or both e G) or k []) =
    same_sym _ _ (or_assoc (both h (λ x. both (f x) G)) (both e G) (k [])) in
    let two : SameRule (both h (λ x. both (f x) G) or both e G) (both (both h f or e) G) =
    same_trans _ _ _ (or_same _ _ _ _ (same_sym _ _ (both_assoc h f G)) (same_refl (both e G)))
    (same_sym _ _ (both_over_or (both h f) e G)) in
    let three : SameRule ((both h (λ x. both (f x) G) or both e G) or k []) (both (both h f or e) G or k []) =
    or_same _ _ _ _ two (same_refl (k [])) in
    same_trans _ _ _ one (same_trans _ _ _ three (many_unrolls F A B (both h f or e) k))
