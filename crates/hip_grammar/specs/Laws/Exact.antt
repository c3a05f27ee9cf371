-- Readers that are exact for a rule, part by part.
use Rattle.std.proofs.Common.{◌≡◌, ◌≤◌, ◌<◌, Bool, true, false, cond, List, [], ◌∷◌, length, Option, Some, None, Ok, Err, ◌⊎◌, inl, inr, refl, sym, ap, subst, ◌∙◌, arith, ◌++◌, ◌||◌, append_assoc, length-append}
use Rattle.hip_tokens.specs.Tokens.{Tok, At}
use Rattle.hip_grammar.specs.Rule.{Rule, Later, Verdict, Yes, Because, No, done, one, both, ◌or◌}
use Rattle.hip_grammar.specs.Reader.{Outcome, Reader, on_ok, judged, done_at, one_at, both_at, next, either_at}

-- The rule derives the value that was read, up to `rest`. It derives another value, or this one up to another place,
-- only if the next token at that place passes the test c.
pub record Accepts {F A : Type 0} (l : Rule F A) (c : Tok → Bool) (ts : List At) (a : A)
    (rest : List At) : Type 0 where
  pub derives : l.Derives ts a rest
  pub only : (b : A) (m : List At) → l.Derives ts b m → ((b ≡ a) × (m ≡ rest)) ⊎ (next c m ≡ true)
  pub last : (m : List At) → l.Front ts m → length rest ≤ length m
  pub unrefused : (why : F) (m : List At) → l.Refuses why ts m → ⊥

-- The tokens up to `rest` are a front, and no front goes further. The rule derives a value up to a place only if the
-- next token there passes the test c.
pub record Rejects {F A : Type 0} (l : Rule F A) (c : Tok → Bool) (ts : List At) (why : Option F)
    (rest : List At) : Type 0 where
  pub front : l.Front ts rest
  pub only : (b : A) (m : List At) → l.Derives ts b m → next c m ≡ true
  pub last : (m : List At) → l.Front ts m → length rest ≤ length m
  pub refused : (w : F) (m : List At) → l.Refuses w ts m → (m ≡ rest) × (why ≡ Some w)
  pub reason : (w : F) → why ≡ Some w → l.Refuses w ts rest

-- The outcome is right for the rule: the value that was read is accepted, or the place that was refused is rejected.
abbrev pub Exactly : {F A : Type 0} → Rule F A → (Tok → Bool) → List At → Outcome F A → Type 0
Exactly l c ts (Ok x) = Accepts l c ts x.0 x.1
Exactly l c ts (Err e) = Rejects l c ts e.0 e.1

pub later_same : (a b : List At) → a ≡ b → Later a b
later_same a b e = ([], e)

pub later_trans : (a b c : List At) → Later a b → Later b c → Later a c
later_trans a b c p q = (p.0 ++ q.0, p.1 ∙ ap (λ (x : List At). p.0 ++ x) q.1 ∙ sym (append_assoc p.0 q.0 c))

later_length : (a b : List At) → Later a b → length b ≤ length a
later_length a b p = let e = ap length p.1 in omega (arith, e, length-append p.0 b)

later_back : (a b w : List At) → a ≡ w ++ b → length a ≤ length b → a ≡ b
later_back a b [] e le = e
later_back a b (t ∷ w) e le = absurd (let k = ap length e in omega (arith, k, length-append w b))

pub later_antisym : (a b : List At) → Later a b → Later b a → b ≡ a
later_antisym a b p q = sym (later_back a b p.0 p.1 (later_length b a q))

-- Of two places in one list, one is at or after the other.
later_compare : (a b u v : List At) → u ++ a ≡ v ++ b → Later a b ⊎ Later b a
later_compare a b [] v e = inl (v, e)
later_compare a b (t ∷ u) [] e = inr (t ∷ u, sym e)
later_compare a b (t ∷ u) (s ∷ v) e = later_compare a b u v (cc)

pub later_order : (ts a b : List At) → Later ts a → Later ts b → Later a b ⊎ Later b a
later_order ts a b p q = later_compare a b p.0 q.0 (sym p.1 ∙ q.1)

-- Each place before the end of a front is the end of a front too.
abbrev pub ClosedFronts : {F A : Type 0} → Rule F A → Type 0
ClosedFronts l = (ts m at : List At) → l.Front ts m → Later ts at → Later at m → l.Front ts at

-- The outcome of the reader is right from each place on. The empty list of tokens is a front of the rule, and so are
-- the tokens that derive a value. A front ends at its start or later, and each place before its end is the end of a
-- front too.
pub record IsExact {F A : Type 0} (l : Rule F A) (r : Reader F A) (c : Tok → Bool) : Type 0 where
  pub empty : (ts : List At) → l.Front ts ts
  pub whole : (ts : List At) (a : A) (rest : List At) → l.Derives ts a rest → l.Front ts rest
  pub within : (ts rest : List At) → l.Front ts rest → length rest ≤ length ts
  pub later : (ts rest : List At) → l.Front ts rest → Later ts rest
  pub closed : ClosedFronts l
  pub reads : (ts : List At) → Exactly l c ts (r ts)

-- The rule derives nothing here, and no token begins it.
pub record IsAbsent {F A : Type 0} (l : Rule F A) (ts : List At) : Type 0 where
  pub derives : (a : A) (m : List At) → l.Derives ts a m → ⊥
  pub front : (m : List At) → l.Front ts m → m ≡ ts
  pub refused : (why : F) (m : List At) → l.Refuses why ts m → ⊥

-- The test that no token passes, for a rule whose values never go on.
abbrev pub never : Tok → Bool
never t = false

-- Whether a token passes at least one of two tests.
abbrev pub joined : (Tok → Bool) → (Tok → Bool) → Tok → Bool
joined c d t = c t || d t

or_right_true : (a b : Bool) → b ≡ true → (a || b) ≡ true
or_right_true true b e = refl
or_right_true false b e = e

pub next_left : (c d : Tok → Bool) (ts : List At) → next c ts ≡ true → next (joined c d) ts ≡ true
next_left c d [] e = absurd cc
next_left c d (t ∷ ts) e = rw e refl

pub next_right : (c d : Tok → Bool) (ts : List At) → next d ts ≡ true → next (joined c d) ts ≡ true
next_right c d [] e = absurd cc
next_right c d (t ∷ ts) e = or_right_true (c t.tok) (d t.tok) e

pub next_widens : (c d : Tok → Bool) → ((t : Tok) → c t ≡ true → d t ≡ true) → (ts : List At)
    → next c ts ≡ true
    → next d ts ≡ true
next_widens c d h [] e = absurd cc
next_widens c d h (t ∷ ts) e = h t.tok e

or_false_left : (a b : Bool) → (a || b) ≡ false → a ≡ false
or_false_left true b e = e
or_false_left false b e = refl

or_false_right : (a b : Bool) → (a || b) ≡ false → b ≡ false
or_false_right true b e = absurd cc
or_false_right false b e = e

pub next_not_left : (c d : Tok → Bool) (ts : List At) → next (joined c d) ts ≡ false → next c ts ≡ false
next_not_left c d [] e = refl
next_not_left c d (t ∷ ts) e = or_false_left (c t.tok) (d t.tok) e

pub next_not_right : (c d : Tok → Bool) (ts : List At) → next (joined c d) ts ≡ false → next d ts ≡ false
next_not_right c d [] e = refl
next_not_right c d (t ∷ ts) e = or_false_right (c t.tok) (d t.tok) e

pub never_next : (m : List At) → next never m ≡ true → ⊥
never_next [] e = cc
never_next (t ∷ m) e = cc

-- ---- one token

one_empty : {F A : Type 0} (p : Tok → Verdict F A) (ts : List At) → (one p).Front ts ts
unfolding one
one_empty p ts = inl refl

one_whole : {F A : Type 0} (p : Tok → Verdict F A) (ts : List At) (a : A) (rest : List At)
    → (one p).Derives ts a rest
    → (one p).Front ts rest
unfolding one
one_whole p ts a rest h = inr (h.0, a, h.1, h.2)

one_none : {F A : Type 0} (p : Tok → Verdict F A) → Rejects (one p) never [] None []
unfolding one
one_none p = record {
  front = inl refl;
  only = λ b m h. absurd (let e = h.1 in cc);
  last = λ m h. omega arith;
  refused = λ w m h. absurd (let e = h.3 in cc);
  reason = λ w e. absurd cc;
}

some_is : {F : Type 0} (v w : F) → Some v ≡ Some w → v ≡ w
some_is v w e = cc

yes_is : {F A : Type 0} (a b : A) → ◌≡◌ {A = Verdict F A} (Yes a) (Yes b) → a ≡ b
yes_is a b e = cc

because_is : {F A : Type 0} (v w : F) → ◌≡◌ {A = Verdict F A} (Because v) (Because w) → v ≡ w
because_is v w e = cc

tails : (t u : At) (ts m : List At) → t ∷ ts ≡ u ∷ m → m ≡ ts
tails t u ts m e = cc

-- One token has one verdict.
pub verdicts : {F A : Type 0} (p : Tok → Verdict F A) (t u : At) (ts m : List At) (v w : Verdict F A)
    → p t.tok ≡ v
    → t ∷ ts ≡ u ∷ m → p u.tok ≡ w → w ≡ v
verdicts p t u ts m v w e k f =
    let same : u ≡ t = cc in
    sym f ∙ ap (λ (x : At). p x.tok) same ∙ e

one_judged : {F A : Type 0} (p : Tok → Verdict F A) (t : At) (ts : List At) (v : Verdict F A) → p t.tok ≡ v
    → Exactly (one p) never (t ∷ ts) (judged v t ts)
unfolding one
one_judged {F} {A} p t ts (Yes x) e = record {
  derives = (t, refl, e);
  only = λ b m h. inl (yes_is {F = F} b x (verdicts p t h.0 ts m (Yes x) (Yes b) e h.1 h.2), tails t h.0 ts m h.1);
  last = λ m h. elim h [ inl k ↦ rw k (omega arith) | inr k ↦ rw (tails t k.0 ts m k.2) (omega arith) ];
  unrefused = λ w m h. let k = verdicts p t h.1 ts h.2 (Yes x) (Because w) e h.3 h.4 in cc;
}
one_judged {F} {A} p t ts (Because why) e = record {
  front = inl refl;
  only = λ b m h. absurd (let k = verdicts p t h.0 ts m (Because why) (Yes b) e h.1 h.2 in cc);
  last =
      λ m h. elim h [
        | inl k ↦ rw k (omega arith)
        | inr k
            ↦ absurd (let q = verdicts p t k.0 ts m (Because why) (Yes k.1) e k.2 k.3 in cc)
      ];
  refused =
      λ w m h. (
        h.0,
        ap (λ (x : F). Some x) (sym
            (because_is {A = A} w why (verdicts p t h.1 ts h.2 (Because why) (Because w) e h.3 h.4))),
      );
  reason = λ w k. (refl, t, ts, refl, e ∙ ap (λ (x : F). Because x) (some_is why w k));
}
one_judged p t ts No e = record {
  front = inl refl;
  only = λ b m h. absurd (let k = verdicts p t h.0 ts m No (Yes b) e h.1 h.2 in cc);
  last =
      λ m h. elim h [
        | inl k ↦ rw k (omega arith)
        | inr k
            ↦ absurd (let q = verdicts p t k.0 ts m No (Yes k.1) e k.2 k.3 in cc)
      ];
  refused = λ w m h. absurd (let k = verdicts p t h.1 ts h.2 No (Because w) e h.3 h.4 in cc);
  reason = λ w k. absurd cc;
}

one_reads : {F A : Type 0} (p : Tok → Verdict F A) (ts : List At) → Exactly (one p) never ts (one_at p ts)
one_reads p [] = one_none p
one_reads p (t ∷ ts) = one_judged p t ts (p t.tok) refl

one_within : {F A : Type 0} (p : Tok → Verdict F A) (ts rest : List At) → (one p).Front ts rest
    → length rest ≤ length ts
unfolding one
one_within p ts rest h = elim h [ inl k ↦ rw k (omega arith) | inr k ↦ let e = ap length k.2 in omega arith ]

one_later : {F A : Type 0} (p : Tok → Verdict F A) (ts rest : List At) → (one p).Front ts rest → Later ts rest
unfolding one
one_later p ts rest h = elim h [ inl k ↦ later_same ts rest (sym k) | inr k ↦ (k.0 ∷ [], k.2) ]

one_between : {F A : Type 0} (p : Tok → Verdict F A) (t : At) (x : A) (m at w : List At) → p t.tok ≡ Yes x
    → t ∷ m ≡ w ++ at → Later at m → (one p).Front (t ∷ m) at
unfolding one
one_between p t x m at [] e split q = inl (sym split)
one_between p t x m at (u ∷ w) e split q =
    let same = later_antisym m at (w, cc) q in inr (t, x, ap (λ (z : List At). t ∷ z) (sym same), e)

one_closed : {F A : Type 0} (p : Tok → Verdict F A) → ClosedFronts (one p)
unfolding one
one_closed p ts m at h a b = elim h [
  | inl k ↦ inl (later_antisym ts at a (subst (λ z. Later at z) k b))
  | inr k ↦ subst (λ z. (one p).Front z at) (sym k.2) (one_between p k.0 k.1 m at a.0 k.3 (sym k.2 ∙ a.1) b)
]

pub one_exact : {F A : Type 0} (p : Tok → Verdict F A) → IsExact (one p) (one_at p) never
one_exact p =
    record {
      empty = one_empty p;
      whole = one_whole p;
      within = one_within p;
      later = one_later p;
      closed = one_closed p;
      reads = one_reads p;
    }

-- ---- nothing

pub done_exact : {F A : Type 0} (a : A) → IsExact {F = F} {A = A} (done a) (done_at a) never
unfolding done
done_exact a = record {
  empty = λ ts. refl;
  whole = λ ts b rest h. h.0;
  within = λ ts rest h. rw h (omega arith);
  later = λ ts rest h. later_same ts rest (sym h);
  closed = λ ts m at h a b. later_antisym ts at a (subst (λ z. Later at z) h b);
  reads = λ ts. record {
    derives = (refl, refl);
    only = λ b m h. inl (h.1, h.0);
    last = λ m h. rw h (omega arith);
    unrefused = λ why m h. h;
  };
}

-- ---- a part and the part after it

-- What holds of a value and a place holds of equal ones.
moved : {A : Type 0} (P : A → List At → Type 0) (a b : A) (m n : List At) → (a ≡ b) × (m ≡ n) → P a m
    → P b n
moved P a b m n e h = subst (λ v. P b v) e.1 (subst (λ u. P u m) e.0 h)

module _ (F A B : Type 0) (l : Rule F A) (f : A → Rule F B) (c d : Tok → Bool)
    (l_whole : (ts : List At) (a : A) (rest : List At) → l.Derives ts a rest → l.Front ts rest)
    (f_empty : (a : A) (ts : List At) → (f a).Front ts ts)
    (absent : (a : A) (m : List At) → next c m ≡ true → IsAbsent (f a) m) where
  after_ok : (ts : List At) (x : A) (m : List At) → Accepts l c ts x m → (o : Outcome F B) → Exactly (f x) d m o
      → Exactly (both l f) d ts o
  unfolding both
  after_ok ts x m p (Ok y) q = record {
    derives = (x, m, p.derives, q.derives);
    only = λ b w t. elim (p.only t.0 t.1 t.2) [
      | inl e ↦ q.only b w (moved (λ u v. (f u).Derives v b w) t.0 x t.1 m e t.3)
      | inr g ↦ absurd ((absent t.0 t.1 g).derives b w t.3)
    ];
    last = λ w t. let short = q.last m (f_empty x m) in elim t [
      | inl t ↦ let k = p.last w t in omega arith
      | inr t ↦ elim (p.only t.0 t.1 t.2) [
        | inl e ↦ q.last w (moved (λ u v. (f u).Front v w) t.0 x t.1 m e t.3)
        | inr g ↦ let here =
            (absent t.0 t.1 g).front w t.3 in let k = p.last t.1 (l_whole ts t.0 t.1 t.2) in rw here (omega arith)
      ]
    ];
    unrefused = λ why w t. elim t [
      | inl t ↦ p.unrefused why w t
      | inr t ↦ elim (p.only t.0 t.1 t.2) [
        | inl e ↦ q.unrefused why w (moved (λ u v. (f u).Refuses why v w) t.0 x t.1 m e t.3)
        | inr g ↦ (absent t.0 t.1 g).refused why w t.3
      ]
    ];
  }
  after_ok ts x m p (Err e) q = record {
    front = inr (x, m, p.derives, q.front);
    only = λ b w t. elim (p.only t.0 t.1 t.2) [
      | inl e ↦ q.only b w (moved (λ u v. (f u).Derives v b w) t.0 x t.1 m e t.3)
      | inr g ↦ absurd ((absent t.0 t.1 g).derives b w t.3)
    ];
    last = λ w t. let short = q.last m (f_empty x m) in elim t [
      | inl t ↦ let k = p.last w t in omega arith
      | inr t ↦ elim (p.only t.0 t.1 t.2) [
        | inl e ↦ q.last w (moved (λ u v. (f u).Front v w) t.0 x t.1 m e t.3)
        | inr g ↦ let here =
            (absent t.0 t.1 g).front w t.3 in let k = p.last t.1 (l_whole ts t.0 t.1 t.2) in rw here (omega arith)
      ]
    ];
    refused = λ why w t. elim t [
      | inl t ↦ absurd (p.unrefused why w t)
      | inr t ↦ elim (p.only t.0 t.1 t.2) [
        | inl e ↦ q.refused why w (moved (λ u v. (f u).Refuses why v w) t.0 x t.1 m e t.3)
        | inr g ↦ absurd ((absent t.0 t.1 g).refused why w t.3)
      ]
    ];
    reason = λ w k. inr (x, m, p.derives, q.reason w k);
  }

  after_err : (ts : List At) (e : Option F × List At) → Rejects l c ts e.0 e.1 → Rejects (both l f) d ts e.0 e.1
  unfolding both
  after_err ts e p = record {
    front = inl p.front;
    only = λ b w t. absurd ((absent t.0 t.1 (p.only t.0 t.1 t.2)).derives b w t.3);
    last = λ w t. elim t [
      | inl t ↦ p.last w t
      | inr t ↦ let here =
          (absent t.0 t.1 (p.only t.0 t.1 t.2)).front w t.3 in let k = p.last t.1 (l_whole ts t.0 t.1 t.2) in rw here k
    ];
    refused = λ why w t. elim t [
      | inl t ↦ p.refused why w t
      | inr t ↦ absurd ((absent t.0 t.1 (p.only t.0 t.1 t.2)).refused why w t.3)
    ];
    reason = λ w k. inl (p.reason w k);
  }

  -- The second part has to be read exactly only where the first derives a value.
  pub both_where : (s : A → Reader F B) (ts : List At) (o : Outcome F A)
      → ((a : A) (m : List At) → l.Derives ts a m → Exactly (f a) d m (s a m)) → Exactly l c ts o
      → Exactly (both l f) d ts (on_ok o s)
  both_where s ts (Ok x) q p = after_ok ts x.0 x.1 p (s x.0 x.1) (q x.0 x.1 p.derives)
  both_where s ts (Err e) q p = after_err ts e p

  both_step : (s : A → Reader F B) → ((a : A) (m : List At) → Exactly (f a) d m (s a m))
      → (ts : List At) (o : Outcome F A) → Exactly l c ts o → Exactly (both l f) d ts (on_ok o s)
  both_step s q ts (Ok x) p = after_ok ts x.0 x.1 p (s x.0 x.1) (q x.0 x.1)
  both_step s q ts (Err e) p = after_err ts e p

pub both_empty : {F A B : Type 0} (l : Rule F A) (f : A → Rule F B) → ((ts : List At) → l.Front ts ts)
    → (ts : List At)
    → (both l f).Front ts ts
unfolding both
both_empty l f h ts = inl (h ts)

pub both_whole : {F A B : Type 0} (l : Rule F A) (f : A → Rule F B)
    → ((a : A) (ts : List At) (b : B) (rest : List At) → (f a).Derives ts b rest → (f a).Front ts rest)
    → (ts : List At) (b : B) (rest : List At) → (both l f).Derives ts b rest → (both l f).Front ts rest
unfolding both
both_whole l f h ts b rest t = inr (t.0, t.1, t.2, h t.0 t.1 b rest t.3)

pub both_within : {F A B : Type 0} (l : Rule F A) (f : A → Rule F B)
    → ((ts : List At) (a : A) (rest : List At) → l.Derives ts a rest → l.Front ts rest)
    → ((ts rest : List At) → l.Front ts rest → length rest ≤ length ts)
    → ((a : A) (ts rest : List At) → (f a).Front ts rest → length rest ≤ length ts) → (ts rest : List At)
    → (both l f).Front ts rest → length rest ≤ length ts
unfolding both
both_within l f w p q ts rest t =
    elim t [
      | inl t ↦ p ts rest t
      | inr t ↦ let a = p ts t.1 (w ts t.0 t.1 t.2) in let b = q t.0 t.1 rest t.3 in
          omega arith
    ]

pub both_later : {F A B : Type 0} (l : Rule F A) (f : A → Rule F B)
    → ((ts : List At) (a : A) (rest : List At) → l.Derives ts a rest → l.Front ts rest)
    → ((ts rest : List At) → l.Front ts rest → Later ts rest)
    → ((a : A) (ts rest : List At) → (f a).Front ts rest → Later ts rest) → (ts rest : List At)
    → (both l f).Front ts rest → Later ts rest
unfolding both
both_later l f w p q ts rest t =
    elim t [
      | inl t ↦ p ts rest t
      | inr t ↦
          later_trans ts t.1 rest (p ts t.1 (w ts t.0 t.1 t.2)) (q t.0 t.1 rest t.3)
    ]

pub both_closed : {F A B : Type 0} (l : Rule F A) (f : A → Rule F B)
    → ((ts : List At) (a : A) (rest : List At) → l.Derives ts a rest → l.Front ts rest)
    → ((ts rest : List At) → l.Front ts rest → Later ts rest)
    → ClosedFronts l → ((a : A) → ClosedFronts (f a)) → ClosedFronts (both l f)
unfolding both
both_closed l f w p c d ts m at t a b = elim t [
  | inl t ↦ inl (c ts m at t a b)
  | inr t ↦ elim (later_order ts at t.1 a (p ts t.1 (w ts t.0 t.1 t.2))) [
    | inl k ↦ inl (c ts t.1 at (w ts t.0 t.1 t.2) a k)
    | inr k ↦ inr (t.0, t.1, t.2, d t.0 t.1 m at t.3 k b)
  ]
]

-- The reading of two parts is exact, if the second is absent wherever the first may go on.
pub both_exact : {F A B : Type 0} (l : Rule F A) (f : A → Rule F B) (r : Reader F A) (s : A → Reader F B)
    (c d : Tok → Bool) → IsExact l r c → ((a : A) → IsExact (f a) (s a) d)
    → ((a : A) (m : List At) → next c m ≡ true → IsAbsent (f a) m) → IsExact (both l f) (both_at r s) d
both_exact {F} {A} {B} l f r s c d p q absent = record {
  empty = both_empty l f p.empty;
  whole = both_whole l f (λ a. (q a).whole);
  within = both_within l f p.whole p.within (λ a. (q a).within);
  later = both_later l f p.whole p.later (λ a. (q a).later);
  closed = both_closed l f p.whole p.later p.closed (λ a. (q a).closed);
  reads =
      λ ts. both_step F A B l f c d p.whole (λ a. (q a).empty) absent s (λ a m. (q a).reads m) ts (r ts)
      (p.reads ts);
}

-- The reading of two parts is exact, if the first never goes on.
pub then_exact : {F A B : Type 0} (l : Rule F A) (f : A → Rule F B) (r : Reader F A) (s : A → Reader F B)
    (d : Tok → Bool) → IsExact l r never → ((a : A) → IsExact (f a) (s a) d)
    → IsExact (both l f) (both_at r s) d
then_exact l f r s d p q = both_exact l f r s never d p q (λ a m g. absurd (never_next m g))

pub both_absent : {F A B : Type 0} (l : Rule F A) (f : A → Rule F B) (ts : List At) → IsAbsent l ts
    → IsAbsent (both l f) ts
unfolding both
both_absent l f ts q = record {
  derives = λ a m t. q.derives t.0 t.1 t.2;
  front = λ m t. elim t [ inl t ↦ q.front m t | inr t ↦ absurd (q.derives t.0 t.1 t.2) ];
  refused = λ why m t. elim t [ inl t ↦ q.refused why m t | inr t ↦ absurd (q.derives t.0 t.1 t.2) ];
}

-- A part whose value alone is changed goes on as the part does.
pub mapped : {F A B : Type 0} (l : Rule F A) (g : A → B) (c : Tok → Bool)
    → ((ts : List At) (a : A) (rest : List At) → l.Derives ts a rest → l.Front ts rest)
    → (ts : List At) (o : Outcome F A) → Exactly l c ts o
    → Exactly (both l (λ a. done (g a))) c ts (on_ok o (λ x rest. Ok (g x, rest)))
unfolding both done
mapped l g c w ts (Ok x) p = record {
  derives = (x.0, x.1, p.derives, (refl, refl));
  only =
      λ b m t. elim (p.only t.0 t.1 t.2) [
        | inl e ↦ inl (let d = t.3 in d.1 ∙ ap g e.0, let d = t.3 in d.0 ∙ e.1)
        | inr q
            ↦ inr (let d = t.3 in rw d.0 q)
      ];
  last = λ m t. elim t [ inl u ↦ p.last m u | inr u ↦ rw u.3 (p.last u.1 (w ts u.0 u.1 u.2)) ];
  unrefused = λ why m t. elim t [ inl u ↦ p.unrefused why m u | inr u ↦ u.3 ];
}
mapped l g c w ts (Err e) p = record {
  front = inl p.front;
  only = λ b m t. let d = t.3 in rw d.0 (p.only t.0 t.1 t.2);
  last = λ m t. elim t [ inl u ↦ p.last m u | inr u ↦ rw u.3 (p.last u.1 (w ts u.0 u.1 u.2)) ];
  refused = λ why m t. elim t [ inl u ↦ p.refused why m u | inr u ↦ absurd u.3 ];
  reason = λ why k. inl (p.reason why k);
}

-- ---- one case or the other

pub or_left : {F A : Type 0} (l m : Rule F A) (c : Tok → Bool) (ts : List At) (o : Outcome F A) → Exactly l c ts o
    → IsAbsent m ts → l.Front ts ts → Exactly (l or m) c ts o
unfolding ◌or◌
or_left l m c ts (Ok x) p q here = record {
  derives = inl p.derives;
  only = λ b w t. elim t [ inl t ↦ p.only b w t | inr t ↦ absurd (q.derives b w t) ];
  last = λ w t. elim t [ inl t ↦ p.last w t | inr t ↦ rw (q.front w t) (p.last ts here) ];
  unrefused = λ why w t. elim t [ inl t ↦ p.unrefused why w t | inr t ↦ q.refused why w t ];
}
or_left l m c ts (Err e) p q here = record {
  front = inl p.front;
  only = λ b w t. elim t [ inl t ↦ p.only b w t | inr t ↦ absurd (q.derives b w t) ];
  last = λ w t. elim t [ inl t ↦ p.last w t | inr t ↦ rw (q.front w t) (p.last ts here) ];
  refused = λ why w t. elim t [ inl t ↦ p.refused why w t | inr t ↦ absurd (q.refused why w t) ];
  reason = λ w k. inl (p.reason w k);
}

pub or_right : {F A : Type 0} (l m : Rule F A) (c : Tok → Bool) (ts : List At) (o : Outcome F A) → Exactly m c ts o
    → IsAbsent l ts → m.Front ts ts → Exactly (l or m) c ts o
unfolding ◌or◌
or_right l m c ts (Ok x) p q here = record {
  derives = inr p.derives;
  only = λ b w t. elim t [ inr t ↦ p.only b w t | inl t ↦ absurd (q.derives b w t) ];
  last = λ w t. elim t [ inr t ↦ p.last w t | inl t ↦ rw (q.front w t) (p.last ts here) ];
  unrefused = λ why w t. elim t [ inr t ↦ p.unrefused why w t | inl t ↦ q.refused why w t ];
}
or_right l m c ts (Err e) p q here = record {
  front = inr p.front;
  only = λ b w t. elim t [ inr t ↦ p.only b w t | inl t ↦ absurd (q.derives b w t) ];
  last = λ w t. elim t [ inr t ↦ p.last w t | inl t ↦ rw (q.front w t) (p.last ts here) ];
  refused = λ why w t. elim t [ inr t ↦ p.refused why w t | inl t ↦ absurd (q.refused why w t) ];
  reason = λ w k. inr (p.reason w k);
}

or_step : {F A : Type 0} (l m : Rule F A) (r s : Reader F A) (c : Tok → Bool) (ts : List At) (b : Bool)
    → IsExact l r c
    → IsExact m s c → (b ≡ true → IsAbsent m ts) → (b ≡ false → IsAbsent l ts)
    → Exactly (l or m) c ts (cond b (r ts) (s ts))
or_step l m r s c ts true p q go stay = or_left l m c ts (r ts) (p.reads ts) (go refl) (p.empty ts)
or_step l m r s c ts false p q go stay = or_right l m c ts (s ts) (q.reads ts) (stay refl) (q.empty ts)

pub or_empty : {F A : Type 0} (l m : Rule F A) → ((ts : List At) → l.Front ts ts) → (ts : List At)
    → (l or m).Front ts ts
unfolding ◌or◌
or_empty l m h ts = inl (h ts)

or_whole : {F A : Type 0} (l m : Rule F A)
    → ((ts : List At) (a : A) (rest : List At) → l.Derives ts a rest → l.Front ts rest)
    → ((ts : List At) (a : A) (rest : List At) → m.Derives ts a rest → m.Front ts rest)
    → (ts : List At) (a : A) (rest : List At) → (l or m).Derives ts a rest → (l or m).Front ts rest
unfolding ◌or◌
or_whole l m p q ts a rest t = elim t [ inl t ↦ inl (p ts a rest t) | inr t ↦ inr (q ts a rest t) ]

or_within : {F A : Type 0} (l m : Rule F A) → ((ts rest : List At) → l.Front ts rest → length rest ≤ length ts)
    → ((ts rest : List At) → m.Front ts rest → length rest ≤ length ts) → (ts rest : List At)
    → (l or m).Front ts rest
    → length rest ≤ length ts
unfolding ◌or◌
or_within l m p q ts rest t = elim t [ inl t ↦ p ts rest t | inr t ↦ q ts rest t ]

or_later : {F A : Type 0} (l m : Rule F A) → ((ts rest : List At) → l.Front ts rest → Later ts rest)
    → ((ts rest : List At) → m.Front ts rest → Later ts rest) → (ts rest : List At) → (l or m).Front ts rest
    → Later ts rest
unfolding ◌or◌
or_later l m p q ts rest t = elim t [ inl t ↦ p ts rest t | inr t ↦ q ts rest t ]

or_closed : {F A : Type 0} (l m : Rule F A) → ClosedFronts l → ClosedFronts m → ClosedFronts (l or m)
unfolding ◌or◌
or_closed l m p q ts w at t a b = elim t [ inl t ↦ inl (p ts w at t a b) | inr t ↦ inr (q ts w at t a b) ]

-- The reading of two cases is exact, if the next token decides between them.
pub or_exact : {F A : Type 0} (l m : Rule F A) (r s : Reader F A) (c k : Tok → Bool) → IsExact l r c
    → IsExact m s c
    → ((ts : List At) → next k ts ≡ true → IsAbsent m ts)
    → ((ts : List At) → next k ts ≡ false → IsAbsent l ts)
    → IsExact (l or m) (either_at k r s) c
or_exact l m r s c k p q go stay = record {
  empty = or_empty l m p.empty;
  whole = or_whole l m p.whole q.whole;
  within = or_within l m p.within q.within;
  later = or_later l m p.later q.later;
  closed = or_closed l m p.closed q.closed;
  reads = λ ts. or_step l m r s c ts (next k ts) p q (go ts) (stay ts);
}

pub or_absent : {F A : Type 0} (l m : Rule F A) (ts : List At) → IsAbsent l ts → IsAbsent m ts
    → IsAbsent (l or m) ts
unfolding ◌or◌
or_absent l m ts p q = record {
  derives = λ a w t. elim t [ inl t ↦ p.derives a w t | inr t ↦ q.derives a w t ];
  front = λ w t. elim t [ inl t ↦ p.front w t | inr t ↦ q.front w t ];
  refused = λ why w t. elim t [ inl t ↦ p.refused why w t | inr t ↦ q.refused why w t ];
}

-- ---- more tokens may follow

widened : {F A : Type 0} (l : Rule F A) (c d : Tok → Bool) (ts : List At) (o : Outcome F A)
    → ((m : List At) → next c m ≡ true → next d m ≡ true) → Exactly l c ts o → Exactly l d ts o
widened l c d ts (Ok x) h p = record {
  derives = p.derives;
  only = λ b m t. elim (p.only b m t) [ inl e ↦ inl e | inr g ↦ inr (h m g) ];
  last = p.last;
  unrefused = p.unrefused;
}
widened l c d ts (Err e) h p = record {
  front = p.front;
  only = λ b m t. h m (p.only b m t);
  last = p.last;
  refused = p.refused;
  reason = p.reason;
}

pub exact_widens : {F A : Type 0} (l : Rule F A) (r : Reader F A) (c d : Tok → Bool)
    → ((m : List At) → next c m ≡ true → next d m ≡ true) → IsExact l r c → IsExact l r d
exact_widens l r c d h p =
    record {
      empty = p.empty;
      whole = p.whole;
      within = p.within;
      later = p.later;
      closed = p.closed;
      reads = λ ts. widened l c d ts (r ts) h (p.reads ts);
    }

-- ---- where nothing of a rule is

empty_absent : {F A : Type 0} (p : Tok → Verdict F A) → IsAbsent (one p) []
unfolding one
empty_absent p = record {
  derives = λ a m h. let k = h.1 in cc;
  front = λ m h. elim h [ inl k ↦ k | inr k ↦ absurd (let q = k.2 in cc) ];
  refused = λ why m h. let k = h.3 in cc;
}

other_absent : {F A : Type 0} (p : Tok → Verdict F A) (t : At) (ts : List At) → p t.tok ≡ No
    → IsAbsent (one p) (t ∷ ts)
unfolding one
other_absent p t ts e = record {
  derives = λ a m h. let k = verdicts p t h.0 ts m No (Yes a) e h.1 h.2 in cc;
  front = λ m h. elim h [
    | inl k ↦ k
    | inr k ↦
        absurd (let q = verdicts p t k.0 ts m No (Yes k.1) e k.2 k.3 in cc)
  ];
  refused = λ why m h. let k = verdicts p t h.1 ts h.2 No (Because why) e h.3 h.4 in cc;
}

-- A rule for one token is absent where it refuses the next token without a reason.
pub token_absent : {F A : Type 0} (p : Tok → Verdict F A) (k : Tok → Bool) (b : Bool)
    → ((t : Tok) → k t ≡ b → p t ≡ No)
    → (ts : List At) → next k ts ≡ b → IsAbsent (one p) ts
token_absent p k b h [] e = empty_absent p
token_absent p k b h (t ∷ ts) e = other_absent p t ts (h t.tok e)

pub or_takes_some : {F A : Type 0} (l m : Rule F A)
    → ((ts : List At) (a : A) (rest : List At) → l.Derives ts a rest → length rest < length ts)
    → ((ts : List At) (a : A) (rest : List At) → m.Derives ts a rest → length rest < length ts)
    → (ts : List At) (a : A) (rest : List At) → (l or m).Derives ts a rest → length rest < length ts
unfolding ◌or◌
or_takes_some l m p q ts a rest t = elim t [ inl t ↦ p ts a rest t | inr t ↦ q ts a rest t ]
