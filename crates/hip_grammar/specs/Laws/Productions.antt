-- When the reading of a part is exact, by the tokens that may begin the part and those that may follow it.
use Rattle.std.proofs.Common.{◌≡◌, ◌≤◌, ◌<◌, Bool, true, false, ◌||◌, List, [], ◌∷◌, length, Option, Ok, inl, inr, refl, ap, subst, arith}
use Rattle.hip_tokens.specs.Tokens.{Tok, At}
use Rattle.hip_grammar.specs.Rule.{Rule, Verdict, No, done, one, both, ◌or◌, perhaps, many, AllDerive}
use Rattle.hip_grammar.specs.Reader.{Outcome, next, on_ok}
use Rattle.hip_grammar.specs.Production.{Production, gives, token, ◌>>=◌, either, repeated, optional, phased, the, passing, one_more_by, separated, none_up_to, some_up_to, listed, skipped}
use Rattle.hip_grammar.specs.Laws.Exact.{IsExact, Exactly, Accepts, IsAbsent, never, joined, next_widens, next_not_left, next_not_right, mapped, both_empty, both_whole, both_within, both_later, both_closed, one_exact, done_exact, both_exact, then_exact, or_exact, or_takes_some, exact_widens, both_absent, or_absent, token_absent}
use Rattle.hip_grammar.specs.Laws.Repeated.{many_exact, perhaps_exact}
use Rattle.hip_grammar.specs.Laws.Same.{SameRule}
use Rattle.hip_grammar.specs.Laws.Phases.{phases_exact}
use Rattle.hip_grammar.specs.Laws.Loops.{TakesSome}

-- The reading is exact for the rule. The rule derives a value other than the one that is read, or up to another place,
-- only if the next token there passes the test `follow`.
abbrev pub Exact : {F A : Type 0} → Production F A → (Tok → Bool) → Type 0
Exact p follow = IsExact p.rule p.read follow

-- The reading is exact, and the part takes at least one token, of which the first passes the test `first`.
pub record IsRead {F A : Type 0} (p : Production F A) (first follow : Tok → Bool) : Type 0 where
  pub exact : Exact p follow
  pub absent : (ts : List At) → next first ts ≡ false → IsAbsent p.rule ts
  pub some : (ts : List At) (a : A) (rest : List At) → p.rule.Derives ts a rest → length rest < length ts

-- No token passes both tests.
abbrev pub Apart : (Tok → Bool) → (Tok → Bool) → Type 0
Apart c d = (t : Tok) → c t ≡ true → d t ≡ false

pub never_apart : (d : Tok → Bool) → Apart never d
never_apart d t e = absurd cc

pub joined_apart : (a b d : Tok → Bool) → Apart a d → Apart b d → Apart (joined a b) d
joined_apart a b d p q t e = by_left (a t) refl
  where
    by_left : (x : Bool) → a t ≡ x → d t ≡ false
    by_left true h = p t h
    by_left false h = q t (rw h at e)

apart_next : (c d : Tok → Bool) → Apart c d → (ts : List At) → next c ts ≡ true → next d ts ≡ false
apart_next c d p [] e = refl
apart_next c d p (t ∷ ts) e = p t.tok e

pub apart_absent : {F A : Type 0} (p : Production F A) (first follow c : Tok → Bool) → IsRead p first follow
    → Apart c first
    → (ts : List At) → next c ts ≡ true → IsAbsent p.rule ts
apart_absent p first follow c r a ts e = r.absent ts (apart_next c first a ts e)

pub widens : {F A : Type 0} (p : Production F A) (first c d : Tok → Bool) → ((t : Tok) → c t ≡ true → d t ≡ true)
    → IsRead p first c → IsRead p first d
widens p first c d h r =
    record { exact = exact_widens p.rule p.read c d (next_widens c d h) r.exact; absent = r.absent; some = r.some }

never_passes : (d : Tok → Bool) (t : Tok) → never t ≡ true → d t ≡ true
never_passes d t e = absurd cc

pub gives_exact : {F A : Type 0} (a : A) (follow : Tok → Bool) → Exact {F = F} {A = A} (gives a) follow
gives_exact {F} {A} a follow =
    exact_widens _ _ never follow (next_widens never follow (never_passes follow)) (done_exact {F = F} a)

one_takes_some : {F A : Type 0} (p : Tok → Verdict F A) (ts : List At) (a : A) (rest : List At)
    → (one p).Derives ts a rest → length rest < length ts
unfolding one
one_takes_some p ts a rest t = let e = ap length t.1 in omega arith

pub token_read : {F A : Type 0} (p : Tok → Verdict F A) (first follow : Tok → Bool)
    → ((t : Tok) → first t ≡ false → p t ≡ No) → IsRead (token p) first follow
token_read p first follow h = record {
  exact = exact_widens (one p) _ never follow (next_widens never follow (never_passes follow)) (one_exact p);
  absent = token_absent p first false h;
  some = one_takes_some p;
}

other_token : {F : Type 0} (k : Tok → Bool) (t : Tok) → k t ≡ false → the {F = F} k t ≡ No
other_token k t e = rw e refl

pub passing_read : {F : Type 0} (k follow : Tok → Bool) → IsRead (passing {F = F} k) k follow
passing_read {F} k follow = token_read (the {F = F} k) k follow (other_token k)

-- ---- one part after the other

both_takes_some : {F A B : Type 0} (l : Rule F A) (f : A → Rule F B)
    → ((ts : List At) (a : A) (rest : List At) → l.Derives ts a rest → length rest < length ts)
    → ((a : A) (ts : List At) (b : B) (rest : List At) → (f a).Derives ts b rest → length rest ≤ length ts)
    → (ts : List At) (b : B) (rest : List At) → (both l f).Derives ts b rest → length rest < length ts
unfolding both
both_takes_some l f p q ts b rest t = let i = p ts t.0 t.1 t.2 in let j = q t.0 t.1 b rest t.3 in omega arith

derives_within : {F A : Type 0} (p : Production F A) (c : Tok → Bool) → Exact p c
    → (ts : List At) (a : A) (rest : List At)
    → p.rule.Derives ts a rest → length rest ≤ length ts
derives_within p c e ts a rest t = e.within ts rest (e.whole ts a rest t)

pub then_read : {F A B : Type 0} (l : Production F A) (f : A → Production F B) (first d : Tok → Bool) → IsRead l first never
    → ((a : A) → Exact (f a) d) → IsRead (l >>= f) first d
then_read l f first d p q = record {
  exact = then_exact l.rule (λ a. (f a).rule) l.read (λ a. (f a).read) d p.exact q;
  absent = λ ts e. both_absent l.rule (λ a. (f a).rule) ts (p.absent ts e);
  some = both_takes_some l.rule (λ a. (f a).rule) p.some (λ a. derives_within (f a) d (q a));
}

-- A part that may go on, and then a part that takes at least one token.
pub next_exact : {F A B : Type 0} (l : Production F A) (f : A → Production F B) (c second d : Tok → Bool) → Exact l c
    → ((a : A) → IsRead (f a) second d) → Apart c second → Exact (l >>= f) d
next_exact l f c second d p q apart =
    both_exact l.rule (λ a. (f a).rule) l.read (λ a. (f a).read) c d p (λ a. (q a).exact)
    (λ a m g. apart_absent (f a) second d c (q a) apart m g)

pub next_read : {F A B : Type 0} (l : Production F A) (f : A → Production F B) (first c second d : Tok → Bool)
    → IsRead l first c
    → ((a : A) → IsRead (f a) second d) → Apart c second → IsRead (l >>= f) first d
next_read l f first c second d p q apart = record {
  exact = next_exact l f c second d p.exact q apart;
  absent = λ ts e. both_absent l.rule (λ a. (f a).rule) ts (p.absent ts e);
  some = both_takes_some l.rule (λ a. (f a).rule) p.some (λ a. derives_within (f a) d (q a).exact);
}

-- The same part with another value.
pub maps_exact : {F A B : Type 0} (l : Production F A) (g : A → B) (c : Tok → Bool) → Exact l c
    → Exact (l >>= λ a. gives (g a)) c
maps_exact {F} {A} {B} l g c p = record {
  empty = both_empty l.rule (λ a. done (g a)) p.empty;
  whole = both_whole l.rule (λ a. done (g a)) (λ a. (gives_exact {F = F} (g a) never).whole);
  within = both_within l.rule (λ a. done (g a)) p.whole p.within (λ a. (gives_exact {F = F} (g a) never).within);
  later = both_later l.rule (λ a. done (g a)) p.whole p.later (λ a. (gives_exact {F = F} (g a) never).later);
  closed =
      both_closed l.rule (λ a. done (g a)) p.whole p.later p.closed (λ a. (gives_exact {F = F} (g a) never).closed);
  reads = λ ts. maps ts (l.read ts) (p.reads ts);
}
  where
    maps : (ts : List At) (o : Outcome F A) → Exactly l.rule c ts o
        → Exactly (both l.rule (λ a. done (g a))) c ts (on_ok o (λ x rest. Ok (g x, rest)))
    maps ts o q = mapped l.rule g c p.whole ts o q

pub maps_read : {F A B : Type 0} (l : Production F A) (g : A → B) (first c : Tok → Bool) → IsRead l first c
    → IsRead (l >>= λ a. gives (g a)) first c
maps_read {F} l g first c p = record {
  exact = maps_exact l g c p.exact;
  absent = λ ts e. both_absent l.rule (λ a. done (g a)) ts (p.absent ts e);
  some =
      both_takes_some l.rule (λ a. done (g a)) p.some
      (λ a. derives_within (gives (g a)) never (gives_exact {F = F} (g a) never));
}

-- ---- one case or the other, any number of parts, and no part

pub either_read : {F A : Type 0} (l m : Production F A) (k second c : Tok → Bool) → IsRead l k c → IsRead m second c
    → Apart k second → IsRead (either k l m) (joined k second) c
either_read l m k second c p q apart = record {
  exact =
      or_exact l.rule m.rule l.read m.read c k p.exact q.exact
      (λ ts e. apart_absent m second c k q apart ts e) p.absent;
  absent =
      λ ts e. or_absent l.rule m.rule ts (p.absent ts (next_not_left k second ts e))
      (q.absent ts (next_not_right k second ts e));
  some = or_takes_some l.rule m.rule p.some q.some;
}

pub repeated_exact : {F A : Type 0} (l : Production F A) (k c : Tok → Bool) → IsRead l k c → Apart c k
    → Exact (repeated k l) (joined k c)
repeated_exact {F} {A} l k c p apart =
    many_exact F A l.rule l.read k c p.exact p.absent (λ ts e. apart_absent l k c c p apart ts e) p.some

pub optional_exact : {F A : Type 0} (l : Production F A) (k c : Tok → Bool) → IsRead l k c
    → Exact (optional k l) (joined k c)
optional_exact {F} {A} l k c p = perhaps_exact F A l.rule l.read k c p.exact p.absent

-- An optional part, and then a part that takes at least one token.
module _ (F A B : Type 0) (l : Production F A) (f : Option A → Production F B) (k second d : Tok → Bool) (p : IsRead l k never)
    (q : (o : Option A) → IsRead (f o) second d) (apart : Apart k second) where
  optional_absent : (ts : List At) → next (joined k second) ts ≡ false
      → IsAbsent (both (perhaps l.rule) (λ o. (f o).rule)) ts
  unfolding both perhaps
  optional_absent ts e =
      let here = p.absent ts (next_not_left k second ts e) in
      let after = next_not_right k second ts e in
      record {
        derives =
            λ b m t. elim t.2 [
              | inl u ↦ ((q t.0).absent ts after).derives b m
                  (subst (λ z. (f t.0).rule.Derives z b m) u.0 t.3)
              | inr u ↦ here.derives u.0 t.1 u.2
            ];
        front = λ m t. elim t [
          | inl u ↦ elim u [ inl v ↦ v | inr v ↦ here.front m v ]
          | inr u ↦ elim u.2 [
            | inl v ↦ ((q u.0).absent ts after).front m
                (subst (λ z. (f u.0).rule.Front z m) v.0 u.3)
            | inr v ↦ absurd (here.derives v.0 u.1 v.2)
          ]
        ];
        refused = λ why m t. elim t [
          | inl u ↦ here.refused why m u
          | inr u ↦ elim u.2 [
            | inl v ↦ ((q u.0).absent ts after).refused why m
                (subst (λ z. (f u.0).rule.Refuses why z m) v.0 u.3)
            | inr v ↦ here.derives v.0 u.1 v.2
          ]
        ];
      }

  optional_some : (ts : List At) (b : B) (rest : List At)
      → (both (perhaps l.rule) (λ o. (f o).rule)).Derives ts b rest
      → length rest < length ts
  unfolding both perhaps
  optional_some ts b rest t =
      let j = (q t.0).some t.1 b rest t.3 in elim t.2 [
        | inl u ↦ let e = ap length u.0 in
            omega arith
        | inr u ↦ let i = p.some ts u.0 t.1 u.2 in omega arith
      ]

  pub optional_then_read : IsRead (optional k l >>= f) (joined k second) d
  optional_then_read = record {
    exact =
        next_exact (optional k l) f (joined k never) second d (optional_exact l k never p) q
        (joined_apart k never second apart (never_apart second));
    absent = optional_absent;
    some = optional_some;
  }

-- ---- lists

by_never : (k : Tok → Bool) (t : Tok) → joined k never t ≡ true → k t ≡ true
by_never k t e = left_is (k t) e
  where
    left_is : (b : Bool) → (b || false) ≡ true → b ≡ true
    left_is true h = refl
    left_is false h = h

-- One more part, after a separator.
one_more_by_read : {F A : Type 0} (l : Production F A) (k c : Tok → Bool) → Exact l c → IsRead (one_more_by k l) k c
unfolding one_more_by
one_more_by_read {F} l k c p = then_read (passing {F = F} k) (λ _. l) k c (passing_read k never) (λ _. p)

pub one_more_exact : {F A : Type 0} (l : Production F A) (k c : Tok → Bool) → Exact l c → Exact (one_more_by k l) c
one_more_exact l k c p = (one_more_by_read l k c p).exact

pub one_more_read : {F A : Type 0} (l : Production F A) (k first c : Tok → Bool) → IsRead l first c
    → IsRead (one_more_by k l) k c
one_more_read l k first c p = one_more_by_read l k c p.exact

-- Any number of further parts, each after a separator.
pub more_exact : {F A : Type 0} (l : Production F A) (k first : Tok → Bool) → IsRead l first never
    → Exact (repeated k (one_more_by k l)) k
more_exact l k first p =
    exact_widens _ _ (joined k never) k (next_widens (joined k never) k (by_never k))
    (repeated_exact (one_more_by k l) k never (one_more_read l k first never p) (never_apart k))

pub separated_read : {F A : Type 0} (l : Production F A) (k first : Tok → Bool) → IsRead l first never
    → IsRead (separated k l) first k
unfolding separated
separated_read {F} {A} l k first p =
    then_read l (λ x. repeated k (one_more_by k l) >>= λ others. gives (x ∷ others)) first k p
    (λ x. maps_exact (repeated k (one_more_by k l)) (λ (others : List A). x ∷ others) k (more_exact l k first p))

none_read : {F A : Type 0} (close : Tok → Bool) → IsRead (none_up_to {F = F} {A = A} close) close never
unfolding none_up_to
none_read {F} {A} close = maps_read (passing {F = F} close) (λ _. []) close never (passing_read close never)

some_read : {F A : Type 0} (l : Production F A) (k close first : Tok → Bool) → IsRead l first never → Apart k close
    → IsRead (some_up_to k close l) first never
unfolding some_up_to
some_read {F} {A} l k close first p apart =
    next_read (separated k l) (λ items. passing close >>= λ _. gives items) first k close never
    (separated_read l k first p) (λ items. maps_read (passing {F = F} close) (λ _. items) close never
    (passing_read close never)) apart

pub listed_read : {F A : Type 0} (l : Production F A) (k close first : Tok → Bool) → IsRead l first never
    → Apart k close
    → Apart close first → IsRead (listed k close l) (joined close first) never
unfolding listed
listed_read l k close first p apart begins =
    either_read (none_up_to close) (some_up_to k close l) close first never (none_read close)
    (some_read l k close first p apart) begins

-- ---- what is read is derived

accepted : {F A : Type 0} (p : Production F A) (c : Tok → Bool) (ts : List At) (o : Outcome F A) (x : A × List At)
    → Exactly p.rule c ts o → o ≡ Ok x → p.rule.Derives ts x.0 x.1
accepted p c ts o x h e = let r : Accepts p.rule c ts x.0 x.1 = subst (Exactly p.rule c ts) e h in r.derives

pub read_derives : {F A : Type 0} (p : Production F A) (c : Tok → Bool) → Exact p c → (ts : List At) (x : A × List At)
    → p.read ts ≡ Ok x → p.rule.Derives ts x.0 x.1
read_derives p c q ts x e = accepted p c ts (p.read ts) x (q.reads ts) e

-- A part takes at least one token, which a loop over it needs.
pub read_takes_some : {F A : Type 0} (p : Production F A) (first c : Tok → Bool) → IsRead p first c → TakesSome p.read
read_takes_some p first c q ts x e = q.some ts x.0 x.1 (read_derives p c q.exact ts x e)

pub read_within : {F A : Type 0} (p : Production F A) (c : Tok → Bool) → Exact p c → (ts : List At) (x : A × List At)
    → p.read ts ≡ Ok x → length x.1 ≤ length ts
read_within p c q ts x e = derives_within p c q ts x.0 x.1 (read_derives p c q ts x e)

-- ---- phases

pub phased_exact : {F X P B : Type 0} (head : Production F X) (part : X → Production F P) (after_head : List P → X → Production F B)
    (no_head following : List P → Production F B) (kh kf c after none d : Tok → Bool)
    → IsRead head kh never → ((x : X) → IsRead (part x) kf c)
    → ((ps : List P) (x : X) → IsRead (after_head ps x) after d) → ((ps : List P) → IsRead (no_head ps) none d)
    → Apart kh none → Apart kf after → Apart c kh → Apart c none
    → ((ps : List P) → SameRule (both head.rule (λ x. (after_head ps x).rule) or (no_head ps).rule)
    (following ps).rule)
    → Exact (phased kh head kf part after_head no_head following) d
phased_exact {F} {X} {P} {B} head part after_head no_head following kh kf c after none d p q r s a1 a2 a3 a4 same =
    phases_exact F X P B head.rule head.read (λ x. (part x).rule) (λ x. (part x).read) (λ ps. (following ps).rule)
    (λ ps x. (after_head ps x).rule) (λ ps x. (after_head ps x).read) (λ ps. (no_head ps).rule)
    (λ ps. (no_head ps).read) kh kf c d
    p.exact (λ x. (q x).exact) (λ ps x. (r ps x).exact) (λ ps. (s ps).exact) p.some p.absent
    (λ ps ts e. apart_absent (no_head ps) none d kh (s ps) a1 ts e)
    (λ ps x ts e. apart_absent (after_head ps x) after d kf (r ps x) a2 ts e)
    (λ x ts e. (q x).absent ts e)
    (λ ts e. apart_next c kh a3 ts e)
    (λ ps ts e. apart_absent (no_head ps) none d c (s ps) a4 ts e)
    same

-- ---- the links of a chain of parts

pub begins : {F B : Type 0} (k : Tok → Bool) (f : Unit {0} → Production F B) (d : Tok → Bool)
    → ((a : Unit {0}) → Exact (f a) d) → IsRead (passing k >>= f) k d
begins {F} k f d q = then_read (passing {F = F} k) f k d (passing_read k never) q

pub token_begins : {F A B : Type 0} (p : Tok → Verdict F A) (first : Tok → Bool) (f : A → Production F B)
    (d : Tok → Bool)
    → ((t : Tok) → first t ≡ false → p t ≡ No) → ((a : A) → Exact (f a) d)
    → IsRead (token p >>= f) first d
token_begins p first f d h q = then_read (token p) f first d (token_read p first never h) q

pub link : {F A B : Type 0} (p : Tok → Verdict F A) (f : A → Production F B) (d : Tok → Bool)
    → ((a : A) → Exact (f a) d)
    → Exact (token p >>= f) d
link p f d q = then_exact (one p) (λ a. (f a).rule) _ (λ a. (f a).read) d (one_exact p) q

pub part_link : {F A B : Type 0} (l : Production F A) (f : A → Production F B) (d : Tok → Bool) → Exact l never
    → ((a : A) → Exact (f a) d) → Exact (l >>= f) d
part_link l f d p q = then_exact l.rule (λ a. (f a).rule) l.read (λ a. (f a).read) d p q

pub token_exact : {F A : Type 0} (p : Tok → Verdict F A) (d : Tok → Bool) → Exact (token p) d
token_exact p d = exact_widens (one p) _ never d (next_widens never d (never_passes d)) (one_exact p)

-- A part that no token continues is exact with each test.
pub closed_exact : {F A : Type 0} (p : Production F A) (d : Tok → Bool) → Exact p never → Exact p d
closed_exact p d q = exact_widens p.rule p.read never d (next_widens never d (never_passes d)) q

-- An optional part whose values never go on. The test `follow` is that of its first token.
pub optional_same : {F A : Type 0} (l : Production F A) (k : Tok → Bool) → IsRead l k never → Exact (optional k l) k
optional_same l k p =
    exact_widens _ _ (joined k never) k (next_widens (joined k never) k (by_never k)) (optional_exact l k never p)

pub repeated_same : {F A : Type 0} (l : Production F A) (k : Tok → Bool) → IsRead l k never → Exact (repeated k l) k
repeated_same l k p =
    exact_widens _ _ (joined k never) k (next_widens (joined k never) k (by_never k))
    (repeated_exact l k never p (never_apart k))

pub apart_sym : (c d : Tok → Bool) → Apart c d → Apart d c
apart_sym c d p t e = by_right (c t) refl
  where
    by_right : (x : Bool) → c t ≡ x → c t ≡ false
    by_right true h = absurd (let k = p t h in cc)
    by_right false h = h

pub apart_joined : (d a b : Tok → Bool) → Apart d a → Apart d b → Apart d (joined a b)
apart_joined d a b p q t e = rw (p t e) (q t e)

-- If the next token fails a wider test, it fails the test of the first tokens.
next_not_wide : (first wide : Tok → Bool) → ((t : Tok) → wide t ≡ false → first t ≡ false)
    → (ts : List At)
    → next wide ts ≡ false → next first ts ≡ false
next_not_wide first wide h [] e = refl
next_not_wide first wide h (t ∷ ts) e = h t.tok e

pub begins_by : {F A : Type 0} (p : Production F A) (first wide c : Tok → Bool)
    → ((t : Tok) → wide t ≡ false → first t ≡ false) → IsRead p first c → IsRead p wide c
begins_by p first wide c h r =
    record { exact = r.exact; absent = λ ts e. r.absent ts (next_not_wide first wide h ts e); some = r.some }

-- Any number of parts, and then a part that takes at least one token.
module _ (F A B : Type 0) (l : Production F A) (f : List A → Production F B) (k c second d : Tok → Bool) (p : IsRead l k c)
    (own : Apart c k) (q : (xs : List A) → IsRead (f xs) second d) (apart : Apart (joined k c) second) where
  nothing_repeated : (ts : List At) → IsAbsent l.rule ts → (xs : List A) (m : List At) → AllDerive l.rule ts xs m
      → m ≡ ts
  nothing_repeated ts here [] m t = t
  nothing_repeated ts here (x ∷ xs) m t = absurd (here.derives x t.0 t.1)

  repeated_absent : (ts : List At) → next (joined k second) ts ≡ false
      → IsAbsent (both (many l.rule) (λ xs. (f xs).rule)) ts
  unfolding both many
  repeated_absent ts e =
      let here = p.absent ts (next_not_left k second ts e) in
      let after = next_not_right k second ts e in
      record {
        derives =
            λ b m t. ((q t.0).absent ts after).derives b m
            (subst (λ z. (f t.0).rule.Derives z b m) (nothing_repeated ts here t.0 t.1 t.2) t.3);
        front = λ m t. elim t [
          | inl u ↦ here.front m (subst (λ z. l.rule.Front z m) (nothing_repeated ts here u.0 u.1 u.2) u.3)
          | inr u ↦ ((q u.0).absent ts after).front m
              (subst (λ z. (f u.0).rule.Front z m) (nothing_repeated ts here u.0 u.1 u.2) u.3)
        ];
        refused = λ why m t. elim t [
          | inl u ↦ here.refused why m (subst (λ z. l.rule.Refuses why z m)
              (nothing_repeated ts here u.0 u.1 u.2) u.3)
          | inr u ↦ ((q u.0).absent ts after).refused why m
              (subst (λ z. (f u.0).rule.Refuses why z m) (nothing_repeated ts here u.0 u.1 u.2) u.3)
        ];
      }

  repeated_some : (ts : List At) (b : B) (rest : List At)
      → (both (many l.rule) (λ xs. (f xs).rule)).Derives ts b rest
      → length rest < length ts
  unfolding both
  repeated_some ts b rest t =
      let i = derives_within (repeated k l) (joined k c) (repeated_exact l k c p own) ts t.0 t.1 t.2 in
      let j = (q t.0).some t.1 b rest t.3 in
      omega arith

  pub repeated_then_read : IsRead (repeated k l >>= f) (joined k second) d
  repeated_then_read = record {
    exact = next_exact (repeated k l) f (joined k c) second d (repeated_exact l k c p own) q apart;
    absent = repeated_absent;
    some = repeated_some;
  }

pub skipped_same : {F A : Type 0} (l : Production F A) (k : Tok → Bool) → IsRead l k never → Exact (skipped k l) k
unfolding skipped
skipped_same l k p = maps_exact (repeated k l) (λ _. tt) k (repeated_same l k p)
