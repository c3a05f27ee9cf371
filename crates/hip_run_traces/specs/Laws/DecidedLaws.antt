-- Each file is the trace of a run or has a misfit.
use Rattle.std.proofs.Common.{◌≡◌, ◌⊎◌, inl, inr, ℕ, ℤ, pos, negsuc, suc, ◌+◌, Bool, true, false, List, [], ◌∷◌, length, take, slice_get, Option, Some, None, nat_eq, refl, sym, ap, ◌∙◌, subst}
use Rattle.std.specs.Str.{bytes_eq}
use Rattle.std.proofs.lemmas.Slice.Eq.{bytes_eq-Decides}
use Rattle.hip_tree.specs.declared.program.Program.{Program}
use Rattle.hip_runs.specs.Laws.Members.{equal_true, true_equal}
use Rattle.hip_runs.specs.declared.input.Input.{Input}
use Rattle.hip_run_traces.specs.Headers.{Header, Stops, Gives, header}
use Rattle.hip_run_traces.specs.Laws.MisfitLaws.{agree-never, no_stop}
use Rattle.hip_run_traces.specs.Laws.TraceLaws.{one-trace, whole-trace}
use Rattle.hip_run_traces.specs.Misfits.{kind_of, FirstDiffers, StopsAt, DiffersFromRun, MisfitPast, IsMisfit, IsTraceOf}
use Rattle.hip_run_traces.specs.Traces.{IsTrace, stated}
use Rattle.hip_run_traces.specs.declared.misfit.MisfitKind.{MisfitKind}
use Rattle.hip_run_traces.specs.declared.misfit.MisfitKind.TheVariants.{Differs, Early, Extra}
use Rattle.hip_trace.specs.Laws.TextLaws.{trap_word}
use Rattle.hip_trace.specs.Entries.{trap_of, trap_text}
use Rattle.hip_trace.specs.Pieces.{spelled}
use Rattle.hip_trace.specs.declared.entry.Entry.{Entry}
use Rattle.hip_trace.specs.declared.entry.Entry.TheVariants.{Start, Register, Input as Number, Image, Store, Flush, Fence, Persist, Assert, Stop, Trap, Cut}
use Rattle.hip_trace.specs.declared.entry.TrapWord.{TrapWord}

-- ---- whether two entries are equal

-- Two values are equal or they are not.
abbrev Same : {A : Type 0} → A → A → Type 0
Same a b = (a ≡ b) ⊎ (a ≡ b → ⊥)

by_test : {A : Type 0} (a b : A) (test : Bool) → (test ≡ true → a ≡ b) → (a ≡ b → test ≡ true)
    → Same a b
by_test a b true f g = inl (f refl)
by_test a b false f g = inr (λ e. let k = g e in let z : ⊥ = cc in z)

nat_same : (a b : ℕ) → Same a b
nat_same a b = by_test a b (nat_eq a b) (equal_true a b) (true_equal a b)

bytes_same : (a b : List ℕ) → Same a b
bytes_same a b = by_test a b (bytes_eq a b) (bytes_eq-Decides a b).0 (bytes_eq-Decides a b).1

int_same : (a b : ℤ) → Same a b
int_same (pos a) (pos b) = by (nat_same a b)
  where
    by : Same a b → Same (pos a) (pos b)
    by (inl e) = inl (ap pos e)
    by (inr n) = inr (λ e. n (let k : a ≡ b = cc in k))
int_same (pos a) (negsuc b) = inr (λ e. let z : ⊥ = cc in z)
int_same (negsuc a) (pos b) = inr (λ e. let z : ⊥ = cc in z)
int_same (negsuc a) (negsuc b) = by (nat_same a b)
  where
    by : Same a b → Same (negsuc a) (negsuc b)
    by (inl e) = inl (ap negsuc e)
    by (inr n) = inr (λ e. n (let k : a ≡ b = cc in k))

word_same : (a b : TrapWord) → Same a b
word_same a b = by (bytes_same (trap_text a) (trap_text b))
  where
    by : Same (trap_text a) (trap_text b) → Same a b
    by (inl e) =
        let same : Some a ≡ Some b = sym (trap_word a).0 ∙ ap trap_of e ∙ (trap_word b).0 in
        inl (let k : a ≡ b = cc in k)
    by (inr n) = inr (λ e. n (ap trap_text e))

both_same : {A B : Type 0} (f : A → B → Entry) (a a' : A) (b b' : B)
    → (f a b ≡ f a' b' → (a ≡ a') × (b ≡ b'))
    → Same a a' → Same b b' → Same (f a b) (f a' b')
both_same f a a' b b' parts (inl e) (inl d) = inl (ap (λ x. f x b) e ∙ ap (λ y. f a' y) d)
both_same f a a' b b' parts (inl e) (inr n) = inr (λ q. n (parts q).1)
both_same f a a' b b' parts (inr n) other = inr (λ q. n (parts q).0)

one_same : {A : Type 0} (f : A → Entry) (a a' : A) → (f a ≡ f a' → a ≡ a') → Same a a' → Same (f a) (f a')
one_same f a a' part (inl e) = inl (ap f e)
one_same f a a' part (inr n) = inr (λ q. n (part q))

store_same : (a v s a' v' s' : ℕ) → Same a a' → Same v v' → Same s s' → Same (Store a v s) (Store a' v' s')
store_same a v s a' v' s' (inl e) (inl d) (inl c) =
    inl (ap (λ x. Store x v s) e ∙ ap (λ x. Store a' x s) d ∙ ap (λ x. Store a' v' x) c)
store_same a v s a' v' s' (inl e) (inl d) (inr n) = inr (λ q. n (let k : s ≡ s' = cc in k))
store_same a v s a' v' s' (inl e) (inr n) other = inr (λ q. n (let k : v ≡ v' = cc in k))
store_same a v s a' v' s' (inr n) other more = inr (λ q. n (let k : a ≡ a' = cc in k))

entry_same : (x y : Entry) → Same x y
entry_same (Start a) (Start b) = one_same (λ l. Start l) a b (λ q. let k : a ≡ b = cc in k) (nat_same a b)
entry_same (Register a s) (Register b t) =
    both_same (λ x y. Register x y) a b s t (λ q. (let k : a ≡ b = cc in k, let k : s ≡ t = cc in k))
    (nat_same a b)
    (nat_same s t)
entry_same (Number a) (Number b) = one_same (λ z. Number z) a b (λ q. let k : a ≡ b = cc in k) (int_same a b)
entry_same (Image a s) (Image b t) =
    both_same (λ x y. Image x y) a b s t (λ q. (let k : a ≡ b = cc in k, let k : s ≡ t = cc in k)) (nat_same a b)
    (bytes_same s t)
entry_same (Store a v s) (Store b w t) = store_same a v s b w t (nat_same a b) (nat_same v w) (nat_same s t)
entry_same (Flush a s) (Flush b t) =
    both_same (λ x y. Flush x y) a b s t (λ q. (let k : a ≡ b = cc in k, let k : s ≡ t = cc in k)) (nat_same a b)
    (nat_same s t)
entry_same Fence Fence = inl refl
entry_same (Persist a s) (Persist b t) =
    both_same (λ x y. Persist x y) a b s t (λ q. (let k : a ≡ b = cc in k, let k : s ≡ t = cc in k))
    (nat_same a b)
    (nat_same s t)
entry_same (Assert a s) (Assert b t) =
    both_same (λ x y. Assert x y) a b s t (λ q. (let k : a ≡ b = cc in k, let k : s ≡ t = cc in k)) (nat_same a b)
    (nat_same s t)
entry_same (Stop a) (Stop b) = one_same (λ z. Stop z) a b (λ q. let k : a ≡ b = cc in k) (int_same a b)
entry_same (Trap a) (Trap b) = one_same (λ w. Trap w) a b (λ q. let k : a ≡ b = cc in k) (word_same a b)
entry_same Cut Cut = inl refl
entry_same x y = inr (λ q. let z : ⊥ = cc in z)

piece_same : (p : Option Entry) (e : Entry) → Same p (Some e)
piece_same None e = inr (λ q. let z : ⊥ = cc in z)
piece_same (Some x) e = by (entry_same x e)
  where
    by : Same x e → Same (Some x) (Some e)
    by (inl q) = inl (ap (λ y. Some y) q)
    by (inr n) = inr (λ q. n (let k : x ≡ e = cc in k))

-- ---- pieces and entries

-- All pieces spell the first entries, and all entries if the file is whole.
record Agree (whole : Bool) (ps : List (Option Entry)) (es : List Entry) : Type 0 where
  spell : ps ≡ stated (take (length ps) es)
  all : whole ≡ true → ps ≡ stated es

-- Either pieces and entries first differ at some number, in some way, or they agree.
abbrev Compared : Bool → List (Option Entry) → List Entry → Type 0
Compared whole ps es = ((c : ℕ) × (k : MisfitKind) × FirstDiffers whole ps es c k) ⊎ Agree whole ps es

compare : (whole : Bool) (ps : List (Option Entry)) (es : List Entry) → Compared whole ps es
compare whole [] [] = inr (record { spell = refl; all = λ q. refl })
compare true [] (e ∷ es) = inl (0, Early, record { before = refl; here = (refl, refl) })
compare false [] (e ∷ es) = inr (record { spell = refl; all = λ q. absurd (let z : ⊥ = cc in z) })
compare whole (p ∷ ps) [] = inl (0, kind_of p Extra, record { before = refl; here = refl })
compare whole (p ∷ ps) (e ∷ es) = go (piece_same p e) (compare whole ps es)
  where
    go : Same p (Some e) → Compared whole ps es → Compared whole (p ∷ ps) (e ∷ es)
    go (inr n) rest = inl (0, kind_of p Differs, record { before = refl; here = (n, refl) })
    go (inl q) (inl d) =
        inl (
          suc d.0,
          d.1,
          record {
            before = ap (λ (x : Option Entry). x ∷ take d.0 ps) q
                ∙ ap (λ (xs : List (Option Entry)). Some e ∷ xs) d.2.before;
            here = d.2.here;
          },
        )
    go (inl q) (inr a) = inr (record {
      spell = ap (λ (x : Option Entry). x ∷ ps) q ∙ ap (λ (xs : List (Option Entry)). Some e ∷ xs) a.spell;
      all = λ w. ap (λ (x : Option Entry). x ∷ ps) q
          ∙ ap (λ (xs : List (Option Entry)). Some e ∷ xs) (a.all w);
    })

-- ---- files

-- Some entry of the bytes is a misfit of some kind.
abbrev SomeMisfit : Program → List ℕ → Bool → Type 0
SomeMisfit P bytes whole = (e : ℕ) × (k : MisfitKind) × IsMisfit P bytes whole e k

-- No entry of the bytes is a misfit of any kind.
abbrev NoMisfit : Program → List ℕ → Bool → Type 0
NoMisfit P bytes whole = (e : ℕ) (k : MisfitKind) → IsMisfit P bytes whole e k → ⊥

module _ (P : Program) (bytes : List ℕ) where
  made : (whole : Bool) (e : ℕ) (k : MisfitKind) (h : Header) → header P (spelled whole bytes) ≡ h
      → MisfitPast h P whole (spelled whole bytes) e k → IsMisfit P bytes whole e k
  made whole e k h q m =
      record { here = subst (λ (x : Header). MisfitPast x P whole (spelled whole bytes) e k) (sym q) m }

  past_run : (whole : Bool) (c : ℕ) (I : Input) → header P (spelled whole bytes) ≡ Gives c I
      → (ts : List Entry)
      → IsTrace P I ts → (d : (n : ℕ) × (k : MisfitKind) × FirstDiffers whole (spelled whole bytes) ts n k)
      → SomeMisfit P bytes whole
  past_run whole c I q ts t d = (
    d.0 + 1,
    d.1,
    made whole (d.0 + 1) d.1 (Gives c I) q
        (record { trace = ts; is_trace = t; count = d.0; number = refl; differs = d.2 }),
  )

  past_stop : (whole : Bool) (c : ℕ) → header P (spelled whole bytes) ≡ Stops c → (p : Option Entry)
      → slice_get (spelled whole bytes) c ≡ Some p → SomeMisfit P bytes whole
  past_stop whole c q p at = (
    c + 1,
    kind_of p Differs,
    made whole (c + 1) (kind_of p Differs) (Stops c) q
        (refl, subst (λ (o : Option (Option Entry)). StopsAt whole o (kind_of p Differs)) (sym at) refl),
  )

  pub whole-decided : ((I : Input) × IsTraceOf P bytes I) ⊎ SomeMisfit P bytes true
  whole-decided = go (header P (spelled true bytes)) refl
    where
      stop : (c : ℕ) → header P (spelled true bytes) ≡ Stops c → (o : Option (Option Entry))
          → slice_get (spelled true bytes) c ≡ o → ((I : Input) × IsTraceOf P bytes I)
          ⊎ SomeMisfit P bytes true
      stop c q None at =
          inr (
            c + 1,
            Early,
            made true (c + 1) Early (Stops c) q
                (refl, subst (λ (o : Option (Option Entry)). StopsAt true o Early) (sym at) (refl, refl)),
          )
      stop c q (Some p) at = inr (past_stop true c q p at)

      run : (c : ℕ) (I : Input) → header P (spelled true bytes) ≡ Gives c I → (ts : List Entry)
          → IsTrace P I ts
          → Compared true (spelled true bytes) ts → ((I : Input) × IsTraceOf P bytes I) ⊎ SomeMisfit P bytes true
      run c I q ts t (inl d) = inr (past_run true c I q ts t d)
      run c I q ts t (inr a) =
          inl (I, record { entries = c; header_is = q; trace = ts; is_trace = t; spells = a.all refl })

      go : (h : Header) → header P (spelled true bytes) ≡ h → ((I : Input) × IsTraceOf P bytes I)
          ⊎ SomeMisfit P bytes true
      go (Stops c) q = stop c q (slice_get (spelled true bytes) c) refl
      go (Gives c I) q = let w = whole-trace P I in run c I q w.0 w.1 (compare true (spelled true bytes) w.0)

  pub front-decided : SomeMisfit P bytes false ⊎ NoMisfit P bytes false
  front-decided = go (header P (spelled false bytes)) refl
    where
      past : (h : Header) → header P (spelled false bytes) ≡ h → (e : ℕ) (k : MisfitKind)
          → IsMisfit P bytes false e k
          → MisfitPast h P false (spelled false bytes) e k
      past h q e k m = subst (λ (x : Header). MisfitPast x P false (spelled false bytes) e k) q m.here

      stop : (c : ℕ) → header P (spelled false bytes) ≡ Stops c → (o : Option (Option Entry))
          → slice_get (spelled false bytes) c ≡ o → SomeMisfit P bytes false ⊎ NoMisfit P bytes false
      stop c q None at = inr (λ e k m. no_stop (slice_get (spelled false bytes) c) k at (past (Stops c) q e k m).1)
      stop c q (Some p) at = inl (past_stop false c q p at)

      run : (c : ℕ) (I : Input) → header P (spelled false bytes) ≡ Gives c I → (ts : List Entry)
          → IsTrace P I ts
          → Compared false (spelled false bytes) ts → SomeMisfit P bytes false ⊎ NoMisfit P bytes false
      run c I q ts t (inl d) = inl (past_run false c I q ts t d)
      run c I q ts t (inr a) = inr (λ e k m. never (past (Gives c I) q e k m))
        where
          never : {e : ℕ} {k : MisfitKind} → DiffersFromRun P I false (spelled false bytes) e k → ⊥
          never {k = k} d =
              agree-never (spelled false bytes) ts d.count k a.spell
              (subst (λ (xs : List Entry). FirstDiffers false (spelled false bytes) xs d.count k)
              (one-trace P I d.trace ts d.is_trace t) d.differs)

      go : (h : Header) → header P (spelled false bytes) ≡ h → SomeMisfit P bytes false ⊎ NoMisfit P bytes false
      go (Stops c) q = stop c q (slice_get (spelled false bytes) c) refl
      go (Gives c I) q = let w = whole-trace P I in run c I q w.0 w.1 (compare false (spelled false bytes) w.0)
