-- A trace has at most one misfit, which its first bytes decide, and no misfit if it is the trace of the run.
use Rattle.std.proofs.Common.{◌≡◌, ◌⊎◌, inl, inr, ℕ, zero, suc, ◌+◌, ◌≤◌, ◌<◌, Bool, true, false, List, [], ◌∷◌, ◌++◌, length, take, slice_get, Option, Some, None, refl, sym, ap, ◌∙◌, subst, arith, append_assoc, length-append}
use Rattle.std.specs.Prelude.{option_map}
use Rattle.std.proofs.lemmas.List.{append-nil}
use Rattle.hip_tree.specs.declared.program.Program.{Program}
use Rattle.hip_runs.specs.Step.{header_entries}
use Rattle.hip_runs.specs.Validity.{IsValid}
use Rattle.hip_runs.specs.declared.input.Input.{Input}
use Rattle.hip_run_traces.specs.Headers.{Header, Stops, Gives, valid_limit, valid_base, with_entry, go_on, header_from, past_register, past_start, header}
use Rattle.hip_run_traces.specs.Laws.FrontLaws.{front_spelled}
use Rattle.hip_run_traces.specs.Laws.GivenLaws.{fit_pieces, header-given}
use Rattle.hip_run_traces.specs.Laws.HeaderLaws.{header-trace}
use Rattle.hip_run_traces.specs.Laws.TraceLaws.{length-header_of, one-trace, whole-front, whole-trace}
use Rattle.hip_run_traces.specs.Misfits.{DiffersAt, FirstDiffers, StopsAt, DiffersFromRun, MisfitPast, IsMisfit, IsTraceOf}
use Rattle.hip_run_traces.specs.Traces.{header_of, trace, IsTrace, stated}
use Rattle.hip_run_traces.specs.declared.misfit.MisfitKind.{MisfitKind}
use Rattle.hip_trace.specs.Pieces.{spelled}
use Rattle.hip_trace.specs.declared.entry.Entry.{Entry}

-- ---- places of lists

get_front : {A : Type 0} (xs ys : List A) (k : ℕ) (x : A) → slice_get xs k ≡ Some x
    → slice_get (xs ++ ys) k ≡ Some x
get_front [] ys k x e = absurd (let z : ⊥ = cc in z)
get_front (x ∷ xs) ys zero y e = e
get_front (x ∷ xs) ys (suc k) y e = get_front xs ys k y e

get_within : {A : Type 0} (xs : List A) (k : ℕ) (x : A) → slice_get xs k ≡ Some x → k < length xs
get_within [] k x e = absurd (let z : ⊥ = cc in z)
get_within (x ∷ xs) zero y e = omega arith
get_within (x ∷ xs) (suc k) y e = let h = get_within xs k y e in omega (arith, h)

get_appended : {A : Type 0} (xs ys : List A) (k : ℕ) → k < length xs → slice_get (xs ++ ys) k ≡ slice_get xs k
get_appended [] ys k lt = absurd (omega (arith, lt))
get_appended (x ∷ xs) ys zero lt = refl
get_appended (x ∷ xs) ys (suc k) lt = get_appended xs ys k (omega (arith, lt))

take_appended : {A : Type 0} (xs ys : List A) (k : ℕ) → k ≤ length xs → take k (xs ++ ys) ≡ take k xs
take_appended xs ys zero le = refl
take_appended [] ys (suc k) le = absurd (omega (arith, le))
take_appended (x ∷ xs) ys (suc k) le = ap (λ zs. x ∷ zs) (take_appended xs ys k (omega (arith, le)))

get_stated : (es : List Entry) (k : ℕ) → slice_get (stated es) k ≡ option_map (λ e. Some e) (slice_get es k)
get_stated [] k = refl
get_stated (e ∷ es) zero = refl
get_stated (e ∷ es) (suc k) = get_stated es k

-- If the pieces spell the first entries, they spell each of them.
spelled_at : (ps : List (Option Entry)) (es : List Entry) (n k : ℕ) → k < n → take n ps ≡ stated (take n es)
    → slice_get ps k ≡ option_map (λ e. Some e) (slice_get es k)
spelled_at ps es zero k lt h = absurd (omega (arith, lt))
spelled_at [] [] (suc n) k lt h = refl
spelled_at [] (e ∷ es) (suc n) k lt h = absurd (let z : ⊥ = cc in z)
spelled_at (p ∷ ps) [] (suc n) k lt h = absurd (let z : ⊥ = cc in z)
spelled_at (p ∷ ps) (e ∷ es) (suc n) zero lt h = let z : p ≡ Some e = cc in ap (λ (o : Option Entry). Some o) z
spelled_at (p ∷ ps) (e ∷ es) (suc n) (suc k) lt h =
    let z : take n ps ≡ stated (take n es) = cc in spelled_at ps es n k (omega (arith, lt)) z

-- ---- one difference

same_differs : (whole : Bool) (o : Option Entry) (kind : MisfitKind)
    → DiffersAt whole (option_map (λ e. Some e) o) o kind → ⊥
same_differs whole None kind h = h
same_differs whole (Some e) kind h = h.0 refl

one_kind : (whole : Bool) (p : Option (Option Entry)) (o : Option Entry) (k k' : MisfitKind) → DiffersAt whole p o k
    → DiffersAt whole p o k' → k ≡ k'
one_kind whole None None k k' h g = absurd h
one_kind whole None (Some e) k k' h g = h.1 ∙ sym g.1
one_kind whole (Some p) None k k' h g = h ∙ sym g
one_kind whole (Some p) (Some e) k k' h g = h.1 ∙ sym g.1

-- Pieces and entries do not differ before the end of the spelled entries.
not_before : (whole : Bool) (ps : List (Option Entry)) (es : List Entry) (c n : ℕ) (kind : MisfitKind)
    → FirstDiffers whole ps es c kind → take n ps ≡ stated (take n es) → c < n → ⊥
not_before whole ps es c n kind d h lt =
    same_differs whole (slice_get es c) kind (subst
    (λ (p : Option (Option Entry)). DiffersAt whole p (slice_get es c) kind) (spelled_at ps es n c lt h) d.here)

one_first : (whole : Bool) (ps : List (Option Entry)) (es : List Entry) (c c' : ℕ) (k k' : MisfitKind)
    → FirstDiffers whole ps es c k → FirstDiffers whole ps es c' k' → (c ≡ c') × (k ≡ k')
one_first whole ps es c c' k k' d d' = go (three c c')
  where
    three : (a b : ℕ) → (a < b) ⊎ ((a ≡ b) ⊎ (b < a))
    three a b = grind arith

    go : (c < c') ⊎ ((c ≡ c') ⊎ (c' < c)) → (c ≡ c') × (k ≡ k')
    go (inl lt) = absurd (not_before whole ps es c c' k d d'.before lt)
    go (inr (inl e)) = (
      e,
      one_kind whole (slice_get ps c) (slice_get es c) k k' d.here
          (subst (λ (m : ℕ). DiffersAt whole (slice_get ps m) (slice_get es m) k') (sym e) d'.here),
    )
    go (inr (inr lt)) = absurd (not_before whole ps es c' c k' d' d.before lt)

one_stop : (whole : Bool) (p : Option (Option Entry)) (k k' : MisfitKind) → StopsAt whole p k → StopsAt whole p k'
    → k ≡ k'
one_stop whole None k k' h g = h.1 ∙ sym g.1
one_stop whole (Some p) k k' h g = h ∙ sym g

one_past : (P : Program) (whole : Bool) (ps : List (Option Entry)) (h : Header) (e e' : ℕ) (k k' : MisfitKind)
    → MisfitPast h P whole ps e k → MisfitPast h P whole ps e' k' → (e ≡ e') × (k ≡ k')
one_past P whole ps (Stops c) e e' k k' m m' = (m.0 ∙ sym m'.0, one_stop whole (slice_get ps c) k k' m.1 m'.1)
one_past P whole ps (Gives c I) e e' k k' m m' =
    let both =
    one_first whole ps m.trace m.count m'.count k k' m.differs
    (subst (λ (es : List Entry). FirstDiffers whole ps es m'.count k')
    (one-trace P I m'.trace m.trace m'.is_trace m.is_trace) m'.differs) in
    (m.number ∙ ap (λ (n : ℕ). n + 1) both.0 ∙ sym m'.number, both.1)

pub one-misfit : (P : Program) (bytes : List ℕ) (whole : Bool) (e e' : ℕ) (k k' : MisfitKind)
    → IsMisfit P bytes whole e k → IsMisfit P bytes whole e' k' → (e ≡ e') × (k ≡ k')
one-misfit P bytes whole e e' k k' m m' =
    one_past P whole (spelled whole bytes) (header P (spelled whole bytes)) e e' k k' m.here m'.here

-- ---- a run's trace has none

take_stated : (n : ℕ) (es : List Entry) → take n (stated es) ≡ stated (take n es)
take_stated zero es = refl
take_stated (suc n) [] = refl
take_stated (suc n) (e ∷ es) = ap (λ (ps : List (Option Entry)). Some e ∷ ps) (take_stated n es)

pub no-misfit : (P : Program) (bytes : List ℕ) (I : Input) (e : ℕ) (kind : MisfitKind) → IsTraceOf P bytes I
    → IsMisfit P bytes true e kind → ⊥
no-misfit P bytes I e kind t m =
    let d = subst (λ (h : Header). MisfitPast h P true (spelled true bytes) e kind) t.header_is m.here in
    let same = one-trace P I d.trace t.trace d.is_trace t.is_trace in
    let spells : spelled true bytes ≡ stated d.trace = t.spells ∙ ap stated (sym same) in
    not_before true (spelled true bytes) d.trace d.count (suc d.count) kind d.differs
    (ap (take (suc d.count)) spells ∙ take_stated (suc d.count) d.trace) (omega arith)

-- ---- a misfit follows the header

trace_zero : (P : Program) (I : Input) → trace P I 0 ≡ header_of I
unfolding trace
trace_zero P I = refl

not_in : (P : Program) (whole : Bool) (ps : List (Option Entry)) (I : Input) (h e : ℕ) (kind : MisfitKind)
    (d : DiffersFromRun P I whole ps e kind) → h ≡ header_entries I → (rest : List (Option Entry))
    → ps ≡ stated (header_of I) ++ rest → (more : List Entry) → d.trace ≡ header_of I ++ more
    → h ≤ d.count
not_in P whole ps I h e kind d count rest split more begins = go (order d.count h)
  where
    order : (a b : ℕ) → (a < b) ⊎ (b ≤ a)
    order a b = grind arith

    long : length (header_of I) ≡ h
    long = length-header_of I ∙ sym count

    stated_long : (es : List Entry) → length (stated es) ≡ length es
    stated_long [] = refl
    stated_long (x ∷ es) = ap suc (stated_long es)

    first : take h ps ≡ stated (take h d.trace)
    first =
        let len = stated_long (header_of I) in
        ap (take h) split ∙ take_appended (stated (header_of I)) rest h (omega (arith, len, long))
        ∙ take_stated h (header_of I)
        ∙ ap stated (sym (take_appended (header_of I) more h (omega (arith, long))) ∙ ap (take h) (sym begins))

    go : (d.count < h) ⊎ (h ≤ d.count) → h ≤ d.count
    go (inl lt) = absurd (not_before whole ps d.trace d.count h kind d.differs first lt)
    go (inr le) = le

-- The header's entries come before the misfit.
after_header : (P : Program) (whole : Bool) (bytes : List ℕ) (I : Input) (h e : ℕ) (kind : MisfitKind)
    → header P (spelled whole bytes) ≡ Gives h I → (d : DiffersFromRun P I whole (spelled whole bytes) e kind)
    → h ≤ d.count
after_header P whole bytes I h e kind q d =
    let given = header-given P (spelled whole bytes) h I (fit_pieces whole bytes) q in
    let front = whole-front P I 0 d.trace d.is_trace in
    not_in P whole (spelled whole bytes) I h e kind d given.count given.rest given.split front.0
    (front.1 ∙ ap (λ (es : List Entry). es ++ front.0) (trace_zero P I))

pub past-header : (P : Program) (bytes : List ℕ) (whole : Bool) (I : Input) (h e : ℕ) (kind : MisfitKind)
    → IsMisfit P bytes whole e kind → header P (spelled whole bytes) ≡ Gives h I → h < e
past-header P bytes whole I h e kind m q =
    let d = subst (λ (x : Header). MisfitPast x P whole (spelled whole bytes) e kind) q m.here in
    let le = after_header P whole bytes I h e kind q d in
    let number = d.number in
    omega (arith, le, number)

-- ---- the first bytes decide

no_start : (P : Program) (es : List (Option Entry)) → past_start P es None ≡ Stops 0
no_start P [] = refl
no_start P (e ∷ es) = refl

gives_not : (P : Program) (es : List (Option Entry)) (J : Input) (c n : ℕ) → header_from P J c es ≡ Stops n
    → ⊥
gives_not P [] J c n q = let z : ⊥ = cc in z
gives_not P (e ∷ es) J c n q = go (with_entry P J e) q (λ K. gives_not P es K (suc c) n)
  where
    go : (o : Option Input) → go_on P J c (λ more. header_from P more (suc c) es) o ≡ Stops n
        → ((K : Input) → header_from P K (suc c) es ≡ Stops n → ⊥) → ⊥
    go None r ih = let z : ⊥ = cc in z
    go (Some K) r ih = ih K r

stops_front : (P : Program) (xs ys : List (Option Entry)) (c : ℕ) (p : Option Entry) → header P xs ≡ Stops c
    → slice_get xs c ≡ Some p → header P (xs ++ ys) ≡ Stops c
unfolding header
stops_front P [] ys c p q e = absurd (let z : ⊥ = cc in z)
stops_front P (x ∷ xs) ys c p q e = first (valid_limit x) xs q e
  where
    none : (n : ℕ) → Stops 0 ≡ Stops n → 0 ≡ n
    none n r = cc

    one : (n : ℕ) → Stops 1 ≡ Stops n → 1 ≡ n
    one n r = cc

    second : (limit : ℕ) (ws : List (Option Entry)) (o : Option ℕ) → past_register P limit ws o ≡ Stops c
        → past_register P limit (ws ++ ys) o ≡ Stops c
    second limit ws None r = r
    second limit ws (Some base) r =
        absurd (gives_not P ws (record { base = base; image = []; numbers = []; limit = limit }) 2 c r)

    first : (o : Option ℕ) (zs : List (Option Entry)) → past_start P zs o ≡ Stops c
        → slice_get (x ∷ zs) c ≡ Some p
        → past_start P (zs ++ ys) o ≡ Stops c
    first None zs r g = no_start P (zs ++ ys) ∙ sym (no_start P zs) ∙ r
    first (Some limit) [] r g =
        absurd (let same : 1 ≡ c = one c r in let there : slice_get (x ∷ []) 1
        ≡ Some p = subst (λ (n : ℕ). slice_get (x ∷ []) n ≡ Some p) (sym same) g in let z : ⊥ = cc in z)
    first (Some limit) (y ∷ ws) r g = second limit ws (valid_base P y) r

from_front : (P : Program) (es ys : List (Option Entry)) (J F : Input) (c h : ℕ)
    → header_from P J c es ≡ Gives h F
    → h < c + length es → header_from P J c (es ++ ys) ≡ Gives h F
from_front P [] ys J F c h q lt = absurd (let same : c ≡ h = cc in omega (arith, same, lt))
from_front P (e ∷ es) ys J F c h q lt =
    go (with_entry P J e) q (λ K r. from_front P es ys K F (suc c) h r (omega (arith, lt)))
  where
    go : (o : Option Input) → go_on P J c (λ more. header_from P more (suc c) es) o ≡ Gives h F
        → ((K : Input) → header_from P K (suc c) es ≡ Gives h F
        → header_from P K (suc c) (es ++ ys) ≡ Gives h F)
        → go_on P J c (λ more. header_from P more (suc c) (es ++ ys)) o ≡ Gives h F
    go None r ih = r
    go (Some K) r ih = ih K r

gives_front : (P : Program) (xs ys : List (Option Entry)) (h : ℕ) (F : Input) → header P xs ≡ Gives h F
    → h < length xs
    → header P (xs ++ ys) ≡ Gives h F
unfolding header
gives_front P [] ys h F q lt = absurd (let z : ⊥ = cc in z)
gives_front P (x ∷ xs) ys h F q lt = first (valid_limit x) xs q lt
  where
    second : (limit : ℕ) (ws : List (Option Entry)) (o : Option ℕ) → past_register P limit ws o ≡ Gives h F
        → h < 2 + length ws → past_register P limit (ws ++ ys) o ≡ Gives h F
    second limit ws None r less = absurd (let z : ⊥ = cc in z)
    second limit ws (Some base) r less =
        from_front P ws ys (record { base = base; image = []; numbers = []; limit = limit }) F 2 h r less

    first : (o : Option ℕ) (zs : List (Option Entry)) → past_start P zs o ≡ Gives h F → h < length (x ∷ zs)
        → past_start P (zs ++ ys) o ≡ Gives h F
    first None zs r less = absurd (let same : Stops 0 ≡ Gives h F = sym (no_start P zs) ∙ r in let z : ⊥ = cc in
        z)
    first (Some limit) [] r less = absurd (let z : ⊥ = cc in z)
    first (Some limit) (y ∷ ws) r less = second limit ws (valid_base P y) r (omega (arith, less))

there_differs : (w w' : Bool) (p : Option Entry) (o : Option Entry) (kind : MisfitKind) → DiffersAt w (Some p) o kind
    → DiffersAt w' (Some p) o kind
there_differs w w' p None kind h = h
there_differs w w' p (Some e) kind h = h

not_there : (o : Option Entry) (kind : MisfitKind) → DiffersAt false None o kind → ⊥
not_there None kind h = h
not_there (Some e) kind h = let z = h.0 in absurd (let y : ⊥ = cc in y)

module _ (P : Program) (front rest : List ℕ) (whole : Bool) (e : ℕ) (kind : MisfitKind) where
  abbrev xs : List (Option Entry)
  xs = spelled false front

  stop_stays : (more : List (Option Entry)) (c : ℕ) → header P xs ≡ Stops c → e ≡ c + 1
      → (p : Option (Option Entry))
      → slice_get xs c ≡ p → StopsAt false p kind
      → MisfitPast (header P (xs ++ more)) P whole (xs ++ more) e kind
  stop_stays more c q number None at s = absurd (let y = s.0 in let z : ⊥ = cc in z)
  stop_stays more c q number (Some p) at s =
      subst (λ (h : Header). MisfitPast h P whole (xs ++ more) e kind) (sym (stops_front P xs more c p q at))
      (number, subst (λ (o : Option (Option Entry)). StopsAt whole o kind) (sym (get_front xs more c p at)) s)

  run_stays : (more : List (Option Entry)) (h : ℕ) (I : Input) → header P xs ≡ Gives h I
      → (d : DiffersFromRun P I false xs e kind) → (p : Option (Option Entry)) → slice_get xs d.count ≡ p
      → DiffersAt false p (slice_get d.trace d.count) kind
      → MisfitPast (header P (xs ++ more)) P whole (xs ++ more) e kind
  run_stays more h I q d None at s = absurd (not_there (slice_get d.trace d.count) kind s)
  run_stays more h I q d (Some p) at s =
      let within = get_within xs d.count p at in
      let le = after_header P false front I h e kind q d in
      subst (λ (x : Header). MisfitPast x P whole (xs ++ more) e kind)
      (sym (gives_front P xs more h I q (omega (arith, within, le))))
      (record {
        trace = d.trace;
        is_trace = d.is_trace;
        count = d.count;
        number = d.number;
        differs = record {
          before = take_appended xs more d.count (omega (arith, within)) ∙ d.differs.before;
          here =
              subst (λ (o : Option (Option Entry)). DiffersAt whole o (slice_get d.trace d.count) kind)
              (sym (get_front xs more d.count p at)) (there_differs false whole p (slice_get d.trace d.count) kind s);
        };
      })

  stays : (more : List (Option Entry)) (h : Header) → header P xs ≡ h → MisfitPast h P false xs e kind
      → MisfitPast (header P (xs ++ more)) P whole (xs ++ more) e kind
  stays more (Stops c) q m = stop_stays more c q m.0 (slice_get xs c) refl m.1
  stays more (Gives h I) q m = run_stays more h I q m (slice_get xs m.count) refl m.differs.here

  pub front-misfit : IsMisfit P front false e kind → IsMisfit P (front ++ rest) whole e kind
  front-misfit m =
      let f = front_spelled whole front rest in
      record {
        here = subst (λ (zs : List (Option Entry)). MisfitPast (header P zs) P whole zs e kind) (sym f.1)
            (stays f.0 (header P xs) refl m.here);
      }

-- ---- step by step

-- A difference before the end of the trace of some steps is a difference from the whole trace.
pub step-differs : (P : Program) (I : Input) (n : ℕ) (whole : Bool) (ps : List (Option Entry)) (es : List Entry)
    (c : ℕ)
    (kind : MisfitKind) → IsTrace P I es → c < length (trace P I n) → FirstDiffers whole ps (trace P I n) c kind
    → FirstDiffers whole ps es c kind
step-differs P I n whole ps es c kind t lt d =
    let f = whole-front P I n es t in
    record {
      before = d.before ∙ ap stated (sym (ap (take c) f.1 ∙ take_appended (trace P I n) f.0 c (omega (arith, lt))));
      here =
          subst (λ (o : Option Entry). DiffersAt whole (slice_get ps c) o kind)
          (sym (ap (λ (xs : List Entry). slice_get xs c) f.1 ∙ get_appended (trace P I n) f.0 c lt)) d.here;
    }

-- After entries that the pieces spell, the first difference is the first difference of the rest.
pub differs-past : (whole : Bool) (front : List Entry) (ps : List (Option Entry)) (more : List Entry)
    (kind : MisfitKind) → DiffersAt whole (slice_get ps 0) (slice_get more 0) kind
    → FirstDiffers whole (stated front ++ ps) (front ++ more) (length front) kind
differs-past whole [] ps more kind h = record { before = refl; here = h }
differs-past whole (e ∷ front) ps more kind h =
    let r = differs-past whole front ps more kind h in
    record { before = ap (λ (xs : List (Option Entry)). Some e ∷ xs) r.before; here = r.here }

-- ---- fronts without a misfit

none_past : (ps : List (Option Entry)) (c : ℕ) → length ps ≤ c → slice_get ps c ≡ None
none_past [] c le = refl
none_past (p ∷ ps) zero le = absurd (omega (arith, le))
none_past (p ∷ ps) (suc c) le = none_past ps c (omega (arith, le))

take_whole : (ps : List (Option Entry)) → take (length ps) ps ≡ ps
take_whole [] = refl
take_whole (p ∷ ps) = ap (λ (xs : List (Option Entry)). p ∷ xs) (take_whole ps)

-- Pieces that all spell the first entries do not differ from them.
pub agree-never : (ps : List (Option Entry)) (es : List Entry) (c : ℕ) (k : MisfitKind)
    → ps ≡ stated (take (length ps) es) → FirstDiffers false ps es c k → ⊥
agree-never ps es c k spell d = go (order c (length ps))
  where
    order : (m n : ℕ) → (m < n) ⊎ (n ≤ m)
    order m n = grind arith

    go : (c < length ps) ⊎ (length ps ≤ c) → ⊥
    go (inl lt) = not_before false ps es c (length ps) k d (take_whole ps ∙ spell) lt
    go (inr le) =
        not_there (slice_get es c) k (subst (λ (p : Option (Option Entry)). DiffersAt false p (slice_get es c) k)
        (none_past ps c le) d.here)

pub front-agrees : (P : Program) (bytes : List ℕ) (I : Input) (h : ℕ) (es : List Entry) (e : ℕ) (k : MisfitKind)
    → header P (spelled false bytes) ≡ Gives h I → IsTrace P I es
    → spelled false bytes ≡ stated (take (length (spelled false bytes)) es) → IsMisfit P bytes false e k → ⊥
front-agrees P bytes I h es e k q t spell m =
    let d = subst (λ (x : Header). MisfitPast x P false (spelled false bytes) e k) q m.here in
    agree-never (spelled false bytes) es d.count k spell
    (subst (λ (xs : List Entry). FirstDiffers false (spelled false bytes) xs d.count k)
    (one-trace P I d.trace es d.is_trace t) d.differs)

pub no_stop : (o : Option (Option Entry)) (k : MisfitKind) → o ≡ None → StopsAt false o k → ⊥
no_stop None k q s = let y = s.0 in let z : ⊥ = cc in z
no_stop (Some p) k q s = let z : ⊥ = cc in z

pub front-stops : (P : Program) (bytes : List ℕ) (h e : ℕ) (k : MisfitKind)
    → header P (spelled false bytes) ≡ Stops h
    → length (spelled false bytes) ≤ h → IsMisfit P bytes false e k → ⊥
front-stops P bytes h e k q le m =
    let d = subst (λ (x : Header). MisfitPast x P false (spelled false bytes) e k) q m.here in
    no_stop (slice_get (spelled false bytes) h) k (none_past (spelled false bytes) h le) d.1

-- ---- fronts of a run's trace

take_length : {A : Type 0} (xs ys : List A) → take (length xs) (xs ++ ys) ≡ xs
take_length [] ys = refl
take_length (x ∷ xs) ys = ap (λ zs. x ∷ zs) (take_length xs ys)

stated_append : (es fs : List Entry) → stated (es ++ fs) ≡ stated es ++ stated fs
stated_append [] fs = refl
stated_append (e ∷ es) fs = ap (λ (ps : List (Option Entry)). Some e ∷ ps) (stated_append es fs)

-- If some pieces are the first of those that spell the entries, they spell the first entries.
first_stated : (xs more : List (Option Entry)) (front es : List Entry) → stated front ≡ xs ++ more
    → (rest : List Entry)
    → es ≡ front ++ rest → xs ≡ stated (take (length xs) es)
first_stated xs more front es split rest begins =
    let whole : stated es ≡ xs ++ (more ++ stated rest) =
    ap stated begins ∙ stated_append front rest ∙ ap (λ (ps : List (Option Entry)). ps ++ stated rest) split
    ∙ append_assoc xs more (stated rest) in
    sym (sym (take_stated (length xs) es) ∙ ap (take (length xs)) whole ∙ take_length xs (more ++ stated rest))

module _ (P : Program) (I : Input) (n : ℕ) (bytes : List ℕ) (more : List (Option Entry)) (e : ℕ) (k : MisfitKind)
    (valid : IsValid P I) (split : stated (trace P I n) ≡ spelled false bytes ++ more)
    (m : IsMisfit P bytes false e k) where
  whole_header : header P (spelled false bytes ++ more) ≡ Gives (header_entries I) I
  whole_header = ap (header P) (sym split) ∙ header-trace P I valid n

  stops_never : (c : ℕ) → header P (spelled false bytes) ≡ Stops c → (o : Option (Option Entry))
      → slice_get (spelled false bytes) c ≡ o → ⊥
  stops_never c q None at =
      let d = subst (λ (x : Header). MisfitPast x P false (spelled false bytes) e k) q m.here in
      no_stop (slice_get (spelled false bytes) c) k at d.1
  stops_never c q (Some p) at =
      let same : Stops c ≡ Gives (header_entries I) I =
      sym (stops_front P (spelled false bytes) more c p q at) ∙ whole_header in
      let z : ⊥ = cc in z

  -- The header ends before the pieces do.
  ends_before : (h : ℕ) (F : Input) → header P (spelled false bytes) ≡ Gives h F
      → h < length (spelled false bytes) → ⊥
  ends_before h F q lt =
      let same : Gives h F ≡ Gives (header_entries I) I =
      sym (gives_front P (spelled false bytes) more h F q lt) ∙ whole_header in
      let input : F ≡ I = cc in
      let whole = whole-trace P I in
      let front = whole-front P I n whole.0 whole.1 in
      front-agrees P bytes F h whole.0 e k q (subst (λ (J : Input). IsTrace P J whole.0) (sym input) whole.1)
      (first_stated (spelled false bytes) more (trace P I n) whole.0 split front.0 front.1) m

  -- All pieces belong to the header.
  ends_later : (h : ℕ) (F : Input) → header P (spelled false bytes) ≡ Gives h F
      → length (spelled false bytes) ≤ h → ⊥
  ends_later h F q le =
      let given = header-given P (spelled false bytes) h F (fit_pieces false bytes) q in
      let whole = whole-trace P F in
      let front = whole-front P F 0 whole.0 whole.1 in
      let both = ap length given.split ∙ length-append (stated (header_of F)) given.rest in
      let long = stated_long (header_of F) in
      let header = length-header_of F in
      let count = given.count in
      let empty : given.rest ≡ [] = nothing given.rest (omega (arith, both, long, header, count, le)) in
      front-agrees P bytes F h whole.0 e k q whole.1
      (first_stated (spelled false bytes) [] (header_of F) whole.0
      (sym (append-nil (spelled false bytes) ∙ given.split
      ∙ ap (λ (ps : List (Option Entry)). stated (header_of F) ++ ps) empty ∙ append-nil (stated (header_of F))))
      front.0 (front.1 ∙ ap (λ (es : List Entry). es ++ front.0) (trace_zero P F))) m
    where
      nothing : (ps : List (Option Entry)) → length ps ≡ 0 → ps ≡ []
      nothing [] z = refl
      nothing (p ∷ ps) z = absurd (omega (arith, z))

      stated_long : (es : List Entry) → length (stated es) ≡ length es
      stated_long [] = refl
      stated_long (x ∷ es) = ap suc (stated_long es)

  pub run-front : ⊥
  run-front = go (header P (spelled false bytes)) refl
    where
      order : (a b : ℕ) → (a < b) ⊎ (b ≤ a)
      order a b = grind arith

      by : (h : ℕ) (F : Input) → header P (spelled false bytes) ≡ Gives h F → (h < length (spelled false bytes))
          ⊎ (length (spelled false bytes) ≤ h) → ⊥
      by h F q (inl lt) = ends_before h F q lt
      by h F q (inr le) = ends_later h F q le

      go : (x : Header) → header P (spelled false bytes) ≡ x → ⊥
      go (Stops c) q = stops_never c q (slice_get (spelled false bytes) c) refl
      go (Gives h F) q = by h F q (order h (length (spelled false bytes)))
