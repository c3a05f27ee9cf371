-- Laws of tables that grow.
use Rattle.std.proofs.Common.{◌≡◌, ℕ, ◌+◌, ◌-◌, ◌≤◌, List, take, drop, arith, [], ◌∷◌, ◌++◌, length, Some, Result, Ok, Err, IfOk, slice_get, refl, sym, ap, ◌∙◌, subst, append_assoc}
use Rattle.std.specs.Prelude.{slice_range}
use Rattle.std.proofs.lemmas.List.{append-nil, drop-append-le, length-append, length-drop, take-append-le, take_rest}
use Rattle.hip_code.specs.Numbers.{Tables}
use Rattle.hip_types.specs.Laws.DistinctLaws.{get_kept}
use Rattle.hip_scope.specs.Growth.{Extends, TablesGrow, Makes}
use Rattle.hip_code.specs.declared.op.Move.{Move}

pub extends_same : {A : Type 0} (xs : List A) → Extends xs xs
extends_same xs = record { rest = []; is = sym (append-nil xs) }

pub extends_on : {A : Type 0} {xs ys zs : List A} → Extends xs ys → Extends ys zs → Extends xs zs
extends_on {xs = xs} a b = record { rest = a.rest ++ b.rest; is = b.is ∙ ap (λ l. l ++ b.rest) a.is ∙ append_assoc xs a.rest b.rest }

pub extends_by : {A : Type 0} {xs ys : List A} (rest : List A) → ys ≡ xs ++ rest → Extends xs ys
extends_by rest e = record { rest = rest; is = e }

pub grows_same : (t : Tables) → TablesGrow t t
grows_same t = record {
  constants = extends_same t.constants;
  terms = extends_same t.terms;
  moves = extends_same t.moves;
  edges = extends_same t.edges;
  cases = extends_same t.cases;
}

pub grows_on : {t u v : Tables} → TablesGrow t u → TablesGrow u v → TablesGrow t v
grows_on a b = record {
  constants = extends_on a.constants b.constants;
  terms = extends_on a.terms b.terms;
  moves = extends_on a.moves b.moves;
  edges = extends_on a.edges b.edges;
  cases = extends_on a.cases b.cases;
}

-- ---- facts that last

pub makes_same : (t : Tables) (Fact : Tables → Type 0) → ((v : Tables) → Fact v) → Makes t t Fact
makes_same t Fact h = record { grows = grows_same t; lasts = λ v g. h v }

pub makes_also : {t u : Tables} {Fact Other : Tables → Type 0} → Makes t u Fact → ((v : Tables) → Fact v → Other v) → Makes t u Other
makes_also m f = record { grows = m.grows; lasts = λ v g. f v (m.lasts v g) }

-- A fact that holds after a call that succeeds may be replaced by a fact that follows from it.
pub given_also : {A E : Type 0} (t u : Tables) {Fact Other : A → Tables → Type 0} (r : Result A E) → IfOk r (λ o. Makes t u (Fact o))
    → ((o : A) (v : Tables) → Fact o v → Other o v) → IfOk r (λ o. Makes t u (Other o))
given_also t u (Ok o) m f = makes_also m (f o)
given_also t u (Err e) m f = m

pub given_same : {A E : Type 0} (t : Tables) {Fact Other : A → Tables → Type 0} (r : Result A E) → IfOk r (λ o. (v : Tables) → Fact o v)
    → ((o : A) (v : Tables) → Fact o v → Other o v) → IfOk r (λ o. Makes t t (Other o))
given_same t (Ok o) m f = makes_same t _ (λ v. f o v (m v))
given_same t (Err e) m f = m

pub makes_both : {t u v : Tables} {Fact Other : Tables → Type 0} → Makes t u Fact → Makes u v Other → Makes t v (λ w. Fact w × Other w)
makes_both m n = record { grows = grows_on m.grows n.grows; lasts = λ w g. (m.lasts w (grows_on n.grows g), n.lasts w g) }

-- ---- what stands in a list that grew

there : {A : Type 0} (xs rest : List A) (x : A) → slice_get (xs ++ x ∷ rest) (length xs) ≡ Some x
there [] rest x = refl
there (y ∷ xs) rest x = there xs rest x

pub get_extended : {A : Type 0} {xs ys : List A} (k : ℕ) (x : A) → Extends xs ys → slice_get xs k ≡ Some x → slice_get ys k ≡ Some x
get_extended {A} {xs} {ys} k x e h = subst (λ (l : List A). slice_get l k ≡ Some x) (sym e.is) (get_kept xs e.rest k x h)

-- The place of the last item is the number of the items before it.
pub get_last : {A : Type 0} (xs : List A) (x : A) → slice_get (xs ++ x ∷ []) (length xs) ≡ Some x
get_last xs x = there xs [] x

-- A constant is put after the others.
pub makes_constant : (t : Tables) (v : ℕ) (constants : List ℕ) → constants ≡ t.constants ++ v ∷ [] →
    Makes t (record t { constants = constants }) (λ w. slice_get w.constants (length t.constants) ≡ Some v)
makes_constant t v constants e = record {
  grows = record {
    constants = extends_by (v ∷ []) e;
    terms = extends_same t.terms;
    moves = extends_same t.moves;
    edges = extends_same t.edges;
    cases = extends_same t.cases;
  };
  lasts = λ w g. get_extended (length t.constants) v g.constants (subst (λ l. slice_get l (length t.constants) ≡ Some v) (sym e) (get_last t.constants v));
}

-- ---- spans

-- The items from a place to the end stay at their places when the list grows.
pub span_is : {A : Type 0} {xs ys : List A} (from count : ℕ) → Extends xs ys → from + count ≡ length xs → slice_range ys from (from + count) ≡ drop from xs
span_is {A} {xs} {ys} from count e long =
    let within : from ≤ length xs = omega arith in
    let wide : (from + count) - from ≡ length xs - from = omega arith in
    let as_long : length xs - from ≤ length (drop from xs) = (let l = length-drop from xs in omega (arith, l)) in
    ap (λ (l : List A). take ((from + count) - from) (drop from l)) e.is
    ∙ ap (λ (l : List A). take ((from + count) - from) l) (drop-append-le from xs e.rest within)
    ∙ ap (λ n. take n (drop from xs ++ e.rest)) wide
    ∙ take-append-le (length xs - from) (drop from xs) e.rest as_long
    ∙ take_rest xs from

pub span_within : {A : Type 0} {xs ys : List A} (from count : ℕ) → Extends xs ys → from + count ≡ length xs → from + count ≤ length ys
span_within {A} {xs} {ys} from count e long = let l = ap length e.is in let m = length-append xs e.rest in omega (arith, l, m, long)

-- A move is put into the table.
pub grows_moves : (t : Tables) (more moves : List Move) → moves ≡ t.moves ++ more → TablesGrow t (record t { moves = moves })
grows_moves t more moves e = record {
  constants = extends_same t.constants;
  terms = extends_same t.terms;
  moves = extends_by more e;
  edges = extends_same t.edges;
  cases = extends_same t.cases;
}
