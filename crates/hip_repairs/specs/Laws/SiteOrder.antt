-- The order of sites, and lists of sites that ascend.
use Rattle.std.proofs.Common.{◌≡◌, ◌⊎◌, inl, inr, ℕ, suc, ◌<◌, ◌≤◌, Bool, true, false, cond, ◌&&◌, ◌||◌, nat_lt, nat_eq, List, [], ◌∷◌, ◌++◌, refl, sym, ap, ◌∙◌, subst, arith, Option, Some, zero, ◌+◌}
use Rattle.std.specs.List.{filter}
use Rattle.hip_types.specs.Laws.DistinctLaws.{or_first, or_second, either}
use Rattle.hip_tree.specs.Laws.SiteLaws.{same_site_equal, site_same}
use Rattle.hip_tree.specs.Sites.{same_site, has_site, sites_of, function_sites, block_sites, body_sites, instr_of}
use Rattle.hip_tree.specs.declared.block.Block.{Block}
use Rattle.hip_tree.specs.declared.instr.Instr.{Instr}
use Rattle.hip_tree.specs.declared.program.Function.{Function}
use Rattle.hip_tree.specs.declared.program.Program.{Program}
use Rattle.hip_tree.specs.declared.site.Site.{Site}
use Rattle.hip_sound.specs.Rules.{site}
use Rattle.hip_runs.specs.declared.report.Findings.{Findings}
use Rattle.hip_runs.specs.StoredParts.Parts.{In}
use Rattle.hip_runs.specs.Laws.PartLaws.{in-append, append-left, append-right}
use Rattle.hip_repairs.specs.Choice.{wants_flush, wants_fence, wants_hoist}
use Rattle.hip_repairs.specs.Suits.{site_before, is_ascending, IsStrictOrder}
use Rattle.hip_repairs.specs.Planned.{AreSites, IsAsked}
use Rattle.std.specs.Prelude.{None, option_and_then, slice_get}
use Rattle.hip_runs.specs.Laws.Members.{both_true, true_both, equal_true, true_equal, lt_true, true_lt}

site_is : (a b : Site) → a.function ≡ b.function → a.block ≡ b.block → a.index ≡ b.index → a ≡ b
site_is a b e f g =
    ap (λ n. site n a.block a.index) e ∙ ap (λ n. site b.function n a.index) f
    ∙ ap (λ n. site b.function b.block n) g

pub has_in : (xs : List Site) (s : Site) → has_site xs s ≡ true → In s xs
has_in [] s e = absurd (let z : ⊥ = cc in z)
has_in (x ∷ xs) s e = go (either (same_site s x) _ e) (λ h. has_in xs s h)
  where
    go : (same_site s x ≡ true) ⊎ (has_site xs s ≡ true) → (has_site xs s ≡ true → In s xs)
        → In s (x ∷ xs)
    go (inl h) rest = inl (same_site_equal s x h)
    go (inr h) rest = inr (rest h)

pub in_has : (xs : List Site) (s : Site) → In s xs → has_site xs s ≡ true
in_has [] s i = absurd i
in_has (x ∷ xs) s (inl e) = or_first _ _ (subst (λ (y : Site). same_site s y ≡ true) e (site_same s))
in_has (x ∷ xs) s (inr i) = or_second (same_site s x) _ (in_has xs s i)

-- ---- sites that pass a test

pub filter-append : (test : Site → Bool) (xs ys : List Site)
    → filter test (xs ++ ys) ≡ filter test xs ++ filter test ys
filter-append test [] ys = refl
filter-append test (x ∷ xs) ys = by_test (test x) (filter-append test xs ys)
  where
    by_test : (b : Bool) → filter test (xs ++ ys) ≡ filter test xs ++ filter test ys
        → cond b (x ∷ filter test (xs ++ ys)) (filter test (xs ++ ys))
        ≡ cond b (x ∷ filter test xs) (filter test xs) ++ filter test ys
    by_test true e = ap (λ zs. x ∷ zs) e
    by_test false e = e

-- One more site at the front, if it passes.
pub front_chosen : (b : Bool) (s : Site) (rest : List Site)
    → cond b (s ∷ rest) rest ≡ cond b (s ∷ []) [] ++ rest
front_chosen true s rest = refl
front_chosen false s rest = refl

-- ---- the sites of a program

body_has : (f b k : ℕ) (is : List Instr) (j : ℕ) (i : Instr) → slice_get is j ≡ Some i
    → In (record { function = f; block = b; index = k + j }) (body_sites f b k is)
body_has f b k [] j i e = absurd (let z : ⊥ = cc in z)
body_has f b k (x ∷ is) zero i e =
    inl (ap (λ n. record { function = f; block = b; index = n }) (let q : k + 0 ≡ k = omega arith in q))
body_has f b k (x ∷ is) (suc j) i e =
    inr (subst (λ n. In (record { function = f; block = b; index = n }) (body_sites f b (suc k) is))
    (let q : suc k + j ≡ k + suc j = omega arith in q) (body_has f b (suc k) is j i e))

blocks_have : (f b0 : ℕ) (xs : List Block) (b j : ℕ) (x : Block) (i : Instr) → slice_get xs b ≡ Some x
    → slice_get x.body j ≡ Some i → In (record { function = f; block = b0 + b; index = j }) (block_sites f b0 xs)
blocks_have f b0 [] b j x i e h = absurd (let z : ⊥ = cc in z)
blocks_have f b0 (y ∷ xs) zero j x i e h =
    let q : b0 ≡ b0 + 0 = omega arith in
    let same : x ≡ y = cc in
    append-left _ _ _ (subst (λ n. In (record { function = f; block = n; index = j }) (body_sites f b0 0 y.body)) q
    (subst (λ n. In (record { function = f; block = b0; index = n }) (body_sites f b0 0 y.body))
    (let z : 0 + j ≡ j = omega arith in z) (body_has f b0 0 y.body j i
    (subst (λ (z : Block). slice_get z.body j ≡ Some i) same h))))
blocks_have f b0 (y ∷ xs) (suc b) j x i e h =
    append-right (body_sites f b0 0 y.body) _ _
    (subst (λ n. In (record { function = f; block = n; index = j }) (block_sites f (suc b0) xs))
    (let q : suc b0 + b ≡ b0 + suc b = omega arith in q) (blocks_have f (suc b0) xs b j x i e h))

functions_have : (f0 : ℕ) (xs : List Function) (f b j : ℕ) (x : Function) (y : Block) (i : Instr)
    → slice_get xs f ≡ Some x → slice_get x.blocks b ≡ Some y → slice_get y.body j ≡ Some i
    → In (record { function = f0 + f; block = b; index = j }) (function_sites f0 xs)
functions_have f0 [] f b j x y i e h g = absurd (let z : ⊥ = cc in z)
functions_have f0 (z ∷ xs) zero b j x y i e h g =
    let same : x ≡ z = cc in
    append-left _ _ _ (subst (λ n. In (record { function = n; block = b; index = j }) (block_sites f0 0 z.blocks))
    (let q : f0 ≡ f0 + 0 = omega arith in q)
    (subst (λ n. In (record { function = f0; block = n; index = j }) (block_sites f0 0 z.blocks))
    (let q : 0 + b ≡ b = omega arith in q) (blocks_have f0 0 z.blocks b j y i
    (subst (λ (u : Function). slice_get u.blocks b ≡ Some y) same h) g)))
functions_have f0 (z ∷ xs) (suc f) b j x y i e h g =
    append-right (block_sites f0 0 z.blocks) _ _
    (subst (λ n. In (record { function = n; block = b; index = j }) (function_sites (suc f0) xs))
    (let q : suc f0 + f ≡ f0 + suc f = omega arith in q) (functions_have (suc f0) xs f b j x y i e h g))

-- The site of an instruction is one of the program's.
pub site_in : (P : Program) (s : Site) (i : Instr) → instr_of P s ≡ Some i → In s (sites_of P)
site_in P s i e = go (slice_get P.functions s.function) refl e
  where
    in_block : (fn : Function) → slice_get P.functions s.function ≡ Some fn → (o : Option Block)
        → slice_get fn.blocks s.block ≡ o → option_and_then (λ x. slice_get x.body s.index) o ≡ Some i
        → In s (sites_of P)
    in_block fn h None g e = absurd (let z : ⊥ = cc in z)
    in_block fn h (Some y) g e =
        subst (λ n. In (record { function = n; block = s.block; index = s.index }) (sites_of P))
        (let q : 0 + s.function ≡ s.function = omega arith in q)
        (functions_have 0 P.functions s.function s.block s.index fn y i h g e)

    go : (o : Option Function) → slice_get P.functions s.function ≡ o
        → option_and_then (λ x. slice_get x.body s.index) (option_and_then (λ f. slice_get f.blocks s.block) o)
        ≡ Some i
        → In s (sites_of P)
    go None h e = absurd (let z : ⊥ = cc in z)
    go (Some fn) h e = in_block fn h (slice_get fn.blocks s.block) refl e

-- ---- filters

in_filtered : (test : Site → Bool) (xs : List Site) (s : Site) → In s xs → test s ≡ true
    → In s (filter test xs)
in_filtered test [] s i e = absurd i
in_filtered test (x ∷ xs) s i e = go (test x) refl i (λ j. in_filtered test xs s j e)
  where
    go : (t : Bool) → test x ≡ t → In s (x ∷ xs) → (In s xs → In s (filter test xs))
        → In s (cond t (x ∷ filter test xs) (filter test xs))
    go true h (inl same) rest = inl same
    go true h (inr j) rest = inr (rest j)
    go false h (inl same) rest =
        absurd (let q : test x ≡ true = subst (λ (y : Site). test y ≡ true) same e in let z : ⊥ = cc in z)
    go false h (inr j) rest = rest j

pub filtered_in : (test : Site → Bool) (xs : List Site) (s : Site) → In s (filter test xs) → In s xs
    × (test s ≡ true)
filtered_in test [] s i = absurd i
filtered_in test (x ∷ xs) s i = go (test x) refl i (λ j. filtered_in test xs s j)
  where
    go : (t : Bool) → test x ≡ t → In s (cond t (x ∷ filter test xs) (filter test xs))
        → (In s (filter test xs) → In s xs × (test s ≡ true)) → In s (x ∷ xs) × (test s ≡ true)
    go true h (inl same) rest = (inl same, ap test same ∙ h)
    go true h (inr j) rest = let r = rest j in (inr r.0, r.1)
    go false h j rest = let r = rest j in (inr r.0, r.1)

pub filtered_has : (test : Site → Bool) (xs : List Site) (s : Site) → In s xs → test s ≡ true
    → has_site (filter test xs) s ≡ true
filtered_has test xs s i e = in_has (filter test xs) s (in_filtered test xs s i e)

pub filtered_are : (P : Program) (test : Site → Bool) → AreSites P test (filter test (sites_of P))
filtered_are P test = record {
  has = λ s h t. in_has (filter test (sites_of P)) s (in_filtered test (sites_of P) s (has_in (sites_of P) s h) t);
  site = λ s h. in_has (sites_of P) s (filtered_in test (sites_of P) s (has_in (filter test (sites_of P)) s h)).0;
  asked = λ s h. (filtered_in test (sites_of P) s (has_in (filter test (sites_of P)) s h)).1;
}

pub plan_asked : (P : Program) (found : Findings) → IsAsked P found
plan_asked P found = record {
  flushes = filtered_are P (wants_flush P found);
  fences = filtered_are P (wants_fence P found);
  hoists = filtered_are P (wants_hoist P found);
}

-- ---- the order

-- The order that `site_before` tests: by function, then by block, then by index.
abbrev Before : Site → Site → Type 0
Before a b =
    (a.function < b.function) ⊎ ((a.function ≡ b.function)
    × ((a.block < b.block) ⊎ ((a.block ≡ b.block) × (a.index < b.index))))

is_before : (a b : Site) → site_before a b ≡ true → Before a b
is_before a b e = go (either (nat_lt a.function b.function) _ e)
  where
    blocks : (nat_lt a.block b.block ≡ true) ⊎ ((nat_eq a.block b.block && nat_lt a.index b.index) ≡ true)
        → (a.block < b.block) ⊎ ((a.block ≡ b.block) × (a.index < b.index))
    blocks (inl h) = inl (lt_true _ _ h)
    blocks (inr h) = let g = both_true (nat_eq a.block b.block) _ h in inr (equal_true _ _ g.0, lt_true _ _ g.1)

    go : (nat_lt a.function b.function ≡ true) ⊎
        ((nat_eq a.function b.function && (nat_lt a.block b.block
        || (nat_eq a.block b.block && nat_lt a.index b.index))) ≡ true)
        → Before a b
    go (inl h) = inl (lt_true _ _ h)
    go (inr h) =
        let g = both_true (nat_eq a.function b.function) _ h in
        inr (equal_true _ _ g.0, blocks (either (nat_lt a.block b.block) _ g.1))

then_before : (a b : Site) → Before a b → site_before a b ≡ true
then_before a b (inl h) = or_first _ _ (true_lt _ _ h)
then_before a b (inr (e, inl h)) =
    or_second (nat_lt a.function b.function) _ (true_both (true_equal _ _ e) (or_first _ _ (true_lt _ _ h)))
then_before a b (inr (e, inr (f, h))) =
    or_second (nat_lt a.function b.function) _
    (true_both (true_equal _ _ e) (or_second (nat_lt a.block b.block) _ (true_both (true_equal _ _ f) (true_lt _ _ h))))

never : (a : Site) → Before a a → ⊥
never a (inl h) = omega (arith, h)
never a (inr (e, inl h)) = omega (arith, h)
never a (inr (e, inr (f, h))) = omega (arith, h)

apart : (a : Site) → site_before a a ≡ false
apart a = go (site_before a a) refl
  where
    go : (t : Bool) → site_before a a ≡ t → t ≡ false
    go true e = absurd (never a (is_before a a e))
    go false e = refl

before_trans : (a b c : Site) → Before a b → Before b c → Before a c
before_trans a b c (inl h) (inl g) = inl (omega (arith, h, g))
before_trans a b c (inl h) (inr (e, g)) = inl (omega (arith, h, e))
before_trans a b c (inr (e, h)) (inl g) = inl (omega (arith, e, g))
before_trans a b c (inr (e, inl h)) (inr (d, inl g)) = inr (e ∙ d, inl (omega (arith, h, g)))
before_trans a b c (inr (e, inl h)) (inr (d, inr (f, g))) = inr (e ∙ d, inl (omega (arith, h, f)))
before_trans a b c (inr (e, inr (k, h))) (inr (d, inl g)) = inr (e ∙ d, inl (omega (arith, k, g)))
before_trans a b c (inr (e, inr (k, h))) (inr (d, inr (f, g))) = inr (e ∙ d, inr (k ∙ f, omega (arith, h, g)))

three : (m n : ℕ) → (m < n) ⊎ ((m ≡ n) ⊎ (n < m))
three m n = grind arith

total : (a b : Site) → Before a b ⊎ ((a ≡ b) ⊎ Before b a)
total a b = functions (three a.function b.function)
  where
    indices : a.function ≡ b.function → a.block ≡ b.block
        → (a.index < b.index) ⊎ ((a.index ≡ b.index) ⊎ (b.index < a.index)) → Before a b
        ⊎ ((a ≡ b) ⊎ Before b a)
    indices e f (inl h) = inl (inr (e, inr (f, h)))
    indices e f (inr (inl h)) = inr (inl (site_is a b e f h))
    indices e f (inr (inr h)) = inr (inr (inr (sym e, inr (sym f, h))))

    blocks : a.function ≡ b.function → (a.block < b.block) ⊎ ((a.block ≡ b.block) ⊎ (b.block < a.block))
        → Before a b ⊎ ((a ≡ b) ⊎ Before b a)
    blocks e (inl h) = inl (inr (e, inl h))
    blocks e (inr (inl h)) = indices e h (three a.index b.index)
    blocks e (inr (inr h)) = inr (inr (inr (sym e, inl h)))

    functions : (a.function < b.function) ⊎ ((a.function ≡ b.function) ⊎ (b.function < a.function))
        → Before a b ⊎ ((a ≡ b) ⊎ Before b a)
    functions (inl h) = inl (inl h)
    functions (inr (inl h)) = blocks h (three a.block b.block)
    functions (inr (inr h)) = inr (inr (inl h))

pub strict_order : IsStrictOrder
strict_order = record {
  apart = apart;
  trans = λ a b c h g. then_before a c (before_trans a b c (is_before a b h) (is_before b c g));
  total = λ a b. stated a b (total a b);
}
  where
    stated : (a b : Site) → Before a b ⊎ ((a ≡ b) ⊎ Before b a)
        → (site_before a b ≡ true) ⊎ ((a ≡ b) ⊎ (site_before b a ≡ true))
    stated a b (inl h) = inl (then_before a b h)
    stated a b (inr (inl h)) = inr (inl h)
    stated a b (inr (inr h)) = inr (inr (then_before b a h))

-- ---- lists that ascend

-- Each site of the list comes after this one in that order, and is not equal to it.
abbrev AllAfter : Site → List Site → Type 0
AllAfter a xs = (s : Site) → In s xs → Before a s

-- Each site comes before all later ones in the list, whereas `is_ascending` compares it only with the next one.
abbrev Sorted : List Site → Type 0
Sorted [] = Unit {0}
Sorted (x ∷ xs) = AllAfter x xs × Sorted xs

sorted_ascends : (xs : List Site) → Sorted xs → is_ascending xs ≡ true
sorted_ascends [] h = refl
sorted_ascends (a ∷ []) h = refl
sorted_ascends (a ∷ b ∷ rest) h = true_both (then_before a b (h.0 b (inl refl))) (sorted_ascends (b ∷ rest) h.1)

ascending_sorted : (xs : List Site) → is_ascending xs ≡ true → Sorted xs
ascending_sorted [] e = tt
ascending_sorted (a ∷ []) e = ((λ s i. absurd i), tt)
ascending_sorted (a ∷ b ∷ rest) e =
    go (both_true (site_before a b) _ e).0 (ascending_sorted (b ∷ rest) (both_true (site_before a b) _ e).1)
  where
    go : site_before a b ≡ true → Sorted (b ∷ rest) → Sorted (a ∷ b ∷ rest)
    go h r = (after, r)
      where
        after : AllAfter a (b ∷ rest)
        after s (inl same) = subst (Before a) (sym same) (is_before a b h)
        after s (inr i) = before_trans a b s (is_before a b h) (r.0 s i)

sorted_filter : (test : Site → Bool) (xs : List Site) → Sorted xs → Sorted (filter test xs)
sorted_filter test [] h = tt
sorted_filter test (x ∷ xs) h = go (test x) (sorted_filter test xs h.1)
  where
    go : (t : Bool) → Sorted (filter test xs) → Sorted (cond t (x ∷ filter test xs) (filter test xs))
    go true r = ((λ s i. h.0 s (filtered_in test xs s i).0), r)
    go false r = r

sorted_append : (xs ys : List Site) → Sorted xs → Sorted ys
    → ((a b : Site) → In a xs → In b ys → Before a b)
    → Sorted (xs ++ ys)
sorted_append [] ys h g b = g
sorted_append (x ∷ xs) ys h g b =
    ((λ s i. after s (in-append xs ys s i)), sorted_append xs ys h.1 g (λ a c i j. b a c (inr i) j))
  where
    after : (s : Site) → In s xs ⊎ In s ys → Before x s
    after s (inl i) = h.0 s i
    after s (inr i) = b x s (inl refl) i

-- The site is in block b of function f, at index k or later.
record InBody (f b k : ℕ) (s : Site) : Type 0 where
  function : s.function ≡ f
  block : s.block ≡ b
  index : k ≤ s.index

body_at : (f b k : ℕ) (is : List Instr) (s : Site) → In s (body_sites f b k is) → InBody f b k s
body_at f b k [] s i = absurd i
body_at f b k (x ∷ is) s (inl e) =
    record {
      function = ap (λ (y : Site). y.function) e;
      block = ap (λ (y : Site). y.block) e;
      index = let q : s.index ≡ k = ap (λ (y : Site). y.index) e in omega arith;
    }
body_at f b k (x ∷ is) s (inr i) =
    let r = body_at f b (suc k) is s i in record {
      function = r.function;
      block = r.block;
      index = omega (arith, r.index);
    }

sorted_body : (f b k : ℕ) (is : List Instr) → Sorted (body_sites f b k is)
sorted_body f b k [] = tt
sorted_body f b k (x ∷ is) = (
  (λ s i. let r = body_at f b (suc k) is s i in inr (sym r.function, inr (sym r.block, omega (arith, r.index)))),
  sorted_body f b (suc k) is,
)

-- The site is in function f, in block b or in a later one.
record InBlocks (f b : ℕ) (s : Site) : Type 0 where
  function : s.function ≡ f
  block : b ≤ s.block

blocks_at : (f b : ℕ) (xs : List Block) (s : Site) → In s (block_sites f b xs) → InBlocks f b s
blocks_at f b [] s i = absurd i
blocks_at f b (x ∷ xs) s i =
    go (in-append (body_sites f b 0 x.body) (block_sites f (suc b) xs) s i) (λ j. blocks_at f (suc b) xs s j)
  where
    go : In s (body_sites f b 0 x.body) ⊎ In s (block_sites f (suc b) xs)
        → (In s (block_sites f (suc b) xs) → InBlocks f (suc b) s) → InBlocks f b s
    go (inl j) rest =
        let r = body_at f b 0 x.body s j in record { function = r.function; block = omega (arith, r.block) }
    go (inr j) rest = let r = rest j in record { function = r.function; block = omega (arith, r.block) }

sorted_blocks : (f b : ℕ) (xs : List Block) → Sorted (block_sites f b xs)
sorted_blocks f b [] = tt
sorted_blocks f b (x ∷ xs) =
    sorted_append (body_sites f b 0 x.body) (block_sites f (suc b) xs) (sorted_body f b 0 x.body)
    (sorted_blocks f (suc b) xs) apart_here
  where
    apart_here : (s t : Site) → In s (body_sites f b 0 x.body) → In t (block_sites f (suc b) xs) → Before s t
    apart_here s t i j =
        let q = body_at f b 0 x.body s i in
        let r = blocks_at f (suc b) xs t j in
        inr (q.function ∙ sym r.function, inl (omega (arith, q.block, r.block)))

functions_at : (f : ℕ) (xs : List Function) (s : Site) → In s (function_sites f xs) → f ≤ s.function
functions_at f [] s i = absurd i
functions_at f (x ∷ xs) s i =
    go (in-append (block_sites f 0 x.blocks) (function_sites (suc f) xs) s i) (λ j. functions_at (suc f) xs s j)
  where
    go : In s (block_sites f 0 x.blocks) ⊎ In s (function_sites (suc f) xs)
        → (In s (function_sites (suc f) xs) → suc f ≤ s.function) → f ≤ s.function
    go (inl j) rest = let r = blocks_at f 0 x.blocks s j in omega (arith, r.function)
    go (inr j) rest = omega (arith, rest j)

sorted_functions : (f : ℕ) (xs : List Function) → Sorted (function_sites f xs)
sorted_functions f [] = tt
sorted_functions f (x ∷ xs) =
    sorted_append (block_sites f 0 x.blocks) (function_sites (suc f) xs) (sorted_blocks f 0 x.blocks)
    (sorted_functions (suc f) xs) apart_here
  where
    apart_here : (s t : Site) → In s (block_sites f 0 x.blocks) → In t (function_sites (suc f) xs) → Before s t
    apart_here s t i j =
        let q = blocks_at f 0 x.blocks s i in
        let r = functions_at (suc f) xs t j in
        inl (omega (arith, q.function, r))

pub filter_ascends : (P : Program) (test : Site → Bool) → is_ascending (filter test (sites_of P)) ≡ true
filter_ascends P test =
    sorted_ascends (filter test (sites_of P)) (sorted_filter test (sites_of P) (sorted_functions 0 P.functions))

-- ---- ascending lists with the same members

same_sorted : (xs ys : List Site) → Sorted xs → Sorted ys → ((s : Site) → In s xs → In s ys)
    → ((s : Site) → In s ys → In s xs) → xs ≡ ys
same_sorted [] [] h g to from = refl
same_sorted [] (y ∷ ys) h g to from = absurd (from y (inl refl))
same_sorted (x ∷ xs) [] h g to from = absurd (to x (inl refl))
same_sorted (x ∷ xs) (y ∷ ys) h g to from = go (total x y) (λ a b. same_sorted xs ys h.1 g.1 a b)
  where
    not_before : (a b : Site) (bs : List Site) → AllAfter b bs → In a (b ∷ bs) → Before a b → ⊥
    not_before a b bs after (inl e) lt = never b (subst (λ z. Before z b) e lt)
    not_before a b bs after (inr i) lt = never a (before_trans a b a lt (after a i))

    in_rest : (a b : Site) (xs bs : List Site) → a ≡ b → AllAfter a xs
        → ((s : Site) → In s (a ∷ xs) → In s (b ∷ bs))
        → (s : Site) → In s xs → In s bs
    in_rest a b xs bs e after all s i = by (all s (inr i))
      where
        by : In s (b ∷ bs) → In s bs
        by (inl same) = absurd (never a (subst (Before a) (same ∙ sym e) (after s i)))
        by (inr j) = j

    go : Before x y ⊎ ((x ≡ y) ⊎ Before y x)
        → (((s : Site) → In s xs → In s ys) → ((s : Site) → In s ys → In s xs) → xs ≡ ys)
        → x ∷ xs ≡ y ∷ ys
    go (inl lt) rest = absurd (not_before x y ys g.0 (to x (inl refl)) lt)
    go (inr (inr lt)) rest = absurd (not_before y x xs h.0 (from y (inl refl)) lt)
    go (inr (inl e)) rest =
        ap (λ z. z ∷ xs) e ∙ ap (λ zs. y ∷ zs)
        (rest (in_rest x y xs ys e h.0 to) (in_rest y x ys xs (sym e) g.0 from))

pub same_members : (xs ys : List Site) → is_ascending xs ≡ true → is_ascending ys ≡ true
    → ((s : Site) → has_site xs s ≡ has_site ys s) → xs ≡ ys
same_members xs ys h g same =
    same_sorted xs ys (ascending_sorted xs h) (ascending_sorted ys g)
    (λ s i. has_in ys s (sym (same s) ∙ in_has xs s i))
    (λ s i. has_in xs s (same s ∙ in_has ys s i))
