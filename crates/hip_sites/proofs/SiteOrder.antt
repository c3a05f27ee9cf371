-- The derived order of sites is that of `site_before`. Tables in this order have what lists of sites have, and sets of
-- numbers have what lists of numbers have.
use Rattle.std.proofs.Common.{◌≡◌, ℕ, Bool, true, false, cond, ◌&&◌, ◌||◌, nat_eq, nat_lt, nat_cmp, List, [], ◌∷◌, Option, refl, sym, ap, ap₂, ◌∙◌, arith}
use Rattle.std.proofs.lemmas.Bool.Decides.{nat_tests}
use Rattle.std.proofs.lemmas.Map.Keys.{sorted_head, sorted_tail}
use Rattle.std.specs.BTreeMap.{is_at}
use Rattle.std.specs.List.{list_any}
use Rattle.std.specs.Map.{lookup}
use Rattle.std.specs.List.Sorted.{IsStrictlySortedBy}
use Rattle.std.specs.Ordering.{is_eq, is_lt, ordering_then}
use Rattle.std.specs.declared.cmp.Ordering.{Ordering}
use Rattle.std.specs.declared.cmp.Ordering.TheVariants.{Less, Equal, Greater}
use Rattle.hip_tree.specs.Sites.{same_site}
use Rattle.hip_tree.specs.Laws.SiteLaws.{cmp-is_eq, same_site-sym, site_cmp}
use Rattle.hip_tree.specs.declared.site.Site.{Site}
use Rattle.hip_repairs.specs.Suits.{is_ascending, site_before}
use Rattle.hip_runs.specs.Laws.Members.{true_both}

pub number-is_eq : (a b : ℕ) → is_eq (nat_cmp a b) ≡ nat_eq a b
number-is_eq a b = grind (arith, nat_tests)

number-is_lt : (a b : ℕ) → is_lt (nat_cmp a b) ≡ nat_lt a b
number-is_lt a b = grind (arith, nat_tests)

pub then-is_eq : (x y : Ordering) → is_eq (ordering_then x y) ≡ is_eq x && is_eq y
then-is_eq Less y = refl
then-is_eq Equal y = refl
then-is_eq Greater y = refl

then-is_lt : (x y : Ordering) → is_lt (ordering_then x y) ≡ is_lt x || (is_eq x && is_lt y)
then-is_lt Less y = refl
then-is_lt Equal y = refl
then-is_lt Greater y = refl

pub cmp-is_lt : (a b : Site) → is_lt (site_cmp a b) ≡ site_before a b
cmp-is_lt a b = simp (then-is_lt, number-is_eq, number-is_lt) refl

pub flipped : (m n : ℕ) → nat_eq m n ≡ nat_eq n m
flipped m n = grind (arith, nat_tests)

one_or : (b c : Bool) → cond b true c ≡ b || c
one_or true c = refl
one_or false c = refl

is_less : (a b : Site) → site_cmp a b ≡ Less → site_before a b ≡ true
is_less a b e = sym (cmp-is_lt a b) ∙ ap is_lt e

pub keys_ascend : (sites : List Site) → IsStrictlySortedBy site_cmp sites → is_ascending sites ≡ true
keys_ascend [] h = refl
keys_ascend (a ∷ []) h = refl
keys_ascend (a ∷ b ∷ rest) h =
    true_both (is_less a b (sorted_head site_cmp a (b ∷ rest) h).0)
    (keys_ascend (b ∷ rest) (sorted_tail site_cmp a (b ∷ rest) h))

-- ---- tables by sites

-- A table has at a site what its list of entries has.
pub table_has : {X : Type 0} (entries : List (Site × X)) (s : Site)
    → lookup (is_at (site_cmp s)) entries ≡ lookup (same_site s) entries
table_has entries s = λ i. lookup (λ k. cmp-is_eq s k i) entries

-- What a table has after one more entry.
pub table_updated : {X : Type 0} (old new : List (Site × X)) (site : Site) (v : Option X)
    → ((q : Site) → lookup (is_at (site_cmp q)) new ≡ cond (is_at (site_cmp site) q) v (lookup (is_at (site_cmp q)) old))
    → (q : Site) → lookup (same_site q) new ≡ cond (same_site q site) v (lookup (same_site q) old)
table_updated old new site v updates q =
    sym (table_has new q) ∙ updates q ∙ (λ i. cond ((cmp-is_eq site q ∙ same_site-sym site q) i) v (table_has old q i))

-- ---- sets of numbers

-- A set of numbers has a number exactly where its list does.
pub numbers_have : (numbers : List ℕ) (n : ℕ) → list_any (is_at (nat_cmp n)) numbers ≡ list_any (nat_eq n) numbers
numbers_have numbers n = λ i. list_any (λ k. number-is_eq n k i) numbers

-- What a set has after one more number.
pub number_inserted : (old new : List ℕ) (number n : ℕ)
    → list_any (is_at (nat_cmp n)) new ≡ cond (is_at (nat_cmp number) n) true (list_any (is_at (nat_cmp n)) old)
    → list_any (nat_eq n) new ≡ nat_eq n number || list_any (nat_eq n) old
number_inserted old new number n e =
    sym (numbers_have new n) ∙ e
    ∙ ap₂ (λ b c. cond b true c) (number-is_eq number n ∙ flipped number n) (numbers_have old n)
    ∙ one_or (nat_eq n number) (list_any (nat_eq n) old)
