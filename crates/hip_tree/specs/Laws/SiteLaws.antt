-- The test of two sites decides whether they are equal, and the order of sites agrees with it.
use Rattle.std.proofs.Common.{◌≡◌, ℕ, Bool, true, false, ◌&&◌, ◌||◌, cond, nat_eq, nat_cmp, List, [], ◌∷◌, refl, sym, ap₂, ◌∙◌, arith}
use Rattle.std.proofs.lemmas.Bool.Decides.{nat_tests}
use Rattle.std.specs.BTreeMap.{is_at}
use Rattle.std.specs.List.{list_any}
use Rattle.std.specs.Ordering.{is_eq, ordering_then}
use Rattle.std.specs.declared.cmp.Ordering.{Ordering}
use Rattle.std.specs.declared.cmp.Ordering.TheVariants.{Less, Equal, Greater}
use Rattle.hip_tree.specs.Sites.{has_site, same_site}
use Rattle.hip_tree.specs.contracts.site.SiteOrd.TheImpl as derived
use Rattle.hip_tree.specs.declared.site.Site.{Site}

-- The order of sites, which `cmp` and `<` compute: by function, then by block, then by index.
abbrev pub site_cmp : Site → Site → Ordering
site_cmp a b = derived.cmp-value.it a b

both : (a b : Bool) → a && b ≡ true → (a ≡ true) × (b ≡ true)
both true b h = (refl, h)
both false b h = absurd (let z : ⊥ = cc in z)

number_equal : (m n : ℕ) → nat_eq m n ≡ true → m ≡ n
number_equal m n h = grind (arith, nat_tests)

number_same : (n : ℕ) → nat_eq n n ≡ true
number_same n = grind (arith, nat_tests)

number_flips : (m n : ℕ) → nat_eq m n ≡ nat_eq n m
number_flips m n = grind (arith, nat_tests)

number-is_eq : (m n : ℕ) → is_eq (nat_cmp m n) ≡ nat_eq m n
number-is_eq m n = grind (arith, nat_tests)

then-is_eq : (x y : Ordering) → is_eq (ordering_then x y) ≡ is_eq x && is_eq y
then-is_eq Less y = refl
then-is_eq Equal y = refl
then-is_eq Greater y = refl

pub same_site_equal : (a b : Site) → same_site a b ≡ true → a ≡ b
same_site_equal a b h =
    let first = both _ _ h in
    let rest = both _ _ first.1 in
    ap₂ (λ (f : ℕ) (r : Site). record { function = f; block = r.block; index = r.index })
    (number_equal _ _ first.0)
    (ap₂ (λ (x y : ℕ). record { function = a.function; block = x; index = y }) (number_equal _ _ rest.0)
    (number_equal _ _ rest.1))

pub site_same : (a : Site) → same_site a a ≡ true
site_same a = simp number_same refl

pub same_site-sym : (a b : Site) → same_site a b ≡ same_site b a
same_site-sym a b =
    ap₂ (λ (x y : Bool). x && y) (number_flips a.function b.function)
    (ap₂ (λ (x y : Bool). x && y) (number_flips a.block b.block) (number_flips a.index b.index))

pub cmp-is_eq : (a b : Site) → is_eq (site_cmp a b) ≡ same_site a b
cmp-is_eq a b = simp (then-is_eq, number-is_eq) refl

-- An ordered set whose keys are these sites has a site exactly if the list has it.
pub keys_have : (sites : List Site) (s : Site) → list_any (is_at (site_cmp s)) sites ≡ has_site sites s
keys_have [] s = refl
keys_have (x ∷ xs) s = ap₂ (λ b c. b || c) (cmp-is_eq s x) (keys_have xs s)

-- What an ordered set has after one more site.
pub key_put : (old new : List Site) (site s : Site)
    → list_any (is_at (site_cmp s)) new
    ≡ cond (is_at (site_cmp site) s) true (list_any (is_at (site_cmp s)) old)
    → has_site new s ≡ same_site s site || has_site old s
key_put old new site s e =
    sym (keys_have new s) ∙ e
    ∙ ap₂ (λ b c. cond b true c) (cmp-is_eq site s ∙ same_site-sym site s) (keys_have old s)
    ∙ either (same_site s site) (has_site old s)
  where
    either : (b c : Bool) → cond b true c ≡ b || c
    either true c = refl
    either false c = refl
