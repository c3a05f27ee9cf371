-- Sets of names that have the same names as a list.
use Rattle.std.proofs.Common.{ℕ, ◌+◌, ◌≡◌, ◌<◌, ◌&&◌, ◌||◌, not, Bool, true, false, List, [], ◌∷◌, ◌++◌, map, take, length, get_or, ◌≤◌, refl, sym, ap, subst, ◌∙◌}
use Rattle.std.specs.Prelude.{if◌then◌else◌}
use Rattle.std.specs.List.{list_all}
use Rattle.std.specs.Str.{bytes_eq}
use Rattle.std.proofs.lemmas.List.{take_more, map-append}
use Rattle.std.proofs.Math.Seq.{take_all}
use Rattle.std.proofs.lemmas.Slice.Eq.{bytes_eq-Decides}
use Rattle.hip_names.specs.Names.{is_among, Knows}

pub or_false : (b : Bool) → (b || false) ≡ b
or_false true = refl
or_false false = refl

or_assoc : (a b c : Bool) → (a || (b || c)) ≡ ((a || b) || c)
or_assoc true b c = refl
or_assoc false b c = refl

pub among-append : (xs : List (List ℕ)) (x name : List ℕ) → is_among (xs ++ x ∷ []) name ≡ (is_among xs name || bytes_eq name x)
among-append [] x name = or_false (bytes_eq name x)
among-append (y ∷ ys) x name = ap (λ b. bytes_eq name y || b) (among-append ys x name) ∙ or_assoc (bytes_eq name y) (is_among ys name) (bytes_eq name x)

-- A name that is already in the list adds nothing.
absorbed : (xs : List (List ℕ)) (x name : List ℕ) (b c : Bool) → is_among xs name ≡ b → bytes_eq name x ≡ c → is_among xs x ≡ true → (b || c) ≡ b
absorbed xs x name true c e f there = refl
absorbed xs x name false false e f there = refl
absorbed xs x name false true e f there =
    let same : name ≡ x = (bytes_eq-Decides name x).0 f in
    let found : is_among xs name ≡ true = subst (λ (n : List ℕ). is_among xs n ≡ true) (sym same) there in
    sym found ∙ e

pub add_known : (known names : List (List ℕ)) (x name : List ℕ) (there : Bool) → is_among known x ≡ there → Knows known names → is_among (if not there then known ++ x ∷ [] else known) name ≡ is_among (names ++ x ∷ []) name
add_known known names x name false e knows = among-append known x name ∙ ap (λ b. b || bytes_eq name x) (knows name) ∙ sym (among-append names x name)
add_known known names x name true e knows =
    sym (absorbed known x name _ _ refl refl e) ∙ ap (λ b. b || bytes_eq name x) (knows name) ∙ sym (among-append names x name)

-- The names of the items of a list, with one more item.
pub knows_more : {A : Type 0} (name_of : A → List ℕ) (items : List A) (i : ℕ) (item : A) (known added : List (List ℕ)) (is_new : Bool) → i < length items → item ≡ get_or items i item → Knows known (map name_of (take i items)) → is_new ≡ not (is_among known (name_of item)) → added ≡ (if is_new then known ++ name_of item ∷ [] else known) → Knows added (map name_of (take (i + 1) items))
knows_more name_of items i item known added is_new within is knows new grown name =
    let prefix : take (i + 1) items ≡ take i items ++ item ∷ [] = subst (λ y. take (i + 1) items ≡ take i items ++ y ∷ []) (sym is) (take_more items i item within) in
    let names : map name_of (take (i + 1) items) ≡ map name_of (take i items) ++ name_of item ∷ [] = ap (map name_of) prefix ∙ map-append name_of (take i items) (item ∷ []) in
    let at_new : added ≡ (if not (is_among known (name_of item)) then known ++ name_of item ∷ [] else known) = grown ∙ ap (λ b. if b then known ++ name_of item ∷ [] else known) new in
    ap (λ ns. is_among ns name) at_new ∙ add_known known (map name_of (take i items)) (name_of item) name (is_among known (name_of item)) refl knows ∙ ap (λ ns. is_among ns name) (sym names)

-- The names of all items of a list.
pub knows_all : {A : Type 0} (name_of : A → List ℕ) (items : List A) (i : ℕ) (known : List (List ℕ)) → length items ≤ i → Knows known (map name_of (take i items)) → Knows known (map name_of items)
knows_all name_of items i known past knows name = knows name ∙ ap (λ xs. is_among (map name_of xs) name) (take_all i items past)

-- All of some names are in a set exactly if all are in the list that it knows.
pub all_known : (known names asked : List (List ℕ)) → Knows known names → list_all (is_among known) asked ≡ list_all (is_among names) asked
all_known known names [] knows = refl
all_known known names (x ∷ xs) knows = ap (λ b. b && list_all (is_among known) xs) (knows x) ∙ ap (λ b. is_among names x && b) (all_known known names xs knows)
