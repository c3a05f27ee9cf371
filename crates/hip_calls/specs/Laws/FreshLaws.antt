-- Laws of fresh names: they are not taken, they differ from one another, and none is the name of an external function.
use Rattle.std.specs.Prelude.{◌≡◌, ◌≤◌, ◌<◌, ◌||◌, ◌&&◌, ℕ, zero, suc, ◌+◌, ◌-◌, ◌*◌, ◌/◌, ◌%◌, ◌^◌, nat_eq, nat_le, nat_lt, not, Bool, true, false, cond, List, [], ◌∷◌, ◌++◌, length, take, codes, Some, None, slice_get, if◌then◌else◌}
use Rattle.std.specs.Cmp.Lexicographic.{nat_list_eq_equiv}
use Rattle.std.specs.Fmt.{decimal}
use Rattle.std.specs.List.{AllByRecursion, IsDistinct, find, list_any, list_all}
use Rattle.std.specs.Str.{bytes_eq}
use Rattle.std.proofs.Common.{refl, sym, ap, ◌∙◌, subst, ⊎_elim, arith, length-append, eq-or-lt_of_le}
use Rattle.std.proofs.lemmas.Bool.{and_from}
use Rattle.std.proofs.lemmas.Bool.Decides.{nat_tests}
use Rattle.std.proofs.lemmas.Fmt.{decimal_digit, decimal_step_wide}
use Rattle.std.proofs.lemmas.List.Folds.{list_any-append, list_all-append}
use Rattle.std.proofs.lemmas.Map.Made.{length-le_from_is_member}
use Rattle.std.proofs.lemmas.Option.{same_Some}
use Rattle.std.proofs.lemmas.Slice.Eq.{bytes_eq-Decides}
use Rattle.hip_tokens.specs.Bytes.{begins_name, goes_on_name}
use Rattle.hip_tokens.specs.Longest.{is_name}
use Rattle.hip_externs.specs.Externs.{row_of, call_of}
use Rattle.hip_externs.specs.declared.call.ExternCall.{ExternCall}
use Rattle.hip_externs.specs.declared.call.TheConstants.{CALLS}
use Rattle.hip_names.specs.Names.{is_among}
use Rattle.hip_calls.specs.Fresh.{numeral_in, numeral, candidate, fresh_from, fresh_name, fresh_for}

-- ---- numerals

number_from : ℕ → List ℕ → ℕ
number_from a [] = a
number_from a (d ∷ ds) = number_from (a * 10 + (d - 48)) ds

number_from-push : (a : ℕ) (ds : List ℕ) (d : ℕ)
    → number_from a (ds ++ d ∷ []) ≡ number_from a ds * 10 + (d - 48)
unfolding number_from
number_from-push a [] d = refl
number_from-push a (e ∷ ds) d = number_from-push (a * 10 + (e - 48)) ds d

-- A numeral has its number as its value.
numeral-value : (fuel n : ℕ) → n < fuel → number_from 0 (numeral_in fuel n) ≡ n
unfolding number_from
numeral-value zero n h = absurd (omega arith)
numeral-value (suc fuel) n h = by_size (nat_lt n 10) refl (λ below. numeral-value fuel (n / 10) below)
  where
    by_size : (b : Bool) → nat_lt n 10 ≡ b
        → (n / 10 < fuel → number_from 0 (numeral_in fuel (n / 10)) ≡ n / 10)
        → number_from 0 (if b then (48 + n) ∷ [] else numeral_in fuel (n / 10) ++ (48 + n % 10) ∷ []) ≡ n
    by_size true t rest = omega arith
    by_size false t rest =
        let large : 10 ≤ n = grind (arith, nat_tests) in
        let r = rest (omega arith) in
        number_from-push 0 (numeral_in fuel (n / 10)) (48 + n % 10) ∙ omega arith

numeral-differs : (i j : ℕ) → numeral i ≡ numeral j → i ≡ j
numeral-differs i j e =
    sym (numeral-value (suc i) i (omega arith)) ∙ ap (number_from 0) e ∙ numeral-value (suc j) j (omega arith)

-- The numeral is the text that `decimal` gives, for numbers that `decimal` can write.
numeral_in-decimal : (fuel n : ℕ) → n < fuel → n < 10 ^ 64 → numeral_in fuel n ≡ decimal n
numeral_in-decimal zero n h small = absurd (omega arith)
numeral_in-decimal (suc fuel) n h small = by_size (nat_lt n 10) refl (λ below. numeral_in-decimal fuel (n / 10) below)
  where
    by_size : (b : Bool) → nat_lt n 10 ≡ b
        → (n / 10 < fuel → n / 10 < 10 ^ 64 → numeral_in fuel (n / 10) ≡ decimal (n / 10))
        → (if b then (48 + n) ∷ [] else numeral_in fuel (n / 10) ++ (48 + n % 10) ∷ []) ≡ decimal n
    by_size true t rest = let below : n < 10 = grind (arith, nat_tests) in sym (decimal_digit n below)
    by_size false t rest =
        let large : 10 ≤ n = grind (arith, nat_tests) in
        ap (λ ds. ds ++ (48 + n % 10) ∷ []) (rest (omega arith) (omega arith))
        ∙ sym (decimal_step_wide n large small)

pub numeral-decimal : (n : ℕ) → n < 10 ^ 64 → numeral n ≡ decimal n
numeral-decimal n small = numeral_in-decimal (suc n) n (omega arith) small

numeral-length : (n : ℕ) → 0 < length (numeral n)
numeral-length n = by_size (nat_lt n 10)
  where
    by_size : (b : Bool) → 0 < length (if b then (48 + n) ∷ [] else numeral_in n (n / 10) ++ (48 + n % 10) ∷ [])
    by_size true = omega arith
    by_size false = omega (arith, length-append (numeral_in n (n / 10)) ((48 + n % 10) ∷ []))

-- ---- candidates

same_rest : (xs ys zs : List ℕ) → xs ++ ys ≡ xs ++ zs → ys ≡ zs
same_rest [] ys zs e = e
same_rest (x ∷ xs) ys zs e = same_rest xs ys zs cc

pub candidates-differ : (name : List ℕ) (i j : ℕ) → candidate name i ≡ candidate name j → i ≡ j
candidates-differ name zero zero e = refl
candidates-differ name zero (suc j) e =
    let long : length (codes ".pm") ≡ length (codes ".pm" ++ numeral (suc j)) = ap length (same_rest name _ _ e) in
    let some = numeral-length (suc j) in
    absurd (omega arith)
candidates-differ name (suc i) zero e =
    let long : length (codes ".pm" ++ numeral (suc i)) ≡ length (codes ".pm") = ap length (same_rest name _ _ e) in
    let some = numeral-length (suc i) in
    absurd (omega arith)
candidates-differ name (suc i) (suc j) e =
    numeral-differs (suc i) (suc j) (same_rest (codes ".pm") _ _ (same_rest name _ _ e))

-- The given number of candidates from number k on.
candidates_from : List ℕ → ℕ → ℕ → List (List ℕ)
candidates_from name zero k = []
candidates_from name (suc n) k = candidate name k ∷ candidates_from name n (suc k)

length-candidates_from : (name : List ℕ) (n k : ℕ) → length (candidates_from name n k) ≡ n
unfolding candidates_from
length-candidates_from name zero k = refl
length-candidates_from name (suc n) k = ap suc (length-candidates_from name n (suc k))

not_same : (xs ys : List ℕ) → ¬ (xs ≡ ys) → bytes_eq xs ys ≡ false
not_same xs ys h = by_test (bytes_eq xs ys) refl
  where
    by_test : (b : Bool) → bytes_eq xs ys ≡ b → bytes_eq xs ys ≡ false
    by_test true e = absurd (h ((bytes_eq-Decides xs ys).0 e))
    by_test false e = e

apart_later : (name : List ℕ) (n i k : ℕ) → i < k
    → AllByRecursion (λ y. bytes_eq (candidate name i) y ≡ false) (candidates_from name n k)
unfolding candidates_from
apart_later name zero i k h = tt
apart_later name (suc n) i k h = (
  not_same (candidate name i) (candidate name k)
      (λ e. let same = candidates-differ name i k e in absurd (omega arith)),
  apart_later name n i (suc k) (omega arith),
)

distinct-candidates_from : (name : List ℕ) (n k : ℕ) → IsDistinct bytes_eq (candidates_from name n k)
unfolding candidates_from IsDistinct
distinct-candidates_from name zero k = tt
distinct-candidates_from name (suc n) k =
    (apart_later name n k (suc k) (omega arith), distinct-candidates_from name n (suc k))

-- ---- a fresh name

-- If the name that is found is taken, all candidates up to it are taken.
all_taken : (taken : List (List ℕ)) (name : List ℕ) (more k : ℕ)
    → is_among taken (fresh_from taken name more k) ≡ true →
    (q : List ℕ) → list_any (bytes_eq q) (candidates_from name (suc more) k) ≡ true
    → list_any (bytes_eq q) taken ≡ true
unfolding candidates_from
all_taken taken name zero k e q h = by_test (bytes_eq q (candidate name k)) refl h
  where
    by_test : (b : Bool) → bytes_eq q (candidate name k) ≡ b → (b || false) ≡ true
        → list_any (bytes_eq q) taken ≡ true
    by_test true t g = subst (λ n. is_among taken n ≡ true) (sym ((bytes_eq-Decides q (candidate name k)).0 t)) e
    by_test false t g = cc
all_taken taken name (suc more) k e q h =
    by_free (is_among taken (candidate name k)) refl e (λ f g. all_taken taken name more (suc k) f q g)
  where
    by_test : is_among taken (candidate name k) ≡ true
        → (list_any (bytes_eq q) (candidates_from name (suc more) (suc k)) ≡ true
        → list_any (bytes_eq q) taken ≡ true)
        → (b : Bool) → bytes_eq q (candidate name k) ≡ b
        → (b || list_any (bytes_eq q) (candidates_from name (suc more) (suc k))) ≡ true
        → list_any (bytes_eq q) taken ≡ true
    by_test here rest true t g =
        subst (λ n. is_among taken n ≡ true) (sym ((bytes_eq-Decides q (candidate name k)).0 t)) here
    by_test here rest false t g = rest g

    by_free : (b : Bool) → is_among taken (candidate name k) ≡ b
        → is_among taken (cond b (fresh_from taken name more (suc k)) (candidate name k)) ≡ true
        → (is_among taken (fresh_from taken name more (suc k)) ≡ true → list_any (bytes_eq q)
        (candidates_from name (suc more) (suc k)) ≡ true
        → list_any (bytes_eq q) taken ≡ true) → list_any (bytes_eq q) taken ≡ true
    by_free true here f rest = by_test here (rest f) (bytes_eq q (candidate name k)) refl h
    by_free false here f rest = cc

-- A fresh name is not taken.
pub fresh-free : (taken : List (List ℕ)) (name : List ℕ) → is_among taken (fresh_name taken name) ≡ false
fresh-free taken name = by_test (is_among taken (fresh_name taken name)) refl
  where
    by_test : (b : Bool) → is_among taken (fresh_name taken name) ≡ b
        → is_among taken (fresh_name taken name) ≡ false
    by_test true e =
        let count =
        length-le_from_is_member nat_list_eq_equiv (candidates_from name (suc (length taken)) 0) taken
        (distinct-candidates_from name (suc (length taken)) 0) (all_taken taken name (length taken) 0 e) in
        absurd (omega (arith, length-candidates_from name (suc (length taken)) 0))
    by_test false e = e

-- A name is fresh if it is the first of the candidates that is not taken.
pub record IsFirstFree (taken : List (List ℕ)) (name fresh : List ℕ) : Type 0 where
  pub number : ℕ
  pub is : fresh ≡ candidate name number
  pub free : is_among taken fresh ≡ false
  pub earlier : (j : ℕ) → j < number → is_among taken (candidate name j) ≡ true

first_from : (taken : List (List ℕ)) (name : List ℕ) (more k : ℕ)
    → (i : ℕ) × (fresh_from taken name more k ≡ candidate name i)
    × ((j : ℕ) → k ≤ j → j < i → is_among taken (candidate name j) ≡ true)
first_from taken name zero k = (k, refl, λ j low high. absurd (omega arith))
first_from taken name (suc more) k =
    by_free (is_among taken (candidate name k)) refl (first_from taken name more (suc k))
  where
    by_free : (b : Bool) → is_among taken (candidate name k) ≡ b
        → (i : ℕ) × (fresh_from taken name more (suc k) ≡ candidate name i)
        × ((j : ℕ) → suc k ≤ j → j < i → is_among taken (candidate name j) ≡ true)
        → (i : ℕ) × (cond b (fresh_from taken name more (suc k)) (candidate name k) ≡ candidate name i)
        × ((j : ℕ) → k ≤ j → j < i → is_among taken (candidate name j) ≡ true)
    by_free true e rest = (
      rest.0,
      rest.1,
      λ j low high. ⊎_elim (λ same. subst (λ n. is_among taken (candidate name n) ≡ true) same e)
          (λ above. rest.2 j above high) (eq-or-lt_of_le low),
    )
    by_free false e rest = (k, refl, λ j low high. absurd (omega arith))

pub fresh-first : (taken : List (List ℕ)) (name : List ℕ) → IsFirstFree taken name (fresh_name taken name)
fresh-first taken name =
    let found = first_from taken name (length taken) 0 in
    record {
      number = found.0;
      is = found.1;
      free = fresh-free taken name;
      earlier = λ j below. found.2 j (omega arith)
          below;
    }

-- ---- fresh names for a list of names

pub length-fresh_for : (taken names : List (List ℕ)) → length (fresh_for taken names) ≡ length names
length-fresh_for taken [] = refl
length-fresh_for taken (name ∷ names) = ap suc (length-fresh_for (fresh_name taken name ∷ taken) names)

not_later : (b c : Bool) → (b || c) ≡ false → (b ≡ false) × (c ≡ false)
not_later true c e = cc
not_later false c e = (refl, e)

pub among_alike : (xs ys : List (List ℕ)) (x q : List ℕ)
    → is_among (xs ++ x ∷ ys) q ≡ is_among (x ∷ (xs ++ ys)) q
among_alike xs ys x q =
    list_any-append (bytes_eq q) xs (x ∷ ys)
    ∙ moved (list_any (bytes_eq q) xs) (bytes_eq q x) (list_any (bytes_eq q) ys)
    ∙ ap (λ b. bytes_eq q x || b) (sym (list_any-append (bytes_eq q) xs ys))
  where
    moved : (a b c : Bool) → (a || (b || c)) ≡ (b || (a || c))
    moved true true c = refl
    moved true false c = refl
    moved false b c = refl

pub first_alike : (xs ys : List (List ℕ)) (name fresh : List ℕ)
    → ((q : List ℕ) → is_among xs q ≡ is_among ys q)
    → IsFirstFree xs name fresh → IsFirstFree ys name fresh
first_alike xs ys name fresh same f = record {
  number = f.number;
  is = f.is;
  free = sym (same fresh) ∙ f.free;
  earlier = λ j below. sym (same (candidate name j)) ∙ f.earlier j below;
}

-- Each fresh name is the first candidate of its name that is not taken and is not an earlier fresh name.
pub fresh_for-first : (taken names : List (List ℕ)) (k : ℕ) (fresh : List ℕ)
    → slice_get (fresh_for taken names) k ≡ Some fresh →
    (name : List ℕ) × (slice_get names k ≡ Some name)
    × IsFirstFree (take k (fresh_for taken names) ++ taken) name fresh
fresh_for-first taken [] k fresh e = cc
fresh_for-first taken (name ∷ names) zero fresh e =
    (name, refl, subst (IsFirstFree taken name) (same_Some _ _ e) (fresh-first taken name))
fresh_for-first taken (name ∷ names) (suc k) fresh e =
    let first = fresh_name taken name in
    let earlier = take k (fresh_for (first ∷ taken) names) in
    let rest = fresh_for-first (first ∷ taken) names k fresh e in (
      rest.0,
      rest.1,
      first_alike (earlier ++ first ∷ taken) (first ∷ (earlier ++ taken)) rest.0 fresh
          (λ q. among_alike earlier taken first q) rest.2,
    )

-- None of the fresh names is taken.
pub fresh_for-free : (taken names : List (List ℕ)) (k : ℕ) (fresh : List ℕ)
    → slice_get (fresh_for taken names) k ≡ Some fresh → is_among taken fresh ≡ false
fresh_for-free taken [] k fresh e = cc
fresh_for-free taken (name ∷ names) zero fresh e =
    subst (λ n. is_among taken n ≡ false) (same_Some _ _ e) (fresh-free taken name)
fresh_for-free taken (name ∷ names) (suc k) fresh e =
    (not_later _ _ (fresh_for-free (fresh_name taken name ∷ taken) names k fresh e)).1

or_second : (b c : Bool) → c ≡ true → (b || c) ≡ true
or_second true c e = refl
or_second false c e = e

-- No fresh name is in the list twice.
all_apart : (first : List ℕ) (taken names : List (List ℕ)) → is_among taken first ≡ true
    → AllByRecursion (λ y. bytes_eq first y ≡ false) (fresh_for taken names)
all_apart first taken [] e = tt
all_apart first taken (name ∷ names) e = (
  not_same first (fresh_name taken name) (λ same. let free = fresh-free taken name in
      let on : is_among taken first ≡ false = ap (is_among taken) same ∙ free in cc),
  all_apart first (fresh_name taken name ∷ taken) names
      (or_second (bytes_eq first (fresh_name taken name)) (is_among taken first) e),
)

pub fresh_for-distinct : (taken names : List (List ℕ)) → IsDistinct bytes_eq (fresh_for taken names)
unfolding IsDistinct
fresh_for-distinct taken [] = tt
fresh_for-distinct taken (name ∷ names) = (
  all_apart (fresh_name taken name) (fresh_name taken name ∷ taken) names
      (ap (λ b. b || is_among taken (fresh_name taken name)) (nat_list_eq_equiv.refl (fresh_name taken name))),
  fresh_for-distinct (fresh_name taken name ∷ taken) names,
)

-- ---- no external function has such a name

-- Whether the text begins with `.pm`.
begins_marked : List ℕ → Bool
begins_marked (a ∷ b ∷ c ∷ rest) = nat_eq a 46 && (nat_eq b 112 && nat_eq c 109)
begins_marked _ = false

-- Whether `.pm` occurs in the text.
has_mark : List ℕ → Bool
has_mark [] = false
has_mark (a ∷ rest) = begins_marked (a ∷ rest) || has_mark rest

marked_at : (name rest : List ℕ) → has_mark (name ++ (codes ".pm" ++ rest)) ≡ true
unfolding has_mark begins_marked
marked_at [] rest = refl
marked_at (a ∷ name) rest =
    or_second (begins_marked (a ∷ (name ++ (codes ".pm" ++ rest)))) (has_mark (name ++ (codes ".pm" ++ rest)))
    (marked_at name rest)

candidate-marked : (name : List ℕ) (k : ℕ) → has_mark (candidate name k) ≡ true
candidate-marked name zero = marked_at name []
candidate-marked name (suc k) = marked_at name (numeral (suc k))

-- Whether the name of an external function has no `.pm` in it.
abbrev unmarked : ExternCall → Bool
unmarked c = not (has_mark (row_of c).name)

not_in : (cs : List ExternCall) (name : List ℕ) → has_mark name ≡ true → list_all unmarked cs ≡ true →
    find (λ c. bytes_eq (row_of c).name name) cs ≡ None
not_in [] name marked none = refl
not_in (c ∷ cs) name marked none =
    by_name (bytes_eq (row_of c).name name) refl (has_mark (row_of c).name) refl none (not_in cs name marked)
  where
    by_name : (b : Bool) → bytes_eq (row_of c).name name ≡ b → (m : Bool) → has_mark (row_of c).name ≡ m
        → (not m && list_all unmarked cs) ≡ true
        → (list_all unmarked cs ≡ true → find (λ c. bytes_eq (row_of c).name name) cs ≡ None)
        → cond b (Some c) (find (λ c. bytes_eq (row_of c).name name) cs) ≡ None
    by_name true t true m n rest = cc
    by_name true t false m n rest =
        let same : has_mark name ≡ false = ap has_mark (sym ((bytes_eq-Decides (row_of c).name name).0 t)) ∙ m in cc
    by_name false t true m n rest = cc
    by_name false t false m n rest = rest n

-- No name of an external function has `.pm`.
table-unmarked : list_all unmarked CALLS ≡ true
unfolding has_mark begins_marked
table-unmarked = refl

pub candidate-extern : (name : List ℕ) (k : ℕ) → call_of (candidate name k) ≡ None
candidate-extern name k = not_in CALLS (candidate name k) (candidate-marked name k) table-unmarked

pub fresh_for-extern : (taken names : List (List ℕ)) (k : ℕ) (fresh : List ℕ)
    → slice_get (fresh_for taken names) k ≡ Some fresh → call_of fresh ≡ None
fresh_for-extern taken names k fresh e =
    let first = (fresh_for-first taken names k fresh e).2 in
    ap call_of first.is ∙ candidate-extern _ first.number

-- ---- a fresh name has the form of a name

digit_goes_on : (d : ℕ) → d < 10 → goes_on_name (48 + d) ≡ true
digit_goes_on d h =
    let low : nat_le 48 (48 + d) ≡ true = grind (arith, nat_tests) in
    let high : nat_le (48 + d) 57 ≡ true = grind (arith, nat_tests) in
    digit_in _ _ _ (and_from _ _ low high)
  where
    digit_in : (a b c : Bool) → b ≡ true → (a || b || c) ≡ true
    digit_in true true c e = refl
    digit_in false true c e = refl
    digit_in a false c e = cc

all_go_on : (xs ys : List ℕ) → list_all goes_on_name xs ≡ true → list_all goes_on_name ys ≡ true
    → list_all goes_on_name (xs ++ ys) ≡ true
all_go_on xs ys e f = list_all-append goes_on_name xs ys ∙ ap (λ b. b && list_all goes_on_name ys) e ∙ f

digits_go_on : (fuel n : ℕ) → list_all goes_on_name (numeral_in fuel n) ≡ true
digits_go_on zero n = refl
digits_go_on (suc fuel) n = by_size (nat_lt n 10) refl (digits_go_on fuel (n / 10))
  where
    one_digit : (d : ℕ) → d < 10 → list_all goes_on_name ((48 + d) ∷ []) ≡ true
    one_digit d h = ap (λ b. b && true) (digit_goes_on d h)

    by_size : (b : Bool) → nat_lt n 10 ≡ b → list_all goes_on_name (numeral_in fuel (n / 10)) ≡ true
        → list_all goes_on_name (if b then (48 + n) ∷ [] else numeral_in fuel (n / 10) ++ (48 + n % 10) ∷ [])
        ≡ true
    by_size true t rest = one_digit n (grind (arith, nat_tests))
    by_size false t rest =
        all_go_on (numeral_in fuel (n / 10)) ((48 + n % 10) ∷ []) rest (one_digit (n % 10) (omega arith))

longer_name : (name more : List ℕ) → is_name name ≡ true → list_all goes_on_name more ≡ true
    → is_name (name ++ more) ≡ true
longer_name [] more e f = cc
longer_name (b ∷ bs) more e f = by_first (begins_name b) e
  where
    by_first : (t : Bool) → (t && list_all goes_on_name bs) ≡ true
        → (t && list_all goes_on_name (bs ++ more)) ≡ true
    by_first true g = all_go_on bs more g f
    by_first false g = g

pub candidate-name : (name : List ℕ) (k : ℕ) → is_name name ≡ true → is_name (candidate name k) ≡ true
candidate-name name zero e = longer_name name (codes ".pm") e refl
candidate-name name (suc k) e = longer_name name (codes ".pm" ++ numeral (suc k)) e (digits_go_on (suc (suc k)) (suc k))
