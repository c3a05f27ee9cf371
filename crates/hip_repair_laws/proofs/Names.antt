-- How long the names of clones are.
use Rattle.std.proofs.Common.{◌≡◌, ℕ, zero, suc, ◌+◌, ◌/◌, ◌%◌, ◌^◌, ◌<◌, ◌≤◌, Bool, true, false, cond, nat_lt, List, [], ◌∷◌, ◌++◌, map, length, codes, refl, ap, arith, length-append}
use Rattle.std.specs.Prelude.{if◌then◌else◌}
use Rattle.std.specs.Str.{bytes_eq}
use Rattle.std.proofs.lemmas.Bool.Decides.{nat_tests}
use Rattle.std.proofs.lemmas.Slice.Eq.{bytes_eq-Decides}
use Rattle.hip_names.specs.Names.{is_among}
use Rattle.hip_tree.specs.declared.program.Program.{Program}
use Rattle.hip_calls.specs.Fresh.{candidate, fresh_for, fresh_from, fresh_name, name_of, numeral, numeral_in}
use Rattle.hip_repairs.specs.Repaired.{Clone, clone_name, clones_from}

-- A number with at most this many digits has a numeral of at most so many bytes.
numeral_size : (more d n : ℕ) → n < 10 ^ suc d → length (numeral_in more n) ≤ suc d
numeral_size zero d n h = omega arith
numeral_size (suc more) zero n h = by_size (nat_lt n 10) refl
  where
    by_size : (b : Bool) → nat_lt n 10 ≡ b
        → length (if b then (48 + n) ∷ [] else numeral_in more (n / 10) ++ (48 + n % 10) ∷ []) ≤ 1
    by_size true t = omega arith
    by_size false t = let large : 10 ≤ n = grind (arith, nat_tests) in absurd (omega arith)
numeral_size (suc more) (suc d) n h = by_size (nat_lt n 10) refl (λ below. numeral_size more d (n / 10) below)
  where
    by_size : (b : Bool) → nat_lt n 10 ≡ b → (n / 10 < 10 ^ suc d → length (numeral_in more (n / 10)) ≤ suc d)
        → length (if b then (48 + n) ∷ [] else numeral_in more (n / 10) ++ (48 + n % 10) ∷ []) ≤ suc (suc d)
    by_size true t rest = omega arith
    by_size false t rest =
        let shorter = rest (omega arith) in
        omega (arith, shorter, length-append (numeral_in more (n / 10)) ((48 + n % 10) ∷ []))

candidate_size : (name : List ℕ) (k : ℕ) → k < 10 ^ 8 → length (candidate name k) ≤ length name + 11
candidate_size name zero h = omega (arith, length-append name (codes ".pm"))
candidate_size name (suc k) h =
    let digits : length (numeral (suc k)) ≤ 8 = numeral_size (suc (suc k)) 7 (suc k) h in
    omega (arith, digits, length-append name (codes ".pm" ++ numeral (suc k)))

fresh_from_size : (taken : List (List ℕ)) (name : List ℕ) (more k : ℕ) → more + k < 10 ^ 8
    → length (fresh_from taken name more k) ≤ length name + 11
fresh_from_size taken name zero k h = candidate_size name k (omega arith)
fresh_from_size taken name (suc more) k h =
    by_free (is_among taken (candidate name k)) (fresh_from_size taken name more (suc k) (omega arith))
    (candidate_size name k (omega arith))
  where
    by_free : (b : Bool) → length (fresh_from taken name more (suc k)) ≤ length name + 11
        → length (candidate name k) ≤ length name + 11
        → length (cond b (fresh_from taken name more (suc k)) (candidate name k)) ≤ length name + 11
    by_free true later here = later
    by_free false later here = here

-- A fresh name is at most 11 bytes longer than its name, where fewer than 100,000,000 are taken.
pub fresh_size : (taken : List (List ℕ)) (name : List ℕ) → length taken < 10 ^ 8
    → length (fresh_name taken name) ≤ length name + 11
fresh_size taken name h = fresh_from_size taken name (length taken) 0 (omega arith)

-- Each clone's name is at most 11 bytes longer than that of its original.
abbrev pub AreShort : List Clone → Type 0
AreShort [] = Unit {0}
AreShort (c ∷ cs) = (length c.name ≤ length c.original + 11) × AreShort cs

pub clones_short : (P : Program) (taken : List (List ℕ)) (fs : List ℕ) → length taken + length fs ≤ 10 ^ 8
    → AreShort (clones_from P fs (fresh_for taken (map (name_of P) fs)))
clones_short P taken [] h = tt
clones_short P taken (f ∷ fs) h = (
  fresh_size taken (name_of P f) (omega arith),
  clones_short P (fresh_name taken (name_of P f) ∷ taken) fs (omega arith),
)

pub clone_name_size : (clones : List Clone) → AreShort clones → (name : List ℕ)
    → length (clone_name clones name) ≤ length name + 11
clone_name_size [] h name = omega arith
clone_name_size (c ∷ cs) h name = by_name (bytes_eq c.original name) refl (clone_name_size cs h.1 name)
  where
    by_name : (b : Bool) → bytes_eq c.original name ≡ b → length (clone_name cs name) ≤ length name + 11
        → length (cond b c.name (clone_name cs name)) ≤ length name + 11
    by_name true e rest =
        let long : length c.original ≡ length name = ap length ((bytes_eq-Decides c.original name).0 e) in
        let short = h.0 in
        omega (arith, long, short)
    by_name false e rest = rest
