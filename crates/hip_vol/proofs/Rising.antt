-- What it means that a rule raises its variable.
use Rattle.std.proofs.Common.{◌≡◌, ◌≢◌, inl, inr, ℕ, zero, suc, ◌+◌, ◌<◌, ◌≤◌, Bool, true, false, cond, nat_eq, nat_lt, List, [], ◌∷◌, length, get_or, refl, sym, ap, ◌∙◌, subst, arith, ltb-true}
use Rattle.std.specs.Prelude.{slice_set}
use Rattle.std.proofs.lemmas.Bool.Decides.{nat_tests}
use Rattle.std.proofs.lemmas.List.{get_or-set_same, get_or-set_other}
use Rattle.hip_runs.specs.StoredParts.Parts.{In}
use Rattle.hip_vol.specs.declared.numbered.Least.{Least}
use Rattle.hip_vol.specs.declared.numbered.Least.TheVariants as least
use Rattle.hip_vol.specs.declared.numbered.LevelRule.{LevelRule}
use Rattle.hip_vol.specs.Numbered.{offset_rank, reached_by, at, reached, rises, risen, LeastIsWithin, AreWithin, AreMetBy, IsBelowAll, room}

-- ---- levels at offsets

past_small : (level offset : ℕ) → level ≤ 33 → offset_rank level offset ≤ 33
past_small level offset h = go (nat_eq offset 0) (nat_lt offset 67108864) (nat_lt level 32) refl
  where
    go : (x y z : Bool) → nat_lt level 32 ≡ z → cond x level (cond y (cond z (suc level) 33) 33) ≤ 33
    go true y z e = h
    go false false z e = omega arith
    go false true false e = omega arith
    go false true true e = let lt : level < 32 = ltb-true level 32 e in omega arith

past_grows : (a b offset : ℕ) → a ≤ b → offset_rank a offset ≤ offset_rank b offset
past_grows a b offset h = go (nat_eq offset 0) (nat_lt offset 67108864) (nat_lt a 32) (nat_lt b 32) refl refl
  where
    go : (x y z w : Bool) → nat_lt a 32 ≡ z → nat_lt b 32 ≡ w → cond x a (cond y (cond z (suc a) 33) 33) ≤ cond x b (cond y (cond w (suc b) 33) 33)
    go true y z w e f = h
    go false false z w e f = omega arith
    go false true true true e f = omega arith
    go false true true false e f = let lt : a < 32 = ltb-true a 32 e in omega arith
    go false true false false e f = omega arith
    go false true false true e f = let lt : b < 32 = ltb-true b 32 f in let ge : 32 ≤ a = grind (arith, nat_tests) in omega arith

pub reached_small : (levels : List ℕ) (l : Least) → LeastIsWithin (length levels) l → ((k : ℕ) → at levels k ≤ 33) → reached levels l ≤ 33
reached_small levels (least.Known level) w small = w
reached_small levels (least.AtOffset offset variable) w small = past_small _ offset (small variable)

pub reached_grows : (M N : ℕ → ℕ) (l : Least) → ((k : ℕ) → M k ≤ N k) → reached_by M l ≤ reached_by N l
reached_grows M N (least.Known level) h = omega arith
reached_grows M N (least.AtOffset offset variable) h = past_grows _ _ offset (h variable)

-- ---- one level is raised

at_set : (levels : List ℕ) (v x : ℕ) → v < length levels → (Q : ℕ → ℕ → Type 0) → Q v x → ((k : ℕ) → Q k (at levels k)) → (k : ℕ) → Q k (at (slice_set levels v x) k)
at_set levels v x lt Q here others k = go (nat_eq k v) refl
  where
    go : (b : Bool) → nat_eq k v ≡ b → Q k (at (slice_set levels v x) k)
    go true e =
        let same : k ≡ v = grind (arith, nat_tests) in
        subst (λ n. Q n (at (slice_set levels v x) n)) (sym same) (subst (Q v) (sym (get_or-set_same levels v x 0 lt)) here)
    go false e =
        let other : k ≢ v = grind (arith, nat_tests) in
        subst (Q k) (sym (get_or-set_other levels v k x 0 other)) (others k)

pub set_below : (rules : List LevelRule) (levels : List ℕ) (r : LevelRule) → AreWithin (length levels) rules → In r rules → IsBelowAll rules levels → IsBelowAll rules (slice_set levels r.variable (reached levels r.least))
set_below rules levels r within there below = record {
  small = at_set levels r.variable _ (within.each r there).variable (λ k n. n ≤ 33) (reached_small levels r.least (within.each r there).least below.small) below.small;
  least = λ other met k. at_set levels r.variable _ (within.each r there).variable (λ j n. n ≤ other j)
      (let one = reached_grows (at levels) other r.least (below.least other met) in let two = met.each r there in omega arith) (below.least other met) k;
}

room_set : (levels : List ℕ) (v x : ℕ) → v < length levels → at levels v < x → x ≤ 33 → room (slice_set levels v x) < room levels
room_set [] v x lt more small = absurd (omega arith)
room_set (y ∷ levels) zero x lt more small = omega arith
room_set (y ∷ levels) (suc v) x lt more small = let rest = room_set levels v x (omega arith) more small in omega arith

-- ---- a rule is tried

pub risen_below : (rules : List LevelRule) (levels : List ℕ) (r : LevelRule) → AreWithin (length levels) rules → In r rules → IsBelowAll rules levels → IsBelowAll rules (risen levels r)
risen_below rules levels r within there below = go (rises levels r)
  where
    go : (b : Bool) → IsBelowAll rules (cond b (slice_set levels r.variable (reached levels r.least)) levels)
    go true = set_below rules levels r within there below
    go false = below

pub risen_room : (rules : List LevelRule) (levels : List ℕ) (r : LevelRule) → AreWithin (length levels) rules → In r rules → IsBelowAll rules levels → rises levels r ≡ true → room (risen levels r) < room levels
risen_room rules levels r within there below e =
    subst (λ (b : Bool). room (cond b (slice_set levels r.variable (reached levels r.least)) levels) < room levels) (sym e)
    (room_set levels r.variable (reached levels r.least) (within.each r there).variable (ltb-true _ _ e) (reached_small levels r.least (within.each r there).least below.small))

pub risen_same : (levels : List ℕ) (r : LevelRule) → rises levels r ≡ false → risen levels r ≡ levels
risen_same levels r e = ap (λ b. cond b (slice_set levels r.variable (reached levels r.least)) levels) e

pub not_risen : (levels : List ℕ) (r : LevelRule) → rises levels r ≡ false → reached levels r.least ≤ at levels r.variable
not_risen levels r e = grind (arith, nat_tests)

-- ---- lists of rules

pub has_at : (rules : List LevelRule) (k : ℕ) (d : LevelRule) → k < length rules → In (get_or rules k d) rules
has_at [] k d lt = absurd (omega arith)
has_at (x ∷ rules) zero d lt = inl refl
has_at (x ∷ rules) (suc k) d lt = inr (has_at rules k d (omega arith))

-- The first n rules are met.
pub record FirstMet (levels : List ℕ) (rules : List LevelRule) (n : ℕ) : Type 0 where
  pub each : (k : ℕ) (d : LevelRule) → k < n → k < length rules → reached levels (get_or rules k d).least ≤ at levels (get_or rules k d).variable

pub all_met : (levels : List ℕ) (rules : List LevelRule) (n : ℕ) → length rules ≤ n → FirstMet levels rules n → AreMetBy (at levels) rules
all_met levels rules n le first = record { each = λ r h. find rules (λ k d lt. first.each k d (omega arith) lt) r h }
  where
    find : (rs : List LevelRule) → ((k : ℕ) (d : LevelRule) → k < length rs → reached levels (get_or rs k d).least ≤ at levels (get_or rs k d).variable) → (r : LevelRule) → In r rs → reached levels r.least ≤ at levels r.variable
    find [] each r h = absurd h
    find (x ∷ rs) each r (inl e) = subst (λ (y : LevelRule). reached levels y.least ≤ at levels y.variable) (sym e) (each 0 x (omega arith))
    find (x ∷ rs) each r (inr h) = find rs (λ k d lt. each (suc k) d (omega arith)) r h

pub next_met : (levels : List ℕ) (rules : List LevelRule) (n : ℕ) (r : LevelRule) → FirstMet levels rules n → ((d : LevelRule) → n < length rules → get_or rules n d ≡ r) → reached levels r.least ≤ at levels r.variable → FirstMet levels rules (n + 1)
next_met levels rules n r first here met = record { each = λ k d lt there. go k d lt there (nat_lt k n) refl }
  where
    go : (k : ℕ) (d : LevelRule) → k < n + 1 → k < length rules → (b : Bool) → nat_lt k n ≡ b → reached levels (get_or rules k d).least ≤ at levels (get_or rules k d).variable
    go k d lt there true e = first.each k d (ltb-true k n e) there
    go k d lt there false e =
        let ge : n ≤ k = grind (arith, nat_tests) in
        let same : n ≡ k = omega arith in
        let r_here : r ≡ get_or rules k d = sym (here d (omega arith)) ∙ ap (λ j. get_or rules j d) same in
        subst (λ (y : LevelRule). reached levels y.least ≤ at levels y.variable) r_here met

-- Rules are tried one after another: some variable has risen, or the first n are met and nothing has changed.
abbrev pub so_far : Bool → List ℕ → List ℕ → List LevelRule → ℕ → Type 0
so_far true old new rules n = room new < room old
so_far false old new rules n = (new ≡ old) × FirstMet old rules n
