-- The levels that rounds end with are the least closed assignment.
use Rattle.std.proofs.Common.{◌≡◌, ◌⊎◌, ⊎_elim, inl, inr, ℕ, zero, suc, ◌+◌, ◌*◌, ◌<◌, ◌≤◌, Bool, true, false, cond, nat_le, List, [], ◌∷◌, length, Some, None, refl, sym, ap, ◌∙◌, subst, arith, leb-true}
use Rattle.std.proofs.lemmas.Bool.Decides.{nat_tests}
use Rattle.std.proofs.Math.Path.{fun_ext}
use Rattle.hip_runs.specs.StoredParts.Parts.{In}
use Rattle.hip_invariants.specs.PointerLevels.{PointerLevel, is_at_most}
use Rattle.hip_vol.specs.Bounds.{Variable, Bound, LevelRule, Assignment, Known, AtOffset, bound_in, same_variable}
use Rattle.hip_vol.specs.Closed.{is_level, IsMet, IsClosedUnder, IsLeast, greater, lowest, raised, round, rounds, least_of}
use Rattle.hip_vol.proofs.LevelOrder.{at_most_same, at_most_next, at_most_both, zero_at_most, greater_first, greater_second, greater_least, greater_level, past_is_level, bound_more, same_variable_is, same_as_itself}

-- ---- the levels that rules know

-- A known level of a bound is a level.
abbrev pub knows_level : Bound → Type 0
knows_level (Known a) = is_level a
knows_level (AtOffset offset v) = Unit {0}

pub record KnowsLevel (r : LevelRule) : Type 0 where
  pub is : knows_level r.least

pub bound_is_level : (A : Assignment) → ((v : Variable) → is_level (A v)) → (least : Bound) → knows_level least → is_level (bound_in A least)
bound_is_level A levels (Known a) h = h
bound_is_level A levels (AtOffset offset v) h = past_is_level (A v) offset (levels v)

-- ---- one rule after another

abbrev pub AreLevels : Assignment → Type 0
AreLevels A = (v : Variable) → is_level (A v)

abbrev AreBelow : Assignment → Assignment → Type 0
AreBelow A B = (v : Variable) → is_at_most (A v) (B v)

raised_levels : (r : LevelRule) (A : Assignment) → AreLevels A → knows_level r.least → AreLevels (raised r A)
raised_levels r A levels h v = go (same_variable r.variable v)
  where
    go : (b : Bool) → is_level (cond b (greater (A v) (bound_in A r.least)) (A v))
    go true = greater_level (A v) _ (levels v) (bound_is_level A levels r.least h)
    go false = levels v

raised_more : (r : LevelRule) (A : Assignment) → AreBelow A (raised r A)
raised_more r A v = go (same_variable r.variable v)
  where
    go : (b : Bool) → is_at_most (A v) (cond b (greater (A v) (bound_in A r.least)) (A v))
    go true = greater_first (A v) _
    go false = at_most_same (A v)

raised_below : (r : LevelRule) (A B : Assignment) → IsMet B r → AreBelow A B → AreBelow (raised r A) B
raised_below r A B met below v = go (same_variable r.variable v) refl
  where
    go : (b : Bool) → same_variable r.variable v ≡ b → is_at_most (cond b (greater (A v) (bound_in A r.least)) (A v)) (B v)
    go true e = greater_least (A v) _ (B v) (below v) (at_most_next _ _ _ (bound_more A B below r.least) (subst (λ w. is_at_most (bound_in B r.least) (B w)) (same_variable_is r.variable v e) met))
    go false e = below v

-- A rule that is met raises nothing.
greater_same : (a b : PointerLevel) → is_at_most b a → greater a b ≡ a
greater_same a b h = at_most_both _ _ (greater_least a b a (at_most_same a) h) (greater_first a b)

raised_same : (r : LevelRule) (A : Assignment) → IsMet A r → raised r A ≡ A
raised_same r A met = fun_ext (λ v. go v (same_variable r.variable v) refl)
  where
    go : (v : Variable) (b : Bool) → same_variable r.variable v ≡ b → cond b (greater (A v) (bound_in A r.least)) (A v) ≡ A v
    go v true e = greater_same (A v) _ (subst (λ w. is_at_most (bound_in A r.least) (A w)) (same_variable_is r.variable v e) met)
    go v false e = refl

-- ---- how far levels have risen

abbrev pub rank : PointerLevel → ℕ
rank None = 33
rank (Some t) = t

pub rank_more : (a b : PointerLevel) → is_level a → is_at_most a b → rank a ≤ rank b
rank_more None None p q = omega arith
rank_more (Some t) None p q = omega arith
rank_more None (Some u) p q = absurd q
rank_more (Some t) (Some u) p q = q

rank_most : (a : PointerLevel) → is_level a → rank a ≤ 33
rank_most None p = omega arith
rank_most (Some t) p = omega arith

-- A level is at most another, or ranks above it.
met_or_above : (a b : PointerLevel) → is_level b → is_at_most a b ⊎ (rank b < rank a)
met_or_above a None p = inl tt
met_or_above None (Some u) p = inr (omega arith)
met_or_above (Some t) (Some u) p = go (nat_le t u) refl
  where
    go : (b : Bool) → nat_le t u ≡ b → (t ≤ u) ⊎ (u < t)
    go true e = inl (leb-true t u e)
    go false e = inr (grind (arith, nat_tests))

weight : Assignment → List LevelRule → ℕ
weight A [] = 0
weight A (r ∷ rs) = rank (A r.variable) + weight A rs

weight_most : (A : Assignment) → AreLevels A → (rs : List LevelRule) → weight A rs ≤ 33 * length rs
unfolding weight
weight_most A levels [] = omega arith
weight_most A levels (r ∷ rs) = let one = rank_most (A r.variable) (levels r.variable) in let rest = weight_most A levels rs in omega arith

weight_more : (A B : Assignment) → AreLevels A → AreBelow A B → (rs : List LevelRule) → weight A rs ≤ weight B rs
unfolding weight
weight_more A B levels below [] = omega arith
weight_more A B levels below (r ∷ rs) = let one = rank_more _ _ (levels r.variable) (below r.variable) in let rest = weight_more A B levels below rs in omega arith

weight_rises : (A B : Assignment) → AreLevels A → AreBelow A B → (rs : List LevelRule) (r : LevelRule) → In r rs → rank (A r.variable) < rank (B r.variable) → weight A rs < weight B rs
unfolding weight
weight_rises A B levels below [] r i lt = absurd i
weight_rises A B levels below (x ∷ rs) r (inl e) lt =
    let one : rank (A x.variable) < rank (B x.variable) = subst (λ (y : LevelRule). rank (A y.variable) < rank (B y.variable)) e lt in
    let rest = weight_more A B levels below rs in
    omega arith
weight_rises A B levels below (x ∷ rs) r (inr i) lt =
    let one = rank_more _ _ (levels x.variable) (below x.variable) in
    let rest = weight_rises A B levels below rs r i lt in
    omega arith

-- A rule is met, or it raises its variable.
met_or_raised : (A : Assignment) → AreLevels A → (r : LevelRule) → knows_level r.least → IsMet A r ⊎ (rank (A r.variable) < rank (raised r A r.variable))
met_or_raised A levels r h = ⊎_elim (λ met. inl met) (λ above. inr (up above)) (met_or_above (bound_in A r.least) (A r.variable) (levels r.variable))
  where
    is : raised r A r.variable ≡ greater (A r.variable) (bound_in A r.least)
    is = ap (λ b. cond b (greater (A r.variable) (bound_in A r.least)) (A r.variable)) (same_as_itself r.variable)

    up : rank (A r.variable) < rank (bound_in A r.least) → rank (A r.variable) < rank (raised r A r.variable)
    up above =
        let most : rank (bound_in A r.least) ≤ rank (greater (A r.variable) (bound_in A r.least)) = rank_more _ _ (bound_is_level A levels r.least h) (greater_second (A r.variable) (bound_in A r.least)) in
        subst (λ a. rank (A r.variable) < rank a) (sym is) (omega arith)

-- ---- rounds

module _ (all : List LevelRule) (known : (r : LevelRule) → In r all → KnowsLevel r) where
  abbrev AreRules : List LevelRule → Type 0
  AreRules rs = (r : LevelRule) → In r rs → In r all

  abbrev AllMet : Assignment → List LevelRule → Type 0
  AllMet A rs = (r : LevelRule) → In r rs → IsMet A r

  round_levels : (rs : List LevelRule) (A : Assignment) → AreRules rs → AreLevels A → AreLevels (round rs A)
  unfolding round
  round_levels [] A are levels = levels
  round_levels (r ∷ rs) A are levels = round_levels rs (raised r A) (λ s i. are s (inr i)) (raised_levels r A levels (known r (are r (inl refl))).is)

  round_more : (rs : List LevelRule) (A : Assignment) → AreBelow A (round rs A)
  unfolding round
  round_more [] A v = at_most_same (A v)
  round_more (r ∷ rs) A v = at_most_next _ _ _ (raised_more r A v) (round_more rs (raised r A) v)

  round_below : (rs : List LevelRule) (A B : Assignment) → AllMet B rs → AreBelow A B → AreBelow (round rs A) B
  unfolding round
  round_below [] A B met below = below
  round_below (r ∷ rs) A B met below = round_below rs (raised r A) B (λ s i. met s (inr i)) (raised_below r A B (met r (inl refl)) below)

  -- After a round all rules were met, or the levels have risen.
  round_ends : (rs : List LevelRule) (A : Assignment) → AreRules rs → AreLevels A → AllMet A rs ⊎ (weight A all < weight (round rs A) all)
  unfolding round
  round_ends [] A are levels = inl (λ r i. absurd i)
  round_ends (r ∷ rs) A are levels = ⊎_elim (kept (round_ends rs A (λ s i. are s (inr i)) levels)) up (met_or_raised A levels r (known r (are r (inl refl))).is)
    where
      levels_then : AreLevels (raised r A)
      levels_then = raised_levels r A levels (known r (are r (inl refl))).is

      up : rank (A r.variable) < rank (raised r A r.variable) → AllMet A (r ∷ rs) ⊎ (weight A all < weight (round rs (raised r A)) all)
      up lt =
          let first = weight_rises A (raised r A) levels (raised_more r A) all r (are r (inl refl)) lt in
          let rest = weight_more (raised r A) (round rs (raised r A)) levels_then (round_more rs (raised r A)) all in
          inr (omega arith)

      kept : AllMet A rs ⊎ (weight A all < weight (round rs A) all) → IsMet A r → AllMet A (r ∷ rs) ⊎ (weight A all < weight (round rs (raised r A)) all)
      kept rest met = ⊎_elim all_met rises rest
        where
          each : AllMet A rs → (s : LevelRule) → In s (r ∷ rs) → IsMet A s
          each all s (inl e) = subst (IsMet A) (sym e) met
          each all s (inr i) = all s i

          all_met : AllMet A rs → AllMet A (r ∷ rs) ⊎ (weight A all < weight (round rs (raised r A)) all)
          all_met all = inl (each all)

          rises : weight A all < weight (round rs A) all → AllMet A (r ∷ rs) ⊎ (weight A all < weight (round rs (raised r A)) all)
          rises lt = inr (subst (λ B. weight A all < weight (round rs B) all) (sym (raised_same r A met)) lt)

  round_same : (rs : List LevelRule) (A : Assignment) → AllMet A rs → round rs A ≡ A
  unfolding round
  round_same [] A met = refl
  round_same (r ∷ rs) A met = ap (round rs) (raised_same r A (met r (inl refl))) ∙ round_same rs A (λ s i. met s (inr i))

  after : ℕ → Assignment
  after n = rounds n all lowest

  after_levels : (n : ℕ) → AreLevels (after n)
  unfolding after rounds
  after_levels zero = λ v. omega arith
  after_levels (suc n) = round_levels all (after n) (λ r i. i) (after_levels n)

  after_below : (B : Assignment) → IsClosedUnder all B → (n : ℕ) → AreBelow (after n) B
  unfolding after rounds
  after_below B closed zero = λ v. zero_at_most (B v)
  after_below B closed (suc n) = round_below all (after n) B closed.met (after_below B closed n)

  after_ends : (n : ℕ) → AllMet (after n) all ⊎ (n ≤ weight (after n) all)
  unfolding after rounds
  after_ends zero = inr (omega arith)
  after_ends (suc n) = ⊎_elim stays goes_on (after_ends n)
    where
      stays : AllMet (after n) all → AllMet (round all (after n)) all ⊎ (suc n ≤ weight (round all (after n)) all)
      stays met = inl (subst (λ B. AllMet B all) (sym (round_same all (after n) met)) met)

      goes_on : n ≤ weight (after n) all → AllMet (round all (after n)) all ⊎ (suc n ≤ weight (round all (after n)) all)
      goes_on le = ⊎_elim stays (λ lt. inr (omega arith)) (round_ends all (after n) (λ r i. i) (after_levels n))

  last : least_of all ≡ after (suc (33 * length all))
  unfolding least_of after
  last = refl

  all_met : AllMet (after (suc (33 * length all))) all
  all_met = ⊎_elim (λ m. m) (λ le. let most = weight_most (after (suc (33 * length all))) (after_levels (suc (33 * length all))) all in absurd (omega arith)) (after_ends (suc (33 * length all)))

  -- The levels are the least closed assignment.
  pub least_is_least : IsLeast all (least_of all)
  least_is_least = subst (IsLeast all) (sym last) (record {
    closed = record { levels = after_levels (suc (33 * length all)); met = all_met };
    below = λ B closed v. after_below B closed (suc (33 * length all)) v;
  })

  -- There is only one least closed assignment.
  pub least_is_one : (A B : Assignment) → IsLeast all A → IsLeast all B → (v : Variable) → A v ≡ B v
  least_is_one A B a b v = at_most_both (A v) (B v) (a.below B b.closed v) (b.below A a.closed v)
