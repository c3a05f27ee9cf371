-- What tables of rules and of levels represent.
use Rattle.std.proofs.Common.{◌≡◌, ⊎_elim, inl, inr, ℕ, zero, suc, ◌+◌, ◌<◌, ◌≤◌, Bool, true, false, cond, nat_eq, nat_lt, List, [], ◌∷◌, ◌++◌, length, map, Option, Some, None, slice_get, refl, sym, ap, ◌∙◌, subst, arith, ltb-true}
use Rattle.std.specs.Prelude.{unwrap_or, is_some, position, option_map, not}
use Rattle.std.specs.Cmp.{IsEquivalence}
use Rattle.std.specs.List.{IsDistinct, position_or_len}
use Rattle.std.proofs.lemmas.Bool.Decides.{nat_tests}
use Rattle.hip_types.specs.Distinct.{met}
use Rattle.hip_types.specs.Laws.DistinctLaws.{met-distinct, met-kept}
use Rattle.hip_runs.specs.StoredParts.Parts.{In}
use Rattle.hip_runs.specs.Laws.PartLaws.{in-map, in-append}
use Rattle.hip_invariants.specs.PointerLevels.{PointerLevel, is_at_most, after_offset}
use Rattle.hip_vol.specs.declared.numbered.Least as numbered_least
use Rattle.hip_vol.specs.declared.numbered.Least.TheVariants as numbered
use Rattle.hip_vol.specs.declared.numbered.LevelRule as numbered_rule
use Rattle.hip_vol.specs.Bounds.{Variable, LevelRule, Assignment, Result, AtOffset, bound_in, same_variable}
use Rattle.hip_vol.specs.Closed.{is_level, IsMet, IsClosedUnder, IsLeast}
use Rattle.hip_vol.specs.Numbered.{offset_rank, reached_by, at, reached, LeastIsWithin, RuleIsWithin, AreWithin, AreMetBy, IsBelowAll}
use Rattle.hip_vol.specs.Tables.{level_of, variable_at, least_named, named, IsNumberedTable, VariablesGrow, leveled, level_among}
use Rattle.hip_vol.proofs.LevelOrder.{zero_at_most, same_variable_is, same_as_itself}
use Rattle.hip_vol.proofs.LeastLevels.{rank, rank_more, knows_level, bound_is_level}

-- ---- variables

pub variables_equal : IsEquivalence same_variable
variables_equal = record {
  refl = same_as_itself;
  symm = λ v w. symmetric v w (same_variable v w) (same_variable w v) refl refl;
  congr = λ v w u e. ap (λ x. same_variable x u) (same_variable_is v w e);
}
  where
    from : (v w : Variable) → same_variable v w ≡ true → same_variable w v ≡ true
    from v w e = subst (λ x. same_variable w x ≡ true) (sym (same_variable_is v w e)) (same_as_itself w)

    symmetric : (v w : Variable) (b c : Bool) → same_variable v w ≡ b → same_variable w v ≡ c → same_variable v w ≡ same_variable w v
    symmetric v w true c e f = e ∙ sym (from v w e)
    symmetric v w false true e f = from w v f ∙ sym f
    symmetric v w false false e f = e ∙ sym f

get_there : (vs : List Variable) (k : ℕ) → k < length vs → slice_get vs k ≡ Some (variable_at vs k)
get_there [] k lt = absurd (omega arith)
get_there (x ∷ vs) zero lt = refl
get_there (x ∷ vs) (suc k) lt = get_there vs k (omega arith)

get_within : (vs : List Variable) (k : ℕ) (v : Variable) → slice_get vs k ≡ Some v → k < length vs
get_within [] k v e = cc
get_within (x ∷ vs) zero v e = omega arith
get_within (x ∷ vs) (suc k) v e = let rest = get_within vs k v e in omega arith

-- The variables after one more.
abbrev pub added : List Variable → Variable → List Variable
added vs v = met same_variable vs (v ∷ [])

added_kept : (vs : List Variable) (v : Variable) (k : ℕ) → k < length vs → (k < length (added vs v)) × (variable_at (added vs v) k ≡ variable_at vs k)
added_kept vs v k lt =
    let there : slice_get (added vs v) k ≡ Some (variable_at vs k) = met-kept same_variable vs (v ∷ []) k (variable_at vs k) (get_there vs k lt) in
    (get_within (added vs v) k (variable_at vs k) there, ap (λ o. unwrap_or o (Result 0)) there)

pub grows_by_one : (vs : List Variable) (v : Variable) → VariablesGrow vs (added vs v)
grows_by_one vs v = record { kept = added_kept vs v; distinct = met-distinct variables_equal vs (v ∷ []) }

pub grows_not : (vs : List Variable) → VariablesGrow vs vs
grows_not vs = record { kept = λ k lt. (lt, refl); distinct = λ d. d }

pub grows_twice : (vs ws us : List Variable) → VariablesGrow vs ws → VariablesGrow ws us → VariablesGrow vs us
grows_twice vs ws us g h = record {
  kept = λ k lt. let one = g.kept k lt in let two = h.kept k one.0 in (two.0, two.1 ∙ one.1);
  distinct = λ d. h.distinct (g.distinct d);
}

pub there_within : (vs : List Variable) (k : ℕ) (v : Variable) → slice_get vs k ≡ Some v → (k < length vs) × (variable_at vs k ≡ v)
there_within vs k v e = (get_within vs k v e, ap (λ o. unwrap_or o (Result 0)) e)

-- ---- rules whose variables are numbered

pub least_kept : (vs ws : List Variable) → VariablesGrow vs ws → (l : numbered_least.Least) → LeastIsWithin (length vs) l → LeastIsWithin (length ws) l × (least_named ws l ≡ least_named vs l)
least_kept vs ws g (numbered.Known level) w = (w, refl)
least_kept vs ws g (numbered.AtOffset offset k) w = let kept = g.kept k w in (kept.0, ap (AtOffset offset) kept.1)

rule_kept : (vs ws : List Variable) → VariablesGrow vs ws → (r : numbered_rule.LevelRule) → RuleIsWithin (length vs) r → RuleIsWithin (length ws) r × (named ws r ≡ named vs r)
rule_kept vs ws g r w =
    let variable = g.kept r.variable w.variable in
    let least = least_kept vs ws g r.least w.least in
    (record { variable = variable.0; least = least.0 }, λ i. record { variable = variable.1 i; least = least.1 i })

pub table_grown : (vs ws : List Variable) (rs : List numbered_rule.LevelRule) → VariablesGrow vs ws → IsNumberedTable vs rs → IsNumberedTable ws rs
table_grown vs ws rs g t = record {
  distinct = g.distinct t.distinct;
  within = record { each = λ r i. (rule_kept vs ws g r (t.within.each r i)).0 };
}

pub named_grown : (vs ws : List Variable) → VariablesGrow vs ws → (rs : List numbered_rule.LevelRule) → AreWithin (length vs) rs → map (named ws) rs ≡ map (named vs) rs
named_grown vs ws g [] w = refl
named_grown vs ws g (r ∷ rs) w = λ i. (rule_kept vs ws g r (w.each r (inl refl))).1 i ∷ named_grown vs ws g rs (record { each = λ s m. w.each s (inr m) }) i

-- A table stays a table if a rule is added at its end.
pub table_next : (vs : List Variable) (rs : List numbered_rule.LevelRule) (r : numbered_rule.LevelRule) → IsNumberedTable vs rs → RuleIsWithin (length vs) r → IsNumberedTable vs (rs ++ r ∷ [])
table_next vs rs r t w = record {
  distinct = t.distinct;
  within = record { each = λ s i. ⊎_elim (t.within.each s) (λ m. ⊎_elim (λ e. subst (RuleIsWithin (length vs)) (sym e) w) (λ z. absurd z) m) (in-append rs (r ∷ []) s i) };
}

pub empty_table : IsNumberedTable [] []
unfolding IsDistinct
empty_table = record { distinct = tt; within = record { each = λ r i. absurd i } }

-- ---- levels in a table

abbrev pub level_in : List Variable → List ℕ → Assignment
level_in vs levels v = level_among (leveled vs levels) v

pub level_is_level : (n : ℕ) → is_level (level_of n)
level_is_level n = go (nat_lt n 33) refl
  where
    go : (b : Bool) → nat_lt n 33 ≡ b → is_level (cond b (Some n) None)
    go true e = let lt : n < 33 = ltb-true n 33 e in omega arith
    go false e = tt

chosen_level : (b : Bool) (a c : PointerLevel) → is_level a → is_level c → is_level (cond b a c)
chosen_level true a c p q = p
chosen_level false a c p q = q

in_is_level : (vs : List Variable) (levels : List ℕ) (v : Variable) → is_level (level_in vs levels v)
in_is_level [] levels v = omega arith
in_is_level (x ∷ vs) [] v = omega arith
in_is_level (x ∷ vs) (n ∷ levels) v = chosen_level (same_variable v x) (level_of n) (level_in vs levels v) (level_is_level n) (in_is_level vs levels v)

other_later : (x : Variable) (vs : List Variable) (k : ℕ) → IsDistinct same_variable (x ∷ vs) → k < length vs → same_variable x (variable_at vs k) ≡ false
unfolding IsDistinct
other_later x [] k d lt = absurd (omega arith)
other_later x (y ∷ vs) zero d lt = d.0.0
other_later x (y ∷ vs) (suc k) d lt = other_later x vs k (d.0.1, d.1.1) (omega arith)

later_distinct : (x : Variable) (vs : List Variable) → IsDistinct same_variable (x ∷ vs) → IsDistinct same_variable vs
unfolding IsDistinct
later_distinct x vs d = d.1

-- The variable of a number has the level at that number.
level_there : (vs : List Variable) (levels : List ℕ) (k : ℕ) → IsDistinct same_variable vs → length levels ≡ length vs → k < length vs → level_in vs levels (variable_at vs k) ≡ level_of (at levels k)
level_there [] levels k d same lt = absurd (omega arith)
level_there (x ∷ vs) [] k d same lt = absurd (omega arith)
level_there (x ∷ vs) (n ∷ levels) zero d same lt = ap (λ b. cond b (level_of n) (level_in vs levels x)) (same_as_itself x)
level_there (x ∷ vs) (n ∷ levels) (suc k) d same lt =
    ap (λ b. cond b (level_of n) (level_in vs levels (variable_at vs k))) (variables_equal.symm (variable_at vs k) x ∙ other_later x vs k d (omega arith))
    ∙ level_there vs levels k (later_distinct x vs d) (omega arith) (omega arith)

-- ---- ranks

pub rank_of_level : (n : ℕ) → n ≤ 33 → rank (level_of n) ≡ n
rank_of_level n le = go (nat_lt n 33) refl
  where
    go : (b : Bool) → nat_lt n 33 ≡ b → rank (cond b (Some n) None) ≡ n
    go true e = refl
    go false e = let ge : 33 ≤ n = grind (arith, nat_tests) in omega arith

pub level_of_rank : (a : PointerLevel) → is_level a → level_of (rank a) ≡ a
level_of_rank None h = refl
level_of_rank (Some t) h = let e : nat_lt t 33 ≡ true = grind (arith, nat_tests) in ap (λ b. cond b (Some t) None) e

levels_at_most : (m n : ℕ) → m ≤ n → is_at_most (level_of m) (level_of n)
levels_at_most m n le = go (nat_lt m 33) (nat_lt n 33) refl refl
  where
    go : (b c : Bool) → nat_lt m 33 ≡ b → nat_lt n 33 ≡ c → is_at_most (cond b (Some m) None) (cond c (Some n) None)
    go b false e f = tt
    go true true e f = le
    go false true e f = let lt : n < 33 = ltb-true n 33 f in let ge : 33 ≤ m = grind (arith, nat_tests) in absurd (omega arith)

pub rank_past : (a : PointerLevel) (offset : ℕ) → is_level a → rank (after_offset a offset) ≡ offset_rank (rank a) offset
rank_past None offset h = go (nat_eq offset 0) (nat_lt offset 67108864) 33
  where
    go : (x y : Bool) (n : ℕ) → n ≡ cond x n (cond y n n)
    go true y n = refl
    go false true n = refl
    go false false n = refl
rank_past (Some t) offset h = go (nat_eq offset 0) (nat_lt offset 67108864) (nat_lt t 32)
  where
    go : (x y z : Bool) → rank (cond x (Some t) (cond y (cond z (Some (suc t)) None) None)) ≡ cond x t (cond y (cond z (suc t) 33) 33)
    go true y z = refl
    go false true true = refl
    go false true false = refl
    go false false z = refl

-- ---- the levels that a table ends with

module _ (vs : List Variable) (rs : List numbered_rule.LevelRule) (levels : List ℕ) (t : IsNumberedTable vs rs) (long : length levels ≡ length vs) (below : IsBelowAll rs levels) (met : AreMetBy (at levels) rs) where
  -- A bound means the level whose number it means in numbers.
  bound_is : (l : numbered_least.Least) → LeastIsWithin (length vs) l → bound_in (level_in vs levels) (least_named vs l) ≡ level_of (reached levels l)
  bound_is (numbered.Known level) w = refl
  bound_is (numbered.AtOffset offset k) w =
      let there : level_in vs levels (variable_at vs k) ≡ level_of (at levels k) = level_there vs levels k t.distinct long w in
      let ranked : rank (level_of (at levels k)) ≡ at levels k = rank_of_level (at levels k) (below.small k) in
      ap (λ a. after_offset a offset) there
      ∙ sym (level_of_rank (after_offset (level_of (at levels k)) offset) (bound_is_level (λ v. level_of (at levels k)) (λ v. level_is_level (at levels k)) (AtOffset offset (Result 0)) tt))
      ∙ ap level_of (rank_past (level_of (at levels k)) offset (level_is_level (at levels k)) ∙ ap (λ n. offset_rank n offset) ranked)

  table_met : (r : LevelRule) → In r (map (named vs) rs) → IsMet (level_in vs levels) r
  table_met r i =
      let m = in-map (named vs) rs r i in
      let w = t.within.each m.0 m.1 in
      subst (IsMet (level_in vs levels)) (sym m.2)
      (subst (λ a. is_at_most a (level_in vs levels (variable_at vs m.0.variable))) (sym (bound_is m.0.least w.least))
      (subst (is_at_most (level_of (reached levels m.0.least))) (sym (level_there vs levels m.0.variable t.distinct long w.variable)) (levels_at_most _ _ (met.each m.0 m.1))))

  module _ (B : Assignment) (closed : IsClosedUnder (map (named vs) rs) B) where
    abbrev ranks : ℕ → ℕ
    ranks k = rank (B (variable_at vs k))

    rank_is : (l : numbered_least.Least) → LeastIsWithin (length vs) l → reached_by ranks l ≡ rank (bound_in B (least_named vs l))
    rank_is (numbered.Known level) w = sym (rank_of_level level w)
    rank_is (numbered.AtOffset offset k) w = sym (rank_past (B (variable_at vs k)) offset (closed.levels (variable_at vs k)))

    known : (l : numbered_least.Least) → knows_level (least_named vs l)
    known (numbered.Known level) = level_is_level level
    known (numbered.AtOffset offset k) = tt

    in_mapped : (xs : List numbered_rule.LevelRule) (r : numbered_rule.LevelRule) → In r xs → In (named vs r) (map (named vs) xs)
    in_mapped [] r i = absurd i
    in_mapped (x ∷ xs) r (inl e) = inl (ap (named vs) e)
    in_mapped (x ∷ xs) r (inr i) = inr (in_mapped xs r i)

    ranks_meet : AreMetBy ranks rs
    ranks_meet = record {
      each = λ r i. subst (λ n. n ≤ ranks r.variable) (sym (rank_is r.least (t.within.each r i).least))
          (rank_more _ _ (bound_is_level B closed.levels (least_named vs r.least) (known r.least)) (closed.met (named vs r) (in_mapped rs r i)));
    }

    at_most_rank : (n : ℕ) (b : PointerLevel) → is_level b → n ≤ rank b → is_at_most (level_of n) b
    at_most_rank n b h le = subst (is_at_most (level_of n)) (level_of_rank b h) (levels_at_most n (rank b) le)

    among_below : (ws : List Variable) (ns : List ℕ) → ((k : ℕ) → k < length ws → at ns k ≤ rank (B (variable_at ws k))) → (v : Variable) → is_at_most (level_in ws ns v) (B v)
    among_below [] ns each v = zero_at_most (B v)
    among_below (x ∷ ws) [] each v = zero_at_most (B v)
    among_below (x ∷ ws) (n ∷ ns) each v = go (same_variable v x) refl (among_below ws ns (λ k lt. each (suc k) (omega arith)) v)
      where
        go : (b : Bool) → same_variable v x ≡ b → is_at_most (level_in ws ns v) (B v) → is_at_most (cond b (level_of n) (level_in ws ns v)) (B v)
        go true e rest = at_most_rank n (B v) (closed.levels v) (subst (λ w. n ≤ rank (B w)) (sym (same_variable_is v x e)) (each 0 (omega arith)))
        go false e rest = rest

    table_below : (v : Variable) → is_at_most (level_in vs levels v) (B v)
    table_below = among_below vs levels (λ k lt. below.least ranks ranks_meet k)

  pub table_is_least : IsLeast (map (named vs) rs) (level_among (leveled vs levels))
  table_is_least = record {
    closed = record { levels = in_is_level vs levels; met = table_met };
    below = table_below;
  }

-- ---- whether a variable is low

low_number : (b : Bool) (n : ℕ) → is_some {T = ℕ} (cond b (Some n) None) ≡ b
low_number true n = refl
low_number false n = refl

-- Whether the level of a number is low; true if there is no number.
abbrev pub low_beside : Option ℕ → Bool
low_beside None = true
low_beside (Some n) = nat_lt n 33

abbrev pub low_by : Option ℕ → List ℕ → Bool
low_by None levels = true
low_by (Some k) levels = low_beside (slice_get levels k)

placed : (b : Bool) (p n : ℕ) →
    cond (nat_lt (cond (not b) (1 + p) 0) (suc n)) (Some (cond (not b) (1 + p) 0)) None ≡ cond b (Some 0) (option_map suc (cond (nat_lt p n) (Some p) None))
placed true p n = grind (arith, nat_tests)
placed false p n = past (nat_lt p n) (nat_lt (1 + p) (suc n)) (grind (arith, nat_tests))
  where
    past : (b c : Bool) → c ≡ b → cond c (Some (1 + p)) None ≡ option_map suc (cond b (Some p) None)
    past true c e = let one : 1 + p ≡ suc p = omega arith in rw (e, one) refl
    past false c e = rw e refl

position-cons : (v x : Variable) (vs : List Variable) → position (same_variable v) (x ∷ vs) ≡ cond (same_variable v x) (Some 0) (option_map suc (position (same_variable v) vs))
position-cons v x vs = placed (same_variable v x) (position_or_len (same_variable v) vs) (length vs)

nothing_beside : (o : Option ℕ) → low_by o [] ≡ true
nothing_beside None = refl
nothing_beside (Some k) = refl

pub low_at_number : (vs : List Variable) (levels : List ℕ) (v : Variable) → is_some (level_among (leveled vs levels) v) ≡ low_by (position (same_variable v) vs) levels
low_at_number [] levels v = refl
low_at_number (x ∷ vs) [] v = sym (nothing_beside (position (same_variable v) (x ∷ vs)))
low_at_number (x ∷ vs) (n ∷ levels) v =
    by_first (same_variable v x) (low_at_number vs levels v) ∙ ap (λ o. low_by o (n ∷ levels)) (sym (position-cons v x vs))
  where
    later : (o : Option ℕ) → low_by o levels ≡ low_by (option_map suc o) (n ∷ levels)
    later None = refl
    later (Some k) = refl

    by_first : (b : Bool) → is_some (level_in vs levels v) ≡ low_by (position (same_variable v) vs) levels → is_some (cond b (level_of n) (level_in vs levels v)) ≡ low_by (cond b (Some 0) (option_map suc (position (same_variable v) vs))) (n ∷ levels)
    by_first true rest = low_number (nat_lt n 33) n
    by_first false rest = rest ∙ later (position (same_variable v) vs)
