-- The cases of a switch in the order of their values.
use Rattle.std.proofs.Common.{◌≡◌, ℕ, zero, suc, Bool, true, false, cond, nat_eq, nat_cmp, is_lt, not, ◌&&◌, List, [], ◌∷◌, filter, All, Some, slice_get, refl, sym, ap, ◌∙◌, subst, arith}
use Rattle.std.proofs.lemmas.Bool.Decides.{nat_tests}
use Rattle.std.proofs.lemmas.List.Elements.{All-cons, All-head, All-nil, All-tail}
use Rattle.std.proofs.lemmas.List.Sorted.{All-permutation, IsNonDecreasingBy-from_sort}
use Rattle.std.specs.List.Sorted.{IsPermutation, IsSortedByKey, IsStableByKey, ties}
use Rattle.hip_tree.specs.declared.block.Case as named_case
use Rattle.hip_tree.specs.declared.program.Program.{Program}
use Rattle.hip_runs.specs.Actions.{case_label}
use Rattle.hip_runs.specs.declared.input.Input.{Input}
use Rattle.hip_code.specs.Edges.{AreCases, IsEdge}
use Rattle.hip_code.specs.Numbers.{Tables}
use Rattle.hip_code.specs.Ops.{case_edge}
use Rattle.hip_code.specs.declared.op.EdgeCase.{EdgeCase}
use Rattle.hip_end_ops.specs.Switched.{IsSorted, are_cases}

-- ---- a stable sort by value

abbrev below : EdgeCase → EdgeCase → Bool
below c d = is_lt (nat_cmp c.value d.value)

tied_is : (v w : ℕ) → not (is_lt (nat_cmp v w)) && not (is_lt (nat_cmp w v)) ≡ nat_eq w v
tied_is v w = go (nat_eq w v) refl
  where
    go : (b : Bool) → nat_eq w v ≡ b → not (is_lt (nat_cmp v w)) && not (is_lt (nat_cmp w v)) ≡ b
    go true e = grind (arith, nat_tests)
    go false e = grind (arith, nat_tests)

abbrev head_edge : List EdgeCase → ℕ → ℕ
head_edge [] other = other
head_edge (c ∷ cs) other = c.edge

-- The first of the cases with a value is the first of those that tie with it.
by_ties : (v other : ℕ) (cs : List EdgeCase) → case_edge v cs other ≡ head_edge (filter (ties below (record { value = v; edge = 0 })) cs) other
by_ties v other [] = refl
by_ties v other (c ∷ cs) =
    go (nat_eq c.value v) _ (tied_is v c.value) (by_ties v other cs)
  where
    tied : List EdgeCase
    tied = filter (ties below (record { value = v; edge = 0 })) cs

    go : (b t : Bool) → t ≡ b → case_edge v cs other ≡ head_edge tied other → cond b c.edge (case_edge v cs other) ≡ head_edge (cond t (c ∷ tied) tied) other
    go true true e h = refl
    go false false e h = h
    go true false e h = absurd (let z : ⊥ = cc in z)
    go false true e h = absurd (let z : ⊥ = cc in z)

pub is_sorted : (cs sorted : List EdgeCase) → IsSortedByKey (λ (c : EdgeCase). c.value) nat_cmp sorted → IsPermutation cs sorted → IsStableByKey (λ (c : EdgeCase). c.value) nat_cmp cs sorted → IsSorted cs sorted
is_sorted cs sorted up same stable = record {
  ascend = IsNonDecreasingBy-from_sort (λ c. c.value) sorted up;
  same = same;
  first = λ v other. by_ties v other sorted ∙ ap (λ l. head_edge l other) (stable (record { value = v; edge = 0 })) ∙ sym (by_ties v other cs);
}

-- ---- edges of the cases

module _ (Leads : ℕ → List ℕ → Type 0) where
  abbrev pub Leading : EdgeCase → Type 0
  Leading c = (label : List ℕ) × Leads c.edge label

  pub all_lead : (cs : List EdgeCase) (ds : List named_case.Case) → are_cases Leads cs ds → All Leading cs
  all_lead [] ds a = All-nil Leading
  all_lead (c ∷ cs) [] a = absurd a
  all_lead (c ∷ cs) (d ∷ ds) a = All-cons Leading c cs (d.label, a.1) (all_lead cs ds a.2)

  pub leads_at : (cs : List EdgeCase) (k : ℕ) (c : EdgeCase) → All Leading cs → slice_get cs k ≡ Some c → Leading c
  leads_at [] k c h e = absurd (let z : ⊥ = cc in z)
  leads_at (x ∷ cs) zero c h e = let same : x ≡ c = cc in subst Leading same (All-head Leading x cs h)
  leads_at (x ∷ cs) (suc k) c h e = leads_at cs k c (All-tail Leading x cs h) e

  chosen : (b : Bool) (one other : ℕ) (first second : List ℕ) → Leads one first → Leads other second → Leads (cond b one other) (cond b first second)
  chosen true one other first second p q = p
  chosen false one other first second p q = q

  pub case_taken : (v other : ℕ) (label : List ℕ) (cs : List EdgeCase) (ds : List named_case.Case) → are_cases Leads cs ds → Leads other label → Leads (case_edge v cs other) (case_label v ds label)
  case_taken v other label [] [] a e = e
  case_taken v other label [] (d ∷ ds) a e = absurd a
  case_taken v other label (c ∷ cs) [] a e = absurd a
  case_taken v other label (c ∷ cs) (d ∷ ds) a e =
      subst (λ u. Leads (cond (nat_eq u v) c.edge (case_edge v cs other)) (cond (nat_eq d.value.value v) d.label (case_label v ds label))) (sym a.0)
      (chosen (nat_eq d.value.value v) c.edge (case_edge v cs other) d.label (case_label v ds label) a.1 (case_taken v other label cs ds a.2 e))

pub cases_also : (Leads Other : ℕ → List ℕ → Type 0) → ((n : ℕ) (label : List ℕ) → Leads n label → Other n label) → (cs : List EdgeCase) (ds : List named_case.Case) → are_cases Leads cs ds → are_cases Other cs ds
cases_also Leads Other f [] [] a = tt
cases_also Leads Other f [] (d ∷ ds) a = absurd a
cases_also Leads Other f (c ∷ cs) [] a = absurd a
cases_also Leads Other f (c ∷ cs) (d ∷ ds) a = (a.0, f c.edge d.label a.1, cases_also Leads Other f cs ds a.2)

pub sorted_are : (P : Program) (I : Input) (f b : ℕ) (tables : Tables) (cs sorted : List EdgeCase) (ds : List named_case.Case) → IsSorted cs sorted → are_cases (IsEdge P I f b tables) cs ds → AreCases P I f b tables sorted ds
sorted_are P I f b tables cs sorted ds is a =
    let Edged = IsEdge P I f b tables in
    record {
      ascend = is.ascend;
      each = λ k c e. leads_at Edged sorted k c (All-permutation (Leading Edged) cs sorted is.same (all_lead Edged cs ds a)) e;
      taken = λ v other label e. subst (λ n. IsEdge P I f b tables n (case_label v ds label)) (sym (is.first v other)) (case_taken Edged v other label cs ds a e);
    }
