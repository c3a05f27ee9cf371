-- The limit of worths is a limit of scores, and no level is better than one whose score is at the limit.
use Rattle.std.proofs.Common.{◌≡◌, ℕ, zero, suc, ◌+◌, Bool, true, false, cond, not, List, [], ◌∷◌, length, Option, Some, None, refl, ap, ◌∙◌, subst, arith, ℤ, pos, ◌≤ℤ◌}
use Rattle.std.specs.List.{All}
use Rattle.std.specs.Map.{lookup}
use Rattle.std.specs.Prelude.{◌↔◌, int_lt, unwrap_or}
use Rattle.std.proofs.lemmas.Int.{ints}
use Rattle.std.proofs.lemmas.List.Elements.{All-cons, All-head, All-nil, All-tail}
use Rattle.hip_tree.specs.declared.instr.Operand.{Operand}
use Rattle.hip_tree.specs.declared.program.Program.{Program}
use Rattle.hip_tree.specs.declared.site.Site.{Site}
use Rattle.hip_tree.specs.Sites.{instr_of}
use Rattle.hip_runs.specs.Found.Scores.{greater, greatest_worth, operands_at, score, worth}
use Rattle.hip_runs.specs.declared.report.Findings.{Findings}
use Rattle.hip_runs.specs.declared.report.Marks.{Marks}
use Rattle.hip_repairs.specs.Choice.{Candidate, best_of, better, is_better}
use Rattle.hip_plan.specs.Worths.{IsBound, IsGreatest, IsLimit, IsWorthTable, OperandKey, greater_one, is_at_limit, same_operand}
use Rattle.hip_plan.proofs.Sums.{IsWithin, worth_within}

-- ---- no score is above the limit

abbrev IsAtMost : ℤ → Option ℤ → Type 0
IsAtMost limit None = Unit {0}
IsAtMost limit (Some a) = a ≤ℤ limit

either_at_most : (limit : ℤ) (t : Bool) (a b : ℤ) → a ≤ℤ limit → b ≤ℤ limit → cond t b a ≤ℤ limit
either_at_most limit true a b h g = g
either_at_most limit false a b h g = h

greater_at_most : (limit a : ℤ) (o : Option ℤ) → a ≤ℤ limit → IsAtMost limit o → IsAtMost limit (greater a o)
greater_at_most limit a None h g = h
greater_at_most limit a (Some b) h g = either_at_most limit (int_lt a b) a b h g

greatest_at_most : (marks : Marks) (limit : ℤ) → IsLimit marks limit → (site : Site) (k : ℕ) (os : List Operand) → IsAtMost limit (greatest_worth marks site k os)
greatest_at_most marks limit is site k [] = tt
greatest_at_most marks limit is site k (o ∷ os) =
    greater_at_most limit (worth marks site k) (greatest_worth marks site (suc k) os) (is site k) (greatest_at_most marks limit is site (suc k) os)

none_above : (limit a b : ℤ) → not (int_lt a limit) ≡ true → b ≤ℤ limit → int_lt a b ≡ false
none_above limit a b h g = grind (arith, ints)

none_better : (limit : ℤ) (best new : Option ℤ) → is_at_limit best limit ≡ true → IsAtMost limit new → is_better best new ≡ false
none_better limit None new h g = absurd (let z : ⊥ = cc in z)
none_better limit (Some a) None h g = refl
none_better limit (Some a) (Some b) h g = none_above limit a b h g

-- ---- no level is better

module _ (P : Program) (found : Findings) (limit : ℤ) (is : IsLimit found.marks limit) (best : Candidate) (h : is_at_limit best.score limit ≡ true) where
  best_stays : (level : ℕ) (site : Site) → better best (record { level = level; score = score P found site }) ≡ best
  best_stays level site =
      ap (λ t. cond t (record { level = level; score = score P found site }) best)
      (none_better limit best.score (score P found site) h (greatest_at_most found.marks limit is site 0 (operands_at P (instr_of P site))))

  pub best_already : (level more : ℕ) (calls : List Site) → best_of P found best level more calls ≡ best
  best_already level zero calls = refl
  best_already level (suc more) [] = refl
  best_already level (suc more) (site ∷ calls) =
      ap (λ (c : Candidate). best_of P found c (suc level) more calls) (best_stays level site) ∙ best_already (suc level) more calls

-- ---- limits of worths

-- No worth exceeds the number of marks.
pub marks_limit : (marks : Marks) → IsLimit marks (pos (length marks.pointed))
marks_limit marks site operand =
    let none : IsWithin 0 (pos 0) = record { least = omega (arith, ints); most = omega (arith, ints) } in
    let same : 0 + length marks.pointed ≡ length marks.pointed = omega arith in
    subst (λ (n : ℕ). worth marks site operand ≤ℤ pos n) same (worth_within marks.hit site operand marks.pointed (pos 0) 0 none).most

greater_than : (a b : ℤ) → (a ≤ℤ greater_one a b) × (b ≤ℤ greater_one a b)
greater_than a b = (grind (arith, ints), grind (arith, ints))

found_at_most : (n : ℤ) (es : List (OperandKey × ℤ)) (key : OperandKey) → pos 0 ≤ℤ n → All (λ e. e.1 ≤ℤ n) es
    → unwrap_or (lookup (same_operand key) es) (pos 0) ≤ℤ n
found_at_most n [] key h all = h
found_at_most n (e ∷ es) key h all =
    by (same_operand key e.0) (All-head (λ e. e.1 ≤ℤ n) e es all)
    (found_at_most n es key h (All-tail (λ e. e.1 ≤ℤ n) e es all))
  where
    by : (t : Bool) → e.1 ≤ℤ n → unwrap_or (lookup (same_operand key) es) (pos 0) ≤ℤ n
        → unwrap_or (cond t (Some e.1) (lookup (same_operand key) es)) (pos 0) ≤ℤ n
    by true here later = here
    by false here later = later

-- No worth exceeds the greatest worth in the table.
pub table_limit : (entries : List (OperandKey × ℤ)) (greatest : ℤ) (marks : Marks) → IsWorthTable entries greatest marks → IsLimit marks greatest
table_limit entries greatest marks table site operand =
    let bounds = table.is_greatest.bounds in
    subst (λ (z : ℤ). z ≤ℤ greatest) (table.worths.worth site operand)
    (found_at_most greatest entries (site, operand) bounds.0 bounds.1)

-- ---- the greatest worth in the table

-- A number bounds the greatest worth so far and the worths that are left exactly if it bounds all of them.
abbrev pub AreBounds : ℤ → List (OperandKey × ℤ) → List (OperandKey × ℤ) → Type 0
AreBounds so_far left entries = (n : ℤ) → ((so_far ≤ℤ n) × All (λ e. e.1 ≤ℤ n) left) ↔ IsBound entries n

pub no_bounds : (entries : List (OperandKey × ℤ)) → AreBounds (pos 0) entries entries
no_bounds entries n = (λ h. h, λ h. h)

pub more_bounds : (so_far : ℤ) (e : OperandKey × ℤ) (left entries : List (OperandKey × ℤ))
    → AreBounds so_far (e ∷ left) entries → AreBounds (greater_one so_far e.1) left entries
more_bounds so_far e left entries h n = (
  λ g. (h n).0 (first n g.0, All-cons (λ e. e.1 ≤ℤ n) e left (second n g.0) g.1),
  λ b. let g = (h n).1 b in (
    either_at_most n (int_lt so_far e.1) so_far e.1 g.0 (All-head (λ e. e.1 ≤ℤ n) e left g.1),
    All-tail (λ e. e.1 ≤ℤ n) e left g.1,
  ),
)
  where
    first : (n : ℤ) → greater_one so_far e.1 ≤ℤ n → so_far ≤ℤ n
    first n g = let here = (greater_than so_far e.1).0 in omega (arith, ints, here, g)

    second : (n : ℤ) → greater_one so_far e.1 ≤ℤ n → e.1 ≤ℤ n
    second n g = let here = (greater_than so_far e.1).1 in omega (arith, ints, here, g)

pub all_bounds : (greatest : ℤ) (entries : List (OperandKey × ℤ)) → AreBounds greatest [] entries → IsGreatest entries greatest
all_bounds greatest entries h = record {
  bounds = (h greatest).0 (omega (arith, ints), All-nil (λ e. e.1 ≤ℤ greatest));
  least = λ n b. ((h n).1 b).0;
}
