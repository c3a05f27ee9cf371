-- Worths as they are summed, and the greatest of them.
use Rattle.std.specs.Prelude.{ℕ, ◌≡◌, Bool, true, false, cond, not, ◌&&◌, nat_eq, List, Option, Some, None, ℤ, pos, int_lt, ◌≤ℤ◌, FitsSigned, unwrap_or}
use Rattle.std.specs.Int.{w128}
use Rattle.std.specs.List.{All}
use Rattle.std.specs.Map.{lookup}
use Rattle.hip_types.specs.declared.number.Scalar.{Scalar}
use Rattle.hip_types.specs.declared.number.Scalar.TheVariants.{Int, Ptr}
use Rattle.hip_tree.specs.declared.instr.Arg.{Arg}
use Rattle.hip_tree.specs.Sites.{same_site}
use Rattle.hip_tree.specs.declared.site.Site.{Site}
use Rattle.hip_runs.specs.Found.Scores.{is_marked, worth, worth_in, worth_of}
use Rattle.hip_runs.specs.declared.report.Mark.{Mark}
use Rattle.hip_runs.specs.declared.report.Marks.{Marks}

-- What a mark adds to the worth of an operand; 0 if it is of another operand.
abbrev pub added_by : List ℕ → Mark → Site → ℕ → ℤ
added_by hit mark site operand =
    cond (same_site mark.site site && nat_eq mark.operand operand) (worth_of (is_marked hit mark.object)) (pos 0)

-- Whether an argument has the type `ptr`.
abbrev pub is_pointer : Arg → Bool
is_pointer a = has_pointer a.ty
  where
    has_pointer : Scalar → Bool
    has_pointer Ptr = true
    has_pointer (Int w) = false

-- The greater of a worth and the greatest one so far.
abbrev pub greatest : Option ℤ → ℤ → Option ℤ
greatest None a = Some a
greatest (Some b) a = Some (cond (int_lt b a) a b)

-- ---- the limit of scores

-- No operand has a worth above this one.
abbrev pub IsLimit : Marks → ℤ → Type 0
IsLimit marks limit = (site : Site) (operand : ℕ) → worth marks site operand ≤ℤ limit

-- Whether there is a score, and it is not below the limit.
abbrev pub is_at_limit : Option ℤ → ℤ → Bool
is_at_limit None limit = false
is_at_limit (Some a) limit = not (int_lt a limit)

-- ---- the table of worths

-- A site, and the number of one of its pointer operands.
abbrev pub OperandKey : Type 0
OperandKey = Site × ℕ

-- Whether two keys are of the same pointer operand of the same site.
abbrev pub same_operand : OperandKey → OperandKey → Bool
same_operand a b = same_site a.0 b.0 && nat_eq a.1 b.1

-- The worth that the table gives an operand; 0 if it gives none.
abbrev pub worth_among : List (OperandKey × ℤ) → OperandKey → ℤ
worth_among entries key = unwrap_or (lookup (same_operand key) entries) (pos 0)

-- The table has the worths by these marks.
pub record HasWorths (entries : List (OperandKey × ℤ)) (hit : List ℕ) (marks : List Mark) : Type 0 where
  pub worth : (site : Site) (operand : ℕ) →
      worth_among entries (site, operand) ≡ worth_in hit site operand marks (pos 0)

-- The greater of two numbers.
abbrev pub greater_one : ℤ → ℤ → ℤ
greater_one a b = cond (int_lt a b) b a

-- The number is at least 0, and at least each worth in the table.
abbrev pub IsBound : List (OperandKey × ℤ) → ℤ → Type 0
IsBound entries n = (pos 0 ≤ℤ n) × All (λ e. e.1 ≤ℤ n) entries

-- The greatest of 0 and the worths in the table: the least bound.
pub record IsGreatest (entries : List (OperandKey × ℤ)) (greatest : ℤ) : Type 0 where
  pub bounds : IsBound entries greatest
  pub least : (n : ℤ) → IsBound entries n → greatest ≤ℤ n

-- The table has the worths by these marks. The greatest of them and of 0 is this number, which fits 128 bits.
pub record IsWorthTable (entries : List (OperandKey × ℤ)) (greatest : ℤ) (marks : Marks) : Type 0 where
  pub worths : HasWorths entries marks.hit marks.pointed
  pub is_greatest : IsGreatest entries greatest
  pub fits : FitsSigned w128 greatest
