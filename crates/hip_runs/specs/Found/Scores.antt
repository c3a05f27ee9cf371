-- The score of a site: how likely its pointers are to point into persistent memory. (This project's own; no claim is
-- made about the Hippocrates tool's score.)
use Rattle.std.specs.Prelude.{ℕ, suc, Bool, true, false, cond, ◌&&◌, nat_eq, List, [], ◌∷◌, Option, Some, None, ℤ, pos, negsuc, ◌+ℤ◌, int_lt}
use Rattle.std.specs.List.{list_any}
use Rattle.hip_tree.specs.Sites.{instr_of, same_site}
use Rattle.hip_tree.specs.declared.instr.Instr.{Instr}
use Rattle.hip_tree.specs.declared.instr.Operand.{Operand}
use Rattle.hip_tree.specs.declared.program.Program.{Program}
use Rattle.hip_tree.specs.declared.site.Site.{Site}
use Rattle.hip_runs.specs.declared.event.Object.{Object}
use Rattle.hip_runs.specs.declared.report.Findings.{Findings}
use Rattle.hip_runs.specs.declared.report.Mark.{Mark}
use Rattle.hip_runs.specs.declared.report.Marks.{Marks}
use Rattle.hip_runs.specs.Found.Marks.{pointer_operands}
use Rattle.hip_runs.specs.declared.event.Object.TheVariants as objects

-- A persistent global that was stored into is marked; blocks on the stack and other globals are not.
abbrev pub is_marked : List ℕ → Object → Bool
is_marked hit (objects.Global g) = list_any (nat_eq g) hit
is_marked hit (objects.Slot s) = false

-- The worth of an object: 1 if it is marked, else -1.
abbrev pub worth_of : Bool → ℤ
worth_of true = pos 1
worth_of false = negsuc 0

-- Of the objects that an operand pointed into, the number of marked ones less the number of the others.
abbrev pub worth_in : List ℕ → Site → ℕ → List Mark → ℤ → ℤ
worth_in hit site operand [] sum = sum
worth_in hit site operand (m ∷ ms) sum =
    worth_in hit site operand ms
    (cond (same_site m.site site && nat_eq m.operand operand) (sum +ℤ worth_of (is_marked hit m.object)) sum)

-- The worth of an operand of a site.
abbrev pub worth : Marks → Site → ℕ → ℤ
worth marks site operand = worth_in marks.hit site operand marks.pointed (pos 0)

-- The greater of two numbers, or the first if there is no second.
abbrev pub greater : ℤ → Option ℤ → Option ℤ
greater a None = Some a
greater a (Some b) = Some (cond (int_lt a b) b a)

-- The greatest worth of these operands of a site, the first of which has number k; none if there is no operand.
abbrev pub greatest_worth : Marks → Site → ℕ → List Operand → Option ℤ
greatest_worth marks site k [] = None
greatest_worth marks site k (o ∷ os) = greater (worth marks site k) (greatest_worth marks site (suc k) os)

-- The pointer operands of an instruction; none if there is no instruction.
abbrev pub operands_at : Program → Option Instr → List Operand
operands_at P None = []
operands_at P (Some i) = pointer_operands P i

-- The score of a site is the greatest worth of its pointer operands. A site without a pointer operand has no score.
abbrev pub score : Program → Findings → Site → Option ℤ
score P found site = greatest_worth found.marks site 0 (operands_at P (instr_of P site))

-- ---- the worths of all operands, by one pass over the marks

-- A row of a table of worths: an operand of a site, and its worth so far.
pub record Worth : Type 0 where
  pub site : Site
  pub operand : ℕ
  pub worth : ℤ

-- Whether a row of the table is that of an operand of a site.
abbrev pub is_worth_of : Worth → Site → ℕ → Bool
is_worth_of w site operand = same_site w.site site && nat_eq w.operand operand

-- The worth that a table gives an operand of a site; 0 if it has none.
abbrev pub worth_at : List Worth → Site → ℕ → ℤ
worth_at [] site operand = pos 0
worth_at (w ∷ ws) site operand = cond (is_worth_of w site operand) w.worth (worth_at ws site operand)

-- The table after one more mark.
abbrev pub with_mark : List ℕ → List Worth → Mark → List Worth
with_mark hit [] m =
    record { site = m.site; operand = m.operand; worth = pos 0 +ℤ worth_of (is_marked hit m.object) } ∷ []
with_mark hit (w ∷ ws) m =
    cond (is_worth_of w m.site m.operand)
    (record { site = w.site; operand = w.operand; worth = w.worth +ℤ worth_of (is_marked hit m.object) } ∷ ws)
    (w ∷ with_mark hit ws m)

-- The table after these marks, in order, where the globals of these numbers were stored into.
abbrev pub worths_from : List ℕ → List Worth → List Mark → List Worth
worths_from hit ws [] = ws
worths_from hit ws (m ∷ ms) = worths_from hit (with_mark hit ws m) ms

-- The worths of all operands that the marks name.
abbrev pub worths : Marks → List Worth
worths marks = worths_from marks.hit [] marks.pointed
