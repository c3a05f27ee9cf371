-- Marks are equal exactly where the test of the definitions says so.
use Rattle.std.proofs.Common.{◌≡◌, refl, ℕ, true, sym, ◌∙◌}
use Rattle.hip_tree.specs.declared.site.Site.{Site}
use Rattle.hip_runs.specs.Found.Marks.{same_mark}
use Rattle.hip_runs.specs.Laws.Found.FoundLaws.{same_mark_equal}
use Rattle.hip_runs.specs.contracts.report.MarkPartialEq.TheImpl as impl
use Rattle.hip_runs.specs.declared.event.Object.{Object}
use Rattle.hip_runs.specs.declared.event.Object.TheVariants.{Global, Slot}
use Rattle.hip_runs.specs.declared.report.Mark.{Mark}

abbrev mark : Site → ℕ → Object → Mark
mark s k o = record { site = s; operand = k; object = o }

alike_by_parts : (s : Site) (k : ℕ) (o : Object) (s' : Site) (k' : ℕ) (o' : Object) → impl.eq-value.it (mark s k o) (mark s' k' o') ≡ same_mark (mark s k o) (mark s' k' o')
alike_by_parts s k (Global g) s' k' (Global g') = refl
alike_by_parts s k (Global g) s' k' (Slot x) = refl
alike_by_parts s k (Slot x) s' k' (Global g') = refl
alike_by_parts s k (Slot x) s' k' (Slot x') = refl

pub marks_alike : (a b : Mark) → impl.eq-value.it a b ≡ same_mark a b
marks_alike a b = alike_by_parts a.site a.operand a.object b.site b.operand b.object

pub same_marks : (a b : Mark) → impl.eq-value.it a b ≡ true → a ≡ b
same_marks a b e = same_mark_equal a b (sym (marks_alike a b) ∙ e)
