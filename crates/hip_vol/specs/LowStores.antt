-- The stores whose address is never in the region, as the levels of pointers show.
use Rattle.std.specs.Prelude.{ℕ, Bool, false, Option, Some, is_some}
use Rattle.hip_tree.specs.Sites.{instr_of}
use Rattle.hip_tree.specs.declared.instr.Instr.{Instr}
use Rattle.hip_tree.specs.declared.instr.Instr.TheVariants.{Store}
use Rattle.hip_tree.specs.declared.program.Program.{Program}
use Rattle.hip_tree.specs.declared.site.Site.{Site}
use Rattle.hip_vol.specs.Bounds.{Assignment, bound_in}
use Rattle.hip_vol.specs.Closed.{least_of}
use Rattle.hip_vol.specs.Rules.{operand_bound, level_rules}

-- The least closed assignment of a program's levels. (This project's own, as all of this file.)
abbrev pub least_levels : Program → Assignment
least_levels P = least_of (level_rules P)

-- The site has a store whose address operand has another level than Free.
abbrev pub stores_low : Program → Assignment → ℕ → Option Instr → Bool
stores_low P A g (Some (Store ty value addr align)) = is_some (bound_in A (operand_bound P g addr))
stores_low P A g _ = false

-- The stores whose address operand has another level than Free in the least closed assignment.
abbrev pub low_stores : Program → Site → Bool
low_stores P s = stores_low P (least_levels P) s.function (instr_of P s)
