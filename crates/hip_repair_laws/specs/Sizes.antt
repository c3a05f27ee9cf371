-- How long the text of a repaired program is. (This project's own.)
use Rattle.std.specs.Prelude.{◌+◌, ◌*◌, ◌^◌, ◌<◌, ◌≤◌, Bool, length}
use Rattle.hip_tree.specs.declared.program.Program.{Program}
use Rattle.hip_tree.specs.declared.site.Site.{Site}
use Rattle.hip_grammar.specs.Show.{show}
use Rattle.hip_repairs.specs.Repaired.{repaired}
use Rattle.hip_repairs.specs.declared.plan.Plan.{Plan}

-- If the canonical text of the program has fewer than 100,000,000 bytes, that of the repaired program has at most ten
-- times as many, and 104 more for declarations.
abbrev pub StaysSmall : Program → Plan → (Site → Bool) → Type 0
StaysSmall P plan skip = length (show P) < 10 ^ 8 → length (show (repaired P plan skip)) ≤ 10 * length (show P) + 104
