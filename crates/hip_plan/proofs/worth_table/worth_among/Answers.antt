-- The table has at a key what its entries have.
use Rattle.std.proofs.Common.{Option, ℤ, pos, ap, ◌∙◌}
use Rattle.std.specs.Int.{w128}
use Rattle.std.specs.Prelude.{unwrap_or}
use Rattle.std.proofs.lemmas.Int.{to_z-of_z}
use Rattle.hip_plan.proofs.Tables.{worth_found}
use Rattle.hip_plan.proofs.worth_table.worth_among.Goals as goal

pub returns : goal.returns
returns c =
    to_z-of_z w128 c.unwrap_or.result (record { sfits = c.unwrap_or.type_inv })
    ∙ c.unwrap_or.ensures
    ∙ ap (λ (o : Option ℤ). unwrap_or o (pos 0)) (c.copied.ensures ∙ c.get.ensures.value ∙ worth_found c.args.worths.now.entries c.args.key)
