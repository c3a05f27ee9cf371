use Rattle.std.proofs.Common.{◌++◌, ◌+◌, [], ◌∷◌, drop, ap, ◌∙◌}
use Rattle.hip_repairs.specs.Repaired.{repaired_blocks}
use Rattle.hip_fix.specs.Walk.{marked_blocks, noted, wanted_in}
use Rattle.hip_fix.proofs.Walks.{blocks_next, noted_blocks_next}
use Rattle.hip_fix.proofs.repair.RepairSites.blocks.Goals as goal

pub each-preserved : goal.each-preserved
each-preserved c =
    let r = c.args.self.now in
    let p = c.args.place in
    let k = c.each.number in
    let xs = c.args.blocks.now in
    let x = c.index-blocks-number.result in
    record {
      blocks =
          ap (λ bs. bs ++ repaired_blocks r.clones (wanted_in r) p.is_clone p.function (k + 1) (drop (k + 1) xs)) (c.in_ok-push.ensures.ok ∙ ap (λ b. c.each.repaired ++ b ∷ []) c.in_ok-block.ensures.block)
          ∙ blocks_next r.clones (wanted_in r) p.is_clone p.function c.each.repaired k xs x c.each-test.true c.index-blocks-number.is ∙ c.each.invariant.blocks;
      needed =
          ap (λ n. noted n (marked_blocks r.clones (wanted_in r) p.is_clone p.function (k + 1) (drop (k + 1) xs))) c.in_ok-block.ensures.needed
          ∙ noted_blocks_next r.clones (wanted_in r) p.is_clone p.function c.each.needed k xs x c.each-test.true c.index-blocks-number.is ∙ c.each.invariant.needed;
    }
