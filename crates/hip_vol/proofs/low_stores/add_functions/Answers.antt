use Rattle.std.proofs.Common.{◌≡◌, ◌∙◌, ◌++◌, ap, ℕ, List, Some, Bool, sym}
use Rattle.hip_tree.specs.declared.block.Block.{Block}
use Rattle.hip_tree.specs.declared.instr.Instr.{Instr}
use Rattle.hip_tree.specs.declared.program.Function.{Function}
use Rattle.hip_sites.specs.Laws.SiteWalkLaws.{functions_next, found_next}
use Rattle.hip_sites.specs.SiteWalk.{passing_in_blocks}
use Rattle.hip_vol.specs.LowStores.{stores_low}
use Rattle.hip_vol.specs.Tables.{level_among}
use Rattle.hip_vol.proofs.low_stores.add_functions.Goals as goal

pub each-preserved : goal.each-preserved
each-preserved c =
    let tests : ℕ → Instr → Bool = λ f i. stores_low c.args.scope.now.program.now (level_among c.args.levels.now) f (Some i) in
    let f = c.each.function in
    let x = c.index-functions-function.result in
    let blocks : c.as_slice.result.now ≡ x.blocks = c.as_slice.ensures ∙ ap (λ (y : Function). y.blocks) (sym c.index-functions-function.is) in
    found_next c.each.sites c.add_passing.new.sites (passing_in_blocks (tests f) f 0 x.blocks) _ _ _
    (c.in_ok-add_passing.ensures ∙ ap (λ (bs : List Block). c.each.sites ++ passing_in_blocks (tests f) f 0 bs) blocks)
    (functions_next tests c.args.functions.now f x c.each-test.true c.index-functions-function.is)
    c.each.invariant
