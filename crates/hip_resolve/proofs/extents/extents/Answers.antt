use Rattle.std.proofs.Common.{◌≡◌, ◌-◌, suc, cond, nat_lt, Some, length, slice_get, sym, ap, ◌∙◌, subst, arith, length-set}
use Rattle.hip_resolve.proofs.Scoped.{item_at}
use Rattle.hip_resolve.proofs.Walks.{Walked, leads_no_lower, slots_on, walk_on, walked_all}
use Rattle.hip_resolve.specs.Extents.{slots_to}
use Rattle.hip_resolve.proofs.extents.extents.Goals as goal

pub passing-preserved : goal.passing-preserved
passing-preserved c =
    let fn = c.args.function.now in
    let at = c.passing.at in
    let d = at - 1 in
    let old = c.passing.walk in
    let new = c.pass.new.walk in
    let known = c.passing.invariant in
    let within = known.within in
    let some = c.passing-test.true in
    let next : at ≡ suc d = omega (arith, some) in
    let long = ap length c.as_slice-blocks.ensures in
    let block = c.index-blocks-at.result in
    let here : slice_get fn.blocks d ≡ Some block =
    subst (λ bs. slice_get bs d ≡ Some block) c.as_slice-blocks.ensures (item_at c.as_slice-blocks.result.now d block (omega (arith, next, within, long)) c.index-blocks-at.is) in
    let passed = c.in_ok-pass.ensures in
    let on = slots_on fn d block here in
    let same = ap (slots_to fn) next in
    let before = known.slots in
    let fewer = passed.slots in
    record {
      within = omega (arith, next, within);
      as_long = ap length c.set.ensures ∙ length-set c.passing.extents d new.extent ∙ known.as_long;
      slots = omega (arith, on, same, before, fewer);
      walked =
          subst (λ xs. Walked fn xs d new.lowest new.extent) (sym c.set.ensures)
          (walk_on fn c.passing.extents at old.lowest old.extent known.walked d block here next known.as_long new.lowest new.extent
          (passed.extent ∙ ap (λ s. cond (nat_lt d old.lowest) s old.extent) before)
          passed.lowest (λ x l. leads_no_lower fn c.args.labels.now d x new.lowest block c.requires.labels here passed.labels l));
    }

pub returns : goal.returns
returns c = walked_all c.args.function.now c.passing.extents c.passing.at c.passing.walk.lowest c.passing.walk.extent c.passing.invariant.walked c.passing-test.false c.passing.invariant.as_long
