use Rattle.std.proofs.Common.{◌+◌, ◌-◌, ◌∙◌, ap, length, slice_index, cond, ◌&&◌, nat_le, nat_lt, refl, arith}
use Rattle.std.proofs.lemmas.List.{with_items_is}
use Rattle.hip_mem.proofs.PageKeys.{others-kept}
use Rattle.hip_mem.proofs.pages.Pages.write_page.Goals as goal

pub returns-clause-others : goal.returns-clause-others
returns-clause-others c =
    others-kept c.args.self.now _ c.args.number c.args.at (c.args.at + length c.args.bytes.now) (c.start-start.result + c.args.at) (c.start-start.result + c.args.at + length c.args.bytes.now) (λ j. slice_index c.args.bytes.now (j - (c.start-start.result + c.args.at))) refl refl c.requires.made c.requires.within (omega (arith, c.start-start.ensures.value)) (omega (arith, c.start-start.ensures.value))
    (λ j. ap (λ xs. slice_index xs j) (with_items_is c.args.self.now.bytes c.put.new.area (omega (arith, c.put.ensures.len, c.as_mut_slice-2.ensures.len))) ∙ c.put.ensures.bytes j ∙ ap (λ xs. cond (nat_le (c.start-start.result + c.args.at) j && nat_lt j (c.start-start.result + c.args.at + length c.args.bytes.now)) (slice_index c.args.bytes.now (j - (c.start-start.result + c.args.at))) (slice_index xs j)) c.as_mut_slice-2.ensures.value)
