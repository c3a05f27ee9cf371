use Rattle.std.proofs.Common.{◌+◌, ◌∙◌, ap, slice_index, cond, ◌&&◌, nat_le, nat_lt, refl, arith}
use Rattle.std.proofs.lemmas.List.{with_items_is}
use Rattle.hip_mem.proofs.PageKeys.{others-kept}
use Rattle.hip_mem.proofs.pages.Pages.clear_page.Goals as goal

pub returns-clause-others : goal.returns-clause-others
returns-clause-others c =
    others-kept c.args.self.now _ c.args.number c.args.from c.args.to (c.start-start.result + c.args.from) (c.start-start.result + c.args.to) (λ _. 0) refl refl c.requires.made c.requires.within (omega (arith, c.start-start.ensures.value)) (omega (arith, c.start-start.ensures.value))
    (λ j. ap (λ xs. slice_index xs j) (with_items_is c.args.self.now.bytes c.erase.new.area (omega (arith, c.erase.ensures.len, c.as_mut_slice.ensures.len))) ∙ c.erase.ensures.bytes j ∙ ap (λ xs. cond (nat_le (c.start-start.result + c.args.from) j && nat_lt j (c.start-start.result + c.args.to)) 0 (slice_index xs j)) c.as_mut_slice.ensures.value)
