use Rattle.std.proofs.Common.{◌≡◌, ℕ, List, length, take, sym, ap, subst, ◌∙◌, arith}
use Rattle.std.proofs.lemmas.List.{with_items_is, length-take}
use Rattle.hip_lines.specs.Shown.{IsRenumbered}
use Rattle.hip_lines.proofs.numbers.keep_used.Goals as goal

pub returns-clause-renumbered : goal.returns-clause-renumbered
returns-clause-renumbered c =
    let moved : List ℕ = c.renumber-kept.new.tags in
    subst (λ (xs : List ℕ). IsRenumbered c.args.news.now c.renumber-kept.new.news c.args.tags.now.items xs) (sym (c.truncate.ensures.items ∙ ap (take c.renumber-kept.result) (with_items_is c.args.tags.now moved (omega (arith, c.renumber-kept.ensures.len, c.as_mut_slice.ensures.len)))))
    (subst (λ (ts : List ℕ). IsRenumbered c.args.news.now c.renumber-kept.new.news ts (take c.renumber-kept.result moved)) c.as_mut_slice.ensures.value c.renumber-kept.ensures.renumbered)

pub returns-clause-count : goal.returns-clause-count
returns-clause-count c =
    let moved : List ℕ = c.renumber-kept.new.tags in
    let kept = c.truncate.ensures.items ∙ ap (take c.renumber-kept.result) (with_items_is c.args.tags.now moved (omega (arith, c.renumber-kept.ensures.len, c.as_mut_slice.ensures.len))) in
    omega (arith, c.renumber-kept.ensures.count, ap length kept, length-take c.renumber-kept.result moved)
