use Rattle.std.proofs.Common.{◌≡◌, ◌+◌, ℕ, length, subst, arith}
use Rattle.hip_lines.proofs.Renumbers.{Renumbered, renumbered-skips, renumbered-keeps, renumbered-all, renumbered-count}
use Rattle.hip_lines.proofs.numbers.renumber.Goals as goal
use Rattle.hip_lines.proofs.numbers.renumber.Goals.{then-news-k-ne0, else-news-k-ne0}

pub loop-k-preserved : goal.loop-k-preserved
loop-k-preserved c =
    let h = c.loop-k.invariant in
    elim c.if-news-k-ne0.branch [
      | then-news-k-ne0 w ↦ rw (w.news-is, w.tags-is, w.kept-is) (renumbered-keeps c.args.news.now c.loop-k.news c.args.tags.now c.loop-k.tags c.loop-k.k c.loop-k.kept w.if-news-k-ne0.true (omega (arith, c.loop-k-test.true, h.len)) (omega (arith, c.loop-k-test.true, h.len, c.requires.size, c.requires.few)) h)
      | else-news-k-ne0 w ↦ rw (w.news-is, w.tags-is, w.kept-is) (renumbered-skips c.args.news.now c.loop-k.news c.args.tags.now c.loop-k.tags c.loop-k.k c.loop-k.kept w.if-news-k-ne0.false h)
    ]

pub returns-clause-renumbered : goal.returns-clause-renumbered
returns-clause-renumbered c =
    let end : c.loop-k.k ≡ length c.args.tags.now = omega (arith, c.loop-k-test.false, c.loop-k.auto.k-end, c.loop-k.invariant.len) in
    renumbered-all c.args.news.now c.loop-k.news c.args.tags.now c.loop-k.tags c.loop-k.kept (subst (λ n. Renumbered c.args.news.now c.loop-k.news c.args.tags.now c.loop-k.tags n c.loop-k.kept) end c.loop-k.invariant)

pub returns-clause-count : goal.returns-clause-count
returns-clause-count c =
    let end : c.loop-k.k ≡ length c.args.tags.now = omega (arith, c.loop-k-test.false, c.loop-k.auto.k-end, c.loop-k.invariant.len) in
    renumbered-count c.args.news.now c.loop-k.news c.args.tags.now c.loop-k.tags c.loop-k.kept (subst (λ n. Renumbered c.args.news.now c.loop-k.news c.args.tags.now c.loop-k.tags n c.loop-k.kept) end c.loop-k.invariant)
