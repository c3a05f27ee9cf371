use Rattle.std.proofs.Common.{◌≡◌, ◌+◌, ◌≤◌, ◌%◌, ◌⊎◌, inl, inr, arith, length, min, ℕ}
use Rattle.hip_mem.proofs.Fills.{fill-more, fill-all}
use Rattle.hip_mem.proofs.pages.Pages.fill.Goals as goal

pub loop-done-preserved : goal.loop-done-preserved
loop-done-preserved c =
    let e = c.min-end.ensures in
    let low : c.loop-done.done ≤ c.min-end.result = omega (arith, c.loop-done.invariant.0) in
    let high : c.min-end.result ≤ length c.args.bytes.now = omega arith in
    (high, whole c.loop-done.invariant.1, fill-more c.args.start c.loop-done.done c.min-end.result c.args.bytes.now c.args.self.now c.loop-done.self c.fill_page.new.self low high c.loop-done.invariant.2 c.in_ok-fill_page.ensures)
  where
    whole : (c.loop-done.done % 4096 ≡ 0) ⊎ (c.loop-done.done ≡ length c.args.bytes.now) → (c.min-end.result % 4096 ≡ 0) ⊎ (c.min-end.result ≡ length c.args.bytes.now)
    whole (inl w) = next c.loop-done.done c.min-end.result (length c.args.bytes.now) w c.min-end.ensures
      where
        next : (i j n : ℕ) → i % 4096 ≡ 0 → j ≡ min n (i + 4096) → (j % 4096 ≡ 0) ⊎ (j ≡ n)
        next i j n w e = grind arith
    whole (inr w) = inr (omega (arith, w, c.min-end.ensures, c.loop-done-test.true))

pub returns : goal.returns
returns c = fill-all c.args.start c.loop-done.done c.args.bytes.now c.args.self.now c.loop-done.self c.loop-done.invariant.0 c.loop-done-test.false c.loop-done.invariant.2
