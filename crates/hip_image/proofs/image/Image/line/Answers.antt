use Rattle.std.proofs.Common.{◌≡◌, ◌*◌, ◌+◌, ◌≤◌, ◌∙◌, length, take, drop, slice_index, ap, sym, subst, arith}
use Rattle.hip_image.proofs.Zeros.{line-is}
use Rattle.hip_image.proofs.image.Image.line.Goals as goal

pub returns : goal.returns
returns c =
    subst (λ xs. c.bytes_from.result ≡ take 64 (drop (64 * c.args.line) xs)) c.self.view_is
    (line-is c.self.inside.stored.items c.bytes_from.result c.self.inside.zeros (64 * c.args.line) (omega arith)
    (subst (λ xs. 64 * c.args.line + 64 ≤ length xs) (sym c.self.view_is) c.requires)
    (λ i lt.
    c.bytes_from.ensures i lt ∙ ap (λ n. slice_index c.as_slice.result.now (n + i)) (let e : c.args.line * 64 ≡ 64 * c.args.line = omega arith in e)
    ∙ ap (λ xs. slice_index xs (64 * c.args.line + i)) c.as_slice.ensures.value))
