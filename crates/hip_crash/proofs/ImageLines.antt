-- The lines of a region that have an initial byte other than 0, one more.
use Rattle.std.proofs.Common.{◌≡◌, ℕ, suc, ◌+◌, ◌-◌, ◌*◌, ◌<◌, Bool, cond, List, take, drop, sym, ap, ◌∙◌, arith}
use Rattle.std.proofs.lemmas.List.{drop-drop}
use Rattle.hip_runs.specs.Step.{image_lines, some_byte}

pub lines-more : (image : List ℕ) (n line count count' total start size : ℕ) (b : Bool) → line < n → start ≡ 64 * line → size ≡ 64 → b ≡ some_byte (take size (drop start image)) → count' ≡ count + cond b 1 0
    → count + image_lines (n - line) (drop (64 * line) image) ≡ total → count' + image_lines (n - (line + 1)) (drop (64 * (line + 1)) image) ≡ total
lines-more image n line count count' total start size b lt s z e c t =
    let left : n - line ≡ suc (n - (line + 1)) = omega (arith, lt) in
    let next : drop 64 (drop (64 * line) image) ≡ drop (64 * (line + 1)) image = drop-drop 64 (64 * line) image ∙ ap (λ k. drop k image) (let q : 64 * line + 64 ≡ 64 * (line + 1) = omega arith in q) in
    let here : b ≡ some_byte (take 64 (drop (64 * line) image)) = e ∙ ap (λ k. some_byte (take k (drop start image))) z ∙ ap (λ k. some_byte (take 64 (drop k image))) s in
    let whole : count + (cond b 1 0 + image_lines (n - (line + 1)) (drop (64 * (line + 1)) image)) ≡ total =
    ap (λ k. count + (cond k 1 0 + image_lines (n - (line + 1)) (drop (64 * (line + 1)) image))) here
    ∙ ap (λ xs. count + (cond (some_byte (take 64 (drop (64 * line) image))) 1 0 + image_lines (n - (line + 1)) xs)) (sym next)
    ∙ ap (λ k. count + image_lines k (drop (64 * line) image)) (sym left) ∙ t
    in
    omega (arith, c, whole)
