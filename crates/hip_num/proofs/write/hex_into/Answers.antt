use Rattle.std.proofs.Common.{◌+◌, ◌-◌, ◌≡◌, ◌++◌, ◌∷◌, false, length, take, drop, set, sym, ap, ◌∙◌, arith}
use Rattle.std.specs.Fmt.{digits}
use Rattle.std.proofs.Math.ListN.{length-set}
use Rattle.std.proofs.lemmas.List.{take_all, length-drop}
use Rattle.std.proofs.lemmas.Slice.{take-put_mid}
use Rattle.hip_num.proofs.HexDigits.{prefix_written}
use Rattle.hip_num.proofs.write.hex_into.Goals as goal

pub returns-clause-text : goal.returns-clause-text
returns-clause-text c =
    let start = c.hex_digits-start.result in
    let text = c.hex_digits-start.new.text in
    let part = c.copy_from_slice.new.self in
    let whole : take (16 - start) (drop start text) ≡ drop start text = take_all (16 - start) (drop start text) (simp length-drop (omega arith)) in
    let part_is : part ≡ digits 16 false c.args.v = c.copy_from_slice.ensures.after ∙ whole ∙ c.hex_digits-start.ensures.text in
    take-put_mid 2 _ (set (set c.args.buf.now 0 48) 1 120) part _ (ap (λ n. 2 + n) (ap length (sym c.copy_from_slice.ensures.after))) (omega (arith, length-set (set c.args.buf.now 0 48) 1 120, length-set c.args.buf.now 0 48))
    ∙ ap (λ front. front ++ part) (prefix_written c.args.buf.now (omega arith))
    ∙ ap (λ tail. 48 ∷ (120 ∷ tail)) part_is
