-- The three pieces of an IMAGE line are its text.
use Rattle.std.proofs.Common.{◌≡◌, ℕ, List, ◌∷◌, ◌++◌, codes, sym, ap, ◌∙◌, append_assoc}
use Rattle.hex.specs.Hex.{encode_lower}
use Rattle.hip_io.specs.Laws.SinkLaws.{and_then, same_text}
use Rattle.hip_num.specs.Texts.{hexadecimal}
use Rattle.hip_tokens.specs.Bytes.{byte}
use Rattle.hip_trace.specs.Texts.{line_of, text_of}
use Rattle.hip_trace.specs.declared.entry.Entry.TheVariants as entries
use Rattle.hip_trace.proofs.write.put_pieces.Goals as goal

in_one : (addr : ℕ) (bytes front digits : List ℕ) → front ≡ codes "IMAGE" ++ byte ";" ∷ (hexadecimal addr ++ codes ";") → digits ≡ encode_lower bytes
    → front ++ (digits ++ codes "\n") ≡ line_of (entries.Image addr bytes)
unfolding text_of
in_one addr bytes front digits p q =
    let after_digits = append_assoc (hexadecimal addr) (byte ";" ∷ encode_lower bytes) (codes "\n") in
    let parts = append_assoc (hexadecimal addr) (codes ";") (encode_lower bytes ++ codes "\n") ∙ sym after_digits in
    rw (p, q) (ap (λ (rest : List ℕ). codes "IMAGE" ++ byte ";" ∷ rest) parts)

pub returns : goal.returns
returns g c =
    let addr = c.args.addr in
    let end = c.put.ensures ∙ ap (λ (rest : List ℕ). codes ";" ++ rest) c.empty-front.ensures in
    let field = c.put_hexadecimal.ensures.text ∙ ap (λ (rest : List ℕ). byte ";" ∷ (hexadecimal addr ++ rest)) end in
    let front = c.as_slice.ensures ∙ c.put-2.ensures ∙ ap (λ (rest : List ℕ). codes "IMAGE" ++ rest) field in
    let text = in_one addr c.args.bytes.now _ _ front (c.as_slice-2.ensures ∙ c.line_digits.ensures) in
    (same_text text (and_then c.put_after-put.ensures (and_then c.put_after-put-2.ensures c.put_after.ensures))).how
