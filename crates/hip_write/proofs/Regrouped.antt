-- A text of several parts and what comes after it, as one text that groups to the right.
use Rattle.std.proofs.Common.{◌≡◌, ℕ, List, ◌++◌, ap, ◌∙◌, append_assoc}
use Rattle.hip_io.specs.Sinks.{SinkState, Writes}
use Rattle.hip_io.specs.Laws.SinkLaws.{and_then, same_text}
use Rattle.hip_io.specs.declared.sink.Put.{Put}

-- Four parts that one call writes, and the text that the next call writes.
pub after_four : {i j k : Put} {old mid new : SinkState} (a b c d : List ℕ) {rest : List ℕ}
    → Writes i j old mid (a ++ (b ++ (c ++ d))) → Writes j k mid new rest
    → Writes i k old new (a ++ (b ++ (c ++ (d ++ rest))))
after_four a b c d {rest} p q =
    let inner : (b ++ (c ++ d)) ++ rest ≡ b ++ (c ++ (d ++ rest)) =
    append_assoc b (c ++ d) rest ∙ ap (λ (t : List ℕ). b ++ t) (append_assoc c d rest) in
    same_text (append_assoc a (b ++ (c ++ d)) rest ∙ ap (λ (t : List ℕ). a ++ t) inner) (and_then p q)
