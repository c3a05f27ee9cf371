-- A copy of a value from the copies of its parts.
use Rattle.std.proofs.Common.{◌≡◌, ◌∙◌, sym, ap}

-- What is made of copies of the parts is the value that is made of the parts.
pub copied : {A B : Type 0} {copy part : A} {whole : B} → copy ≡ part → (make : A → B) → whole ≡ make part
    → make copy ≡ whole
copied e make is = ap make e ∙ sym is
