-- The tests of spelled numbers, and the facts that they decide.
use Rattle.std.proofs.Common.{ℕ, ◌≡◌, ◌^◌, ◌<◌, Bool, true, false, List, Option, Some, None, refl, ap}
use Rattle.std.specs.Prelude.{if◌then◌else◌, SomeIff}
use Rattle.std.specs.Str.Parse.{IsNumeral, digits_value}
use Rattle.hip_num.specs.Texts.{number_of}
use Rattle.hip_num.specs.Laws.TextLaws.{number-sound, number-whole}

-- If a test decides a fact, and an option has a value exactly if the fact holds, then it has the value exactly if the
-- test passes.
chosen : {T : Type 0} (r : Option T) (P : Type 0) (v : T) (test : Bool) → (test ≡ true → P) → (P → test ≡ true)
    → SomeIff r P v → r ≡ (if test then Some v else None)
chosen None P v true sound whole h = absurd (h (sound refl))
chosen None P v false sound whole h = refl
chosen (Some x) P v true sound whole h = ap (λ y. Some y) h.1
chosen (Some x) P v false sound whole h = let there = whole h.0 in cc

pub number-is : (base : ℕ) (r : Option ℕ) (text : List ℕ)
    → SomeIff r (IsNumeral base text × (digits_value base text < 2 ^ 64)) (digits_value base text) → r ≡ number_of base text
number-is base r text h = chosen r _ _ _ (number-sound base text) (number-whole base text) h
