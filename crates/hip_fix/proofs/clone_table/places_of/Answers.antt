use Rattle.std.proofs.Common.{ℕ, ◌<◌, ◌≤◌, ◌≡◌, ◌+◌, [], ◌∷◌, ◌++◌, map, length, take, get_or, ap, ◌∙◌, subst, arith}
use Rattle.std.proofs.lemmas.List.{length-map}
use Rattle.hip_names.specs.Tables.{Entry, TableStandsFor}
use Rattle.hip_calls.specs.Fresh.{name_of}
use Rattle.hip_names.specs.Numbered.{entries_from, entries-next, numbers_found}
use Rattle.hip_fix.proofs.CloneNames.{original_named}
use Rattle.hip_fix.proofs.clone_table.places_of.Goals as goal

from_zero : (n : ℕ) → n ≡ 0 + n
from_zero n = omega arith

pub each-preserved : goal.each-preserved
each-preserved c =
    let P = c.args.program.now in
    let fs = c.args.originals.now in
    let k = c.each.place in
    let f = get_or fs k 0 in
    let long = length-map fs (name_of P) in
    let within : k < length (map (name_of P) fs) = omega (arith, long, c.each-test.true) in
    let entry : Entry ℕ = record { name = name_of P f; value = 0 + k } in
    let put : Entry ℕ = record { name = c.name_of.result.now; value = k } in
    let same : put ≡ entry = λ i. record { name = c.name_of.ensures i; value = from_zero k i } in
    subst (TableStandsFor c.add.new.self.names c.add.new.self.values)
    (ap (λ (e : Entry ℕ). entries_from 0 (take k (map (name_of P) fs)) ++ e ∷ []) same ∙ entries-next 0 (map (name_of P) fs) k (name_of P f) within (original_named P fs k c.each-test.true))
    (c.in_ok-add.ensures.ok (entries_from 0 (take k (map (name_of P) fs))) c.each.invariant)

pub returns : goal.returns
returns c =
    let long = length-map c.args.originals.now (name_of c.args.program.now) in
    let all : length (map (name_of c.args.program.now) c.args.originals.now) ≤ c.each.place = omega (arith, long, c.each-test.false) in
    numbers_found _ _ (map (name_of c.args.program.now) c.args.originals.now) c.each.place all c.each.invariant
