use Rattle.std.proofs.Common.{ℕ, zero, suc, ◌+◌, ◌<◌, ◌≤◌, ◌≡◌, List, [], ◌∷◌, ◌++◌, length, get_or, sym, ap, ◌∙◌, subst, arith, take}
use Rattle.std.proofs.lemmas.List.{length-map}
use Rattle.hip_tree.specs.declared.program.Function.{Function}
use Rattle.hip_names.specs.Tables.{Entry, TableStandsFor}
use Rattle.hip_sound.specs.NumberedNames.{function_names}
use Rattle.hip_names.specs.Numbered.{entries_from, entries-next, numbers_found}
use Rattle.hip_calls.proofs.function_table.numbers_of.Goals as goal

zero-add-sym : (n : ℕ) → n ≡ 0 + n
zero-add-sym n = omega arith

named_at : (fs : List Function) (k : ℕ) (f : Function) → k < length fs → f ≡ get_or fs k f → get_or (function_names fs) k [] ≡ f.name
named_at [] k f h e = absurd (omega arith)
named_at (x ∷ fs) zero f h e = ap (λ (g : Function). g.name) (sym e)
named_at (x ∷ fs) (suc k) f h e = named_at fs k f (omega arith) e

pub each-preserved : goal.each-preserved
each-preserved c =
    let functions = c.args.functions.now in
    let f = c.index-functions-number.result in
    let long = length-map functions (λ (f : Function). f.name) in
    let entry : Entry ℕ = record { name = f.name; value = 0 + c.each.number } in
    let same : Entry ℕ = record { name = c.as_slice.result.now; value = c.each.number } in
    let name : c.as_slice.result.now ≡ f.name = c.as_slice.ensures ∙ ap (λ (g : Function). g.name) (sym c.index-functions-number.is) in
    let here : same ≡ entry = λ x. record { name = name x; value = zero-add-sym c.each.number x } in
    let next = entries-next 0 (function_names functions) c.each.number f.name (omega arith) (named_at functions c.each.number f c.each-test.true c.index-functions-number.is) in
    subst (TableStandsFor c.add.new.self.names c.add.new.self.values) (ap (λ (e : Entry ℕ). entries_from 0 (take c.each.number (function_names functions)) ++ e ∷ []) here ∙ next)
    (c.in_ok-add.ensures.ok (entries_from 0 (take c.each.number (function_names functions))) c.each.invariant)

pub returns : goal.returns
returns c =
    let long = length-map c.args.functions.now (λ (f : Function). f.name) in
    let all : length (function_names c.args.functions.now) ≤ c.each.number = omega (arith, long, c.each-test.false) in
    numbers_found _ _ (function_names c.args.functions.now) c.each.number all c.each.invariant
