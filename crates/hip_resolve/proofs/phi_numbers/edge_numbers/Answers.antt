use Rattle.std.proofs.Common.{ℕ, zero, suc, ◌+◌, ◌<◌, ◌≤◌, ◌≡◌, List, [], ◌∷◌, ◌++◌, length, map, get_or, sym, ap, ◌∙◌, subst, arith, take}
use Rattle.std.proofs.lemmas.List.{length-map}
use Rattle.hip_tree.specs.declared.block.Edge.{Edge}
use Rattle.hip_names.specs.Tables.{Entry, TableStandsFor}
use Rattle.hip_names.specs.Numbered.{entries_from, entries-next, numbers_found}
use Rattle.hip_resolve.proofs.phi_numbers.edge_numbers.Goals as goal

labels : List Edge → List (List ℕ)
labels es = map (λ e. e.label) es

zero-add-sym : (m n : ℕ) → m ≡ n → m ≡ 0 + n
zero-add-sym m n e = omega (arith, e)

label_at : (es : List Edge) (k : ℕ) (e : Edge) → k < length es → e ≡ get_or es k e → get_or (map (λ (e : Edge). e.label) es) k [] ≡ e.label
label_at [] k f h e = absurd (omega arith)
label_at (x ∷ fs) zero f h e = ap (λ (g : Edge). g.label) (sym e)
label_at (x ∷ fs) (suc k) f h e = label_at fs k f (omega arith) e

pub each-preserved : goal.each-preserved
each-preserved c =
    let edges = c.args.edges.now in
    let f = c.index-edges-number.result in
    let names = map (λ (e : Edge). e.label) edges in
    let long = length-map edges (λ (e : Edge). e.label) in
    let entry : Entry ℕ = record { name = f.label; value = 0 + c.each.number } in
    let same : Entry ℕ = record { name = c.as_slice.result.now; value = c.in_ok-place.field-0 } in
    let name : c.as_slice.result.now ≡ f.label = c.as_slice.ensures ∙ ap (λ (g : Edge). g.label) (sym c.index-edges-number.is) in
    let here : same ≡ entry = λ x. record { name = name x; value = zero-add-sym _ _ c.in_ok-place.ensures x } in
    let next = entries-next 0 names c.each.number f.label (omega arith) (label_at edges c.each.number f c.each-test.true c.index-edges-number.is) in
    subst (TableStandsFor c.add.new.self.names c.add.new.self.values) (ap (λ (e : Entry ℕ). entries_from 0 (take c.each.number names) ++ e ∷ []) here ∙ next)
    (c.in_ok-add.ensures.ok (entries_from 0 (take c.each.number names)) c.each.invariant)

pub returns : goal.returns
returns c =
    let names = map (λ (e : Edge). e.label) c.args.edges.now in
    let long = length-map c.args.edges.now (λ (e : Edge). e.label) in
    let all : length names ≤ c.each.number = omega (arith, long, c.each-test.false) in
    numbers_found _ _ names c.each.number all c.each.invariant
