-- Each function of a sound program has an entry block, which has no phis. Each label of a function has its own number.
use Rattle.std.proofs.Common.{◌≡◌, ◌≢◌, inl, inr, ℕ, zero, suc, ◌<◌, Bool, true, ◌&&◌, List, [], ◌∷◌, map, Some, slice_get, option_map, refl, sym, ap, ◌∙◌, subst, arith}
use Rattle.std.specs.Prelude.{All}
use Rattle.std.specs.List.{list_all, flat_map}
use Rattle.std.proofs.lemmas.Bool.{and_parts}
use Rattle.std.proofs.lemmas.List.Elements.{All-head, All-tail}
use Rattle.std.proofs.lemmas.Option.{same_Some, slice_get-map}
use Rattle.hip_grammar.specs.Spelling.{not_empty, spelled_global, spelled_phi, spelled_block, spelled_function}
use Rattle.hip_grammar.specs.Laws.SpellingExact.{spelled_exact}
use Rattle.hip_tree.specs.declared.block.Block.{Block}
use Rattle.hip_tree.specs.declared.block.Edge.{Edge}
use Rattle.hip_tree.specs.declared.block.Phi.{Phi}
use Rattle.hip_tree.specs.declared.program.Function.{Function}
use Rattle.hip_tree.specs.declared.program.Program.{Program}
use Rattle.hip_names.specs.Laws.NameLaws.{among-right}
use Rattle.hip_names.specs.Names.{AllDiffer, IsAmong}
use Rattle.hip_names.specs.Laws.NumberLaws.{number_of-first, number_of-known, number_of-there}
use Rattle.hip_sound.specs.Laws.Decided.{all-at}
use Rattle.hip_sound.specs.Paths.{label_at, names_of}
use Rattle.hip_sound.specs.Registers.{end_labels, parameter_registers}
use Rattle.hip_sound.specs.Sound.{IsSound, Precedes, EdgesAgree, PhiItem, EdgesAreSound, label_number, names_in_block, names_in_function}
use Rattle.hip_sound.specs.NumberedNames.{label_names}
use Rattle.hip_names.specs.Laws.DifferLaws.{differ_second}

-- ---- what is spelled

list_all_at : {A : Type 0} (test : A → Bool) (xs : List A) (k : ℕ) (x : A) → list_all test xs ≡ true
    → slice_get xs k ≡ Some x → test x ≡ true
list_all_at test [] k x h e = cc
list_all_at test (y ∷ xs) zero x h e =
    subst (λ z. test z ≡ true) (same_Some y x e) (and_parts (test y) (list_all test xs) h).0
list_all_at test (y ∷ xs) (suc k) x h e = list_all_at test xs k x (and_parts (test y) (list_all test xs) h).1 e

first_of : {A : Type 0} (xs : List A) → not_empty xs ≡ true → (x : A) × (slice_get xs 0 ≡ Some x)
first_of [] h = cc
first_of (x ∷ xs) h = (x, refl)

pub among_all : (Q : List ℕ → Type 0) (xs : List (List ℕ)) (x : List ℕ) → All Q xs → IsAmong xs x → Q x
among_all Q [] x h t = absurd t
among_all Q (y ∷ xs) x h (inl e) = subst Q e (All-head Q y xs h)
among_all Q (y ∷ xs) x h (inr t) = among_all Q xs x (All-tail Q y xs h) t

module _ (P : Program) (s : IsSound P) (g : ℕ) (fn : Function) (here : slice_get P.functions g ≡ Some fn) where
  spelled : spelled_function fn ≡ true
  spelled = list_all_at spelled_function P.functions g fn
      (and_parts _ (list_all spelled_function P.functions)
      (and_parts (list_all spelled_global P.globals) _ ((spelled_exact P).1 s.spelled)).1).1 here

  blocks_spelled : (not_empty fn.blocks && list_all spelled_block fn.blocks) ≡ true
  blocks_spelled = (and_parts _ (not_empty fn.blocks && list_all spelled_block fn.blocks) (and_parts _ _ spelled).1).1

  pub entry_block : (block : Block) × (slice_get fn.blocks 0 ≡ Some block)
  entry_block = first_of fn.blocks (and_parts (not_empty fn.blocks) _ blocks_spelled).0

  phi_has_edge : (b k : ℕ) (block : Block) (p : Phi) → slice_get fn.blocks b ≡ Some block
      → slice_get block.phis k ≡ Some p → (e : Edge) × (slice_get p.edges 0 ≡ Some e)
  phi_has_edge b k block p at e =
      let in_block : spelled_block block ≡ true =
      list_all_at spelled_block fn.blocks b block (and_parts (not_empty fn.blocks) _ blocks_spelled).1 at in
      let in_phi : spelled_phi p ≡ true = list_all_at spelled_phi block.phis k p
      (and_parts (list_all spelled_phi block.phis) _ (and_parts _ _ in_block).1).0 e in
      first_of p.edges (and_parts (not_empty p.edges) _ (and_parts _ _ in_phi).1).0

  label_first : (es : List Edge) (e : Edge) → slice_get es 0 ≡ Some e → IsAmong (map (λ d. d.label) es) e.label
  label_first [] e h = cc
  label_first (d ∷ es) e h = inl (ap (λ (x : Edge). x.label) (same_Some d e h))

  -- The entry block has no phi: no block's end names the entry block, so a phi there would have no edge.
  pub no_entry_phi : (block : Block) → slice_get fn.blocks 0 ≡ Some block → (k : ℕ) (p : Phi)
      → slice_get block.phis k ≡ Some p → ⊥
  no_entry_phi block at k p e =
      let agree : EdgesAgree fn block p.edges =
      all-at (λ p. EdgesAreSound fn block (PhiItem p)) block.phis k p
      (s.edges_agree g 0 fn block (record { function = here; block_is = at })).phis e in
      let edge = phi_has_edge 0 k block p at e in
      let before : Precedes fn edge.0.label block.label =
      among_all (λ label. Precedes fn label block.label) _ edge.0.label agree.others
      (label_first p.edges edge.0 edge.1) in
      let none : label_at fn 0 ≢ Some block.label =
      among_all (λ label. label_at fn 0 ≢ Some label) (end_labels before.block.end) block.label
      (s.edges_agree g before.number fn before.block
      (record { function = here; block_is = before.here })).last before.named in
      none (ap (option_map (λ (b : Block). b.label)) at)

-- ---- labels and their numbers

-- The block of a label's number has the label.
pub label_there : (fn : Function) (label : List ℕ) (c : ℕ) → label_number fn label ≡ Some c
    → label_at fn c ≡ Some label
label_there fn label c e = sym (slice_get-map (λ (b : Block). b.label) fn.blocks c)
    ∙ number_of-there (label_names fn) label c e

-- The label of a block has a number.
pub label_known : (fn : Function) (k : ℕ) (block : Block) → slice_get fn.blocks k ≡ Some block → (c : ℕ)
    × (label_number fn block.label ≡ Some c)
label_known fn k block at = number_of-known (label_names fn) block.label k
    (slice_get-map (λ (b : Block). b.label) fn.blocks k ∙ ap (option_map (λ (b : Block). b.label)) at)

labels_among : (bs : List Block) (q : List ℕ) → IsAmong (map (λ b. b.label) bs) q
    → IsAmong (flat_map names_in_block bs) q
labels_among [] q h = h
labels_among (b ∷ bs) q (inl e) = inl e
labels_among (b ∷ bs) q (inr h) = among-right (names_in_block b) (flat_map names_in_block bs) q (labels_among bs q h)

labels_differ : (bs : List Block) → AllDiffer (flat_map names_in_block bs) → AllDiffer (map (λ b. b.label) bs)
labels_differ [] d = tt
labels_differ (b ∷ bs) d = (
  λ t. let u : IsAmong (flat_map names_in_block bs) b.label = labels_among bs b.label t in
      d.0 (among-right _ (flat_map names_in_block bs) b.label u),
  labels_differ bs (differ_second (names_in_block b) (flat_map names_in_block bs) d),
)

-- A name at a place of a list is among the names of the list.
there_among : (xs : List (List ℕ)) (k : ℕ) (x : List ℕ) → slice_get xs k ≡ Some x → IsAmong xs x
there_among [] k x e = cc
there_among (y ∷ xs) zero x e = inl (same_Some y x e)
there_among (y ∷ xs) (suc k) x e = inr (there_among xs k x e)

earlier_none : (xs : List (List ℕ)) (k j : ℕ) (x : List ℕ) → AllDiffer xs → slice_get xs k ≡ Some x
    → j < k → slice_get xs j ≡ Some x → ⊥
earlier_none [] k j x d e lt f = cc
earlier_none (y ∷ xs) zero j x d e lt f = absurd (let z : ⊥ = omega (arith, lt) in z)
earlier_none (y ∷ xs) (suc k) zero x d e lt f =
    d.0 (subst (λ n. IsAmong xs n) (sym (same_Some y x f)) (there_among xs k x e))
earlier_none (y ∷ xs) (suc k) (suc j) x d e lt f = earlier_none xs k j x d.1 e (omega (arith, lt)) f

-- If the names of a function differ, the label of a block has the number of this block.
pub own_number : (fn : Function) (k : ℕ) (block : Block) → AllDiffer (names_in_function fn)
    → slice_get fn.blocks k ≡ Some block → label_number fn block.label ≡ Some k
own_number fn k block d at =
    let labels : AllDiffer (label_names fn) =
    labels_differ fn.blocks (differ_second (names_of (parameter_registers fn))
    (flat_map names_in_block fn.blocks) d) in
    let there : slice_get (label_names fn) k ≡ Some block.label = slice_get-map (λ (b : Block). b.label) fn.blocks k
    ∙ ap (option_map (λ (b : Block). b.label)) at in
    number_of-first (label_names fn) block.label k there
    (λ j lt f. earlier_none (label_names fn) k j block.label labels there lt f)
