-- Names of a function that differ: what the rule says, and what the tables use.
use Rattle.std.proofs.Common.{ℕ, ◌+◌, ◌<◌, ◌≤◌, ◌≡◌, List, [], ◌∷◌, ◌++◌, map, length, get_or, Option, Some, Err, refl, sym, ap, subst, ◌∙◌, inl, inr, arith}
use Rattle.std.specs.Prelude.{slice_get}
use Rattle.std.proofs.lemmas.Bool.{cases_lt}
use Rattle.std.proofs.lemmas.Option.{slice_get_within, slice_get-get_or}
use Rattle.hip_tree.specs.declared.block.Block.{Block}
use Rattle.hip_tree.specs.declared.program.Function.{Function}
use Rattle.hip_tree.specs.declared.program.Program.{Program}
use Rattle.hip_typing.specs.Seen.AssignedSeen.{DescribesPaths, IsFirstOf, AnswersUses, AnswersAssigned}
use Rattle.hip_sound.specs.Laws.CheckLaws.{each-holds}
use Rattle.hip_sound.specs.Laws.NameLaws.{inner-sound}
use Rattle.hip_sound.specs.Sound.{names_in_function}
use Rattle.hip_typing.specs.Seen.Inner.{inner_entries, block_number, label_numbers, successor_numbers}
use Rattle.hip_names.specs.Names.{AllDiffer}
use Rattle.hip_sound.specs.Registers.{end_labels}
use Rattle.hip_sound.specs.Rules.{inner_required, inner_names_required, AllAssigned, IsFirstUnassigned, register_uses}
use Rattle.hip_names.specs.Tables.{Entry, TableStandsFor, value_of}
use Rattle.hip_typing.specs.declared.assigned.NotAssigned.{NotAssigned}
use Rattle.hip_typing.specs.declared.assigned.NotAssigned.TheVariants as unassigned
use Rattle.hip_sound.specs.declared.fault.Place.{Place}
use Rattle.hip_typing.specs.declared.tables.inner_table.Inner.{Inner}

-- The names of each function of a program differ.
pub function_differs : (P : Program) (k : ℕ) (fn : Function) → (inner_names_required P).Holds → k < length P.functions → fn ≡ get_or P.functions k fn → AllDiffer (names_in_function fn)
function_differs P k fn h within is = subst (λ (f : Function). AllDiffer (names_in_function f)) (sym is) (inner-sound k (get_or P.functions k fn) (each-holds inner_required P.functions k fn h within))

-- ---- the table and the graph of a function

numbers_alike : (ns : List (List ℕ)) (vs : List Inner) (es : List (Entry Inner)) (labels : List (List ℕ)) → TableStandsFor ns vs es → label_numbers ns vs labels ≡ successor_numbers es labels
numbers_alike ns vs es [] stands = refl
numbers_alike ns vs es (l ∷ ls) stands =
    ap (λ (w : Option Inner). block_number w ++ label_numbers ns vs ls) (stands.finds l) ∙ ap (λ (ks : List ℕ). block_number (value_of es l) ++ ks) (numbers_alike ns vs es ls stands)

graph_alike : (ns : List (List ℕ)) (vs : List Inner) (es : List (Entry Inner)) (blocks : List Block) → TableStandsFor ns vs es → map (λ block. label_numbers ns vs (end_labels block.end)) blocks ≡ map (λ block. successor_numbers es (end_labels block.end)) blocks
graph_alike ns vs es [] stands = refl
graph_alike ns vs es (b ∷ bs) stands =
    ap (λ (ks : List ℕ). ks ∷ map (λ block. label_numbers ns vs (end_labels block.end)) bs) (numbers_alike ns vs es (end_labels b.end) stands)
    ∙ ap (λ (g : List (List ℕ)). successor_numbers es (end_labels b.end) ∷ g) (graph_alike ns vs es bs stands)

pub describes : (fn : Function) (ns : List (List ℕ)) (vs : List Inner) (graph : List (List ℕ)) → AllDiffer (names_in_function fn) → TableStandsFor ns vs (inner_entries fn) → graph ≡ map (λ block. label_numbers ns vs (end_labels block.end)) fn.blocks → DescribesPaths fn ns vs graph
describes fn ns vs graph differ stands e = record { stands = stands; graph_is = e ∙ graph_alike ns vs (inner_entries fn) fn.blocks stands; differ = differ }

-- ---- functions one after another

-- All uses in the functions before one are assigned.
pub record RightBefore (functions : List Function) (end : ℕ) : Type 0 where
  pub right : (g : ℕ) (gn : Function) → g < end → slice_get functions g ≡ Some gn → AllAssigned gn g

pub right_before_none : (functions : List Function) → RightBefore functions 0
right_before_none functions = record { right = λ g gn low here. absurd (omega arith) }

pub right_before_more : (functions : List Function) (end : ℕ) (fn : Function) → RightBefore functions end → end < length functions → fn ≡ get_or functions end fn → AllAssigned fn end → RightBefore functions (end + 1)
right_before_more functions end fn before within is all = record {
  right = λ g gn low here. elim (cases_lt g end) [
    | inl lower ↦ before.right g gn lower here
    | inr upper ↦ last g gn (omega arith) here
  ];
}
  where
    last : (g : ℕ) (gn : Function) → g ≡ end → slice_get functions g ≡ Some gn → AllAssigned gn g
    last g gn e here =
        let at_end : slice_get functions end ≡ Some gn = rw e at here in
        let it : Some fn ≡ Some gn = ap Some is ∙ sym (slice_get-get_or functions end fn within) ∙ at_end in
        let same : fn ≡ gn = cc in
        rw (e, ← same) all

pub right_everywhere : (functions : List Function) (end : ℕ) → RightBefore functions end → length functions ≤ end → (g : ℕ) (gn : Function) → slice_get functions g ≡ Some gn → AllAssigned gn g
right_everywhere functions end before past g gn here = before.right g gn (let low : g < length functions = slice_get_within functions g gn here in omega arith) here

first_in_program : (P : Program) (k : ℕ) (fn : Function) (place : Place) (path : List ℕ) → RightBefore P.functions k → k < length P.functions → fn ≡ get_or P.functions k fn → IsFirstOf fn (register_uses k fn) place path → IsFirstUnassigned P place path
first_in_program P k fn place path before within is first = record {
  function = k;
  fn = fn;
  here = slice_get-get_or P.functions k fn within ∙ ap Some (sym is);
  earlier = λ g gn low here. before.right g gn low here;
  before = first.before;
  it = first.it;
  after = first.after;
  uses = first.is;
  assigned = first.assigned;
  at = first.at;
  unassigned = first.shown;
}

pub refused_in_program : (P : Program) (k : ℕ) (fn : Function) (e : NotAssigned) → RightBefore P.functions k → k < length P.functions → fn ≡ get_or P.functions k fn → AnswersUses {T = Unit {0}} fn (Err e) (register_uses k fn) → AnswersAssigned {T = Unit {0}} (Err e) P
refused_in_program P k fn (unassigned.Use place path) before within is first = first_in_program P k fn place path before within is first
refused_in_program P k fn unassigned.NoMemory before within is first = tt
