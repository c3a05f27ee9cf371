-- Uses of registers on paths, by the tables of a function.
use Rattle.std.proofs.Common.{ℕ, zero, suc, ◌+◌, ◌<◌, ◌≤◌, ◌≡◌, ◌⊎◌, ◌&&◌, nat_eq, Bool, true, false, List, [], ◌∷◌, ◌++◌, map, length, get_or, Option, Some, None, refl, sym, ap, subst, ◌∙◌, inl, inr, ⊎_elim, arith, append-nil}
use Rattle.std.specs.Prelude.{slice_get, option_map, unwrap_or, if◌then◌else◌}
use Rattle.std.proofs.lemmas.Bool.{eqb-true, eq-eqb, and_parts}
use Rattle.std.specs.List.{Contains, flat_map}
use Rattle.std.specs.Str.{bytes_eq}
use Rattle.std.proofs.lemmas.Slice.Eq.{bytes_eq-Decides}
use Rattle.std.proofs.lemmas.List.{length-map, get_or_past}
use Rattle.std.proofs.lemmas.List.Elements.{Contains-append_left, Contains-append_right, Contains-append_cases}
use Rattle.std.proofs.lemmas.Option.{slice_get_within, slice_get_cases, get_or_from_slice_get, slice_get-map}
use Rattle.hip_types.specs.declared.number.Scalar.{Scalar}
use Rattle.hip_tree.specs.declared.block.Block.{Block}
use Rattle.hip_tree.specs.declared.block.Edge.{Edge}
use Rattle.hip_tree.specs.declared.program.Function.{Function}
use Rattle.hip_paths.specs.Graphs as graphs
use Rattle.hip_paths.specs.Graphs.{IsPathFrom, IsPathAround, IsPassedBefore}
use Rattle.hip_typing.specs.Seen.AssignedSeen.{is_there, to_pass}
use Rattle.hip_sound.specs.Declarations.{block_declared}
use Rattle.hip_sound.specs.Laws.NameLaws.{declared_names-are}
use Rattle.hip_sound.specs.Sound.{names_in_function}
use Rattle.hip_typing.specs.Seen.Inner.{entries, inner_entries, block_number, successor_numbers, graph_of}
use Rattle.hip_names.specs.Names.{AllDiffer, IsAmong}
use Rattle.hip_sound.specs.Paths.{BlockLeadsTo, IsChain, IsUnassigned, IsAssigned, names_of, registers_before, whole_block_names, names_before, assigned_on}
use Rattle.hip_sound.specs.Registers.{parameter_registers, end_labels, use_of, operand_registers, used_registers}
use Rattle.hip_sound.specs.Rules.{use_at, block_number_from, edge_register_uses}
use Rattle.hip_sound.specs.declared.fault.Place.{Place}
use Rattle.hip_names.specs.Tables.{value_of}
use Rattle.hip_sound.specs.declared.point.Point.{Point}
use Rattle.hip_sound.specs.declared.point.Point.TheVariants.{AtEnd}
use Rattle.hip_typing.specs.declared.tables.inner_table.Inner.{Inner}
use Rattle.hip_typing.specs.declared.tables.inner_table.Inner.TheVariants.{Parameter, Label, Assigned}
use Rattle.hip_typing.proofs.EntryLemmas.{IsEntry, value_is_entry, entry_is_value, IsUsable, usable_before, IsAssignedIn, assigned_in, label_in, no_parameter_in, parameter_is_entry, block_is_in, InBlock, entry_of_function, among_left, among_right, among_cases}

abbrev pub NamesDiffer : Function → Type 0
NamesDiffer fn = AllDiffer (names_in_function fn)

entry_names-are : (fn : Function) → map (λ e. e.name) (inner_entries fn) ≡ names_in_function fn
entry_names-are fn =
    declared_names-are entries (λ e. e.name)
    (record { parameter = λ p. refl; label = λ b label. refl; phi = λ b i p. refl; instr = λ b i r. refl }) fn

found : (fn : Function) (name : List ℕ) (v : Inner) → NamesDiffer fn → IsEntry (inner_entries fn) name v → value_of (inner_entries fn) name ≡ Some v
found fn name v differ h = entry_is_value (inner_entries fn) name v (subst AllDiffer (sym (entry_names-are fn)) differ) h

-- ---- the label of a block denotes its number

pub label_found : (fn : Function) (b : ℕ) (block : Block) → NamesDiffer fn → slice_get fn.blocks b ≡ Some block → value_of (inner_entries fn) block.label ≡ Some (Label b)
label_found fn b block differ here = found fn block.label (Label b) differ (block_is_in fn b block block.label (Label b) here (inl (refl, refl)))

record BlockOfLabel (fn : Function) (label : List ℕ) (b : ℕ) : Type 0 where
  pub block : Block
  pub here : slice_get fn.blocks b ≡ Some block
  pub is : block.label ≡ label

block_of_entry : (fn : Function) (label : List ℕ) (b : ℕ) → ((Parameter ≡ Label b) × IsAmong (names_of (parameter_registers fn)) label) ⊎ InBlock fn label (Label b) → BlockOfLabel fn label b
block_of_entry fn label b (inl h) = let e : Parameter ≡ Label b = h.0 in cc
block_of_entry fn label b (inr i) =
    let l = label_in i.number i.block label b i.is in
    record { block = i.block; here = subst (λ (n : ℕ). slice_get fn.blocks n ≡ Some i.block) l.1 i.here; is = l.0 }

block_of_label : (fn : Function) (label : List ℕ) (b : ℕ) → value_of (inner_entries fn) label ≡ Some (Label b) → BlockOfLabel fn label b
block_of_label fn label b e = block_of_entry fn label b (entry_of_function fn label (Label b) (value_is_entry (inner_entries fn) label (Label b) e))

-- ---- the numbers of labels

numbers_of : (w : Option Inner) (c : ℕ) → Contains (block_number w) c → w ≡ Some (Label c)
numbers_of None c h = absurd (omega (arith, h.1))
numbers_of (Some Parameter) c h = absurd (omega (arith, h.1))
numbers_of (Some (Assigned b a)) c h = absurd (omega (arith, h.1))
numbers_of (Some (Label n)) c h = one h.0 h.1 h.2
  where
    one : (k : ℕ) → k < 1 → get_or (n ∷ []) k c ≡ c → Some (Label n) ≡ Some (Label c)
    one zero within e = ap (λ m. Some (Label m)) e
    one (suc k) within e = absurd (omega arith)

pub successor_from : (fn : Function) (labels : List (List ℕ)) (c : ℕ) → Contains (successor_numbers (inner_entries fn) labels) c → (label : List ℕ) × IsAmong labels label × (value_of (inner_entries fn) label ≡ Some (Label c))
successor_from fn [] c h = absurd (omega (arith, h.1))
successor_from fn (l ∷ ls) c h =
    ⊎_elim (λ g. (l, inl refl, numbers_of (value_of (inner_entries fn) l) c g)) (λ g. let rest = successor_from fn ls c g in (rest.0, inr rest.1, rest.2))
    (Contains-append_cases (block_number (value_of (inner_entries fn) l)) (successor_numbers (inner_entries fn) ls) c h)

pub successor_to : (fn : Function) (labels : List (List ℕ)) (label : List ℕ) (c : ℕ) → IsAmong labels label → value_of (inner_entries fn) label ≡ Some (Label c) → Contains (successor_numbers (inner_entries fn) labels) c
successor_to fn [] label c h e = absurd h
successor_to fn (l ∷ ls) label c (inl same) e =
    let first : Contains (block_number (value_of (inner_entries fn) l)) c = rw (same, e) (0, omega arith, refl) in
    Contains-append_left (block_number (value_of (inner_entries fn) l)) (successor_numbers (inner_entries fn) ls) c first
successor_to fn (l ∷ ls) label c (inr h) e = Contains-append_right (block_number (value_of (inner_entries fn) l)) (successor_numbers (inner_entries fn) ls) c (successor_to fn ls label c h e)

-- ---- steps of the graph are steps of the function

abbrev numbers : Function → Block → List ℕ
numbers fn block = successor_numbers (inner_entries fn) (end_labels block.end)

graph_at : (fn : Function) (b : ℕ) (block : Block) → slice_get fn.blocks b ≡ Some block → get_or (graph_of fn) b [] ≡ numbers fn block
graph_at fn b block here = get_or_from_slice_get (graph_of fn) b (numbers fn block) [] (slice_get-map (numbers fn) fn.blocks b ∙ ap (option_map (numbers fn)) here)

length_graph : (fn : Function) → length (graph_of fn) ≡ length fn.blocks
length_graph fn = length-map fn.blocks (numbers fn)

label_of_some : (blocks : List Block) (c : ℕ) (label : List ℕ) → option_map (λ block. block.label) (slice_get blocks c) ≡ Some label → (block : Block) × (slice_get blocks c ≡ Some block) × (block.label ≡ label)
label_of_some [] c label e = cc
label_of_some (b ∷ bs) zero label e = (b, refl, cc)
label_of_some (b ∷ bs) (suc c) label e = label_of_some bs c label e

named_by_some : (blocks : List Block) (b : ℕ) (label : List ℕ) → IsAmong (unwrap_or (option_map (λ block. end_labels block.end) (slice_get blocks b)) []) label → (block : Block) × (slice_get blocks b ≡ Some block) × IsAmong (end_labels block.end) label
named_by_some [] b label h = absurd h
named_by_some (x ∷ xs) zero label h = (x, refl, h)
named_by_some (x ∷ xs) (suc b) label h = named_by_some xs b label h

pub step_to_graph : (fn : Function) (b c : ℕ) → NamesDiffer fn → BlockLeadsTo fn b c → graphs.NodeLeadsTo (graph_of fn) b c
step_to_graph fn b c differ leads =
    let to = label_of_some fn.blocks c leads.label leads.here in
    let from = named_by_some fn.blocks b leads.label leads.named in
    let number : value_of (inner_entries fn) leads.label ≡ Some (Label c) = rw to.2 at (label_found fn c to.0 differ to.1) in
    record {
      named = rw (graph_at fn b from.0 from.1) (successor_to fn (end_labels from.0.end) leads.label c from.2 number);
      there = rw (length_graph fn) (slice_get_within fn.blocks c to.0 to.1);
    }

-- If a step leads from a number, a block has this number.
block_with_steps : (fn : Function) (b c : ℕ) → Contains (get_or (graph_of fn) b []) c → (block : Block) × (slice_get fn.blocks b ≡ Some block)
block_with_steps fn b c h = ⊎_elim (λ g. (g.0, g.2)) (λ g. absurd (none g.0)) (slice_get_cases fn.blocks b).1
  where
    none : length fn.blocks ≤ b → ⊥
    none past =
        let long : length (graph_of fn) ≤ b = rw (length_graph fn) past in
        let empty : Contains [] c = rw (get_or_past (graph_of fn) b [] long) at h in
        omega (arith, empty.1)

pub step_from_graph : (fn : Function) (b c : ℕ) → graphs.NodeLeadsTo (graph_of fn) b c → BlockLeadsTo fn b c
step_from_graph fn b c leads =
    let from = block_with_steps fn b c leads.named in
    let named : Contains (numbers fn from.0) c = rw (graph_at fn b from.0 from.1) at leads.named in
    let step = successor_from fn (end_labels from.0.end) c named in
    let to : BlockOfLabel fn step.0 c = block_of_label fn step.0 c step.2 in
    record {
      label = step.0;
      here = rw to.here (ap Some to.is);
      named = rw from.1 step.1;
    }

-- ---- paths of the function and of the graph

pub chain_to_path : (fn : Function) (last : ℕ) (earlier : List ℕ) (b : ℕ) (blocks : List ℕ) → NamesDiffer fn → IsChain fn b blocks → b ∷ blocks ≡ earlier ++ last ∷ [] → IsPathFrom (graph_of fn) b earlier last
chain_to_path fn last [] b blocks differ chain e = cc
chain_to_path fn last (x ∷ []) b [] differ chain e = cc
chain_to_path fn last (x ∷ y ∷ ys) b [] differ chain e = cc
chain_to_path fn last (x ∷ xs) b (c ∷ cs) differ chain e =
    let first : x ≡ b = cc in
    let rest : c ∷ cs ≡ xs ++ last ∷ [] = cc in
    (first, (c, step_to_graph fn b c differ chain.0, chain_to_path fn last xs c cs differ chain.1 rest))

pub record ChainOf (fn : Function) (b : ℕ) (earlier : List ℕ) (last : ℕ) : Type 0 where
  pub blocks : List ℕ
  pub is : b ∷ blocks ≡ earlier ++ last ∷ []
  pub chain : IsChain fn b blocks

pub path_to_chain : (fn : Function) (last : ℕ) (earlier : List ℕ) (b : ℕ) → IsPathFrom (graph_of fn) b earlier last → ChainOf fn b earlier last
path_to_chain fn last [] b path = record { blocks = []; is = ap (λ (n : ℕ). n ∷ []) path; chain = tt }
path_to_chain fn last (x ∷ xs) b path =
    let next : ℕ = path.1.0 in
    let rest : ChainOf fn next xs last = path_to_chain fn last xs next path.1.2 in
    record {
      blocks = next ∷ rest.blocks;
      is = let first : x ≡ b = path.0 in let later : next ∷ rest.blocks ≡ xs ++ last ∷ [] = rest.is in cc;
      chain = (step_from_graph fn b next path.1.1, rest.chain);
    }

nodes_there : (graph : List (List ℕ)) (p last : ℕ) (earlier : List ℕ) (node : ℕ) → IsPathFrom graph node earlier last → node < length graph → Contains earlier p → p < length graph
nodes_there graph p last [] node path low c = absurd (omega (arith, c.1))
nodes_there graph p last (x ∷ xs) node path low c =
    ⊎_elim (λ (e : Contains (x ∷ []) p). one e.0 e.1 e.2) (λ rest. nodes_there graph p last xs path.1.0 path.1.2 path.1.1.there rest) (Contains-append_cases (x ∷ []) xs p c)
  where
    one : (k : ℕ) → k < 1 → get_or (x ∷ []) k p ≡ p → p < length graph
    one zero within e = let same : x ≡ node = path.0 in let q : p ≡ node = sym e ∙ same in omega arith
    one (suc k) within e = absurd (omega arith)

-- ---- what is assigned on a path

among_of_some : (fn : Function) (earlier : List ℕ) (b : ℕ) (name : List ℕ) → Contains earlier b → IsAmong (whole_block_names fn b) name → IsAmong (flat_map (whole_block_names fn) earlier) name
among_of_some fn [] b name c h = absurd (omega (arith, c.1))
among_of_some fn (x ∷ xs) b name c h =
    ⊎_elim (λ (e : Contains (x ∷ []) b). one e.0 e.1 e.2) (λ rest. among_right (whole_block_names fn x) (flat_map (whole_block_names fn) xs) name (among_of_some fn xs b name rest h))
    (Contains-append_cases (x ∷ []) xs b c)
  where
    one : (k : ℕ) → k < 1 → get_or (x ∷ []) k b ≡ b → IsAmong (flat_map (whole_block_names fn) (x ∷ xs)) name
    one zero within e = among_left (whole_block_names fn x) (flat_map (whole_block_names fn) xs) name (subst (λ (n : ℕ). IsAmong (whole_block_names fn n) name) (sym e) h)
    one (suc k) within e = absurd (omega arith)

some_among : (fn : Function) (earlier : List ℕ) (name : List ℕ) → IsAmong (flat_map (whole_block_names fn) earlier) name → (b : ℕ) × Contains earlier b × IsAmong (whole_block_names fn b) name
some_among fn [] name h = absurd h
some_among fn (x ∷ xs) name h =
    ⊎_elim (λ g. (x, (0, omega arith, refl), g)) (λ g. let rest = some_among fn xs name g in (rest.0, Contains-append_right (x ∷ []) xs rest.0 rest.1, rest.2))
    (among_cases (whole_block_names fn x) (flat_map (whole_block_names fn) xs) name h)

before_some : (blocks : List Block) (point : Point) (b : ℕ) (name : List ℕ) → IsAmong (unwrap_or (option_map (λ block. names_of (registers_before point block)) (slice_get blocks b)) []) name → (block : Block) × (slice_get blocks b ≡ Some block) × IsAmong (names_of (registers_before point block)) name
before_some [] point b name h = absurd h
before_some (x ∷ xs) point zero name h = (x, refl, h)
before_some (x ∷ xs) point (suc b) name h = before_some xs point b name h

-- If a register can be used at a point of a block, it has an entry of this block and can be used at the point by that
-- entry.
pub usable_at : (fn : Function) (point : Point) (b : ℕ) (name : List ℕ) → NamesDiffer fn → IsAmong (names_before fn point b) name → (after : ℕ) × (is_there point after ≡ true) × (value_of (inner_entries fn) name ≡ Some (Assigned b after))
usable_at fn point b name differ h =
    let at = before_some fn.blocks point b name h in
    let u : IsUsable b point (block_declared entries b at.0) name = usable_before b point at.0 name at.2 in
    (u.after, u.there, found fn name (Assigned b u.after) differ (block_is_in fn b at.0 name (Assigned b u.after) at.1 u.is))

assigned_by_entry : (fn : Function) (name : List ℕ) (d after : ℕ) (point : Point) → ((Parameter ≡ Assigned d after) × IsAmong (names_of (parameter_registers fn)) name) ⊎ InBlock fn name (Assigned d after) → is_there point after ≡ true → IsAmong (names_before fn point d) name
assigned_by_entry fn name d after point (inl h) there = let e : Parameter ≡ Assigned d after = h.0 in cc
assigned_by_entry fn name d after point (inr i) there =
    let a : IsAssignedIn i.number i.block name d after = assigned_in i.number i.block name d after i.is in
    rw (a.same, i.here) (a.before point there)

-- A register whose entry says that it can be used at a point of its block is among the names that are assigned before
-- the point.
pub assigned_at : (fn : Function) (name : List ℕ) (d after : ℕ) (point : Point) → value_of (inner_entries fn) name ≡ Some (Assigned d after) → is_there point after ≡ true → IsAmong (names_before fn point d) name
assigned_at fn name d after point e there = assigned_by_entry fn name d after point (entry_of_function fn name (Assigned d after) (value_is_entry (inner_entries fn) name (Assigned d after) e)) there

parameter_by_entry : (fn : Function) (name : List ℕ) → ((Parameter ≡ Parameter) × IsAmong (names_of (parameter_registers fn)) name) ⊎ InBlock fn name Parameter → IsAmong (names_of (parameter_registers fn)) name
parameter_by_entry fn name (inl h) = h.1
parameter_by_entry fn name (inr i) = absurd (no_parameter_in i.number i.block name i.is)

pub parameter_at : (fn : Function) (name : List ℕ) → value_of (inner_entries fn) name ≡ Some Parameter → IsAmong (names_of (parameter_registers fn)) name
parameter_at fn name e = parameter_by_entry fn name (entry_of_function fn name Parameter (value_is_entry (inner_entries fn) name Parameter e))

-- ---- a use is assigned, or is not, by the block that each path has to pass

-- A path on which the register is not assigned, as the graph sees it.
record IsBare (fn : Function) (last : ℕ) (point : Point) (name : List ℕ) : Type 0 where
  pub earlier : List ℕ
  pub path : IsPathFrom (graph_of fn) 0 earlier last
  pub none : ¬ IsAmong (assigned_on fn earlier last point) name

bare : (fn : Function) (last : ℕ) (point : Point) (name path : List ℕ) → NamesDiffer fn → IsUnassigned fn last point name path → IsBare fn last point name
bare fn last point name path differ u = record {
  earlier = u.earlier;
  path = chain_to_path fn last u.earlier 0 u.leads.blocks differ u.leads.chain (sym u.leads.is ∙ u.is);
  none = u.none;
}

among_parameters : (fn : Function) (earlier : List ℕ) (last : ℕ) (point : Point) (name : List ℕ) → IsAmong (names_of (parameter_registers fn)) name → IsAmong (assigned_on fn earlier last point) name
among_parameters fn earlier last point name h = among_left (names_of (parameter_registers fn)) (flat_map (whole_block_names fn) earlier ++ names_before fn point last) name h

among_earlier : (fn : Function) (earlier : List ℕ) (last : ℕ) (point : Point) (name : List ℕ) → IsAmong (flat_map (whole_block_names fn) earlier) name → IsAmong (assigned_on fn earlier last point) name
among_earlier fn earlier last point name h =
    among_right (names_of (parameter_registers fn)) (flat_map (whole_block_names fn) earlier ++ names_before fn point last) name (among_left (flat_map (whole_block_names fn) earlier) (names_before fn point last) name h)

among_last : (fn : Function) (earlier : List ℕ) (last : ℕ) (point : Point) (name : List ℕ) → IsAmong (names_before fn point last) name → IsAmong (assigned_on fn earlier last point) name
among_last fn earlier last point name h =
    among_right (names_of (parameter_registers fn)) (flat_map (whole_block_names fn) earlier ++ names_before fn point last) name (among_right (flat_map (whole_block_names fn) earlier) (names_before fn point last) name h)

-- If no block has to be passed, the test of the use's own block holds.
here_by_test : (b : Bool) (d : ℕ) → (if b then None else Some d) ≡ None → b ≡ true
here_by_test true d e = refl
here_by_test false d e = cc

nothing_to_pass : (fn : Function) (last : ℕ) (point : Point) (name : List ℕ) (w : Option Inner) → value_of (inner_entries fn) name ≡ w → to_pass (length fn.blocks) last point w ≡ None → (earlier : List ℕ) → IsAmong (assigned_on fn earlier last point) name
nothing_to_pass fn last point name None v e earlier = cc
nothing_to_pass fn last point name (Some (Label n)) v e earlier = cc
nothing_to_pass fn last point name (Some Parameter) v e earlier = among_parameters fn earlier last point name (parameter_at fn name v)
nothing_to_pass fn last point name (Some (Assigned d after)) v e earlier =
    let both = and_parts (nat_eq d last) (is_there point after) (here_by_test (nat_eq d last && is_there point after) d e) in
    let same : d ≡ last = eqb-true d last both.0 in
    among_last fn earlier last point name (subst (λ (b : ℕ). IsAmong (names_before fn point b) name) same (assigned_at fn name d after point v both.1))

pub assigned_here : (fn : Function) (last : ℕ) (point : Point) (name : List ℕ) → to_pass (length fn.blocks) last point (value_of (inner_entries fn) name) ≡ None → IsAssigned fn last point name
assigned_here fn last point name e path u = u.none (nothing_to_pass fn last point name (value_of (inner_entries fn) name) refl e u.earlier)

-- The block that has to be passed is the one that assigns the register.
passed_by_test : (b : Bool) (d p : ℕ) → (if b then None else Some d) ≡ Some p → d ≡ p
passed_by_test true d p e = cc
passed_by_test false d p e = cc

no_block : (fn : Function) (last passed : ℕ) (earlier : List ℕ) → length fn.blocks ≡ passed → 0 < length fn.blocks → IsPathFrom (graph_of fn) 0 earlier last → Contains earlier passed → ⊥
no_block fn last passed earlier e some path c =
    let low : passed < length (graph_of fn) = nodes_there (graph_of fn) passed last earlier 0 path (omega (arith, length_graph fn)) c in
    omega (arith, length_graph fn)

passed_assigns : (fn : Function) (last passed : ℕ) (point : Point) (name : List ℕ) (w : Option Inner) → value_of (inner_entries fn) name ≡ w → to_pass (length fn.blocks) last point w ≡ Some passed → 0 < length fn.blocks
    → (earlier : List ℕ) → IsPathFrom (graph_of fn) 0 earlier last → Contains earlier passed → IsAmong (assigned_on fn earlier last point) name
passed_assigns fn last passed point name (Some Parameter) v e some earlier path c = cc
passed_assigns fn last passed point name (Some (Assigned d after)) v e some earlier path c =
    let same : d ≡ passed = passed_by_test (nat_eq d last && is_there point after) d passed e in
    among_earlier fn earlier last point name (among_of_some fn earlier passed name c (subst (λ (b : ℕ). IsAmong (whole_block_names fn b) name) same (assigned_at fn name d after AtEnd v refl)))
passed_assigns fn last passed point name None v e some earlier path c = absurd (no_block fn last passed earlier (cc) some path c)
passed_assigns fn last passed point name (Some (Label n)) v e some earlier path c = absurd (no_block fn last passed earlier (cc) some path c)

pub assigned_when_passed : (fn : Function) (last passed : ℕ) (point : Point) (name : List ℕ) → NamesDiffer fn → to_pass (length fn.blocks) last point (value_of (inner_entries fn) name) ≡ Some passed → last < length fn.blocks → IsPassedBefore (graph_of fn) passed last → IsAssigned fn last point name
assigned_when_passed fn last passed point name differ e low always path u =
    let b : IsBare fn last point name = bare fn last point name path differ u in
    b.none (passed_assigns fn last passed point name (value_of (inner_entries fn) name) refl e (omega arith) b.earlier b.path (always b.earlier b.path))

-- The block that assigns the register is the block that each path has to pass.
same_block : (fn : Function) (last passed b after : ℕ) (point : Point) (name : List ℕ) → to_pass (length fn.blocks) last point (value_of (inner_entries fn) name) ≡ Some passed → value_of (inner_entries fn) name ≡ Some (Assigned b after) → b ≡ passed
same_block fn last passed b after point name e v = passed_by_test (nat_eq b last && is_there point after) b passed (rw v at e)

there_test : (b c : Bool) (d p : ℕ) → b ≡ true → c ≡ true → (if b && c then None else Some d) ≡ Some p → ⊥
there_test true true d p s t e = cc
there_test true false d p s t e = cc
there_test false c d p s t e = cc

not_there : (fn : Function) (last passed after : ℕ) (point : Point) (name : List ℕ) → to_pass (length fn.blocks) last point (value_of (inner_entries fn) name) ≡ Some passed → value_of (inner_entries fn) name ≡ Some (Assigned last after) → is_there point after ≡ true → ⊥
not_there fn last passed after point name e v there = there_test (nat_eq last last) (is_there point after) last passed (eq-eqb last last refl) there (rw v at e)

not_parameter : (fn : Function) (last passed : ℕ) (point : Point) (name : List ℕ) → to_pass (length fn.blocks) last point (value_of (inner_entries fn) name) ≡ Some passed → value_of (inner_entries fn) name ≡ Some Parameter → ⊥
not_parameter fn last passed point name e v = let f : to_pass (length fn.blocks) last point (Some Parameter) ≡ Some passed = rw v at e in cc

nothing_assigns : (fn : Function) (last passed : ℕ) (point : Point) (name : List ℕ) (earlier : List ℕ) → NamesDiffer fn → to_pass (length fn.blocks) last point (value_of (inner_entries fn) name) ≡ Some passed → ¬ Contains earlier passed → ¬ IsAmong (assigned_on fn earlier last point) name
nothing_assigns fn last passed point name earlier differ e around h =
    ⊎_elim
    (λ g. not_parameter fn last passed point name e (found fn name Parameter differ (parameter_is_entry fn name g)))
    (λ rest. ⊎_elim
    (λ g.
    let at = some_among fn earlier name g in
    let u = usable_at fn AtEnd at.0 name differ at.2 in
    let same : at.0 ≡ passed = same_block fn last passed at.0 u.0 point name e u.2 in
    around (subst (λ (b : ℕ). Contains earlier b) same at.1))
    (λ g. let u = usable_at fn point last name differ g in not_there fn last passed u.0 point name e u.2 u.1)
    (among_cases (flat_map (whole_block_names fn) earlier) (names_before fn point last) name rest))
    (among_cases (names_of (parameter_registers fn)) (flat_map (whole_block_names fn) earlier ++ names_before fn point last) name h)

pub unassigned_around : (fn : Function) (last passed : ℕ) (point : Point) (name path : List ℕ) → NamesDiffer fn → to_pass (length fn.blocks) last point (value_of (inner_entries fn) name) ≡ Some passed → IsPathAround (graph_of fn) passed last path → IsUnassigned fn last point name path
unassigned_around fn last passed point name path differ e way =
    let c : ChainOf fn 0 way.earlier last = path_to_chain fn last way.earlier 0 way.leads in
    record {
      leads = record { blocks = c.blocks; is = way.is ∙ sym c.is; chain = c.chain; earlier = way.earlier; last_is = way.is };
      earlier = way.earlier;
      is = way.is;
      none = nothing_assigns fn last passed point name way.earlier differ e way.around;
    }

-- ---- the number of the block that a label names first

record NumbersAre (n : ℕ) (blocks : List Block) (label : List ℕ) (numbers : List ℕ) : Type 0 where
  pub only : (c : ℕ) (block : Block) → slice_get blocks c ≡ Some block → block.label ≡ label → (numbers ≡ [] → ⊥)
  pub first : (numbers ≡ []) ⊎ ((c : ℕ) × (block : Block) × (slice_get blocks c ≡ Some block) × (block.label ≡ label) × (numbers ≡ (n + c) ∷ []))

numbers_found : (n : ℕ) (b : Block) (bs : List Block) (label : List ℕ) (test : Bool) (rest : List ℕ) → bytes_eq b.label label ≡ test → NumbersAre (n + 1) bs label rest → NumbersAre n (b ∷ bs) label (if test then n ∷ [] else rest)
numbers_found n b bs label true rest e is = record {
  only = λ c block here same empty. cc;
  first = inr (0, b, refl, (bytes_eq-Decides b.label label).0 e, let z : n + 0 ≡ n = omega arith in rw z refl);
}
numbers_found n b bs label false rest e is = record { only = λ c block here same empty. later c block here same empty; first = ⊎_elim (λ g. inl g) (λ g. inr (further g)) is.first }
  where
    later : (c : ℕ) (block : Block) → slice_get (b ∷ bs) c ≡ Some block → block.label ≡ label → rest ≡ [] → ⊥
    later zero block here same empty =
        let it : b ≡ block = cc in
        let t : bytes_eq b.label label ≡ true = (bytes_eq-Decides b.label label).1 (ap (λ (x : Block). x.label) it ∙ same) in
        cc
    later (suc c) block here same empty = is.only c block here same empty

    further : (c : ℕ) × (block : Block) × (slice_get bs c ≡ Some block) × (block.label ≡ label) × (rest ≡ (n + 1 + c) ∷ []) → (c : ℕ) × (block : Block) × (slice_get (b ∷ bs) c ≡ Some block) × (block.label ≡ label) × (rest ≡ (n + c) ∷ [])
    further g = (suc g.0, g.1, g.2, g.3, let z : n + suc g.0 ≡ n + 1 + g.0 = omega arith in rw z g.4)

numbers_are : (n : ℕ) (blocks : List Block) (label : List ℕ) → NumbersAre n blocks label (block_number_from n blocks label)
numbers_are n [] label = record { only = λ c block here same empty. cc; first = inl refl }
numbers_are n (b ∷ bs) label = numbers_found n b bs label (bytes_eq b.label label) (block_number_from (n + 1) bs label) refl (numbers_are (n + 1) bs label)

-- The first block with a label has the number that the label denotes.
pub number_of_label : (fn : Function) (label : List ℕ) (b : ℕ) → NamesDiffer fn → value_of (inner_entries fn) label ≡ Some (Label b) → block_number_from 0 fn.blocks label ≡ b ∷ []
number_of_label fn label b differ e =
    let at : BlockOfLabel fn label b = block_of_label fn label b e in
    let are : NumbersAre 0 fn.blocks label (block_number_from 0 fn.blocks label) = numbers_are 0 fn.blocks label in
    ⊎_elim (λ none. absurd (are.only b at.block at.here at.is none)) (λ g. same g.0 g.1 g.2 g.3 g.4) are.first
  where
    same : (c : ℕ) (block : Block) → slice_get fn.blocks c ≡ Some block → block.label ≡ label → block_number_from 0 fn.blocks label ≡ (0 + c) ∷ [] → block_number_from 0 fn.blocks label ≡ b ∷ []
    same c block here is listed =
        let z : 0 + c ≡ c = omega arith in
        let found_c : value_of (inner_entries fn) label ≡ Some (Label c) = rw is at (label_found fn c block differ here) in
        let one : c ≡ b = cc in
        listed ∙ ap (λ (k : ℕ). k ∷ []) (z ∙ one)

-- A name that denotes no block is not the label of a block.
pub no_number : (fn : Function) (label : List ℕ) → NamesDiffer fn → block_number (value_of (inner_entries fn) label) ≡ [] → block_number_from 0 fn.blocks label ≡ []
no_number fn label differ e =
    let are : NumbersAre 0 fn.blocks label (block_number_from 0 fn.blocks label) = numbers_are 0 fn.blocks label in
    ⊎_elim (λ none. none) (λ g. let f : value_of (inner_entries fn) label ≡ Some (Label g.0) = rw g.3 at (label_found fn g.0 g.1 differ g.2) in let n : block_number (Some (Label g.0)) ≡ [] = rw f at e in cc) are.first

-- The block that a label denotes exists.
pub label_within : (fn : Function) (label : List ℕ) (b : ℕ) → value_of (inner_entries fn) label ≡ Some (Label b) → b < length fn.blocks
label_within fn label b e = let at : BlockOfLabel fn label b = block_of_label fn label b e in slice_get_within fn.blocks b at.block at.here

pub edge_used : (fn : Function) (place : Place) (ty : Scalar) (edge : Edge) (b : ℕ) → NamesDiffer fn → value_of (inner_entries fn) edge.label ≡ Some (Label b) → edge_register_uses fn.blocks place ty edge ≡ map (use_at place b AtEnd) (operand_registers edge.value)
edge_used fn place ty edge b differ e =
    ap (flat_map (λ n. map (use_at place n AtEnd) (used_registers (use_of edge.value ty ∷ [])))) (number_of_label fn edge.label b differ e)
    ∙ append-nil (map (use_at place b AtEnd) (used_registers (use_of edge.value ty ∷ []))) ∙ ap (map (use_at place b AtEnd)) (append-nil (operand_registers edge.value))

pub edge_unused : (fn : Function) (place : Place) (ty : Scalar) (edge : Edge) → NamesDiffer fn → block_number (value_of (inner_entries fn) edge.label) ≡ [] → edge_register_uses fn.blocks place ty edge ≡ []
edge_unused fn place ty edge differ e = ap (flat_map (λ n. map (use_at place n AtEnd) (used_registers (use_of edge.value ty ∷ [])))) (no_number fn edge.label differ e)
