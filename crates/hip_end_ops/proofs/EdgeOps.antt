-- Edges and the moves of phis.
use Rattle.std.proofs.Common.{◌≡◌, ℕ, zero, suc, ◌+◌, ◌<◌, ◌≤◌, cond, List, [], ◌∷◌, ◌++◌, length, take, drop, map, get_or, option_map, ap₂, Option, Some, None, slice_get, refl, sym, ap, ◌∙◌, subst, ⊎_elim, arith, append_assoc, add-one, eq-or-lt_of_le}
use Rattle.std.specs.Prelude.{slice_range}
use Rattle.std.proofs.Math.ListN.{get_or-append}
use Rattle.std.proofs.Math.Seq.{drop-append_seam}
use Rattle.std.proofs.lemmas.List.{append-nil, length-append}
use Rattle.std.proofs.lemmas.Option.{same_Some, slice_get_within, slice_get-get_or, slice_get-map, get_or_from_slice_get}
use Rattle.hip_tree.specs.declared.block.Block.{Block}
use Rattle.hip_tree.specs.declared.block.Edge as named_edge
use Rattle.hip_tree.specs.declared.block.Phi.{Phi}
use Rattle.hip_tree.specs.declared.program.GlobalVar.{GlobalVar}
use Rattle.hip_names.specs.Laws.NameLaws.{bytes_eq-sym}
use Rattle.hip_names.specs.Laws.NumberLaws.{number_cases, number_of-there}
use Rattle.hip_names.specs.Names.{IsAmong, number_of}
use Rattle.hip_names.specs.declared.table.NameTable.{NameTable}
use Rattle.hip_names.specs.Numbered.{NumbersNames}
use Rattle.hip_types.specs.Laws.DistinctLaws.{get_kept}
use Rattle.hip_code.specs.Edges.{IsMove, are_moves, edge_from}
use Rattle.hip_code.specs.Numbers.{Tables}
use Rattle.hip_code.specs.Resolved.{IsOperand}
use Rattle.hip_code.specs.Entries.{entry}
use Rattle.hip_code.specs.declared.op.OpEdge.{OpEdge}
use Rattle.hip_code.specs.declared.op.Move.{Move}
use Rattle.hip_runs.specs.Places.{block_at, block_number, blocks_in, blocks_of, label_of, phis_of}
use Rattle.hip_sound.specs.Registers.{end_labels}
use Rattle.hip_sound.specs.Sound.{IsBlockAt}
use Rattle.hip_sound.specs.NumberedNames.{label_names}
use Rattle.hip_code.specs.declared.op.OpOperand.{OpOperand}
use Rattle.hip_end_ops.specs.Edged.{HasEdge, IsSource, IsTarget, LeadFrom, EdgeLeads, PutsMoves, NewEdge, moves_of}
use Rattle.hip_scope.specs.Known.{PhiKnown}
use Rattle.hip_scope.specs.PhiNumbers.{HasNumbers}
use Rattle.hip_scope.specs.Growth.{TablesGrow, Makes, OnlyConstants}
use Rattle.hip_scope.specs.Scopes.{DescribesScope, names_of}
use Rattle.hip_end_ops.specs.declared.edges.EdgeSource.{EdgeSource}
use Rattle.hip_scope.specs.declared.scope.Scope.{Scope}
use Rattle.hip_scope.proofs.Growth.{grows_moves}
use Rattle.hip_scope.proofs.Growth.{extends_by, extends_same, get_extended, get_last, grows_on, makes_same, span_is, span_within}
use Rattle.hip_scope.proofs.Names.{known_number}
use Rattle.hip_scope.proofs.Sound.{among_all, phi_known}

-- ---- tables of edges

pub numbers_on : (tables more : List (NameTable ℕ)) (t : NameTable ℕ) (ps : List Phi) (k : ℕ) (p : Phi) → ((j : ℕ) (q : Phi) → j < k → slice_get ps j ≡ Some q → HasNumbers tables j q) → length tables ≡ k → more ≡ tables ++ t ∷ [] → p ≡ get_or ps k p →
    NumbersNames t.names t.values (map (λ e. e.label) p.edges) → (j : ℕ) (q : Phi) → j < k + 1 → slice_get ps j ≡ Some q → HasNumbers more j q
numbers_on tables more t ps k p before long e is n j q lt h =
    ⊎_elim now (λ earlier. let b = before j q earlier h in record { table = b.table; here = subst (λ l. slice_get l j ≡ Some b.table) (sym e) (get_kept tables (t ∷ []) j b.table b.here); numbers = b.numbers }) (eq-or-lt_of_le (omega (arith, lt)))
  where
    now : j ≡ k → HasNumbers more j q
    now s =
        let at_k : slice_get ps k ≡ Some q = subst (λ i. slice_get ps i ≡ Some q) s h in
        let same : p ≡ q = is ∙ get_or_from_slice_get ps k q p at_k in
        record {
          table = t;
          here = subst (λ l. slice_get l j ≡ Some t) (sym e) (subst (λ i. slice_get (tables ++ t ∷ []) i ≡ Some t) (long ∙ sym s) (get_last tables t));
          numbers = subst (λ (r : Phi). NumbersNames t.names t.values (map (λ e. e.label) r.edges)) same n;
        }

-- ---- a phi's operand

record Found (es : List named_edge.Edge) (from : List ℕ) (k : ℕ) : Type 0 where
  edge : named_edge.Edge
  here : slice_get es k ≡ Some edge
  value : edge_from es from ≡ Some edge.value

edge_found : (es : List named_edge.Edge) (from : List ℕ) (k : ℕ) → number_of (map (λ e. e.label) es) from ≡ Some k → Found es from k
edge_found [] from k h = cc
edge_found (e ∷ es) from k h =
    ⊎_elim
    (λ x. record {
      edge = e;
      here = subst (λ i. slice_get (e ∷ es) i ≡ Some e) (sym x.0) refl;
      value = ap (λ b. cond b (Some e.value) (edge_from es from)) (bytes_eq-sym e.label from ∙ x.2);
    })
    (λ x. let r = edge_found es from x.0 x.2 in
    record {
      edge = r.edge;
      here = subst (λ i. slice_get (e ∷ es) i ≡ Some r.edge) (sym x.3) r.here;
      value = ap (λ b. cond b (Some e.value) (edge_from es from)) (bytes_eq-sym e.label from ∙ x.1) ∙ r.value;
    }) (number_cases e.label (map (λ e. e.label) es) from k h)

pub edge_numbered : (names : List (List ℕ)) (from : List ℕ) (p : Phi) (t : NameTable ℕ) → PhiKnown names from p → NumbersNames t.names t.values (map (λ e. e.label) p.edges) → number_of (map (λ e. e.label) p.edges) from ≡ None → ⊥
edge_numbered names from p t known n e = let r = known_number (map (λ e. e.label) p.edges) from known.from_is in let q : ⊥ = cc (e, r.1) in q

pub is_move : (globals : List GlobalVar) (base : ℕ) (names : List (List ℕ)) (constants from : List ℕ) (p : Phi) (k dest : ℕ) (o : OpOperand) (e : named_edge.Edge) → number_of (map (λ e. e.label) p.edges) from ≡ Some k → slice_get p.edges k ≡ Some e →
    number_of names p.dest ≡ Some dest → IsOperand globals base names constants o e.value → IsMove globals base names constants from (record { dest = dest; value = o }) p
is_move globals base names constants from p k dest o e n h d q =
    let r = edge_found p.edges from k n in
    let same : r.edge ≡ e = same_Some r.edge e (sym r.here ∙ h) in
    record { operand = e.value; edge = r.value ∙ ap (λ (x : named_edge.Edge). Some x.value) same; dest = d; value = q }

-- ---- moves

pub moves_none : (s : Scope) (t : Tables) (from : List ℕ) → PutsMoves s t t from []
moves_none s t from = record { moves = []; are = sym (append-nil t.moves); makes = makes_same t (λ v. Unit {0}) (λ v. tt); edges = refl; cases = refl }

moves_more : (globals : List GlobalVar) (base : ℕ) (names : List (List ℕ)) (constants from : List ℕ) (ms : List Move) (ps : List Phi) (m : Move) (p : Phi) → are_moves globals base names constants from ms ps → IsMove globals base names constants from m p →
    are_moves globals base names constants from (ms ++ m ∷ []) (ps ++ p ∷ [])
moves_more globals base names constants from [] [] m p a h = (h, tt)
moves_more globals base names constants from [] (q ∷ ps) m p a h = absurd a
moves_more globals base names constants from (n ∷ ms) [] m p a h = absurd a
moves_more globals base names constants from (n ∷ ms) (q ∷ ps) m p a h = (a.0, moves_more globals base names constants from ms ps m p a.1 h)

taken : (xs : List Phi) (k : ℕ) (x : Phi) → k < length xs → x ≡ get_or xs k x → take (suc k) xs ≡ take k xs ++ x ∷ []
taken [] k x lt is = absurd (let q : ⊥ = omega (arith, lt) in q)
taken (y ∷ xs) zero x lt is = ap (λ z. z ∷ []) (sym is)
taken (y ∷ xs) (suc k) x lt is = ap (λ l. y ∷ l) (taken xs k x (omega (arith, lt)) is)

pub moves_on : (s : Scope) (t u v : Tables) (from : List ℕ) (moves : List Move) (ps : List Phi) (k : ℕ) (m : Move) (p : Phi) → PutsMoves s t u from (take k ps) →
    Makes u v (λ w. IsMove s.program.now.globals s.base (names_of s) w.constants from m p) → OnlyConstants u v → moves ≡ v.moves ++ m ∷ [] → k < length ps → p ≡ get_or ps k p → PutsMoves s t (record v { moves = moves }) from (take (k + 1) ps)
moves_on s t u v from moves ps k m p before makes only e lt is = record {
  moves = before.moves ++ m ∷ [];
  are = e ∙ ap (λ l. l ++ m ∷ []) (only.moves ∙ before.are) ∙ append_assoc t.moves before.moves _;
  makes = record {
    grows = grows_on before.makes.grows (grows_on makes.grows (grows_moves v (m ∷ []) moves e));
    lasts = λ w g.
        let far = grows_on (grows_moves v (m ∷ []) moves e) g in
        let one : take (k + 1) ps ≡ take k ps ++ p ∷ [] = rw add-one (taken ps k p lt is) in
        subst (λ qs. moves_of s w from (before.moves ++ m ∷ []) qs) (sym one)
        (moves_more s.program.now.globals s.base (names_of s) w.constants from before.moves (take k ps) m p (before.makes.lasts w (grows_on makes.grows far)) (makes.lasts w far));
  };
  edges = only.edges ∙ before.edges;
  cases = only.cases ∙ before.cases;
}

pub moves_all : (s : Scope) (t u : Tables) (from : List ℕ) (ps : List Phi) (k : ℕ) → length ps ≤ k → PutsMoves s t u from (take k ps) → PutsMoves s t u from ps
moves_all s t u from ps k le m = subst (PutsMoves s t u from) (all ps k le) m
  where
    all : (xs : List Phi) (k : ℕ) → length xs ≤ k → take k xs ≡ xs
    all [] zero le = refl
    all [] (suc k) le = refl
    all (x ∷ xs) zero le = absurd (let q : ⊥ = omega (arith, le) in q)
    all (x ∷ xs) (suc k) le = ap (λ l. x ∷ l) (all xs k (omega (arith, le)))

-- What is known of the phi at a place.
pub phi_at : (ps : List Phi) (k : ℕ) (p : Phi) → k < length ps → p ≡ get_or ps k p → slice_get ps k ≡ Some p
phi_at ps k p lt is = slice_get-get_or ps k p lt ∙ ap Some (sym is)

-- ---- an edge that is made

moves_long : (globals : List GlobalVar) (base : ℕ) (names : List (List ℕ)) (constants from : List ℕ) (ms : List Move) (ps : List Phi) → are_moves globals base names constants from ms ps → length ms ≡ length ps
moves_long globals base names constants from [] [] a = refl
moves_long globals base names constants from [] (p ∷ ps) a = absurd a
moves_long globals base names constants from (m ∷ ms) [] a = absurd a
moves_long globals base names constants from (m ∷ ms) (p ∷ ps) a = ap suc (moves_long globals base names constants from ms ps a.1)

grows_edges : (t : Tables) (more edges : List OpEdge) → edges ≡ t.edges ++ more → TablesGrow t (record t { edges = edges })
grows_edges t more edges e = record {
  constants = extends_same t.constants;
  terms = extends_same t.terms;
  moves = extends_same t.moves;
  edges = extends_by more e;
  cases = extends_same t.cases;
}

pub edge_made : (s : Scope) (t u : Tables) (source : EdgeSource) (target number from count begins block : ℕ) (edges : List OpEdge) (to : Block) → DescribesScope s → IsSource s source → block_at s.program.now s.number target ≡ Some to →
    PutsMoves s t u source.block.now.label to.phis → from ≡ length t.moves → count ≡ length to.phis → number ≡ length u.edges → block ≡ target → slice_get s.places target ≡ Some begins →
    edges ≡ u.edges ++ record { target = begins; block = block; moves = record { from = from; count = count } } ∷ [] → NewEdge s t (record u { edges = edges }) source.number number target
edge_made s t u source target number from count begins block edges to d src at m f n number_is block_is begins_is e =
    let made : OpEdge = record { target = begins; block = block; moves = record { from = from; count = count } } in
    let step : TablesGrow u (record u { edges = edges }) = grows_edges u (made ∷ []) edges e in
    record {
      edge = made;
      number_is = number_is ∙ ap length m.edges;
      are = e ∙ ap (λ l. l ++ made ∷ []) m.edges;
      block = block_is;
      cases = m.cases;
      makes = record {
        grows = grows_on m.makes.grows step;
        lasts = λ v g.
            let far = grows_on step g in
            let moved = m.makes.lasts v far in
            let l = ap length m.are in
            let k = length-append t.moves m.moves in
            let j = moves_long s.program.now.globals s.base (names_of s) v.constants source.block.now.label m.moves to.phis moved in
            let whole : from + count ≡ length u.moves = omega (arith, l, k, j, f, n) in
            let entries : slice_range v.moves from (from + count) ≡ m.moves = span_is from count far.moves whole ∙ ap₂ (λ i (ms : List Move). drop i ms) f m.are ∙ drop-append_seam t.moves m.moves in
            let last : slice_get edges number ≡ Some made = subst (λ l. slice_get l number ≡ Some made) (sym e) (subst (λ i. slice_get (u.edges ++ made ∷ []) i ≡ Some made) (sym number_is) (get_last u.edges made)) in
            record {
              edge = made;
              here = get_extended number made g.edges last;
              block = block_is;
              begins = record { block = to; here = at; within = omega arith; is = begins_at };
              span = span_within from count far.moves whole;
              moves =
                  subst (λ ms. moves_of s v (label_of (block_at s.program.now s.number source.number)) ms (phis_of (block_at s.program.now s.number target))) (sym entries)
                  (subst (λ o. moves_of s v (label_of o) m.moves (phis_of (block_at s.program.now s.number target))) (sym src.here) (subst (λ o. moves_of s v source.block.now.label m.moves (phis_of o)) (sym at) moved));
            };
      };
    }
  where
    begins_at : begins ≡ entry s.program.now s.number target + 0
    begins_at =
        let w = slice_get_within s.places target begins begins_is in
        let q : begins ≡ entry s.program.now s.number target = same_Some begins _ (sym begins_is ∙ d.places target w) in
        omega (arith, q)

-- ---- edges that are there

pub lead_more : (s : Scope) (t u : Tables) (b first number target : ℕ) → LeadFrom s b first t → NewEdge s t u b number target → LeadFrom s b first u
lead_more s t u b first number target lead new = record { at = at }
  where
    at : (k : ℕ) (e : OpEdge) → first ≤ k → slice_get u.edges k ≡ Some e → (v : Tables) → TablesGrow u v → EdgeLeads s v b k e.block
    at k e le h v g = ⊎_elim now (λ lt. lead.at k e le (earlier_is lt) v (grows_on new.makes.grows g)) (eq-or-lt_of_le below)
      where
        h2 : slice_get (t.edges ++ new.edge ∷ []) k ≡ Some e
        h2 = subst (λ l. slice_get l k ≡ Some e) new.are h

        below : k ≤ length t.edges
        below = let w = slice_get_within (t.edges ++ new.edge ∷ []) k e h2 in let l = length-append t.edges (new.edge ∷ []) in omega (arith, w, l)

        earlier_is : k < length t.edges → slice_get t.edges k ≡ Some e
        earlier_is lt = slice_get-get_or t.edges k e lt ∙ sym (slice_get-get_or (t.edges ++ new.edge ∷ []) k e (let l = length-append t.edges (new.edge ∷ []) in omega (arith, lt, l)) ∙ ap Some (get_or-append t.edges (new.edge ∷ []) e k lt)) ∙ h2

        now : k ≡ length t.edges → EdgeLeads s v b k e.block
        now q =
            let same : new.edge ≡ e = same_Some new.edge e (sym (subst (λ i. slice_get (t.edges ++ new.edge ∷ []) i ≡ Some new.edge) (sym q) (get_last t.edges new.edge)) ∙ h2) in
            subst (λ (x : OpEdge). EdgeLeads s v b k x.block) same (subst (λ z. EdgeLeads s v b k z) (sym new.block) (subst (λ i. EdgeLeads s v b i target) (new.number_is ∙ sym q) (new.makes.lasts v g)))

pub edge_new : (s : Scope) (t u : Tables) (source : EdgeSource) (number target : ℕ) (label : List ℕ) → LeadFrom s source.number source.first t → NewEdge s t u source.number number target →
    block_number (blocks_of s.program.now s.number) label ≡ Some target → HasEdge s t u source number label
edge_new s t u source number target label lead new n = record {
  lead = lead_more s t u source.number source.first number target lead new;
  cases = new.cases;
  makes = record { grows = new.makes.grows; lasts = λ v g. record { target = target; numbered = n; leads = new.makes.lasts v g } };
}

-- ---- where an end leads

pub block_here : (s : Scope) → DescribesScope s → (b : ℕ) (block : Block) → block_at s.program.now s.number b ≡ Some block → slice_get s.function.now.blocks b ≡ Some block
block_here s d b block h = subst (λ o. slice_get (blocks_in o) b ≡ Some block) d.function h

pub is_at : (s : Scope) → DescribesScope s → (b : ℕ) (block : Block) → block_at s.program.now s.number b ≡ Some block → IsBlockAt s.program.now s.number b s.function.now block
is_at s d b block h = record { function = d.function; block_is = block_here s d b block h }

-- The label that an end names is that of a block.
pub label_known : (s : Scope) → DescribesScope s → (source : EdgeSource) → IsSource s source → (label : List ℕ) → IsAmong (end_labels source.block.now.«end») label → IsAmong (map (λ b. b.label) (blocks_of s.program.now s.number)) label
label_known s d source src label h =
    subst (λ o. IsAmong (map (λ b. b.label) (blocks_in o)) label) (sym d.function)
    (among_all (IsAmong (label_names s.function.now)) (end_labels source.block.now.«end») label (d.sound.names_exist s.number source.number s.function.now source.block.now (is_at s d source.number source.block.now src.here)).last.labels h)

pub is_target : (s : Scope) → DescribesScope s → (source : EdgeSource) → IsSource s source → (label : List ℕ) (target : ℕ) → IsAmong (end_labels source.block.now.«end») label → block_number (blocks_of s.program.now s.number) label ≡ Some target → IsTarget s source target
is_target s d source src label target h n = by_block (block_at s.program.now s.number target) refl
  where
    there : option_map (λ (b : Block). b.label) (block_at s.program.now s.number target) ≡ Some label
    there = sym (slice_get-map (λ (b : Block). b.label) (blocks_of s.program.now s.number) target) ∙ number_of-there (map (λ b. b.label) (blocks_of s.program.now s.number)) label target n

    by_block : (o : Option Block) → block_at s.program.now s.number target ≡ o → IsTarget s source target
    by_block None e = absurd (let none = ap (option_map (λ (b : Block). b.label)) e in let q : ⊥ = cc (none, there) in q)
    by_block (Some to) e = record {
      block = to;
      here = e;
      known = record {
        at = λ k p at.
            let same : to.label ≡ label = same_Some to.label label (sym (ap (option_map (λ (b : Block). b.label)) e) ∙ there) in
            phi_known s.program.now d.sound s.number source.number target s.function.now to source.block.now (is_at s d target to e) (is_at s d source.number source.block.now src.here) (subst (λ l. IsAmong (end_labels source.block.now.«end») l) (sym same) h) k p at;
      };
    }
