-- A program is sound exactly if it meets the requirements.
use Rattle.std.specs.Prelude.{ℕ, suc, ◌+◌, ◌≡◌, ◌≤◌, ◌&&◌, nat_le, Bool, true, false, List, [], ◌∷◌, map, get_or, All, Option, Some, None, is_none, slice_get, codes, option_map, cond, if◌then◌else◌}
use Rattle.std.specs.Bool.{Decides}
use Rattle.std.specs.Str.{bytes_eq}
use Rattle.std.proofs.Common.{refl, sym, ap, subst, ◌∙◌}
use Rattle.std.proofs.lemmas.Bool.{and_parts}
use Rattle.hip_types.specs.declared.number.Scalar.{Scalar}
use Rattle.hip_types.specs.declared.number.Scalar.TheVariants as scalars
use Rattle.hip_types.specs.declared.number.Width.TheVariants.{W1, W8, W16, W32, W64}
use Rattle.hip_types.specs.declared.limits.TheConstants.{LARGEST_REGION, LARGEST_VOLATILE}
use Rattle.hip_tree.specs.declared.block.Block.{Block}
use Rattle.hip_tree.specs.declared.program.Extern.{Extern}
use Rattle.hip_tree.specs.declared.program.Function.{Function}
use Rattle.hip_tree.specs.declared.program.GlobalVar.{GlobalVar}
use Rattle.hip_tree.specs.declared.program.Param.{Param}
use Rattle.hip_tree.specs.declared.program.Program.{Program}
use Rattle.hip_types.specs.Areas.{volatile_start}
use Rattle.hip_globals.specs.Addresses.{region_size, volatile_end}
use Rattle.hip_sound.specs.Constants.{names_in}
use Rattle.hip_externs.specs.Externs.{Signature, known_signature, call_of}
use Rattle.hip_names.specs.Names.{AllDiffer, IsAmong, is_among, number_of}
use Rattle.hip_sound.specs.NumberedNames.{function_names}
use Rattle.hip_names.specs.Laws.NumberLaws.{number_of-cons}
use Rattle.hip_sound.specs.Places.{scope_of}
use Rattle.hip_sound.specs.Rules as rules
use Rattle.hip_sound.specs.Rules.{names_required, globals_required, global_required, externs_required, sizes_required, main_required, inner_names_required, places_required, function_required, block_required, phi_at, instr_at, site, is_of, is_main, is_i32, no_params, has_main, AllAssigned}
use Rattle.hip_sound.specs.declared.fault.Place.TheVariants as places
use Rattle.hip_sound.specs.Laws.AssignedExact.{assigned-sound, assigned-whole, number_before}
use Rattle.hip_sound.specs.Laws.Decided.{both-decides, all-decides, le-decides, each-sound, each-whole, holds-at, holds-made}
use Rattle.hip_names.specs.Laws.NameLaws.{bytes_eq-sym, among-decides}
use Rattle.hip_sound.specs.Laws.NameLaws.{names-sound, names-whole, inner-sound, inner-whole}
use Rattle.hip_sound.specs.Laws.PlaceExact.{ItemIsSound, phi-sound, phi-whole, instr-sound, instr-whole, end-sound, end-whole}
use Rattle.hip_sound.specs.Laws.EqualLaws.{same_scalars-decides, same_result-decides}
use Rattle.hip_sound.specs.Sound.{names_in_function, HasItsShape, NamesGlobals, IsOfTable, IsFree, KeepsToTable, KeepsToSizes, HasMain, IsBlockAt, BlockItem, PhiItem, InstrItem, EndItem, EachItem, IsSound}
use Rattle.hip_globals.specs.Addresses.{TypesFitIn}

-- ---- globals

-- The types of globals and those in their initialisers fit, the initialisers have the shape of their globals' types,
-- and they name globals.
pub record GlobalsAreSound (P : Program) : Type 0 where
  pub fit : All TypesFitIn P.globals
  pub shape : All HasItsShape P.globals
  pub names : All (NamesGlobals P) P.globals

-- The types of one global and of its initialiser fit, and the initialiser has the shape of the global's type and names
-- globals.
abbrev global_facts : Program → GlobalVar → Type 0
global_facts P g = TypesFitIn g × HasItsShape g × NamesGlobals P g

pub globals-sound : (P : Program) → (globals_required P).Holds → GlobalsAreSound P
globals-sound P h =
    let known = map (λ g. g.name) P.globals in
    let each =
    each-sound (global_required known) (global_facts P) P.globals
    (λ n g c. (
      c.0,
      c.1.0,
      (all-decides (is_among known) (IsAmong known) (names_in g.init)
          (λ x. among-decides known x)).0 c.1.1,
    )) h in
    record { fit = λ k d w. (each k d w).0; shape = λ k d w. (each k d w).1; names = λ k d w. (each k d w).2 }

globals-whole : (P : Program) → GlobalsAreSound P → (globals_required P).Holds
globals-whole P s =
    let known = map (λ g. g.name) P.globals in
    each-whole (global_required known) (global_facts P) P.globals
    (λ n g c. (
      c.0,
      (
        c.1,
        (all-decides (is_among known) (IsAmong known) (names_in g.init)
            (λ x. among-decides known x)).1 c.2,
      ),
    )) (λ k d w. (s.fit k d w, s.shape k d w, s.names k d w))

-- ---- external functions

none-decides : {A : Type 0} (o : Option A) → Decides (is_none o) (o ≡ None)
none-decides None = (λ e. refl, λ h. refl)
none-decides (Some x) = (λ e. cc, λ h. cc)

pub table-decides : (e : Extern) (o : Option Signature)
    → Decides (is_of e o) (o ≡ Some (record { ret = e.ret; params = e.params }))
table-decides e None = (λ t. cc, λ h. cc)
table-decides e (Some s) =
    let d = both-decides _ _ (same_result-decides e.ret s.ret) (same_scalars-decides s.params e.params) in (
      λ t. let h = d.0 t in λ i. Some (record { ret = sym h.0 i; params = h.1 i }),
      λ h. let same : s ≡ record { ret = e.ret; params = e.params } =
          cc in d.1 (sym (ap (λ t. t.ret) same), ap (λ t. t.params) same),
    )

externs-sound : (P : Program) → (externs_required P).Holds → KeepsToTable P
externs-sound P h = record {
  globals =
      each-sound rules.free_global (λ g. IsFree g.name) P.globals (λ n g c. (none-decides (call_of g.name)).0 c) h.0;
  externs =
      each-sound rules.declared IsOfTable P.externs (λ n e c. (table-decides e (known_signature e.name)).0 c) h.1.0;
  functions =
      each-sound rules.free_function (λ f. IsFree f.name) P.functions
      (λ n f c. (none-decides (call_of f.name)).0 c) h.1.1;
}

externs-whole : (P : Program) → KeepsToTable P → (externs_required P).Holds
externs-whole P k = (
  each-whole rules.free_global (λ g. IsFree g.name) P.globals
      (λ n g c. (none-decides (call_of g.name)).1 c) k.globals,
  (
    each-whole rules.declared IsOfTable P.externs (λ n e c. (table-decides e (known_signature e.name)).1 c) k.externs,
    each-whole rules.free_function (λ f. IsFree f.name) P.functions
        (λ n f c. (none-decides (call_of f.name)).1 c) k.functions,
  ),
)

-- ---- sizes

sizes-decides : (P : Program)
    → Decides (nat_le (region_size P) LARGEST_REGION && nat_le (volatile_end P) (volatile_start + LARGEST_VOLATILE))
    ((region_size P ≤ LARGEST_REGION) × (volatile_end P ≤ volatile_start + LARGEST_VOLATILE))
sizes-decides P =
    both-decides _ _ (le-decides (region_size P) LARGEST_REGION)
    (le-decides (volatile_end P) (volatile_start + LARGEST_VOLATILE))

sizes-sound : (P : Program) → (sizes_required P).Holds → KeepsToSizes P
sizes-sound P h = let both = (sizes-decides P).0 h in record { region = both.0; volatile = both.1 }

sizes-whole : (P : Program) → KeepsToSizes P → (sizes_required P).Holds
sizes-whole P k = (sizes-decides P).1 (k.region, k.volatile)

-- ---- `main`

main_there : (fs : List Function) (n : ℕ) (g : Function) → number_of (function_names fs) (codes "main") ≡ Some n
    → slice_get fs n ≡ Some g → is_main g ≡ true → has_main fs ≡ true
main_there [] n g named here is = cc
main_there (f ∷ fs) n g named here is =
    by_test (bytes_eq (codes "main") f.name) refl n here
    (sym (number_of-cons f.name (function_names fs) (codes "main")) ∙ named)
    (λ m at there. main_there fs m g at there is)
  where
    by_test : (t : Bool) → bytes_eq (codes "main") f.name ≡ t → (n : ℕ) → slice_get (f ∷ fs) n ≡ Some g
        → cond t (Some 0) (option_map suc (number_of (function_names fs) (codes "main"))) ≡ Some n →
        ((m : ℕ) → number_of (function_names fs) (codes "main") ≡ Some m → slice_get fs m ≡ Some g
        → has_main fs ≡ true)
        → has_main (f ∷ fs) ≡ true
    by_test true e n here at rest =
        let there : bytes_eq f.name (codes "main") ≡ true = bytes_eq-sym f.name (codes "main") ∙ e in
        let first : n ≡ 0 = cc in
        let at_first : slice_get (f ∷ fs) 0 ≡ Some g = subst (λ m. slice_get (f ∷ fs) m ≡ Some g) first here in
        let same : f ≡ g = cc in
        ap (λ t. if t then is_main f else has_main fs) there ∙ ap is_main same ∙ is
    by_test false e n here at rest =
        let there : bytes_eq f.name (codes "main") ≡ false = bytes_eq-sym f.name (codes "main") ∙ e in
        let d = number_before (number_of (function_names fs) (codes "main")) n at in
        ap (λ t. if t then is_main f else has_main fs) there
        ∙ rest d.0 d.1 (subst (λ m. slice_get (f ∷ fs) m ≡ Some g) d.2 here)

main_is : (g : Function) → g.params ≡ [] → g.ret ≡ Some (scalars.Int W32) → is_main g ≡ true
main_is g params ret = ap (λ ps. no_params ps && is_i32 g.ret) params ∙ ap is_i32 ret

main-whole : (P : Program) → HasMain P → (main_required P).Holds
main-whole P m = main_there P.functions m.number m.function m.named m.here (main_is m.function m.params m.result)

number_by : (f : Function) (fs : List Function) (b : Bool) → bytes_eq f.name (codes "main") ≡ b
    → number_of (function_names (f ∷ fs)) (codes "main") ≡ cond b (Some 0)
    (option_map suc (number_of (function_names fs) (codes "main")))
number_by f fs b is =
    number_of-cons f.name (function_names fs) (codes "main")
    ∙ ap (λ t. cond t (Some 0) (option_map suc (number_of (function_names fs) (codes "main"))))
    (bytes_eq-sym (codes "main") f.name ∙ is)

main_found : (fs : List Function) → has_main fs ≡ true
    → (n : ℕ) × (g : Function) × (number_of (function_names fs) (codes "main") ≡ Some n)
    × (slice_get fs n ≡ Some g)
    × (is_main g ≡ true)
main_found [] e = cc
main_found (f ∷ fs) e = by_test (λ later. main_found fs later) (bytes_eq f.name (codes "main")) refl e
  where
    by_test : (has_main fs ≡ true → (n : ℕ) × (g : Function)
        × (number_of (function_names fs) (codes "main") ≡ Some n)
        × (slice_get fs n ≡ Some g) × (is_main g ≡ true)) →
        (b : Bool) → bytes_eq f.name (codes "main") ≡ b → (if b then is_main f else has_main fs) ≡ true →
        (n : ℕ) × (g : Function) × (number_of (function_names (f ∷ fs)) (codes "main") ≡ Some n)
        × (slice_get (f ∷ fs) n ≡ Some g) × (is_main g ≡ true)
    by_test rest true is e = (0, f, number_by f fs true is, refl, e)
    by_test rest false is e =
        let later = rest e in
        (suc later.0, later.1, number_by f fs false is ∙ ap (option_map suc) later.2, later.3, later.4)

without_params : (ps : List Param) → no_params ps ≡ true → ps ≡ []
without_params [] e = refl
without_params (p ∷ ps) e = cc

answers_i32 : (ret : Option Scalar) → is_i32 ret ≡ true → ret ≡ Some (scalars.Int W32)
answers_i32 None e = cc
answers_i32 (Some scalars.Ptr) e = cc
answers_i32 (Some (scalars.Int W1)) e = cc
answers_i32 (Some (scalars.Int W8)) e = cc
answers_i32 (Some (scalars.Int W16)) e = cc
answers_i32 (Some (scalars.Int W32)) e = refl
answers_i32 (Some (scalars.Int W64)) e = cc

main-sound : (P : Program) → (main_required P).Holds → HasMain P
main-sound P h =
    let found = main_found P.functions h in
    let both = and_parts (no_params found.1.params) (is_i32 found.1.ret) found.4 in
    record {
      number = found.0;
      function = found.1;
      named = found.2;
      here = found.3;
      params = without_params
          found.1.params both.0;
      result = answers_i32 found.1.ret both.1;
    }

-- ---- places

block-sound : (P : Program) (f b : ℕ) (fn : Function) (block : Block)
    → (block_required (scope_of P fn) f b block).Holds
    → EachItem block (ItemIsSound P fn block)
block-sound P f b fn block h = record {
  phis =
      each-sound (phi_at (scope_of P fn) block.label f b) (λ p. ItemIsSound P fn block (PhiItem p)) block.phis
      (λ i p c. phi-sound P fn block p (places.Phi (site f b i)) c) h.0;
  body =
      each-sound (instr_at (scope_of P fn) f b) (λ i. ItemIsSound P fn block (InstrItem i)) block.body
      (λ i instr c. instr-sound P fn block instr (places.Body (site f b i)) c) h.1.0;
  last = end-sound P fn block block.end (places.End f b) h.1.1;
}

block-whole : (P : Program) (f b : ℕ) (fn : Function) (block : Block) → EachItem block (ItemIsSound P fn block)
    → (block_required (scope_of P fn) f b block).Holds
block-whole P f b fn block s = (
  each-whole (phi_at (scope_of P fn) block.label f b) (λ p. ItemIsSound P fn block (PhiItem p)) block.phis
      (λ i p c. phi-whole P fn block p (places.Phi (site f b i)) c) s.phis,
  (
    each-whole (instr_at (scope_of P fn) f b) (λ i. ItemIsSound P fn block (InstrItem i)) block.body
        (λ i instr c. instr-whole P fn block instr (places.Body (site f b i)) c) s.body,
    end-whole P fn block block.end (places.End f b) s.last,
  ),
)

-- Each rule of places holds of each item of each block.
pub record PlacesAreSound (P : Program) : Type 0 where
  pub sound : (f b : ℕ) (fn : Function) (block : Block) → IsBlockAt P f b fn block
      → EachItem block (ItemIsSound P fn block)

places-sound : (P : Program) → (places_required P).Holds → PlacesAreSound P
places-sound P h = record {
  sound = λ f b fn block at.
      block-sound P f b fn block (holds-at (block_required (scope_of P fn) f) fn.blocks b block
      (holds-at (function_required P) P.functions f fn h at.function) at.block_is);
}

places-whole : (P : Program) → PlacesAreSound P → (places_required P).Holds
places-whole P s =
    holds-made (function_required P) P.functions
    (λ f fn e. holds-made (block_required (scope_of P fn) f) fn.blocks
    (λ b block g. block-whole P f b fn block (s.sound f b fn block (record { function = e; block_is = g }))))

rule-of : (block : Block) (all one : BlockItem → Type 0) → ((x : BlockItem) → all x → one x) → EachItem block all
    → EachItem block one
rule-of block all one f s =
    record {
      phis = λ k d w. f (PhiItem (get_or block.phis k d)) (s.phis k d w);
      body = λ k d w. f (InstrItem (get_or block.body k d)) (s.body k d w);
      last = f (EndItem block.end) s.last;
    }

-- ---- soundness

-- A program that meets the requirements is sound.
pub passes-sound : (P : Program) → rules.PassesVerifier P → IsSound P
passes-sound P s =
    let globals = globals-sound P s.globals in
    let places = places-sound P s.places in
    record {
      spelled = s.spelled;
      names_differ = names-sound P s.names;
      global_types_fit = globals.fit;
      initialisers_have_shape = globals.shape;
      initialisers_name_globals = globals.names;
      externs = externs-sound P s.externs;
      sizes = sizes-sound P s.sizes;
      main = main-sound P s.main;
      inner_names_differ =
          each-sound rules.inner_required (λ fn. AllDiffer (names_in_function fn)) P.functions
          (λ f fn c. inner-sound f fn c) s.registers;
      names_exist =
          λ f b fn block at. rule-of block (ItemIsSound P fn block) _ (λ x i. i.names) (places.sound f b fn block at);
      types_fit =
          λ f b fn block at. rule-of block (ItemIsSound P fn block) _ (λ x i. i.fit) (places.sound f b fn block at);
      types_agree =
          λ f b fn block at. rule-of block (ItemIsSound P fn block) _ (λ x i. i.agree) (places.sound f b fn block at);
      cases_differ =
          λ f b fn block at. rule-of block (ItemIsSound P fn block) _ (λ x i. i.cases) (places.sound f b fn block at);
      edges_agree =
          λ f b fn block at. rule-of block (ItemIsSound P fn block) _ (λ x i. i.edges) (places.sound f b fn block at);
      assigned = λ f b fn block at. assigned-sound fn f (s.assigned f fn at.function) b block at.block_is;
    }

item-of : (P : Program) → IsSound P → (f b : ℕ) (fn : Function) (block : Block) → IsBlockAt P f b fn block
    → EachItem block (ItemIsSound P fn block)
item-of P s f b fn block at =
    let names = s.names_exist f b fn block at in
    let fit = s.types_fit f b fn block at in
    let agree = s.types_agree f b fn block at in
    let cases = s.cases_differ f b fn block at in
    let edges = s.edges_agree f b fn block at in
    record {
      phis =
          λ k d w. record {
            names = names.phis k d w;
            fit = fit.phis k d w;
            agree = agree.phis k d w;
            cases = cases.phis k d w;
            edges = edges.phis k d w;
          };
      body =
          λ k d w. record {
            names = names.body k d w;
            fit = fit.body k d w;
            agree = agree.body k d w;
            cases = cases.body k d w;
            edges = edges.body k d w;
          };
      last = record { names = names.last; fit = fit.last; agree = agree.last; cases = cases.last; edges = edges.last };
    }

-- A sound program meets the requirements.
pub sound-passes : (P : Program) → IsSound P → rules.PassesVerifier P
sound-passes P s = record {
  spelled = s.spelled;
  names = names-whole P s.names_differ;
  globals =
      globals-whole P (record {
        fit = s.global_types_fit;
        shape = s.initialisers_have_shape;
        names = s.initialisers_name_globals;
      });
  externs = externs-whole P s.externs;
  sizes = sizes-whole P s.sizes;
  main = main-whole P s.main;
  registers =
      each-whole rules.inner_required (λ fn. AllDiffer (names_in_function fn)) P.functions
      (λ f fn c. inner-whole f fn c) s.inner_names_differ;
  places = places-whole P (record { sound = λ f b fn block at. item-of P s f b fn block at });
  assigned =
      λ f fn e. assigned-whole fn f (λ b block g. s.assigned f b fn block (record { function = e; block_is = g }));
}
