-- Names that differ: what the requirements ask is what soundness says.
use Rattle.std.specs.Prelude.{ℕ, ◌+◌, ◌≡◌, List, [], ◌∷◌, ◌++◌, map, Some}
use Rattle.std.specs.List.{flat_map}
use Rattle.std.proofs.Common.{append_assoc, refl, sym, ap, subst, ◌∙◌, inl, inr, ⊎_elim}
use Rattle.std.proofs.lemmas.List.{map-append}
use Rattle.hip_tree.specs.declared.block.Block.{Block}
use Rattle.hip_tree.specs.declared.block.Phi.{Phi}
use Rattle.hip_tree.specs.declared.instr.Instr.{Instr}
use Rattle.hip_tree.specs.declared.program.Function.{Function}
use Rattle.hip_tree.specs.declared.program.Param.{Param}
use Rattle.hip_tree.specs.declared.program.Program.{Program}
use Rattle.hip_names.specs.Names.{AllDiffer, IsAmong}
use Rattle.hip_names.specs.Laws.NameLaws.{among-left, among-right, among-either}
use Rattle.hip_sound.specs.Names.{Named, differ_after, numbered, numbered_from}
use Rattle.hip_sound.specs.Declarations.{Declares, instr_declared, body_declared, block_declared, blocks_declared, declared_by}
use Rattle.hip_globals.specs.Constants.{joined}
use Rattle.hip_sound.specs.Paths.{names_of}
use Rattle.hip_sound.specs.Registers.{Register, assigned_by, phi_registers, body_registers, parameter_registers}
use Rattle.hip_sound.specs.Rules as rules
use Rattle.hip_sound.specs.Rules.{names_required, inner_required, inner_names, named_in}
use Rattle.hip_sound.specs.declared.fault.Place.{Place}
use Rattle.hip_sound.specs.declared.fault.Place.TheVariants as places
use Rattle.hip_sound.specs.Sound.{top_names, names_in_block, names_in_function}

-- The names of declarations, in order, without their places.
abbrev place_names : List Named → List (List ℕ)
place_names ns = map (λ n. n.name) ns

-- The names differ from one another and from some earlier names.
record Apart (earlier names : List (List ℕ)) : Type 0 where
  pub differ : AllDiffer names
  pub apart : (name : List ℕ) → IsAmong earlier name → ¬ IsAmong names name

apart_after : (earlier : List (List ℕ)) (xs : List Named) → (differ_after earlier xs).Holds
    → Apart earlier (place_names xs)
apart_after earlier [] h = record { differ = tt; apart = λ name among none. none }
apart_after earlier (x ∷ xs) h =
    let rest : Apart (earlier ++ x.name ∷ []) (place_names xs) = apart_after (earlier ++ x.name ∷ []) xs h.1 in
    record {
      differ = (rest.apart x.name (among-right earlier (x.name ∷ []) x.name (inl refl)), rest.differ);
      apart =
          λ name among there. ⊎_elim (λ e. h.0 (subst (λ (n : List ℕ). IsAmong earlier n) (sym e) among))
          (λ later. rest.apart name (among-left earlier (x.name ∷ []) name among) later) there;
    }

after_apart : (earlier : List (List ℕ)) (xs : List Named) → Apart earlier (place_names xs)
    → (differ_after earlier xs).Holds
after_apart earlier [] a = tt
after_apart earlier (x ∷ xs) a = (
  (λ h. a.apart x.name h (inl refl)),
  after_apart (earlier ++ x.name ∷ []) xs
      (record {
        differ = a.differ.1;
        apart =
            λ name among there. ⊎_elim (λ h. a.apart name h (inr there))
            (λ one. ⊎_elim (λ e. a.differ.0 (subst (λ (n : List ℕ). IsAmong (place_names xs) n) (sym e) there))
            (λ none. none) one) (among-either earlier (x.name ∷ []) name among);
      }),
)

differ-sound : (xs : List Named) (names : List (List ℕ)) → place_names xs ≡ names → (differ_after [] xs).Holds
    → AllDiffer names
differ-sound xs names is h = subst AllDiffer is (apart_after [] xs h).differ

differ-whole : (xs : List Named) (names : List (List ℕ)) → place_names xs ≡ names → AllDiffer names
    → (differ_after [] xs).Holds
differ-whole xs names is h =
    after_apart [] xs (record { differ = subst AllDiffer (sym is) h; apart = λ name none. absurd none })

-- ---- the names of the whole program

named_alike : {A : Type 0} (n : ℕ) (name : A → List ℕ) (place : ℕ → Place) (xs : List A)
    → place_names (numbered_from n (λ k x. record { name = name x; place = place k }) xs) ≡ map name xs
named_alike n name place [] = refl
named_alike n name place (x ∷ xs) = ap (λ ns. name x ∷ ns) (named_alike (n + 1) name place xs)

top_alike : (P : Program) → place_names (rules.declarations P) ≡ top_names P
top_alike P =
    map-append (λ n. n.name) (rules.global_declarations P.globals ++ rules.extern_declarations P.externs)
    (rules.function_declarations P.functions)
    ∙ ap (λ ns. ns ++ place_names (rules.function_declarations P.functions))
    (map-append (λ n. n.name) (rules.global_declarations P.globals) (rules.extern_declarations P.externs))
    ∙ append_assoc (place_names (rules.global_declarations P.globals))
    (place_names (rules.extern_declarations P.externs)) (place_names (rules.function_declarations P.functions))
    ∙ ap (λ ns. ns ++ (place_names (rules.extern_declarations P.externs)
    ++ place_names (rules.function_declarations P.functions))) (named_alike 0 (λ g. g.name) places.Global P.globals)
    ∙ ap (λ ns. map (λ g. g.name) P.globals ++ (ns ++ place_names (rules.function_declarations P.functions)))
    (named_alike 0 (λ e. e.name) places.Extern P.externs)
    ∙ ap (λ ns. map (λ g. g.name) P.globals ++ (map (λ e. e.name) P.externs ++ ns))
    (named_alike 0 (λ f. f.name) places.Head P.functions)

pub names-sound : (P : Program) → (names_required P).Holds → AllDiffer (top_names P)
names-sound P h = differ-sound (rules.declarations P) (top_names P) (top_alike P) h

pub names-whole : (P : Program) → AllDiffer (top_names P) → (names_required P).Holds
names-whole P h = differ-whole (rules.declarations P) (top_names P) (top_alike P) h

-- ---- the names in a function

-- Each declaration becomes an item that has its name.
pub record DeclarationTells {A : Type 0} (d : Declares A) (name : A → List ℕ) : Type 0 where
  pub parameter : (p : Param) → name (d.parameter p) ≡ p.name
  pub label : (b : ℕ) (label : List ℕ) → name (d.label b label) ≡ label
  pub phi : (b i : ℕ) (p : Phi) → name (d.phi b i p) ≡ p.dest
  pub instr : (b i : ℕ) (r : Register) → name (d.instr b i r) ≡ r.name

module _ {A : Type 0} (d : Declares A) (name : A → List ℕ) (t : DeclarationTells d name) where
  registers_stated : (b i : ℕ) (rs : List Register) → map name (map (d.instr b i) rs) ≡ names_of rs
  registers_stated b i [] = refl
  registers_stated b i (r ∷ rs) =
      ap (λ n. n ∷ map name (map (d.instr b i) rs)) (t.instr b i r)
      ∙ ap (λ ns. r.name ∷ ns) (registers_stated b i rs)

  params_stated : (params : List Param)
      → map name (map d.parameter params) ≡ names_of (map (λ p. record { name = p.name; ty = Some p.ty }) params)
  params_stated [] = refl
  params_stated (p ∷ ps) =
      ap (λ n. n ∷ map name (map d.parameter ps)) (t.parameter p) ∙ ap (λ ns. p.name ∷ ns) (params_stated ps)

  phis_stated : (n b : ℕ) (phis : List Phi)
      → map name (numbered_from n (d.phi b) phis) ≡ names_of (phi_registers phis)
  phis_stated n b [] = refl
  phis_stated n b (p ∷ ps) =
      ap (λ x. x ∷ map name (numbered_from (n + 1) (d.phi b) ps)) (t.phi b n p)
      ∙ ap (λ ns. p.dest ∷ ns) (phis_stated (n + 1) b ps)

  body_stated : (n b : ℕ) (body : List Instr)
      → map name (joined (numbered_from n (instr_declared (d.instr b)) body)) ≡ names_of (body_registers body)
  body_stated n b [] = refl
  body_stated n b (i ∷ is) =
      map-append name (instr_declared (d.instr b) n i) (joined (numbered_from (n + 1) (instr_declared (d.instr b)) is))
      ∙ ap (λ ns. ns ++ map name (joined (numbered_from (n + 1) (instr_declared (d.instr b)) is)))
      (registers_stated b n (assigned_by i))
      ∙ ap (λ ns. names_of (assigned_by i) ++ ns) (body_stated (n + 1) b is)
      ∙ sym (map-append (λ r. r.name) (assigned_by i) (body_registers is))

  block_stated : (b : ℕ) (block : Block) → map name (block_declared d b block) ≡ names_in_block block
  block_stated b block =
      ap (λ n. n ∷ map name (numbered (d.phi b) block.phis ++ body_declared (d.instr b) block.body))
      (t.label b block.label)
      ∙ ap (λ ns. block.label ∷ ns)
      (map-append name (numbered (d.phi b) block.phis) (body_declared (d.instr b) block.body)
      ∙ ap (λ ns. ns ++ map name (body_declared (d.instr b) block.body)) (phis_stated 0 b block.phis)
      ∙ ap (λ ns. names_of (phi_registers block.phis) ++ ns) (body_stated 0 b block.body)
      ∙ sym (map-append (λ r. r.name) (phi_registers block.phis) (body_registers block.body)))

  blocks_stated : (n : ℕ) (blocks : List Block)
      → map name (joined (numbered_from n (block_declared d) blocks)) ≡ flat_map names_in_block blocks
  blocks_stated n [] = refl
  blocks_stated n (b ∷ bs) =
      map-append name (block_declared d n b) (joined (numbered_from (n + 1) (block_declared d) bs))
      ∙ ap (λ ns. ns ++ map name (joined (numbered_from (n + 1) (block_declared d) bs))) (block_stated n b)
      ∙ ap (λ ns. names_in_block b ++ ns) (blocks_stated (n + 1) bs)

  -- The items of a function's declarations have the names in it, in their order.
  pub declared_names-are : (fn : Function) → map name (declared_by d fn) ≡ names_in_function fn
  declared_names-are fn =
      map-append name (map d.parameter fn.params) (blocks_declared d fn.blocks)
      ∙ ap (λ ns. ns ++ map name (blocks_declared d fn.blocks)) (params_stated fn.params)
      ∙ ap (λ ns. names_of (parameter_registers fn) ++ ns) (blocks_stated 0 fn.blocks)

inner_names-are : (f : ℕ) (fn : Function) → place_names (inner_names f fn) ≡ names_in_function fn
inner_names-are f fn =
    declared_names-are (named_in f) (λ n. n.name)
    (record { parameter = λ p. refl; label = λ b label. refl; phi = λ b i p. refl; instr = λ b i r. refl }) fn

pub inner-sound : (f : ℕ) (fn : Function) → (inner_required f fn).Holds → AllDiffer (names_in_function fn)
inner-sound f fn h = differ-sound (inner_names f fn) (names_in_function fn) (inner_names-are f fn) h

pub inner-whole : (f : ℕ) (fn : Function) → AllDiffer (names_in_function fn) → (inner_required f fn).Holds
inner-whole f fn h = differ-whole (inner_names f fn) (names_in_function fn) (inner_names-are f fn) h
