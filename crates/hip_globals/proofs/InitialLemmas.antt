-- The bytes of globals: step by step, by the addresses of a table, and how many they are.
use Rattle.std.proofs.Common.{ℕ, suc, ◌+◌, ◌-◌, ◌<◌, ◌≡◌, Bool, true, false, List, [], ◌∷◌, ◌++◌, map, take, drop, length, get_or, All, replicate, Option, Some, None, Result, Ok, Err, IfOk, refl, sym, ap, subst, ◌∙◌, arith, length-append, length-take}
use mathlib.Core.Bool.{beq}
use Rattle.std.specs.Prelude.{cond, if◌then◌else◌, option_map, unwrap_or}
use Rattle.std.specs.Int.{next_multiple_of}
use Rattle.std.specs.Str.{bytes_eq}
use Rattle.std.proofs.Math.Path.{fun_ext}
use Rattle.std.proofs.lemmas.List.{at_drop_more, length-replicate}
use Rattle.hip_types.specs.declared.memory.NoMemory.{NoMemory}
use Rattle.hip_types.specs.Layout.{size_of}
use Rattle.hip_tree.specs.declared.program.GlobalVar.{GlobalVar}
use Rattle.hip_tree.specs.declared.program.Program.{Program}
use Rattle.hip_types.specs.Areas.{volatile_start}
use Rattle.hip_globals.specs.Addresses.{end_of, start_of, is_persistent, global_align, global_start, same_truth, region_size, volatile_end}
use Rattle.hip_globals.specs.AddressesSeen.{address_beside, laid_entries}
use Rattle.hip_globals.specs.Constants.{types_in}
use Rattle.hip_globals.specs.Initial.{laid_bytes, volatile_bytes, region_bytes}
use Rattle.hip_globals.specs.InitialSeen.{AllFit, GlobalsFit}
use Rattle.hip_names.specs.Names.{number_of}
use Rattle.hip_names.specs.Laws.NumberLaws.{number_of-cons}
use Rattle.hip_globals.specs.Addresses.{TypesFitIn}
use Rattle.hip_names.specs.Tables.{TableStandsFor, value_of}
use Rattle.hip_globals.specs.Values.{global_address, aligned, sized, written, constant_bytes}
use Rattle.hip_names.specs.declared.table.NameTable.{NameTable}
use Rattle.hip_names.specs.Laws.NameLaws.{bytes_eq-sym}

pub globals_fit : (gs : List GlobalVar) → All TypesFitIn gs → GlobalsFit gs
globals_fit gs h = record { fit = λ k d low. record { fit = h k d low } }

pub global_fits : (gs : List GlobalVar) (i : ℕ) (g : GlobalVar) → GlobalsFit gs → i < length gs → g ≡ get_or gs i g → AllFit (g.ty ∷ types_in g.init)
global_fits gs i g all low is = subst (λ (x : GlobalVar). AllFit (x.ty ∷ types_in x.init)) (sym is) (all.fit i g low)

-- ---- one global more

pub laid_next : (a : List ℕ → ℕ) (persistent : Bool) (start : ℕ) (so_far : List ℕ) (gs : List GlobalVar) (i : ℕ) (g : GlobalVar) → i < length gs → g ≡ get_or gs i g →
    laid_bytes a persistent start so_far (drop i gs) ≡ laid_bytes a persistent start (if same_truth g.persistent persistent then aligned start (global_align g) so_far ++ constant_bytes a g.init g.ty else so_far) (drop (i + 1) gs)
laid_next a persistent start so_far gs i g low is =
    at_drop_more (λ ys. laid_bytes a persistent start so_far ys) gs i g low
    ∙ ap (λ (x : GlobalVar). laid_bytes a persistent start (if same_truth x.persistent persistent then aligned start (global_align x) so_far ++ constant_bytes a x.init x.ty else so_far) (drop (i + 1) gs)) (sym is)

same-true : (b c : Bool) → beq b c ≡ true → same_truth b c ≡ true
same-true true true e = refl
same-true true false e = cc
same-true false true e = cc
same-true false false e = refl

same-false : (b c : Bool) → beq b c ≡ false → same_truth b c ≡ false
same-false true true e = cc
same-false true false e = refl
same-false false true e = refl
same-false false false e = cc

module _ (a : List ℕ → ℕ) (persistent : Bool) (start : ℕ) (so_far whole : List ℕ) (gs : List GlobalVar) (i : ℕ) (g : GlobalVar) where
  pub laid_counted : (new : List ℕ) → i < length gs → g ≡ get_or gs i g → beq g.persistent persistent ≡ true → new ≡ aligned start (global_align g) so_far ++ constant_bytes a g.init g.ty
      → laid_bytes a persistent start so_far (drop i gs) ≡ whole → laid_bytes a persistent start new (drop (i + 1) gs) ≡ whole
  laid_counted new low is kind e before =
      let next : laid_bytes a persistent start so_far (drop i gs) ≡ laid_bytes a persistent start (aligned start (global_align g) so_far ++ constant_bytes a g.init g.ty) (drop (i + 1) gs) =
      laid_next a persistent start so_far gs i g low is ∙ ap (λ b. laid_bytes a persistent start (if b then aligned start (global_align g) so_far ++ constant_bytes a g.init g.ty else so_far) (drop (i + 1) gs)) (same-true g.persistent persistent kind) in
      ap (λ bs. laid_bytes a persistent start bs (drop (i + 1) gs)) e ∙ sym next ∙ before

  pub laid_skipped : (new : List ℕ) → i < length gs → g ≡ get_or gs i g → beq g.persistent persistent ≡ false → new ≡ so_far → laid_bytes a persistent start so_far (drop i gs) ≡ whole → laid_bytes a persistent start new (drop (i + 1) gs) ≡ whole
  laid_skipped new low is kind e before =
      let next : laid_bytes a persistent start so_far (drop i gs) ≡ laid_bytes a persistent start so_far (drop (i + 1) gs) =
      laid_next a persistent start so_far gs i g low is ∙ ap (λ b. laid_bytes a persistent start (if b then aligned start (global_align g) so_far ++ constant_bytes a g.init g.ty else so_far) (drop (i + 1) gs)) (same-false g.persistent persistent kind) in
      ap (λ bs. laid_bytes a persistent start bs (drop (i + 1) gs)) e ∙ sym next ∙ before

-- ---- by a table of addresses

abbrev place : ℕ → ℕ → List GlobalVar → ℕ → ℕ
place persistent volatile gs n = if is_persistent gs n then start_of true persistent gs n else start_of false volatile gs n

persistent_next : (p v : ℕ) (g : GlobalVar) (gs : List GlobalVar) (k : ℕ) → g.persistent ≡ true → place p v (g ∷ gs) (suc k) ≡ place (global_start p g + size_of g.ty) v gs k
persistent_next p v g gs k kind = rw kind refl

volatile_next : (p v : ℕ) (g : GlobalVar) (gs : List GlobalVar) (k : ℕ) → g.persistent ≡ false → place p v (g ∷ gs) (suc k) ≡ place p (global_start v g + size_of g.ty) gs k
volatile_next p v g gs k kind = rw kind refl

abbrev global_names : List GlobalVar → List (List ℕ)
global_names gs = map (λ g. g.name) gs

-- The value at a number in a list is the first value for 0, and a value of the rest for any other number.
first_or_later : (b : Bool) (all rest : ℕ → ℕ) (first : ℕ) (o : Option ℕ) → first ≡ all 0 → ((k : ℕ) → all (suc k) ≡ rest k) → (if b then Some first else option_map rest o) ≡ option_map all (cond b (Some 0) (option_map suc o))
first_or_later true all rest first o e h = ap Some e
first_or_later false all rest first None e h = refl
first_or_later false all rest first (Some k) e h = ap Some (sym (h k))

-- The entry of a name is the address of the global of its number.
laid_at : (p v : ℕ) (gs : List GlobalVar) (name : List ℕ) → value_of (laid_entries p v gs) name ≡ option_map (place p v gs) (number_of (global_names gs) name)
laid_at p v [] name = refl
laid_at p v (g ∷ gs) name = by_kind g.persistent refl (λ p' v'. laid_at p' v' gs name) ∙ ap (option_map (place p v (g ∷ gs))) (sym (number_of-cons g.name (global_names gs) name))
  where
    by_kind : (b : Bool) → g.persistent ≡ b → ((p' v' : ℕ) → value_of (laid_entries p' v' gs) name ≡ option_map (place p' v' gs) (number_of (global_names gs) name))
        → value_of (laid_entries p v (g ∷ gs)) name ≡ option_map (place p v (g ∷ gs)) (cond (bytes_eq name g.name) (Some 0) (option_map suc (number_of (global_names gs) name)))
    by_kind true kind rest =
        let next = global_start p g + size_of g.ty in
        let first : global_start p g ≡ place p v (g ∷ gs) 0 = rw kind refl in
        let found : value_of (laid_entries p v (g ∷ gs)) name ≡ (if bytes_eq g.name name then Some (global_start p g) else value_of (laid_entries next v gs) name) = rw kind refl in
        found ∙ ap (λ t. if t then Some (global_start p g) else value_of (laid_entries next v gs) name) (bytes_eq-sym g.name name)
        ∙ ap (λ o. if bytes_eq name g.name then Some (global_start p g) else o) (rest next v)
        ∙ first_or_later (bytes_eq name g.name) (place p v (g ∷ gs)) (place next v gs) (global_start p g) (number_of (global_names gs) name) first (λ k. persistent_next p v g gs k kind)
    by_kind false kind rest =
        let next = global_start v g + size_of g.ty in
        let first : global_start v g ≡ place p v (g ∷ gs) 0 = rw kind refl in
        let found : value_of (laid_entries p v (g ∷ gs)) name ≡ (if bytes_eq g.name name then Some (global_start v g) else value_of (laid_entries p next gs) name) = rw kind refl in
        found ∙ ap (λ t. if t then Some (global_start v g) else value_of (laid_entries p next gs) name) (bytes_eq-sym g.name name)
        ∙ ap (λ o. if bytes_eq name g.name then Some (global_start v g) else o) (rest p next)
        ∙ first_or_later (bytes_eq name g.name) (place p v (g ∷ gs)) (place p next gs) (global_start v g) (number_of (global_names gs) name) first (λ k. volatile_next p v g gs k kind)

-- The table has the program's addresses.
pub addresses_alike : (globals : List GlobalVar) (base : ℕ) (table : NameTable ℕ) → TableStandsFor table.names table.values (laid_entries base volatile_start globals) → address_beside table ≡ global_address globals base
addresses_alike globals base table stands = fun_ext (λ name. ap (λ o. unwrap_or o 0) (stands.finds name ∙ laid_at base volatile_start globals name))

-- ---- how many bytes they are

pub length-sized : (size : ℕ) (bytes : List ℕ) → length (sized size bytes) ≡ size
length-sized size bytes = omega (arith, length-append (take size bytes) (replicate (size - length bytes) 0), length-take size bytes, length-replicate {A = ℕ} (size - length bytes) 0)

pub length-aligned : (start align : ℕ) (bytes : List ℕ) → start + length (aligned start align bytes) ≡ next_multiple_of (start + length bytes) align
length-aligned start align bytes =
    omega (arith, length-append bytes (replicate (next_multiple_of (start + length bytes) align - (start + length bytes)) 0), length-replicate {A = ℕ} (next_multiple_of (start + length bytes) align - (start + length bytes)) 0)

pub length_more : (b : Bool) (a : List ℕ → ℕ) (start : ℕ) (so_far : List ℕ) (g : GlobalVar) →
    start + length (if b then aligned start (global_align g) so_far ++ constant_bytes a g.init g.ty else so_far) ≡ (if b then global_start (start + length so_far) g + size_of g.ty else start + length so_far)
length_more true a start so_far g =
    omega (arith, length-append (aligned start (global_align g) so_far) (constant_bytes a g.init g.ty), length-aligned start (global_align g) so_far, length-sized (size_of g.ty) (written a g.init).bytes)
length_more false a start so_far g = refl

pub length-laid : (a : List ℕ → ℕ) (persistent : Bool) (start : ℕ) (so_far : List ℕ) (gs : List GlobalVar) → start + length (laid_bytes a persistent start so_far gs) ≡ end_of persistent (start + length so_far) gs
length-laid a persistent start so_far [] = refl
length-laid a persistent start so_far (g ∷ gs) =
    length-laid a persistent start (if same_truth g.persistent persistent then aligned start (global_align g) so_far ++ constant_bytes a g.init g.ty else so_far) gs
    ∙ ap (λ n. end_of persistent n gs) (length_more (same_truth g.persistent persistent) a start so_far g)

pub length-volatile : (P : Program) (base : ℕ) → volatile_start + length (volatile_bytes P base) ≡ volatile_end P
length-volatile P base =
    let none : List ℕ = [] in
    let e : volatile_start + length none ≡ volatile_start = refl in
    length-laid (global_address P.globals base) false volatile_start [] P.globals ∙ ap (λ n. end_of false n P.globals) e

pub length-region : (P : Program) (base : ℕ) → length (region_bytes P base) ≡ region_size P
length-region P base =
    let laid : List ℕ = laid_bytes (global_address P.globals base) true 0 [] P.globals in
    let none : List ℕ = [] in
    let e : 0 + length none ≡ 0 = refl in
    let end : 0 + length laid ≡ end_of true 0 P.globals = length-laid (global_address P.globals base) true 0 [] P.globals ∙ ap (λ n. end_of true n P.globals) e in
    let zero_more : 0 + length (region_bytes P base) ≡ length (region_bytes P base) = omega arith in
    sym zero_more ∙ length-aligned 0 64 laid ∙ ap (λ n. next_multiple_of n 64) end

-- The bytes by the addresses of the table are the bytes by the addresses of the program.
pub laid_alike : (P : Program) (base : ℕ) (table : NameTable ℕ) (gs : List GlobalVar) (persistent : Bool) (start : ℕ) → TableStandsFor table.names table.values (laid_entries base volatile_start gs) → gs ≡ P.globals →
    laid_bytes (address_beside table) persistent start [] gs ≡ laid_bytes (global_address P.globals base) persistent start [] P.globals
laid_alike P base table gs persistent start stands e =
    ap (λ a. laid_bytes a persistent start [] gs) (addresses_alike gs base table stands) ∙ ap (λ globals. laid_bytes (global_address globals base) persistent start [] globals) e

pub volatile_length : (P : Program) (base : ℕ) (r : Result (List ℕ) NoMemory) (laid : List ℕ) → laid ≡ volatile_bytes P base → IfOk r (λ bytes. bytes ≡ laid) → IfOk r (λ bytes. volatile_start + length bytes ≡ volatile_end P)
volatile_length P base (Ok bytes) laid e h = ap (λ bs. volatile_start + length bs) (h ∙ e) ∙ length-volatile P base
volatile_length P base (Err x) laid e h = tt
