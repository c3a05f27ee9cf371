-- The address of a volatile global is below every base.
use Rattle.std.proofs.Common.{◌≡◌, ◌⊎◌, ⊎_elim, ℕ, suc, ◌+◌, ◌≤◌, Bool, true, false, ◌&&◌, not, nat_le, List, [], ◌∷◌, Option, Some, None, option_map, refl, sym, ap, ◌∙◌, subst, arith, leb-true}
use Rattle.std.specs.Prelude.{unwrap_or, if◌then◌else◌}
use Rattle.std.specs.Str.{bytes_eq}
use Rattle.std.proofs.lemmas.Slice.Eq.{bytes_eq-Decides}
use Rattle.std.proofs.lemmas.Bool.{not-true, and_parts, both_ways}
use Rattle.hip_types.specs.Laws.DistinctLaws.{or_first, or_second, either}
use Rattle.hip_tree.specs.declared.constant.Const.{Const, out-Const, roll-Const, roll-out-Const}
use Rattle.hip_tree.specs.declared.constant.Const.TheOpen.{Const-F}
use Rattle.hip_tree.specs.declared.constant.Const.TheFolds.{fold-roll-Const}
use Rattle.hip_tree.specs.declared.constant.ConstGep.{ConstGep}
use Rattle.hip_tree.specs.declared.constant.TypedConst.{TypedConst}
use Rattle.hip_tree.specs.declared.program.GlobalVar.{GlobalVar}
use Rattle.hip_tree.specs.declared.program.Program.{Program}
use Rattle.hip_types.specs.Areas.{volatile_start}
use Rattle.hip_globals.specs.Addresses.{start_of, is_persistent, address_in, volatile_end, region_size}
use Rattle.hip_names.specs.Laws.NameLaws.{among-sound}
use Rattle.hip_names.specs.Names.{AllDiffer, is_among, number_of}
use Rattle.hip_names.specs.Laws.NumberLaws.{number_cases}
use Rattle.hip_sound.specs.Rules.{PassesVerifier}
use Rattle.hip_sound.specs.Sound.{callee_names}
use Rattle.hip_globals.specs.Values.{Written, global_address, const_value}
use Rattle.hip_names.specs.Laws.NameLaws.{bytes_eq-sym}
use Rattle.hip_sound.specs.Laws.NameLaws.{names-sound}
use Rattle.hip_invariants.specs.Laws.GlobalAddresses.{start_before_end}
use Rattle.hip_repairs.specs.Direct.{is_volatile_global, names_volatile}
use Rattle.hip_repairs.proofs.soundness.HeadsAgain.{names_of_globals}
use Rattle.hip_names.specs.Laws.DifferLaws.{differ_first}

-- ---- a volatile global by its name

volatile_among : (gs : List GlobalVar) (name : List ℕ) → is_volatile_global gs name ≡ true → is_among (names_of_globals gs) name ≡ true
volatile_among [] name e = cc
volatile_among (g ∷ gs) name e =
    ⊎_elim (λ h. or_first (bytes_eq name g.name) _ (bytes_eq-sym name g.name ∙ (and_parts (bytes_eq g.name name) _ h).0)) (λ h. or_second (bytes_eq name g.name) _ (volatile_among gs name h))
    (either (bytes_eq g.name name && not g.persistent) (is_volatile_global gs name) e)

-- Where the names of globals differ, the number of a volatile one's name is its own.
pub volatile_number : (gs : List GlobalVar) (name : List ℕ) (k : ℕ) → AllDiffer (names_of_globals gs) → is_volatile_global gs name ≡ true → number_of (names_of_globals gs) name ≡ Some k → is_persistent gs k ≡ false
volatile_number [] name k d e f = refl
volatile_number (g ∷ gs) name k d e f = ⊎_elim (λ h. first h.0 h.2) (λ h. later h.0 (volatile_number gs name h.0 d.1) h.1 h.2 h.3) (number_cases g.name (names_of_globals gs) name k f)
  where
    cases : (bytes_eq g.name name && not g.persistent) ≡ true ⊎ is_volatile_global gs name ≡ true
    cases = either (bytes_eq g.name name && not g.persistent) (is_volatile_global gs name) e

    first : k ≡ 0 → bytes_eq name g.name ≡ true → is_persistent (g ∷ gs) k ≡ false
    first z at =
        subst (λ n. is_persistent (g ∷ gs) n ≡ false) (sym z)
        (⊎_elim (λ h. not-true g.persistent (and_parts (bytes_eq g.name name) _ h).1)
        (λ h. absurd (d.0 (among-sound (names_of_globals gs) g.name (subst (λ n. is_among (names_of_globals gs) n ≡ true) ((bytes_eq-Decides name g.name).0 at) (volatile_among gs name h))))) cases)

    later : (j : ℕ) → (is_volatile_global gs name ≡ true → number_of (names_of_globals gs) name ≡ Some j → is_persistent gs j ≡ false) → bytes_eq name g.name ≡ false → number_of (names_of_globals gs) name ≡ Some j → k ≡ suc j → is_persistent (g ∷ gs) k ≡ false
    later j rest other n s =
        subst (λ m. is_persistent (g ∷ gs) m ≡ false) (sym s)
        (⊎_elim (λ h. absurd (both_ways _ other (bytes_eq-sym name g.name ∙ (and_parts (bytes_eq g.name name) _ h).0))) (λ h. rest h n) cases)

-- ---- addresses in a sound program

module _ (P : Program) (sound : PassesVerifier P) where
  globals_differ : AllDiffer (names_of_globals P.globals)
  globals_differ =
      differ_first (names_of_globals P.globals) (callee_names P) (names-sound P sound.names)

  volatile_low : volatile_end P ≤ volatile_start + 16777216
  volatile_low = leb-true (volatile_end P) (volatile_start + 16777216) (and_parts (nat_le (region_size P) 67108864) _ sound.sizes).1

  -- The address of a volatile global is within the bound for volatile globals.
  named_low : (base : ℕ) (name : List ℕ) → is_volatile_global P.globals name ≡ true → global_address P.globals base name ≤ volatile_start + 16777216
  named_low base name e = go (number_of (names_of_globals P.globals) name) refl
    where
      at_number : (k : ℕ) (t : Bool) → t ≡ false → is_persistent P.globals k ≡ false → (if t then start_of true base P.globals k else start_of false volatile_start P.globals k) ≤ volatile_start + 16777216
      at_number k true f p = cc
      at_number k false f p = omega (arith, start_before_end false volatile_start P.globals k p, volatile_low)

      go : (o : Option ℕ) → number_of (names_of_globals P.globals) name ≡ o → unwrap_or (option_map (address_in P.globals base) o) 0 ≤ volatile_start + 16777216
      go None n = omega arith
      go (Some k) n = let p = volatile_number P.globals name k globals_differ e n in at_number k (is_persistent P.globals k) p p

  pub constant_low : (base : ℕ) (c : Const) → names_volatile P.globals (out-Const c) ≡ true → const_value P.globals base c ≤ volatile_start + 16777216
  constant_low base c e = go (out-Const c) refl e
    where
      go : (y : Const-F Const ConstGep TypedConst) → out-Const c ≡ y → names_volatile P.globals y ≡ true → const_value P.globals base c ≤ volatile_start + 16777216
      go (Const-F.Address name) q h =
          let is : const_value P.globals base c ≡ global_address P.globals base name = ap (const_value P.globals base) (sym (roll-out-Const c) ∙ ap roll-Const q) ∙ ap (λ (x : Written). x.value) (fold-roll-Const _ _ _ _ _ _ _) in
          subst (λ n. n ≤ volatile_start + 16777216) (sym is) (named_low base name h)
      go (Const-F.Int b) q h = cc
      go Const-F.Null q h = cc
      go Const-F.Zero q h = cc
      go (Const-F.Gep gep) q h = cc
      go (Const-F.Array items) q h = cc
      go (Const-F.Struct items) q h = cc
