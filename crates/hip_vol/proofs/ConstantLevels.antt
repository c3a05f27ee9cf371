-- The levels of constants, as a table of the globals gives them.
use Rattle.std.proofs.Common.{◌≡◌, ℕ, zero, suc, ◌+◌, ◌<◌, ◌≤◌, Bool, true, false, cond, List, [], ◌∷◌, ◌++◌, length, map, take, Option, Some, None, get_or, refl, sym, ap, ◌∙◌, arith}
use Rattle.std.specs.Prelude.{unwrap_or, option_map, if◌then◌else◌}
use Rattle.std.specs.Str.{bytes_eq}
use Rattle.hip_types.specs.Layout.{gep_of}
use Rattle.hip_tree.specs.declared.constant.ConstGep.{ConstGep}
use Rattle.hip_tree.specs.declared.constant.Const.TheFolds.{fold_out-ConstGep}
use Rattle.hip_tree.specs.declared.program.GlobalVar.{GlobalVar}
use Rattle.hip_globals.specs.Constants.{index_of}
use Rattle.hip_names.specs.Laws.NameLaws.{bytes_eq-sym}
use Rattle.hip_names.specs.Laws.NumberLaws.{number_of-cons}
use Rattle.hip_names.specs.Names.{number_of}
use Rattle.hip_names.specs.Tables.{Entry, value_of, value_beside, TableStandsFor}
use Rattle.hip_invariants.specs.PointerLevels.{PointerLevel, after_offset, number_level, global_level, level_step, gep_level_step, item_level_step}
use Rattle.hip_vol.specs.Gathered.{persistence_level, level_with, element_with}
use Rattle.hip_vol.specs.Numbered.{offset_rank}
use Rattle.hip_vol.specs.Tables.{level_of}
use Rattle.hip_vol.proofs.LevelOrder.{past_is_level}
use Rattle.hip_vol.proofs.TableLemmas.{level_is_level, level_of_rank, rank_past, rank_of_level}

-- ---- globals

abbrev pub entry_of : GlobalVar → Entry Bool
entry_of g = record { name = g.name; value = g.persistent }

stated : (gs : List GlobalVar) (name : List ℕ) → persistence_level (value_of (map entry_of gs) name) ≡ number_level gs (number_of (map (λ g. g.name) gs) name)
stated [] name = refl
stated (g ∷ gs) name = by_first (bytes_eq g.name name) (stated gs name) ∙ ap (number_level (g ∷ gs)) (ap (λ b. cond b (Some 0) (option_map suc (number_of (map (λ g. g.name) gs) name))) (bytes_eq-sym g.name name) ∙ sym (number_of-cons g.name (map (λ g. g.name) gs) name))
  where
    own : (b : Bool) → persistence_level (Some b) ≡ cond b None (Some 0)
    own true = refl
    own false = refl

    later : (o : Option ℕ) → number_level gs o ≡ number_level (g ∷ gs) (option_map suc o)
    later None = refl
    later (Some k) = refl

    by_first : (b : Bool) → persistence_level (value_of (map entry_of gs) name) ≡ number_level gs (number_of (map (λ g. g.name) gs) name) →
        persistence_level (if b then Some g.persistent else value_of (map entry_of gs) name) ≡ number_level (g ∷ gs) (cond b (Some 0) (option_map suc (number_of (map (λ g. g.name) gs) name)))
    by_first true rest = own g.persistent
    by_first false rest = rest ∙ later (number_of (map (λ g. g.name) gs) name)

pub globals_stated : (names : List (List ℕ)) (values : List Bool) (gs : List GlobalVar) → TableStandsFor names values (map entry_of gs) → (name : List ℕ) → persistence_level (value_beside names values name) ≡ global_level gs name
globals_stated names values gs s name = ap persistence_level (s.finds name) ∙ stated gs name

-- ---- elements

pub level_past : (n offset : ℕ) → n ≤ 33 → level_of (offset_rank n offset) ≡ after_offset (level_of n) offset
level_past n offset le =
    ap (λ m. level_of (offset_rank m offset)) (sym (rank_of_level n le)) ∙ ap level_of (sym (rank_past (level_of n) offset (level_is_level n)))
    ∙ level_of_rank (after_offset (level_of n) offset) (past_is_level (level_of n) offset (level_is_level n))

pub element_is : (names : List ℕ → PointerLevel) (gep : ConstGep) → element_with names gep ≡ after_offset (level_with names gep.base) (unwrap_or (gep_of gep.ty (map index_of gep.indices)) 0)
element_is names gep = fold_out-ConstGep PointerLevel PointerLevel PointerLevel (level_step names) gep_level_step item_level_step gep

-- ---- a loop over globals

pub entries_next : (gs : List GlobalVar) (k : ℕ) (g : GlobalVar) → k < length gs → g ≡ get_or gs k g → map entry_of (take k gs) ++ entry_of g ∷ [] ≡ map entry_of (take (k + 1) gs)
entries_next [] k g lt e = absurd (omega arith)
entries_next (x ∷ gs) zero g lt e = ap (λ (y : GlobalVar). entry_of y ∷ []) e
entries_next (x ∷ gs) (suc k) g lt e =
    let on : suc (k + 1) ≡ suc k + 1 = omega arith in
    ap (λ es. entry_of x ∷ es) (entries_next gs k g (omega arith) e) ∙ ap (λ n. map entry_of (take n (x ∷ gs))) on

pub take_whole : {A : Type 0} (xs : List A) (k : ℕ) → length xs ≤ k → take k xs ≡ xs
take_whole [] zero le = refl
take_whole [] (suc k) le = refl
take_whole (x ∷ xs) zero le = absurd (omega arith)
take_whole (x ∷ xs) (suc k) le = ap (λ ys. x ∷ ys) (take_whole xs k (omega arith))
