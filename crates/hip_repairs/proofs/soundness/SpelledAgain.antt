-- The repaired program is spelled.
use Rattle.std.proofs.Common.{◌≡◌, ⊎_elim, ℕ, suc, ◌+◌, Bool, true, false, cond, ◌||◌, List, [], ◌∷◌, ◌++◌, map, Option, Some, slice_get, refl, sym, ap, ◌∙◌, subst}
use Rattle.std.specs.List.{list_all}
use Rattle.std.specs.Str.{bytes_eq}
use Rattle.std.proofs.lemmas.List.Folds.{list_all-append}
use Rattle.std.proofs.lemmas.Bool.{and_from, and_parts}
use Rattle.hip_tokens.specs.Longest.{is_name}
use Rattle.hip_types.specs.Numbers.{bits}
use Rattle.hip_types.specs.declared.number.Scalar.{Scalar}
use Rattle.hip_types.specs.declared.number.Scalar.TheVariants.{Ptr}
use Rattle.hip_types.specs.declared.number.Width.TheVariants.{W64}
use Rattle.hip_grammar.specs.Spelling.{not_empty, spelled_int, spelled_operand, spelled_instr, spelled_block, spelled_extern, spelled_function, spelled_program}
use Rattle.hip_tree.specs.declared.block.Block.{Block}
use Rattle.hip_tree.specs.declared.constant.Const.{out-Const}
use Rattle.hip_tree.specs.declared.constant.Const.TheVariants as consts
use Rattle.hip_tree.specs.Laws.Levels.{out-Const-Int}
use Rattle.hip_tree.specs.declared.instr.Instr.{Instr}
use Rattle.hip_tree.specs.declared.instr.Instr.TheVariants.{Store, Call}
use Rattle.hip_tree.specs.declared.instr.Operand.{Operand}
use Rattle.hip_tree.specs.declared.program.Extern.{Extern}
use Rattle.hip_tree.specs.declared.program.Function.{Function}
use Rattle.hip_tree.specs.declared.program.Program.{Program}
use Rattle.hip_tree.specs.declared.site.Site.{Site}
use Rattle.hip_sound.specs.Sound.{top_names}
use Rattle.hip_sound.specs.NumberedNames.{name_in}
use Rattle.hip_calls.specs.Fresh.{name_of}
use Rattle.hip_calls.specs.Laws.FreshLaws.{fresh_for-first, candidate-name}
use Rattle.hip_runs.specs.Operands.{scalar_size}
use Rattle.hip_repairs.specs.declared.plan.Plan.{Plan}
use Rattle.hip_repairs.specs.Repaired.{Clone, Wanted, wanted_by, clone_name, clones_from, clones_of, cloned, renamed, is_wide, line_flush, range_flush, flush_of, added_externs, repaired, repaired_block, repaired_blocks, repaired_function}
use Rattle.hip_repairs.proofs.soundness.Bodies.{IsFlushOf, IsOriginal, IsInserted, in_body, inserted_kind, site_at, repaired_instrs}
use Rattle.hip_repairs.proofs.functions.Clones.{fresh, cloned_is_there}
use Rattle.hip_repairs.proofs.soundness.Declarations.{added_passes, added_at}
use Rattle.hip_repairs.proofs.soundness.Items.{all_make, all_at, map_at}
use Rattle.hip_repairs.proofs.functions.Origins.{Origin, origin}

-- ---- inserted instructions

size_spelled : (n : ℕ) → spelled_int W64 (out-Const (consts.Int (bits W64 n))) ≡ true
size_spelled n = ap (spelled_int W64) (out-Const-Int (bits W64 n))

flush_spelled : (ty : Scalar) (addr : Operand) (align : Option ℕ) → spelled_operand Ptr addr ≡ true → spelled_instr (flush_of ty addr align) ≡ true
flush_spelled ty addr align e = by_width (is_wide ty align)
  where
    by_width : (b : Bool) → spelled_instr (cond b (range_flush addr (scalar_size ty)) (line_flush addr)) ≡ true
    by_width true = and_from _ _ e (and_from _ _ (size_spelled (scalar_size ty)) refl)
    by_width false = and_from _ _ e refl

store_addr : (ty : Scalar) (value addr : Operand) (align : Option ℕ) → spelled_instr (Store ty value addr align) ≡ true → spelled_operand Ptr addr ≡ true
store_addr ty value addr align e = (and_parts (spelled_operand Ptr addr) _ (and_parts (spelled_operand ty value) _ e).1).0

-- ---- calls

clone_named : (clones : List Clone) (callee : List ℕ) → list_all (λ c. is_name c.name) clones ≡ true → is_name callee ≡ true → is_name (clone_name clones callee) ≡ true
clone_named [] callee named e = e
clone_named (c ∷ cs) callee named e = by_first (bytes_eq c.original callee) (and_parts _ _ named).0 (clone_named cs callee (and_parts (is_name c.name) _ named).1 e)
  where
    by_first : (b : Bool) → is_name c.name ≡ true → is_name (clone_name cs callee) ≡ true → is_name (cond b c.name (clone_name cs callee)) ≡ true
    by_first true f g = f
    by_first false f g = g

renamed_spelled : (clones : List Clone) (i : Instr) (b : Bool) → list_all (λ c. is_name c.name) clones ≡ true → spelled_instr i ≡ true → spelled_instr (renamed clones i b) ≡ true
renamed_spelled clones (Call dest ret callee args) b named e =
    let parts = and_parts _ _ e in
    let more = and_parts _ _ parts.1 in
    and_from _ _ parts.0 (and_from _ _ (chosen b) more.1)
  where
    chosen : (b : Bool) → is_name (cond b (clone_name clones callee) callee) ≡ true
    chosen true = clone_named clones callee named (and_parts _ _ (and_parts _ _ e).1).0
    chosen false = (and_parts _ _ (and_parts _ _ e).1).0
renamed_spelled clones i b named e = e

-- ---- bodies and blocks

module _ (clones : List Clone) (w : Wanted) (clone : Bool) (f : ℕ) (named : list_all (λ (c : Clone). is_name c.name) clones ≡ true) where
  body_spelled : (b : ℕ) (is : List Instr) → list_all spelled_instr is ≡ true → list_all spelled_instr (repaired_instrs clones w clone f b 0 is) ≡ true
  body_spelled b is e = all_make spelled_instr (repaired_instrs clones w clone f b 0 is) (λ k i' at. ⊎_elim (original k i') (inserted k i') (in_body clones w clone f b 0 is k i' at))
    where
      original : (k : ℕ) (i' : Instr) → IsOriginal clones w clone f b 0 is k i' → spelled_instr i' ≡ true
      original k i' o = subst (λ x. spelled_instr x ≡ true) (sym o.3) (renamed_spelled clones o.1 (clone || w.hoist (site_at clones w clone f b (0 + o.0))) named (all_at spelled_instr is o.0 o.1 e o.2))

      flush : (i i' : Instr) → spelled_instr i ≡ true → IsFlushOf i i' → spelled_instr i' ≡ true
      flush i i' s k =
          let store : spelled_instr (Store k.0 k.1 k.2 k.3) ≡ true = subst (λ x. spelled_instr x ≡ true) k.4 s in
          subst (λ x. spelled_instr x ≡ true) (sym k.5) (flush_spelled k.0 k.2 k.3 (store_addr k.0 k.1 k.2 k.3 store))

      inserted : (k : ℕ) (i' : Instr) → IsInserted clones w clone f b 0 is k i' → spelled_instr i' ≡ true
      inserted k i' o =
          ⊎_elim (flush o.1 i' (all_at spelled_instr is o.0 o.1 e o.3)) (λ fence. subst (λ x. spelled_instr x ≡ true) (sym fence) refl) (inserted_kind w clone (site_at clones w clone f b (0 + o.0)) o.1 o.2 i' o.4)

  block_spelled : (b : ℕ) (block : Block) → spelled_block block ≡ true → spelled_block (repaired_block clones w clone f b block) ≡ true
  block_spelled b block e =
      let label = and_parts _ _ e in
      let phis = and_parts _ _ label.1 in
      let body = and_parts _ _ phis.1 in
      and_from _ _ label.0 (and_from _ _ phis.0 (and_from _ _ (body_spelled b block.body body.0) body.1))

  blocks_spelled : (b : ℕ) (blocks : List Block) → list_all spelled_block blocks ≡ true → list_all spelled_block (repaired_blocks clones w clone f b blocks) ≡ true
  blocks_spelled b [] e = refl
  blocks_spelled b (x ∷ xs) e = let parts = and_parts _ _ e in and_from _ _ (block_spelled b x parts.0) (blocks_spelled (suc b) xs parts.1)

  still_some : (b : ℕ) (blocks : List Block) → not_empty blocks ≡ true → not_empty (repaired_blocks clones w clone f b blocks) ≡ true
  still_some b [] e = e
  still_some b (x ∷ xs) e = refl

  function_spelled : (name : List ℕ) (fn : Function) → is_name name ≡ true → spelled_function fn ≡ true → spelled_function (repaired_function clones w clone f name fn) ≡ true
  function_spelled name fn n e =
      let params = and_parts _ _ (and_parts (is_name fn.name) _ e).1 in
      let blocks = and_parts _ _ params.1 in
      and_from _ _ n (and_from _ _ params.0 (and_from _ _ (still_some 0 fn.blocks blocks.0) (blocks_spelled 0 fn.blocks blocks.1)))

-- ---- the program

module _ (P : Program) (plan : Plan) (skip : Site → Bool) (spelled : spelled_program P ≡ true) where
  functions_spelled : list_all spelled_function P.functions ≡ true
  functions_spelled = (and_parts (list_all spelled_extern P.externs) _ (and_parts _ _ spelled).1).1

  original_named : (f : ℕ) (fn : Function) → slice_get P.functions f ≡ Some fn → is_name fn.name ≡ true
  original_named f fn e = (and_parts _ _ (all_at spelled_function P.functions f fn functions_spelled e)).0

  pub fresh_named : (k : ℕ) (name : List ℕ) → slice_get (fresh P plan skip) k ≡ Some name → is_name name ≡ true
  fresh_named k name e =
      let first = fresh_for-first (top_names P) (map (name_of P) (cloned P plan)) k name e in
      let original = map_at (name_of P) (cloned P plan) k first.0 first.1 in
      let there = cloned_is_there P plan skip original.0 k original.1 in
      let named : is_name first.0 ≡ true = ap is_name (original.2 ∙ ap name_in there.1) ∙ original_named original.0 there.0 there.1 in
      subst (λ n. is_name n ≡ true) (sym first.2.is) (candidate-name first.0 first.2.number named)

  names_from : (fs : List ℕ) (names : List (List ℕ)) → list_all is_name names ≡ true → list_all (λ (c : Clone). is_name c.name) (clones_from P fs names) ≡ true
  names_from [] names e = refl
  names_from (f ∷ fs) [] e = refl
  names_from (f ∷ fs) (name ∷ names) e = let parts = and_parts (is_name name) _ e in and_from _ _ parts.0 (names_from fs names parts.1)

  clones_named : list_all (λ (c : Clone). is_name c.name) (clones_of P plan) ≡ true
  clones_named = names_from (cloned P plan) (fresh P plan skip) (all_make is_name (fresh P plan skip) fresh_named)

  from_origin : (f' : ℕ) (fn' : Function) → Origin P plan skip f' fn' → spelled_function fn' ≡ true
  from_origin f' fn' o =
      subst (λ x. spelled_function x ≡ true) (sym o.is)
      (function_spelled (clones_of P plan) (wanted_by plan skip) o.clone o.f clones_named o.name o.fn (named o.clone refl) (all_at spelled_function P.functions o.f o.fn functions_spelled o.at))
    where
      named : (b : Bool) → o.clone ≡ b → is_name o.name ≡ true
      named true e = let high = o.high e in fresh_named high.0 o.name high.3
      named false e = subst (λ n. is_name n ≡ true) (sym (o.plain e).1) (original_named o.f o.fn o.at)

  two_spelled : (xs ys : List Extern) → list_all spelled_extern xs ≡ true → list_all spelled_extern ys ≡ true → list_all spelled_extern (xs ++ ys) ≡ true
  two_spelled xs ys e f = list_all-append spelled_extern xs ys ∙ and_from _ _ e f

  added_spelled : list_all spelled_extern (added_externs P plan (wanted_by plan skip)) ≡ true
  added_spelled = all_make spelled_extern (added_externs P plan (wanted_by plan skip)) (λ k e h. added_passes spelled_extern refl refl refl e (added_at P plan (wanted_by plan skip) k e h).0)

  pub spelled_again : spelled_program (repaired P plan skip) ≡ true
  spelled_again =
      let parts = and_parts _ _ spelled in
      let more = and_parts _ _ parts.1 in
      and_from _ _ parts.0
      (and_from _ _ (two_spelled P.externs (added_externs P plan (wanted_by plan skip)) more.0 added_spelled)
      (all_make spelled_function (repaired P plan skip).functions (λ f' fn' e. from_origin f' fn' (origin P plan skip f' fn' e))))
