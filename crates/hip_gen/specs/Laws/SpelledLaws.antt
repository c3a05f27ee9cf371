-- The canonical text of the generated program reads as that program.
use Rattle.std.proofs.Common.{◌≡◌, Bool, ℕ, zero, suc, ◌+◌, ◌%◌, ◌≤◌, true, false, ◌&&◌, List, [], ◌∷◌, codes, refl, ap₂, ◌∙◌, arith}
use Rattle.std.specs.List.{list_all}
use Rattle.std.proofs.lemmas.Bool.{lt-ltb}
use Rattle.std.proofs.lemmas.List.Folds.{list_all-append}
use Rattle.hip_types.specs.Numbers.{bits}
use Rattle.hip_types.specs.declared.limits.TheConstants.{LARGEST_COUNT}
use Rattle.hip_types.specs.declared.number.Width.TheVariants.{W32, W64}
use Rattle.hip_types.specs.declared.ty.Ty.TheVariants as types
use Rattle.hip_tokens.specs.Longest.{is_name}
use Rattle.hip_tree.specs.Laws.Levels.{out-Ty-Int, out-Ty-Array, out-Const-Int, out-Const-Zero, out-Const-Address, out-Const-Gep}
use Rattle.hip_grammar.specs.Laws.SpellingExact.{spelled_exact}
use Rattle.hip_grammar.specs.ReadTexts.{IsSpelled}
use Rattle.hip_grammar.specs.Spelling.{spelled_type, spelled_type_within, spelled_const, spelled_const_within, spelled_pointer, spelled_pointer_within, spelled_int, spelled_instr, spelled_block, spelled_global, spelled_program}
use Rattle.hip_tree.specs.declared.constant.Const.{Const, out-Const}
use Rattle.hip_tree.specs.declared.constant.Const.TheVariants as consts
use Rattle.hip_tree.specs.declared.instr.Instr.{Instr}
use Rattle.hip_gen.specs.declared.kinds.GroupKind.{GroupKind}
use Rattle.hip_gen.specs.declared.kinds.GroupKind.TheVariants as kinds
use Rattle.hip_gen.specs.declared.limits.TheConstants.{LARGEST_SIZE, VOLATILE_LENGTH}
use Rattle.hip_gen.specs.Kinds.{kind}
use Rattle.hip_gen.specs.Generated.{array_of, zeroed_array, element, persistent_element, volatile_element, store, flush, put, group_instrs, instrs_before, main_block, program_of, generated_program}

-- ---- types and constants

array_spelled : (n : ℕ) → n ≤ LARGEST_COUNT → spelled_type (array_of n) ≡ true
unfolding spelled_type_within
array_spelled n h = rw (out-Ty-Array n (types.Int W64), out-Ty-Int W64, lt-ltb n (LARGEST_COUNT + 1) (omega arith)) refl

zero_spelled : (n : ℕ) → spelled_const (array_of n) consts.Zero ≡ true
unfolding spelled_const_within
zero_spelled n = rw (out-Ty-Array n (types.Int W64), out-Const-Zero) refl

number_spelled : (n : ℕ) → spelled_int W64 (out-Const (consts.Int (bits W64 n))) ≡ true
number_spelled n = rw (out-Const-Int (bits W64 n)) refl

address_spelled : (depth : ℕ) (name : List ℕ) → is_name name ≡ true
    → spelled_pointer_within (suc depth) (consts.Address name) ≡ true
unfolding spelled_pointer_within
address_spelled depth name h = rw (out-Const-Address name, h) refl

element_spelled : (name : List ℕ) (length index : ℕ) → is_name name ≡ true → length ≤ LARGEST_COUNT
    → spelled_pointer (element name length index) ≡ true
unfolding spelled_pointer_within
element_spelled name length index h small =
    rw (
      out-Const-Gep (record {
        inbounds = false;
        ty = array_of length;
        base = consts.Address name;
        indices = bits W64 0 ∷ bits W64 index ∷ [];
      }),
      array_spelled length small,
      address_spelled 30 name h,
    ) refl

-- ---- instructions

store_spelled : (c : Const) (value : ℕ) → spelled_pointer c ≡ true → spelled_instr (store c value) ≡ true
store_spelled c value h = rw (number_spelled value, h) refl

flush_spelled : (c : Const) → spelled_pointer c ≡ true → spelled_instr (flush c) ≡ true
flush_spelled c h = rw h refl

put_spelled : (c : Const) (value : ℕ) → spelled_pointer c ≡ true → spelled_instr (put c value) ≡ true
put_spelled c value h = rw (h, number_spelled value) refl

persistent_spelled : (size group : ℕ) → size ≤ LARGEST_SIZE
    → spelled_pointer (persistent_element size group) ≡ true
persistent_spelled size group h = element_spelled (codes "data") size group refl (omega arith)

volatile_spelled : (group : ℕ) → spelled_pointer (volatile_element group) ≡ true
volatile_spelled group = element_spelled (codes "temp") VOLATILE_LENGTH (group % VOLATILE_LENGTH) refl (omega arith)

group_spelled : (size group : ℕ) (k : GroupKind) → size ≤ LARGEST_SIZE
    → list_all spelled_instr (group_instrs size group k) ≡ true
group_spelled size group kinds.Store h =
    rw (store_spelled (persistent_element size group) (group + 1) (persistent_spelled size group h)) refl
group_spelled size group kinds.FlushedStore h =
    rw (
      store_spelled (persistent_element size group) (group + 1) (persistent_spelled size group h),
      flush_spelled (persistent_element size group) (persistent_spelled size group h),
    ) refl
group_spelled size group kinds.PersistentCall h =
    rw (put_spelled (persistent_element size group) (group + 1) (persistent_spelled size group h)) refl
group_spelled size group kinds.VolatileCall h =
    rw (put_spelled (volatile_element group) (group + 1) (volatile_spelled group)) refl

groups_spelled : (seed size n : ℕ) → size ≤ LARGEST_SIZE
    → list_all spelled_instr (instrs_before seed size n) ≡ true
groups_spelled seed size zero h = refl
groups_spelled seed size (suc n) h =
    list_all-append spelled_instr (instrs_before seed size n) (group_instrs size n (kind seed n))
    ∙ ap₂ (λ a b. a && b) (groups_spelled seed size n h) (group_spelled size n (kind seed n) h)

-- ---- programs

block_spelled : (body : List Instr) → list_all spelled_instr body ≡ true
    → spelled_block (main_block body) ≡ true
block_spelled body h = rw (h, out-Const-Int (bits W32 0)) refl

global_spelled : (name : List ℕ) (length : ℕ) (persistent : Bool) → is_name name ≡ true
    → length ≤ LARGEST_COUNT
    → spelled_global (zeroed_array name length persistent) ≡ true
global_spelled name length persistent h small = rw (h, array_spelled length small, zero_spelled length) refl

program_spelled : (size : ℕ) (body : List Instr) → size ≤ LARGEST_SIZE → list_all spelled_instr body ≡ true
    → spelled_program (program_of size body) ≡ true
program_spelled size body small h =
    rw (
      global_spelled (codes "data") size true refl (omega arith),
      global_spelled (codes "temp") VOLATILE_LENGTH false refl (omega arith),
      block_spelled body h,
    ) refl

-- The generated program is spelled.
pub generated_is_spelled : (seed size : ℕ) → size ≤ LARGEST_SIZE → IsSpelled (generated_program seed size)
generated_is_spelled seed size h =
    (spelled_exact (generated_program seed size)).0
    (program_spelled size (instrs_before seed size size) h (groups_spelled seed size size h))
