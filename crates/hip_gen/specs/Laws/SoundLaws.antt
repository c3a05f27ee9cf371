-- The generated program is sound.
use Rattle.std.proofs.Common.{◌≡◌, ℕ, zero, suc, ◌+◌, ◌*◌, ◌%◌, ◌≤◌, inl, inr, max, Bool, true, false, List, [], ◌∷◌, ◌++◌, All, Some, slice_get, codes, refl, sym, ap, ap₂, ◌∙◌, subst, arith}
use Rattle.std.specs.Prelude.{nat_le}
use Rattle.std.specs.Int.{next_multiple_of}
use Rattle.std.specs.Cmp.Derive.{both_true}
use Rattle.std.proofs.lemmas.Bool.{le-leb}
use Rattle.std.proofs.lemmas.Grind.{flat_map-append}
use Rattle.std.proofs.lemmas.List.Elements.{All-nil, All-cons, All-append}
use Rattle.std.proofs.lemmas.Option.{same_Some}
use Rattle.hip_types.specs.Layout.{Shape, shape, shape_of_level, Fits}
use Rattle.hip_types.specs.Laws.LayoutLaws.{shape-Int, shape-Array}
use Rattle.hip_types.specs.Numbers.{bits}
use Rattle.hip_types.specs.declared.limits.TheConstants.{LARGEST_REGION, LARGEST_VOLATILE}
use Rattle.hip_types.specs.declared.number.Bits.{Bits}
use Rattle.hip_types.specs.declared.number.Width.TheVariants.{W32, W64}
use Rattle.hip_types.specs.declared.ty.Ty.{Ty}
use Rattle.hip_types.specs.declared.ty.Ty.TheOpen.{Ty-F}
use Rattle.hip_types.specs.declared.ty.Ty.TheVariants as types
use Rattle.hip_grammar.specs.ReadTexts.{Reads}
use Rattle.hip_tree.specs.Laws.Levels.{out-Ty-Int, out-Ty-Ptr, out-Ty-Array}
use Rattle.hip_tree.specs.declared.block.Block.{Block}
use Rattle.hip_tree.specs.declared.constant.Const.{Const}
use Rattle.hip_tree.specs.declared.constant.Const.TheFolds.{fold-roll-Const, fold_out-ConstGep}
use Rattle.hip_tree.specs.declared.constant.Const.TheOpen.{Const-F}
use Rattle.hip_tree.specs.declared.constant.Const.TheVariants as consts
use Rattle.hip_tree.specs.declared.constant.ConstGep.{ConstGep}
use Rattle.hip_tree.specs.declared.instr.Instr.{Instr}
use Rattle.hip_tree.specs.declared.program.Function.{Function}
use Rattle.hip_tree.specs.declared.program.Program.{Program}
use Rattle.hip_types.specs.declared.areas.TheConstants.{LINE_SIZE}
use Rattle.hip_types.specs.Areas.{volatile_start}
use Rattle.hip_names.specs.Names.{is_among, AllDiffer}
use Rattle.hip_globals.specs.Addresses.{region_size, volatile_end}
use Rattle.hip_globals.specs.Constants.{types_in}
use Rattle.hip_sound.specs.Constants.{has_shape, gep_is_sound, names_in}
use Rattle.hip_sound.specs.Places.{Scope, scope_of, instr_required, end_required}
use Rattle.hip_sound.specs.Registers.{assigned_by, body_registers, instr_uses, used_registers}
use Rattle.hip_sound.specs.Rules.{RegisterUse, AllAssigned, UseIsAssigned, use_at, site, declarations, inner_names, global_required, globals_required, sizes_required, inner_names_required, instr_at, block_required, function_required, places_required}
use Rattle.hip_sound.specs.Sound.{IsSound, UsesAreAssigned, names_in_function}
use Rattle.hip_sound.specs.declared.point.Point.TheVariants.{Before}
use Rattle.hip_sound.specs.declared.fault.Place.{Place}
use Rattle.hip_sound.specs.declared.fault.Place.TheVariants as places
use Rattle.hip_sound.specs.Laws.AssignedExact.{assigned-whole}
use Rattle.hip_sound.specs.Laws.CheckLaws.{differ_after-exact, each_from-exact}
use Rattle.hip_sound.specs.Laws.Decided.{all-at, each-whole}
use Rattle.hip_sound.specs.Laws.NameLaws.{inner-whole}
use Rattle.hip_sound.specs.Laws.SoundExact.{passes-sound}
use Rattle.hip_sound.specs.Laws.SoundLaws.{externs-exact, block-exact}
use Rattle.hip_gen.specs.declared.kinds.GroupKind.{GroupKind}
use Rattle.hip_gen.specs.declared.kinds.GroupKind.TheVariants as kinds
use Rattle.hip_gen.specs.declared.limits.TheConstants.{LARGEST_SIZE, VOLATILE_LENGTH}
use Rattle.hip_gen.specs.Kinds.{kind}
use Rattle.hip_gen.specs.Generated.{array_of, zeroed_array, element, persistent_element, volatile_element, store, flush, put, group_instrs, instrs_before, define_put, main_block, define_main, program_of, generated_program}
use Rattle.hip_gen.specs.Read.{IsReadAsSound}
use Rattle.hip_gen.specs.Laws.SpelledLaws.{generated_is_spelled}
use Rattle.hip_gen.specs.Laws.TextLaws.{generated_text-is}

-- ---- types

array_shape : (n : ℕ) → shape (array_of n)
    ≡ record { size = n * 8; align = 8; depth = 1; largest = max (n * 8) 8 }
array_shape n = shape-Array n (types.Int W64) ∙ ap (λ (e : Shape). shape_of_level (Ty-F.Array n e)) (shape-Int W64)

array_fits : (n : ℕ) → n ≤ LARGEST_SIZE → Fits (array_of n)
array_fits n h = record {
  small = subst (λ (s : Shape). s.largest ≤ 67108864) (sym (array_shape n)) (omega arith);
  shallow = subst (λ (s : Shape). s.depth ≤ 32) (sym (array_shape n)) (omega arith);
}

-- ---- constants

int_names : (b : Bits) → names_in (consts.Int b) ≡ []
int_names b = ap names_in (sym (consts.rolls-Int b)) ∙ fold-roll-Const _ _ _ _ _ _ (Const-F.Int b)

int_types : (b : Bits) → types_in (consts.Int b) ≡ []
int_types b = ap types_in (sym (consts.rolls-Int b)) ∙ fold-roll-Const _ _ _ _ _ _ (Const-F.Int b)

zero_names : names_in consts.Zero ≡ []
zero_names = ap names_in (sym consts.rolls-Zero) ∙ fold-roll-Const _ _ _ _ _ _ Const-F.Zero

zero_types : types_in consts.Zero ≡ []
zero_types = ap types_in (sym consts.rolls-Zero) ∙ fold-roll-Const _ _ _ _ _ _ Const-F.Zero

zero_shape : (t : Ty) → has_shape consts.Zero t ≡ true
zero_shape t =
    ap (λ (c : Const). has_shape c t) (sym consts.rolls-Zero)
    ∙ ap (λ (f : Ty → Bool). f t) (fold-roll-Const _ _ _ _ _ _ Const-F.Zero)

int64_shape : (n : ℕ) → has_shape (consts.Int (bits W64 n)) (types.Int W64) ≡ true
int64_shape n =
    rw (
      sym (consts.rolls-Int (bits W64 n)),
      fold-roll-Const _ _ _ _ _ _ (Const-F.Int (bits W64 n)),
      out-Ty-Int W64,
    ) refl

int32_shape : (n : ℕ) → has_shape (consts.Int (bits W32 n)) (types.Int W32) ≡ true
int32_shape n =
    rw (
      sym (consts.rolls-Int (bits W32 n)),
      fold-roll-Const _ _ _ _ _ _ (Const-F.Int (bits W32 n)),
      out-Ty-Int W32,
    ) refl

address_names : (name : List ℕ) → names_in (consts.Address name) ≡ name ∷ []
address_names name = ap names_in (sym (consts.rolls-Address name))
    ∙ fold-roll-Const _ _ _ _ _ _ (Const-F.Address name)

address_types : (name : List ℕ) → types_in (consts.Address name) ≡ []
address_types name = ap types_in (sym (consts.rolls-Address name))
    ∙ fold-roll-Const _ _ _ _ _ _ (Const-F.Address name)

address_shape : (name : List ℕ) → has_shape (consts.Address name) types.Ptr ≡ true
address_shape name =
    rw (sym (consts.rolls-Address name), fold-roll-Const _ _ _ _ _ _ (Const-F.Address name), out-Ty-Ptr) refl

gep_names-is : (gep : ConstGep) → names_in (consts.Gep gep) ≡ names_in gep.base
gep_names-is gep =
    ap names_in (sym (consts.rolls-Gep gep)) ∙ fold-roll-Const _ _ _ _ _ _ (Const-F.Gep gep)
    ∙ fold_out-ConstGep _ _ _ _ _ _ gep

gep_types-are : (gep : ConstGep) → types_in (consts.Gep gep) ≡ gep.ty ∷ types_in gep.base
gep_types-are gep =
    ap types_in (sym (consts.rolls-Gep gep)) ∙ fold-roll-Const _ _ _ _ _ _ (Const-F.Gep gep)
    ∙ fold_out-ConstGep _ _ _ _ _ _ gep

gep_shape-is : (gep : ConstGep) → has_shape (consts.Gep gep) types.Ptr ≡ gep_is_sound gep
gep_shape-is gep =
    rw (sym (consts.rolls-Gep gep), fold-roll-Const _ _ _ _ _ _ (Const-F.Gep gep), out-Ty-Ptr) refl

-- ---- elements

-- The names of the two arrays of a generated program.
abbrev arrays : List (List ℕ)
arrays = codes "data" ∷ codes "temp" ∷ []

-- The address of an element of one of the two arrays.
record IsArrayElement (c : Const) : Type 0 where
  name : List ℕ
  ty : Ty
  named : names_in c ≡ name ∷ []
  known : is_among arrays name ≡ true
  written : types_in c ≡ ty ∷ []
  fits : Fits ty
  points : has_shape c types.Ptr ≡ true

-- The constant expression `getelementptr ([LENGTH x i64], ptr @NAME, i64 0, i64 INDEX)`.
abbrev gep_of : List ℕ → ℕ → ℕ → ConstGep
gep_of name length index =
    record {
      inbounds = false;
      ty = array_of length;
      base = consts.Address name;
      indices = bits W64 0 ∷ bits W64 index ∷ [];
    }

element_shape : (name : List ℕ) (length index : ℕ) → gep_is_sound (gep_of name length index) ≡ true
element_shape name length index =
    fold_out-ConstGep _ _ _ _ _ _ (gep_of name length index)
    ∙ rw (address_shape name, out-Ty-Array length (types.Int W64)) refl

element_is : (name : List ℕ) (length index : ℕ) → is_among arrays name ≡ true → length ≤ LARGEST_SIZE
    → IsArrayElement (element name length index)
element_is name length index known small = record {
  name = name;
  ty = array_of length;
  named = gep_names-is (gep_of name length index) ∙ address_names name;
  known = known;
  written = gep_types-are (gep_of name length index) ∙ ap (λ ts. array_of length ∷ ts) (address_types name);
  fits = array_fits length small;
  points = gep_shape-is (gep_of name length index) ∙ element_shape name length index;
}

-- ---- instructions of the groups

-- What holds of the instructions of each group holds of all instructions.
all_groups : (Q : Instr → Type 0) (seed size : ℕ)
    → ((group : ℕ) (k : GroupKind) → All Q (group_instrs size group k))
    → (n : ℕ) → All Q (instrs_before seed size n)
all_groups Q seed size h zero = All-nil Q
all_groups Q seed size h (suc n) =
    All-append Q (instrs_before seed size n) (group_instrs size n (kind seed n)) (all_groups Q seed size h n)
    (h n (kind seed n))

-- What holds of each store, each flush and each call of `put` holds of the instructions of each group.
each_group : (Q : Instr → Type 0) (size : ℕ) → size ≤ LARGEST_SIZE
    → ((c : Const) (value : ℕ) → IsArrayElement c → Q (store c value))
    → ((c : Const) → IsArrayElement c → Q (flush c))
    → ((c : Const) (value : ℕ) → IsArrayElement c → Q (put c value))
    → (group : ℕ) (k : GroupKind) → All Q (group_instrs size group k)
each_group Q size small stores flushes puts group k = by_kind k
  where
    data_is : IsArrayElement (persistent_element size group)
    data_is = element_is (codes "data") size group refl small

    temp_is : IsArrayElement (volatile_element group)
    temp_is = element_is (codes "temp") VOLATILE_LENGTH (group % VOLATILE_LENGTH) refl (omega arith)

    stored : Q (store (persistent_element size group) (group + 1))
    stored = stores (persistent_element size group) (group + 1) data_is

    flushed : Q (flush (persistent_element size group))
    flushed = flushes (persistent_element size group) data_is

    by_kind : (k : GroupKind) → All Q (group_instrs size group k)
    by_kind kinds.Store = All-cons Q (store (persistent_element size group) (group + 1)) [] stored (All-nil Q)
    by_kind kinds.FlushedStore =
        All-cons Q (store (persistent_element size group) (group + 1))
        (flush (persistent_element size group) ∷ []) stored
        (All-cons Q (flush (persistent_element size group)) [] flushed (All-nil Q))
    by_kind kinds.PersistentCall =
        All-cons Q (put (persistent_element size group) (group + 1)) []
        (puts (persistent_element size group) (group + 1) data_is) (All-nil Q)
    by_kind kinds.VolatileCall =
        All-cons Q (put (volatile_element group) (group + 1)) [] (puts (volatile_element group) (group + 1) temp_is)
        (All-nil Q)

-- The instructions of a group assign no register.
group_assigns_none : (size group : ℕ) (k : GroupKind) → body_registers (group_instrs size group k) ≡ []
group_assigns_none size group kinds.Store = refl
group_assigns_none size group kinds.FlushedStore = refl
group_assigns_none size group kinds.PersistentCall = refl
group_assigns_none size group kinds.VolatileCall = refl

groups_assign_none : (seed size n : ℕ) → body_registers (instrs_before seed size n) ≡ []
groups_assign_none seed size zero = refl
groups_assign_none seed size (suc n) =
    flat_map-append assigned_by (instrs_before seed size n) (group_instrs size n (kind seed n))
    ∙ ap₂ (λ a b. a ++ b) (groups_assign_none seed size n) (group_assigns_none size n (kind seed n))

-- The instruction uses no register.
abbrev UsesNone : Instr → Type 0
UsesNone i = used_registers (instr_uses i) ≡ []

-- ---- places

one_fits : (c : Const) → IsArrayElement c → All Fits (types_in c ++ [])
one_fits c e =
    subst (λ (ts : List Ty). All Fits (ts ++ [])) (sym e.written) (All-cons Fits e.ty [] e.fits (All-nil Fits))

module _ (size : ℕ) (small : size ≤ LARGEST_SIZE) (body : List Instr) where
  -- The program of a size whose `main` has this body.
  abbrev P : Program
  P = program_of size body

  -- The scope of `main`.
  abbrev s : Scope
  s = scope_of P (define_main body)

  store_holds : (c : Const) (value : ℕ) → IsArrayElement c → (place : Place)
      → (instr_required s (store c value) place).Holds
  store_holds c value e place = (
    rw (int_names (bits W64 value), e.named, e.known) refl,
    (
      subst (λ (ts : List Ty). All Fits (ts ++ (types_in c ++ []))) (sym (int_types (bits W64 value))) (one_fits c e),
      rw (int64_shape value, e.points) refl,
    ),
  )

  flush_holds : (c : Const) → IsArrayElement c → (place : Place) → (instr_required s (flush c) place).Holds
  flush_holds c e place = (rw (e.named, e.known) refl, (one_fits c e, rw e.points refl))

  put_holds : (c : Const) (value : ℕ) → IsArrayElement c → (place : Place)
      → (instr_required s (put c value) place).Holds
  put_holds c value e place = (
    rw (e.named, int_names (bits W64 value), e.known) refl,
    (
      subst (λ (ts : List Ty). All Fits (types_in c ++ (ts ++ []))) (sym (int_types (bits W64 value))) (one_fits c e),
      rw (e.points, int64_shape value) refl,
    ),
  )

  -- The rules of places hold of the instruction in `main`, at any place.
  abbrev IsChecked : Instr → Type 0
  IsChecked i = (place : Place) → (instr_required s i place).Holds

  end_holds : (place : Place) → (end_required s (main_block body).end place).Holds
  end_holds place = (
    rw (int_names (bits W32 0)) refl,
    (
      subst (λ (ts : List Ty). All Fits (ts ++ [])) (sym (int_types (bits W32 0))) (All-nil Fits),
      (rw (int32_shape 0) refl, (refl, refl)),
    ),
  )

  -- ---- the rules, one after another

  zeroed_holds : (n : ℕ) (name : List ℕ) (length : ℕ) (persistent : Bool) → length ≤ LARGEST_SIZE
      → (global_required arrays n (zeroed_array name length persistent)).Holds
  zeroed_holds n name length persistent fits = (
    subst (λ (ts : List Ty). All Fits (array_of length ∷ ts)) (sym zero_types)
        (All-cons Fits (array_of length) [] (array_fits length fits) (All-nil Fits)),
    (zero_shape (array_of length), rw zero_names refl),
  )

  globals_hold : (globals_required P).Holds
  globals_hold = (
    zeroed_holds 0 (codes "data") size true small,
    (zeroed_holds 1 (codes "temp") VOLATILE_LENGTH false (omega arith), tt),
  )

  region_is : region_size P ≡ next_multiple_of (next_multiple_of 0 8 + size * 8) LINE_SIZE
  region_is = ap (λ (t : Shape). next_multiple_of (next_multiple_of 0 t.align + t.size) LINE_SIZE) (array_shape size)

  volatile_is : volatile_end P ≡ next_multiple_of volatile_start 8 + 8 * 8
  volatile_is = ap (λ (t : Shape). next_multiple_of volatile_start t.align + t.size) (array_shape VOLATILE_LENGTH)

  sizes_hold : (sizes_required P).Holds
  sizes_hold =
      both_true
      (ap (λ (n : ℕ). nat_le n LARGEST_REGION) region_is
      ∙ le-leb (next_multiple_of (next_multiple_of 0 8 + size * 8) LINE_SIZE) LARGEST_REGION (omega arith))
      (ap (λ (n : ℕ). nat_le n (volatile_start + LARGEST_VOLATILE)) volatile_is)

  names_differ : body_registers body ≡ [] → AllDiffer (names_in_function (define_main body))
  names_differ none = rw none ((λ h. h), tt)

  registers_hold : body_registers body ≡ [] → (inner_names_required P).Holds
  registers_hold none = (
    (differ_after-exact [] (inner_names 0 define_put)).sound refl,
    (inner-whole 1 (define_main body) (names_differ none), tt),
  )

  main_holds : All IsChecked body → (block_required s 1 0 (main_block body)).Holds
  main_holds checked = (
    tt,
    (
      each-whole (instr_at s 1 0) IsChecked body (λ n i h. h (places.Body (site 1 0 n))) checked,
      end_holds (places.End 1 0),
    ),
  )

  put_function_holds : (function_required P 0 define_put).Holds
  put_function_holds =
      (each_from-exact 0 _ define_put.blocks (λ n block. block-exact (scope_of P define_put) 0 n block)).sound refl

  places_hold : All IsChecked body → (places_required P).Holds
  places_hold checked = (put_function_holds, ((main_holds checked, tt), tt))

  -- The use of a register by the store in `put`.
  abbrev used : List ℕ → RegisterUse
  used name = use_at (places.Body (site 0 0 0)) 0 (Before 0) name

  put_assigned : AllAssigned define_put 0
  put_assigned =
      All-cons (UseIsAssigned define_put) (used (codes "v")) (used (codes "p") ∷ [])
      (λ path u. u.none (inr (inl refl)))
      (All-cons (UseIsAssigned define_put) (used (codes "p")) [] (λ path u. u.none (inl refl))
      (All-nil (UseIsAssigned define_put)))

  main_uses : All UsesNone body → (b : ℕ) (block : Block) → slice_get (define_main body).blocks b ≡ Some block
      → UsesAreAssigned (define_main body) b block
  main_uses none zero block at =
      subst (λ (x : Block). UsesAreAssigned (define_main body) 0 x) (same_Some _ _ at) (record {
        phis = All-nil _;
        body = λ i instr here. rw (all-at UsesNone body i instr none here) (All-nil _);
        last = All-nil _;
      })
  main_uses none (suc b) block at = cc

  assigned_hold : All UsesNone body → (f : ℕ) (fn : Function) → slice_get P.functions f ≡ Some fn
      → AllAssigned fn f
  assigned_hold none zero fn at = subst (λ (g : Function). AllAssigned g 0) (same_Some _ _ at) put_assigned
  assigned_hold none (suc zero) fn at =
      subst (λ (g : Function). AllAssigned g 1) (same_Some _ _ at)
      (assigned-whole (define_main body) 1 (main_uses none))
  assigned_hold none (suc (suc f)) fn at = cc

-- ---- soundness

pub generated_is_sound : (seed size : ℕ) → size ≤ LARGEST_SIZE → IsSound (generated_program seed size)
generated_is_sound seed size small =
    let body : List Instr = instrs_before seed size size in
    let checked : All (IsChecked size small body) body =
    all_groups (IsChecked size small body) seed size
    (each_group (IsChecked size small body) size small (store_holds size small body) (flush_holds size small body)
    (put_holds size small body)) size in
    let none : All UsesNone body =
    all_groups UsesNone seed size (each_group UsesNone size small (λ c value e. refl) (λ c e. refl)
    (λ c value e. refl)) size in
    passes-sound (generated_program seed size) (record {
      spelled = generated_is_spelled seed size small;
      names = (differ_after-exact [] (declarations (generated_program seed size))).sound refl;
      globals = globals_hold size small body;
      externs = (externs-exact (generated_program seed size)).sound refl;
      sizes = sizes_hold size small body;
      main = refl;
      registers = registers_hold size small body (groups_assign_none seed size size);
      places = places_hold size small body checked;
      assigned = assigned_hold size small body none;
    })

-- Each text is canonical, and is read as the sound program.
pub generated_texts_are_read : (seed size : ℕ) → size ≤ LARGEST_SIZE → IsReadAsSound seed size
generated_texts_are_read seed size small = record {
  canonical = generated_text-is seed size small;
  reads =
      subst (λ (text : List ℕ). Reads text (generated_program seed size)) (sym (generated_text-is seed size small))
      (generated_is_spelled seed size small);
  sound = generated_is_sound seed size small;
}
