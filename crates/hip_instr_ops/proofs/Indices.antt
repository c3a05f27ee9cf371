-- How far the indices of a `getelementptr` lead.
use Rattle.std.proofs.Common.{◌≡◌, ℕ, zero, suc, ◌+◌, ◌*◌, ◌%◌, ◌^◌, ◌<◌, ◌≤◌, true, List, [], ◌∷◌, ◌++◌, length, drop, get_or, Option, Some, None, slice_get, option_map, refl, sym, ap, ◌∙◌, subst, inl, inr, arith, rules, append_assoc, add-one}
use Rattle.std.specs.Prelude.{IsSome}
use Rattle.std.proofs.lemmas.Bool.{and_parts}
use Rattle.std.proofs.lemmas.List.{append-nil}
use Rattle.std.proofs.lemmas.Option.{slice_get_within, get_or_from_slice_get}
use Rattle.std.proofs.Math.Nat.{add-mod-mod, mod-add-mod}
use Rattle.hip_types.specs.Layout.{Fits, IsStructWith, enter_level, level_is_struct_with, offset_in, offset_in_level, offset_of, size_of}
use Rattle.hip_types.specs.Numbers.{bits, bits-value, signed, wrapped}
use Rattle.hip_types.specs.declared.number.Bits.{Bits}
use Rattle.hip_types.specs.declared.number.Scalar.{Scalar}
use Rattle.hip_types.specs.declared.number.Scalar.TheVariants as scalars
use Rattle.hip_types.specs.declared.number.Width.{Width}
use Rattle.hip_types.specs.declared.number.Width.TheVariants.{W64}
use Rattle.hip_types.specs.declared.ty.Ty.{Ty, out-Ty}
use Rattle.hip_types.specs.declared.ty.Ty.TheOpen.{Ty-F}
use Rattle.hip_types.specs.declared.ty.Ty.TheVariants.{Ptr}
use Rattle.hip_types.specs.declared.ty.Ty.TheViews.{Struct, Array, the_lemmas}
use Rattle.hip_types.specs.Laws.LayoutLaws.{Fits-Struct}
use Rattle.hip_grammar.specs.Spelling.{spelled_index, spelled_int, of_width, is_int_type, spelled_operand}
use Rattle.hip_tree.specs.declared.constant.Const.{Const, out-Const}
use Rattle.hip_tree.specs.declared.constant.Const.TheFolds.{fold-roll-Const}
use Rattle.hip_tree.specs.declared.constant.Const.TheOpen.{Const-F}
use Rattle.hip_tree.specs.declared.constant.Const.TheVariants as consts
use Rattle.hip_tree.specs.declared.constant.Const.TheViews as const_views
use Rattle.hip_tree.specs.declared.instr.Arg.{Arg}
use Rattle.hip_tree.specs.declared.instr.Operand.{Operand}
use Rattle.hip_tree.specs.declared.instr.Operand.TheVariants.{Reg, Fixed}
use Rattle.hip_tree.specs.declared.program.GlobalVar.{GlobalVar}
use Rattle.hip_globals.specs.Constants.{index_of}
use Rattle.hip_globals.specs.Values.{Written, const_value}
use Rattle.hip_names.specs.Names.{number_of}
use Rattle.hip_sound.specs.Constants.{goes_in}
use Rattle.hip_sound.specs.Laws.TypeLaws.{same_width-equal}
use Rattle.hip_sound.specs.Places.{args_enter, entered_by, gep_agrees, literal_field, named_field}
use Rattle.hip_runs.specs.Actions.{index_value}
use Rattle.hip_types.specs.Scalars.{width_of}
use Rattle.hip_code.specs.Paths.{IsGep, is_gep}
use Rattle.hip_code.specs.Resolved.{IsOperand}
use Rattle.hip_code.specs.declared.op.OpOperand.TheVariants.{Register}
use Rattle.hip_code.specs.declared.op.Term.{Term}
use Rattle.hip_instr_ops.specs.Far.{Steps, Enters, ReachesPart, IndicesLead, is_over, leads}
use Rattle.hip_instr_ops.specs.Fields.{IsField, IsLiteralIndex}
use Rattle.hip_scope.specs.Scopes.{names_of}
use Rattle.hip_instr_ops.specs.declared.path.Path.{Path}
use Rattle.hip_scope.specs.declared.scope.Scope.{Scope}

-- ---- types and constants, opened one level

out_struct : (fs : List Ty) → out-Ty (Struct fs) ≡ Ty-F.Struct fs
out_struct fs = search (rules, the_lemmas)

out_array : (n : ℕ) (e : Ty) → out-Ty (Array n e) ≡ Ty-F.Array n e
out_array n e = search (rules, the_lemmas)

out_int : (b : Bits) → out-Const (consts.Int b) ≡ Const-F.Int b
out_int b = search (rules, const_views.the_lemmas)

int_value : (globals : List GlobalVar) (base : ℕ) (b : Bits) → const_value globals base (consts.Int b) ≡ b.value
int_value globals base b = ap (const_value globals base) (sym (consts.rolls-Int b)) ∙ ap (λ (x : Written). x.value) (fold-roll-Const _ _ _ _ _ _ _)

-- ---- an index goes over values of a size

pub steps_fixed : (s : Scope) (a : Arg) (value : Const) (size number : ℕ) (old new : Path) → a.value ≡ Fixed value → number ≡ index_value a.ty (const_value s.program.now.globals s.base value) →
    new.offset ≡ (old.offset + (number * size) % 2 ^ 64) % 2 ^ 64 → new.terms ≡ old.terms → Steps s a size old new
steps_fixed s a value size number old new is number_is e h = record {
  far = number * size;
  more = [];
  grows = record {
    offset = ap (λ x. x % 2 ^ 64) e ∙ twice (old.offset + (number * size) % 2 ^ 64) ∙ add-mod-mod old.offset (number * size) (2 ^ 64);
    terms = h ∙ sym (append-nil old.terms);
  };
  over = λ constants. inl (number, record { value = value; is = is; index_is = sym number_is }, refl, refl);
}
  where
    twice : (x : ℕ) → (x % 2 ^ 64) % 2 ^ 64 ≡ x % 2 ^ 64
    twice x = omega arith

pub steps_scaled : (s : Scope) (a : Arg) (name : List ℕ) (slot size : ℕ) (w : Width) (old new : Path) → a.value ≡ Reg name → number_of (names_of s) name ≡ Some slot → w ≡ width_of a.ty →
    new.offset ≡ old.offset → new.terms ≡ old.terms ++ record { index = Register slot; width = w; scale = size } ∷ [] → Steps s a size old new
steps_scaled s a name slot size w old new is number width e h = record {
  far = 0;
  more = record { index = Register slot; width = w; scale = size } ∷ [];
  grows = record { offset = ap (λ x. x % 2 ^ 64) (e ∙ nothing old.offset); terms = h };
  over = λ constants. inr (_, record { index = subst (λ (o : Operand). IsOperand s.program.now.globals s.base (names_of s) constants (Register slot) o) (sym is) (record { is = number }); width = width; scale = refl }, refl, refl);
}
  where
    nothing : (x : ℕ) → x ≡ x + 0
    nothing x = omega arith

-- ---- an index enters a part

over_part : (s : Scope) (constants : List ℕ) (t : Ty) (a : Arg) (n : ℕ) (e : Ty) (far : ℕ) (more : List Term) (rest : List Arg) (o : ℕ) (ts : List Term) → out-Ty t ≡ Ty-F.Array n e →
    is_over s constants a (size_of e) far more → leads s constants e rest o ts → leads s constants t (a ∷ rest) (far + o) (more ++ ts)
over_part s constants t a n e far more rest o ts out (inl p) h =
    inl (p.0, record { offset = p.0 * size_of e; ty = e }, o, p.1, ap (enter_level p.0) out, ap (λ x. x + o) p.2, subst (λ l. leads s constants e rest o (l ++ ts)) (sym p.3) h)
over_part s constants t a n e far more rest o ts out (inr p) h =
    let none : o ≡ far + o = (let z = p.2 in omega (arith, z)) in
    inr (n, e, p.0, ts, p.1, out, ap (λ l. l ++ ts) p.3, subst (λ x. leads s constants e rest x ts) none h)

pub enters_array : (s : Scope) (t : Ty) (a : Arg) (n : ℕ) (e : Ty) (size : ℕ) (old new : Path) → t ≡ Array n e → size ≡ size_of e → Steps s a size old new → Enters s t a e old new
enters_array s t a n e size old new is sized steps = record {
  far = steps.far;
  more = steps.more;
  grows = steps.grows;
  on = λ constants rest o ts h.
      over_part s constants t a n e steps.far steps.more rest o ts (ap out-Ty is ∙ out_array n e)
      (subst (λ z. is_over s constants a z steps.far steps.more) sized (steps.over constants)) h;
}

-- The value of a literal index.
literal_is : (globals : List GlobalVar) (base : ℕ) (a : Arg) (b : Bits) → a.value ≡ Fixed (consts.Int b) → spelled_index a ≡ true → index_value a.ty (const_value globals base (consts.Int b)) ≡ index_of b
literal_is globals base a b is spelled =
    ap (index_value a.ty) (int_value globals base b)
    ∙ by_type a.ty (and_parts (is_int_type a.ty) (spelled_operand a.ty a.value) spelled).0 (subst (λ (o : Operand). spelled_operand a.ty o ≡ true) is (and_parts (is_int_type a.ty) (spelled_operand a.ty a.value) spelled).1)
  where
    by_type : (ty : Scalar) → is_int_type ty ≡ true → spelled_operand ty (Fixed (consts.Int b)) ≡ true → index_value ty b.value ≡ index_of b
    by_type scalars.Ptr h e = cc
    by_type (scalars.Int w) h e =
        let wide : of_width w b ≡ true = subst (λ x. spelled_int w x ≡ true) (out_int b) e in
        let same : b.width ≡ w = same_width-equal b.width w wide in
        subst (λ v. wrapped W64 (signed v (bits v b.value).value) ≡ index_of b) same (ap (λ (x : Bits). wrapped W64 (signed b.width x.value)) (bits-value b))

pub enters_field : (s : Scope) (t : Ty) (a : Arg) (fs : List Ty) (number : ℕ) (field : Ty) (old new : Path) → t ≡ Struct fs → IsLiteralIndex a.value number → slice_get fs number ≡ Some field → spelled_index a ≡ true →
    new.offset ≡ (old.offset + offset_of t number) % 2 ^ 64 → new.terms ≡ old.terms → Enters s t a field old new
enters_field s t a fs number field old new is l here spelled e h = record {
  far = offset_in fs number;
  more = [];
  grows = record {
    offset = ap (λ x. x % 2 ^ 64) e ∙ twice (old.offset + offset_of t number) ∙ ap (λ x. (old.offset + x) % 2 ^ 64) (ap (offset_in_level number) (ap out-Ty is ∙ out_struct fs));
    terms = h ∙ sym (append-nil old.terms);
  };
  on = λ constants rest o ts q.
      inl (
        number,
        record { offset = offset_in fs number; ty = field },
        o,
        record { value = consts.Int l.bits; is = l.is; index_is = literal_is s.program.now.globals s.base a l.bits l.is spelled ∙ l.number_is },
        ap (enter_level number) (ap out-Ty is ∙ out_struct fs) ∙ ap (option_map (λ u. record { offset = offset_in fs number; ty = u })) here,
        refl,
        q,
      );
}
  where
    twice : (x : ℕ) → (x % 2 ^ 64) % 2 ^ 64 ≡ x % 2 ^ 64
    twice x = omega arith

-- ---- indices one after another

shifted : (x y far : ℕ) → x % 2 ^ 64 ≡ y % 2 ^ 64 → (x + far) % 2 ^ 64 ≡ (y + far) % 2 ^ 64
shifted x y far e = sym (mod-add-mod x (2 ^ 64) far) ∙ ap (λ z. (z + far) % 2 ^ 64) e ∙ mod-add-mod y (2 ^ 64) far

over_first : (s : Scope) (constants : List ℕ) (t : Ty) (a : Arg) (far : ℕ) (more : List Term) (rest : List Arg) (o : ℕ) (ts : List Term) →
    is_over s constants a (size_of t) far more → leads s constants t rest o ts → is_gep s.program.now.globals s.base (names_of s) constants t (a ∷ rest) (far + o) (more ++ ts)
over_first s constants t a far more rest o ts (inl p) h =
    inl (p.0, o, p.1, ap (λ x. x + o) p.2, subst (λ l. leads s constants t rest o (l ++ ts)) (sym p.3) h)
over_first s constants t a far more rest o ts (inr p) h =
    let none : o ≡ far + o = (let z = p.2 in omega (arith, z)) in
    inr (p.0, ts, p.1, ap (λ l. l ++ ts) p.3, subst (λ x. leads s constants t rest x ts) none h)

pub reaches_first : (s : Scope) (t : Ty) (args : List Arg) (a : Arg) (size : ℕ) (old new : Path) → a ≡ get_or args 0 a → 0 < length args → size ≡ size_of t → old.offset ≡ 0 → old.terms ≡ [] → Steps s a size old new → ReachesPart s t args 1 t new
reaches_first s t [] a size old new is some sized zeroed none steps = absurd (let q : ⊥ = omega (arith, some) in q)
reaches_first s t (x ∷ rest) a size old new is some sized zeroed none steps = record {
  whole = steps.far;
  offset = steps.grows.offset ∙ ap (λ z. (z + steps.far) % 2 ^ 64) zeroed ∙ ap (λ z. z % 2 ^ 64) (nothing steps.far);
  on = λ constants o ts h. record {
    is = subst (λ (y : Arg). is_gep s.program.now.globals s.base (names_of s) constants t (y ∷ rest) (steps.far + o) (new.terms ++ ts)) is
        (subst (λ l. is_gep s.program.now.globals s.base (names_of s) constants t (a ∷ rest) (steps.far + o) (l ++ ts)) (sym (steps.grows.terms ∙ ap (λ l. l ++ steps.more) none))
        (over_first s constants t a steps.far steps.more rest o ts (subst (λ z. is_over s constants a z steps.far steps.more) sized (steps.over constants)) h));
  };
}
  where
    nothing : (x : ℕ) → 0 + x ≡ x
    nothing x = omega arith

rest_is_suc : (args : List Arg) (k : ℕ) (a : Arg) → k < length args → a ≡ get_or args k a → drop k args ≡ a ∷ drop (suc k) args
rest_is_suc [] k a lt is = absurd (let q : ⊥ = omega (arith, lt) in q)
rest_is_suc (x ∷ args) zero a lt is = ap (λ y. y ∷ args) (sym is)
rest_is_suc (x ∷ args) (suc k) a lt is = rest_is_suc args k a (omega (arith, lt)) is

-- The indices from a place on begin with the index at that place.
pub rest_is : (args : List Arg) (k : ℕ) (a : Arg) → k < length args → a ≡ get_or args k a → drop k args ≡ a ∷ drop (k + 1) args
rest_is args k a lt is = rw add-one (rest_is_suc args k a lt is)

pub reaches_on : (s : Scope) (t : Ty) (args : List Arg) (k : ℕ) (a : Arg) (part inner : Ty) (old new : Path) → drop k args ≡ a ∷ drop (k + 1) args → ReachesPart s t args k part old → Enters s part a inner old new → ReachesPart s t args (k + 1) inner new
reaches_on s t args k a part inner old new rest r e = record {
  whole = r.whole + e.far;
  offset = e.grows.offset ∙ shifted old.offset r.whole e.far r.offset;
  on = λ constants o ts h.
      let more = r.on constants (e.far + o) (e.more ++ ts) (subst (λ xs. leads s constants part xs (e.far + o) (e.more ++ ts)) (sym rest) (e.on constants (drop (k + 1) args) o ts h)) in
      let sum : r.whole + (e.far + o) ≡ r.whole + e.far + o = omega arith in
      subst (λ l. IsGep s.program.now.globals s.base (names_of s) constants t args (r.whole + e.far + o) l) (sym (append_assoc old.terms e.more ts) ∙ ap (λ l. l ++ ts) (sym e.grows.terms))
      (subst (λ z. IsGep s.program.now.globals s.base (names_of s) constants t args z (old.terms ++ (e.more ++ ts))) sum more);
}

no_rest : (args : List Arg) (k : ℕ) → length args ≤ k → drop k args ≡ []
no_rest [] zero le = refl
no_rest [] (suc k) le = refl
no_rest (x ∷ args) zero le = absurd (let q : ⊥ = omega (arith, le) in q)
no_rest (x ∷ args) (suc k) le = no_rest args k (omega (arith, le))

pub leads_whole : (s : Scope) (t : Ty) (args : List Arg) (k : ℕ) (part : Ty) (path : Path) → length args ≤ k → ReachesPart s t args k part path → IndicesLead s t args path
leads_whole s t args k part path le r = record {
  whole = r.whole;
  offset = r.offset;
  is = λ constants.
      let h : leads s constants part (drop k args) 0 [] = subst (λ xs. leads s constants part xs 0 []) (sym (no_rest args k le)) (refl, refl) in
      let nothing : r.whole + 0 ≡ r.whole = omega arith in
      subst (λ l. IsGep s.program.now.globals s.base (names_of s) constants t args r.whole l) (append-nil path.terms)
      (subst (λ z. IsGep s.program.now.globals s.base (names_of s) constants t args z (path.terms ++ [])) nothing (r.on constants 0 [] h));
}

-- ---- what an index enters

pub struct_field : (fs : List Ty) (x : Operand) (t : Ty) → t ≡ Struct fs → IsSome (entered_by x (out-Ty t)) → IsField fs x
struct_field fs x t is h = by_option (named_field fs x) refl (subst (λ u. IsSome (entered_by x u)) (ap out-Ty is ∙ out_struct fs) h)
  where
    by_option : (o : Option Ty) → named_field fs x ≡ o → IsSome o → IsField fs x
    by_option None e h = absurd (let q : ⊥ = cc in q)
    by_option (Some u) e h = record { ty = u; is = e }

-- If a literal index names a field, the list has a field of that number.
pub field_there : (fs : List Ty) (x : Operand) (number : ℕ) → IsField fs x → IsLiteralIndex x number → (t : Ty) × (slice_get fs number ≡ Some t) × (named_field fs x ≡ Some t)
field_there fs x number f l =
    (f.ty, ap (slice_get fs) (sym l.number_is) ∙ ap (literal_field fs) (sym (out_int l.bits)) ∙ ap (named_field fs) (sym l.is) ∙ f.is, f.is)

pub struct_with : (fs : List Ty) (number : ℕ) (t u : Ty) → t ≡ Struct fs → slice_get fs number ≡ Some u → IsStructWith t number
struct_with fs number t u is here = subst (λ x. level_is_struct_with number x) (sym (ap out-Ty is ∙ out_struct fs)) (slice_get_within fs number u here)

pub field_fits : (fs : List Ty) (number : ℕ) (t u : Ty) → t ≡ Struct fs → slice_get fs number ≡ Some u → Fits t → Fits u
field_fits fs number t u is here fits =
    subst Fits (get_or_from_slice_get fs number u Ptr here) (Fits-Struct fs number (slice_get_within fs number u here) (subst Fits is fits))

-- The type that an index of a field enters.
pub entered_field : (fs : List Ty) (x : Operand) (t u : Ty) → t ≡ Struct fs → named_field fs x ≡ Some u → entered_by x (out-Ty t) ≡ Some u
entered_field fs x t u is e = ap (entered_by x) (ap out-Ty is ∙ out_struct fs) ∙ e

-- If the indices from a place on enter a type, the indices after that place enter the part that the first of them
-- enters.
pub goes_on : (args : List Arg) (k : ℕ) (a : Arg) (t u : Ty) → drop k args ≡ a ∷ drop (k + 1) args → args_enter (drop k args) t ≡ true → entered_by a.value (out-Ty t) ≡ Some u → args_enter (drop (k + 1) args) u ≡ true
goes_on args k a t u rest h e = ap (goes_in (args_enter (drop (k + 1) args))) (sym e) ∙ ap (λ xs. args_enter xs t) (sym rest) ∙ h

pub goes_somewhere : (args : List Arg) (k : ℕ) (a : Arg) (t : Ty) → drop k args ≡ a ∷ drop (k + 1) args → args_enter (drop k args) t ≡ true → IsSome (entered_by a.value (out-Ty t))
goes_somewhere args k a t rest h = by_option (entered_by a.value (out-Ty t)) (ap (λ xs. args_enter xs t) (sym rest) ∙ h)
  where
    by_option : (o : Option Ty) → goes_in (args_enter (drop (k + 1) args)) o ≡ true → IsSome o
    by_option None e = absurd (let q : ⊥ = cc in q)
    by_option (Some u) e = search rules

-- There is a first index, and the others enter the type.
pub first_agrees : (args : List Arg) (t : Ty) → gep_agrees args t ≡ true → (0 < length args) × (args_enter (drop 1 args) t ≡ true)
first_agrees [] t h = absurd (let q : ⊥ = cc in q)
first_agrees (x ∷ args) t h = (omega arith, h)
