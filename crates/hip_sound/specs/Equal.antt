-- Whether two constants or operands are equal, as a test.
use Rattle.std.specs.Prelude.{ℕ, ◌==◌, ◌&&◌, Bool, true, false, List, [], ◌∷◌}
use Rattle.std.specs.Str.{bytes_eq}
use Rattle.hip_types.specs.declared.number.Bits.{Bits}
use Rattle.hip_tree.specs.declared.constant.Const.{Const, out-Const}
use Rattle.hip_tree.specs.declared.constant.ConstGep.{ConstGep}
use Rattle.hip_tree.specs.declared.constant.TypedConst.{TypedConst}
use Rattle.hip_tree.specs.declared.constant.Const.TheOpen.{Const-F, ConstGep-F, TypedConst-F}
use Rattle.hip_tree.specs.declared.constant.Const.TheFolds.{fold-Const, fold-ConstGep, fold-TypedConst}
use Rattle.hip_tree.specs.declared.instr.Operand.{Operand}
use Rattle.hip_tree.specs.declared.instr.Operand.TheVariants.{Reg, Fixed}
use Rattle.hip_globals.specs.Addresses.{same_truth}
use Rattle.hip_sound.specs.Types.{same_type, same_width, all_pass}

-- Whether two integers have the same width and the same value.
abbrev pub same_bits : Bits → Bits → Bool
same_bits a b = same_width a.width b.width && a.value == b.value

-- Whether two lists have the same length, and the test passes at the two items of each place.
abbrev pub same_list : {A : Type 0} → (A → A → Bool) → List A → List A → Bool
same_list same [] [] = true
same_list same (x ∷ xs) (y ∷ ys) = same x y && same_list same xs ys
same_list same _ _ = false

-- Whether the constant is this integer, in width and value.
abbrev pub is_int_constant : Bits → Const-F Const ConstGep TypedConst → Bool
is_int_constant a (Const-F.Int b) = same_bits a b
is_int_constant a _ = false

-- Whether the constant is `null`; `zeroinitializer` is not.
abbrev pub is_null : Const-F Const ConstGep TypedConst → Bool
is_null Const-F.Null = true
is_null _ = false

-- Whether the constant is `zeroinitializer`; an integer 0 and `null` are not.
abbrev pub is_zero : Const-F Const ConstGep TypedConst → Bool
is_zero Const-F.Zero = true
is_zero _ = false

-- Whether the constant is the address of the global of this name.
abbrev pub is_address : List ℕ → Const-F Const ConstGep TypedConst → Bool
is_address name (Const-F.Address other) = bytes_eq name other
is_address name _ = false

-- Whether the constant is a `getelementptr` that passes the test.
abbrev pub is_gep : (ConstGep → Bool) → Const-F Const ConstGep TypedConst → Bool
is_gep test (Const-F.Gep gep) = test gep
is_gep test _ = false

-- Whether the constant is an array whose members pass the tests in order, one test for each member.
abbrev pub is_array_constant : List (TypedConst → Bool) → Const-F Const ConstGep TypedConst → Bool
is_array_constant tests (Const-F.Array items) = all_pass tests items
is_array_constant tests _ = false

-- Whether the constant is a struct whose members pass the tests in order, one test for each member.
abbrev pub is_struct_constant : List (TypedConst → Bool) → Const-F Const ConstGep TypedConst → Bool
is_struct_constant tests (Const-F.Struct items) = all_pass tests items
is_struct_constant tests _ = false

-- Whether one level of a constant is equal to another level, which has a test in the place of each part.
abbrev pub same_level : Const-F (Const → Bool) (ConstGep → Bool) (TypedConst → Bool) →
    Const-F Const ConstGep TypedConst → Bool
same_level (Const-F.Int b) c = is_int_constant b c
same_level Const-F.Null c = is_null c
same_level Const-F.Zero c = is_zero c
same_level (Const-F.Address name) c = is_address name c
same_level (Const-F.Gep test) c = is_gep test c
same_level (Const-F.Array tests) c = is_array_constant tests c
same_level (Const-F.Struct tests) c = is_struct_constant tests c

-- Whether the outermost level of a constant is equal to a level that has a test in the place of each part.
abbrev pub same_step : Const-F (Const → Bool) (ConstGep → Bool) (TypedConst → Bool) → Const → Bool
same_step tests c = same_level tests (out-Const c)

-- Whether a constant `getelementptr` has the same `inbounds`, type and indices, and a base that passes the test.
abbrev pub same_gep_step : ConstGep-F (Const → Bool) (ConstGep → Bool) (TypedConst → Bool) → ConstGep → Bool
same_gep_step gep other =
    same_truth gep.inbounds other.inbounds
    && (same_type gep.ty other.ty && (gep.base other.base && same_list same_bits gep.indices other.indices))

-- Whether a member of an aggregate constant has the same type, and a value that passes the test.
abbrev pub same_item_step : TypedConst-F (Const → Bool) (ConstGep → Bool) (TypedConst → Bool) → TypedConst
    → Bool
same_item_step item other = same_type item.ty other.ty && item.value other.value

-- Whether two constants are equal as trees: `null`, `zeroinitializer` and an integer 0 differ from one another.
abbrev pub same_const : Const → Const → Bool
same_const = fold-Const (Const → Bool) (ConstGep → Bool)
    (TypedConst → Bool) same_step same_gep_step same_item_step

-- Whether two constants `getelementptr` are equal: in `inbounds`, type, base and indices.
abbrev pub same_gep : ConstGep → ConstGep → Bool
same_gep = fold-ConstGep (Const → Bool) (ConstGep → Bool)
    (TypedConst → Bool) same_step same_gep_step same_item_step

-- Whether two members of aggregate constants are equal: in type and value.
abbrev pub same_item : TypedConst → TypedConst → Bool
same_item = fold-TypedConst (Const → Bool) (ConstGep → Bool)
    (TypedConst → Bool) same_step same_gep_step same_item_step

-- Whether two operands are equal: registers of one name, or equal constants.
abbrev pub same_operand : Operand → Operand → Bool
same_operand (Reg a) (Reg b) = bytes_eq a b
same_operand (Fixed a) (Fixed b) = same_const a b
same_operand _ _ = false
