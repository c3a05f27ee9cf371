-- What the constants of a program are in a run: the value of each one, and the bytes that it writes.
use Rattle.std.specs.Prelude.{ℕ, ◌+◌, ◌-◌, ◌%◌, ◌^◌, List, [], ◌∷◌, ◌++◌, map, take, length, replicate, option_map, unwrap_or}
use Rattle.std.specs.Int.{next_multiple_of}
use Rattle.hip_types.specs.declared.ty.Ty.{Ty}
use Rattle.hip_types.specs.Layout.{size_of, align_of, gep_of}
use Rattle.hip_tree.specs.declared.constant.Const.{Const}
use Rattle.hip_tree.specs.declared.constant.Const.TheOpen.{Const-F, ConstGep-F, TypedConst-F}
use Rattle.hip_tree.specs.declared.constant.Const.TheFolds.{fold-Const, fold-ConstGep}
use Rattle.hip_tree.specs.declared.constant.ConstGep.{ConstGep}
use Rattle.hip_tree.specs.declared.program.GlobalVar.{GlobalVar}
use Rattle.hip_types.specs.Bytes.{bytes_of}
use Rattle.hip_globals.specs.Addresses.{address_in}
use Rattle.hip_globals.specs.Constants.{index_of, joined}
use Rattle.hip_names.specs.Names.{number_of}

-- ---- values

-- The address of the first global of that name, if the region begins at a base; 0 if none has it.
abbrev pub global_address : List GlobalVar → ℕ → List ℕ → ℕ
global_address globals base name =
    unwrap_or (option_map (address_in globals base) (number_of (map (λ g. g.name) globals) name)) 0

-- The address of an element: the base plus the offset of a path into a type, modulo 2 ^ 64; the base alone where there
-- is no such path. (LLVM, "getelementptr".)
abbrev pub element_address : ℕ → Ty → List ℕ → ℕ
element_address base ty path = (base + unwrap_or (gep_of ty path) 0) % 2 ^ 64

-- The value, where names have these addresses: an integer is its value, a name is its global's address, a
-- `getelementptr` is the element's address, and `null` and `zeroinitializer` are 0. (LLVM, "Constants".)
abbrev value_step : {A B : Type 0} → (List ℕ → ℕ) → Const-F A ℕ B → ℕ
value_step address_of (Const-F.Int b) = b.value
value_step address_of (Const-F.Address name) = address_of name
value_step address_of (Const-F.Gep address) = address
value_step address_of _ = 0

-- ---- bytes one after another

-- The bytes, and zeros after them up to the next multiple of the alignment. The first byte is at `start`.
abbrev pub aligned : ℕ → ℕ → List ℕ → List ℕ
aligned start align bytes =
    bytes ++ replicate (next_multiple_of (start + length bytes) align - (start + length bytes)) 0

-- Exactly as many bytes as the size: the first ones, or all with zeros after them.
abbrev pub sized : ℕ → List ℕ → List ℕ
sized size bytes = take size bytes ++ replicate (size - length bytes) 0

-- The bytes of an item, with the alignment of its type.
pub record ItemBytes : Type 0 where
  pub align : ℕ
  pub bytes : List ℕ

-- The pieces after the bytes so far, each at a multiple of its alignment.
abbrev pub placed : List ℕ → List ItemBytes → List ℕ
placed so_far [] = so_far
placed so_far (p ∷ ps) = placed (aligned 0 p.align so_far ++ p.bytes) ps

-- ---- constants

-- A constant's value, and its bytes before they are cut or filled up to the size of its type.
pub record Written : Type 0 where
  pub value : ℕ
  pub bytes : List ℕ

-- The bytes of a constant. An array's items follow one another, and each field of a struct is at a multiple of its
-- alignment. Any other constant has the bytes of its value, the lowest first. (LLVM, "Constants"; the order of bytes of
-- x86-64.)
abbrev bytes_step : ℕ → Const-F Written ℕ ItemBytes → List ℕ
bytes_step value (Const-F.Array items) = joined (map (λ p. p.bytes) items)
bytes_step value (Const-F.Struct items) = placed [] items
bytes_step value _ = bytes_of 8 value

-- The value and the bytes of a constant, by those of the constants inside, where names have these addresses.
abbrev pub written_step : (List ℕ → ℕ) → Const-F Written ℕ ItemBytes → Written
written_step address_of c = record { value = value_step address_of c; bytes = bytes_step (value_step address_of c) c }

-- The element that the indices lead to from the base, each index sign-extended to 64 bits.
abbrev pub gep_step : ConstGep-F Written ℕ ItemBytes → ℕ
gep_step gep = element_address gep.base.value gep.ty (map index_of gep.indices)

-- An item has as many bytes as its type's size.
abbrev pub item_step : TypedConst-F Written ℕ ItemBytes → ItemBytes
item_step item = record { align = align_of item.ty; bytes = sized (size_of item.ty) item.value.bytes }

-- The value and the bytes of a constant, where names have these addresses.
abbrev pub written : (List ℕ → ℕ) → Const → Written
written address_of = fold-Const Written ℕ ItemBytes (written_step address_of) gep_step item_step

-- The address that a constant `getelementptr` gives, where names have these addresses.
abbrev pub gep_address : (List ℕ → ℕ) → ConstGep → ℕ
gep_address address_of = fold-ConstGep Written ℕ ItemBytes (written_step address_of) gep_step item_step

-- The value of a constant under an integer type or `ptr`, where the region begins at a base.
abbrev pub const_value : List GlobalVar → ℕ → Const → ℕ
const_value globals base value = (written (global_address globals base) value).value

-- The bytes of a constant under a type; the size of the type is their number.
abbrev pub constant_bytes : (List ℕ → ℕ) → Const → Ty → List ℕ
constant_bytes address_of value ty = sized (size_of ty) (written address_of value).bytes
