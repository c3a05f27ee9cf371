-- Levels of pointers: how far past the stack's end a pointer may point.
use Rattle.std.specs.Prelude.{◌≡◌, ℕ, suc, ◌+◌, ◌*◌, ◌≤◌, cond, nat_eq, nat_lt, List, [], ◌∷◌, map, Option, Some, None, unwrap_or, slice_get}
use Rattle.hip_types.specs.Layout.{gep_of}
use Rattle.hip_types.specs.declared.number.Scalar.{Scalar}
use Rattle.hip_types.specs.declared.ty.Ty.{Ty}
use Rattle.hip_tree.specs.declared.block.Block.{Block}
use Rattle.hip_tree.specs.declared.block.Edge.{Edge}
use Rattle.hip_tree.specs.declared.block.End.TheVariants as ends
use Rattle.hip_tree.specs.declared.block.Phi.{Phi}
use Rattle.hip_tree.specs.declared.constant.Const.{Const, out-Const}
use Rattle.hip_tree.specs.declared.constant.Const.TheOpen.{Const-F, ConstGep-F, TypedConst-F}
use Rattle.hip_tree.specs.declared.constant.Const.TheFolds.{fold-Const}
use Rattle.hip_tree.specs.declared.constant.ConstGep.{ConstGep}
use Rattle.hip_tree.specs.declared.constant.TypedConst.{TypedConst}
use Rattle.hip_tree.specs.declared.instr.Arg.{Arg}
use Rattle.hip_tree.specs.declared.instr.Instr.{Instr}
use Rattle.hip_tree.specs.declared.instr.Instr.TheVariants.{Binary, Compare, Select, Cast, Alloca, Load, Store, Gep, Call}
use Rattle.hip_tree.specs.declared.instr.Operand.{Operand}
use Rattle.hip_tree.specs.declared.instr.Operand.TheVariants.{Reg, Fixed}
use Rattle.hip_tree.specs.declared.program.Function.{Function}
use Rattle.hip_tree.specs.declared.program.GlobalVar.{GlobalVar}
use Rattle.hip_tree.specs.declared.program.Param.{Param}
use Rattle.hip_tree.specs.declared.program.Program.{Program}
use Rattle.hip_types.specs.Areas.{stack_end}
use Rattle.hip_names.specs.Names.{number_of}
use Rattle.hip_globals.specs.Addresses.{is_persistent}
use Rattle.hip_globals.specs.Constants.{index_of}
use Rattle.hip_externs.specs.Externs.{call_of}
use Rattle.hip_sound.specs.NumberedNames.{function_number}
use Rattle.hip_sound.specs.Sound.{IsBlockAt}
use Rattle.hip_externs.specs.declared.call.ExternCall.TheVariants as calls
use Rattle.hip_runs.specs.Actions.{index_value}
use Rattle.hip_runs.specs.State.{Frame}
use Rattle.hip_invariants.specs.FrameFacts.{each_register}

-- How many steps of less than 64 MiB a pointer may be past the stack's end. `None`, the greatest level, is for a
-- pointer about which nothing is known. (This project's own, as all of this file.)
abbrev pub PointerLevel : Type 0
PointerLevel = Option ℕ

-- A value is at most the greatest value of its level.
abbrev pub within_level : PointerLevel → ℕ → Type 0
within_level None v = Unit {0}
within_level (Some t) v = v ≤ stack_end + 67108864 * t

-- A level is at most another.
abbrev pub is_at_most : PointerLevel → PointerLevel → Type 0
is_at_most a None = Unit {0}
is_at_most None (Some u) = ⊥
is_at_most (Some t) (Some u) = t ≤ u

-- The level after an offset: the same level after 0; one more after less than 64 MiB, if the level is below 32; else
-- `None`.
abbrev pub after_offset : PointerLevel → ℕ → PointerLevel
after_offset None offset = None
after_offset (Some t) offset =
    cond (nat_eq offset 0) (Some t) (cond (nat_lt offset 67108864) (cond (nat_lt t 32) (Some (suc t)) None) None)

-- ---- constants

-- The level of the global of a number: `None` if it is persistent, else 0. The level is 0 if the name has no number.
abbrev pub number_level : List GlobalVar → Option ℕ → PointerLevel
number_level globals None = Some 0
number_level globals (Some k) = cond (is_persistent globals k) None (Some 0)

-- The level of a global: 0 for a volatile one, `None` for a persistent one.
abbrev pub global_level : List GlobalVar → List ℕ → PointerLevel
global_level globals name = number_level globals (number_of (map (λ g. g.name) globals) name)

-- The level of a constant, from the levels of names and of its `getelementptr`: 0 for `null` and `zeroinitializer`,
-- `None` for an integer, an array and a struct.
abbrev pub level_step : (List ℕ → PointerLevel) → Const-F PointerLevel PointerLevel PointerLevel → PointerLevel
level_step names Const-F.Null = Some 0
level_step names Const-F.Zero = Some 0
level_step names (Const-F.Address name) = names name
level_step names (Const-F.Gep level) = level
level_step names _ = None

-- The level of a constant `getelementptr`, from the level of its base: the level after its offset, which is 0 if there
-- is no such element.
abbrev pub gep_level_step : ConstGep-F PointerLevel PointerLevel PointerLevel → PointerLevel
gep_level_step gep = after_offset gep.base (unwrap_or (gep_of gep.ty (map index_of gep.indices)) 0)

-- The level of an item of an array or a struct: the level of its constant. No other level depends on it.
abbrev pub item_level_step : TypedConst-F PointerLevel PointerLevel PointerLevel → PointerLevel
item_level_step item = item.value

-- The level of a constant: 0 for `null` and `zeroinitializer`, a global's own level, and for a `getelementptr` the
-- level after its offset.
abbrev pub const_level : List GlobalVar → Const → PointerLevel
const_level globals =
    fold-Const PointerLevel PointerLevel PointerLevel (level_step (global_level globals)) gep_level_step item_level_step

-- ---- rules

-- A level for each register of each function, by the function's number, and for each function's result.
pub record Levels : Type 0 where
  pub register : ℕ → List ℕ → PointerLevel
  pub result : ℕ → PointerLevel

-- The value of an index that is an integer constant or `zeroinitializer`, sign-extended to 64 bits; `None` for another
-- constant.
abbrev pub constant_index : Scalar → Const-F Const ConstGep TypedConst → Option ℕ
constant_index ty (Const-F.Int b) = Some (index_value ty b.value)
constant_index ty Const-F.Zero = Some (index_value ty 0)
constant_index ty _ = None

-- The value of an index that is such a constant; `None` for a register.
abbrev pub known_index : Scalar → Operand → Option ℕ
known_index ty (Reg name) = None
known_index ty (Fixed c) = constant_index ty (out-Const c)

-- The value of an index, followed by the values of the indices after it; `None` if one of them is not known.
abbrev pub both : Option ℕ → Option (List ℕ) → Option (List ℕ)
both (Some i) (Some is) = Some (i ∷ is)
both _ _ = None

-- The values of indices that are all such constants; `None` if one is a register or another constant.
abbrev pub known_path : List Arg → Option (List ℕ)
known_path [] = Some []
known_path (a ∷ args) = both (known_index a.ty a.value) (known_path args)

-- The level after a `getelementptr` from this level: `None` if the value of an index is not known, else the level after
-- its offset.
abbrev pub gep_level : PointerLevel → Ty → Option (List ℕ) → PointerLevel
gep_level a ty None = None
gep_level a ty (Some path) = after_offset a (unwrap_or (gep_of ty path) 0)

module _ (P : Program) (L : Levels) (g : ℕ) where
  -- The level of an operand: that of its register or of its constant.
  abbrev pub operand_level : Operand → PointerLevel
  operand_level (Reg name) = L.register g name
  operand_level (Fixed c) = const_level P.globals c

  -- The register that a result goes into, if there is one, has at least this level.
  abbrev pub goes_into : PointerLevel → Option (List ℕ) → Type 0
  goes_into a None = Unit {0}
  goes_into a (Some dest) = is_at_most a (L.register g dest)

  -- Each parameter has at least the level of its argument.
  abbrev pub args_are_at_most : ℕ → List Param → List Arg → Type 0
  args_are_at_most h (p ∷ ps) (a ∷ args) =
      is_at_most (operand_level a.value) (L.register h p.name) × args_are_at_most h ps args
  args_are_at_most h ps args = Unit {0}

  -- A register that takes an input number has level `None`. A register that takes the result of a call has at least the
  -- level of that result, and each parameter has at least the level of its argument.
  pub record CallIsClosed (dest : Option (List ℕ)) (callee : List ℕ) (args : List Arg) : Type 0 where
    pub read : call_of callee ≡ Some calls.ReadI64 → goes_into None dest
    pub enter : (h : ℕ) (fn : Function) → call_of callee ≡ None → function_number P callee ≡ Some h →
        slice_get P.functions h ≡ Some fn → goes_into (L.result h) dest × args_are_at_most h fn.params args

  -- The register that an instruction assigns has at least the level that the rule of the instruction gives.
  abbrev pub instr_is_closed : Instr → Type 0
  instr_is_closed (Binary dest op flags width a b) = is_at_most None (L.register g dest)
  instr_is_closed (Compare dest pred ty a b) = is_at_most None (L.register g dest)
  instr_is_closed (Select dest test ty a b) =
      is_at_most (operand_level a) (L.register g dest) × is_at_most (operand_level b) (L.register g dest)
  instr_is_closed (Cast dest op from a to) = is_at_most None (L.register g dest)
  instr_is_closed (Alloca dest ty align) = is_at_most (Some 0) (L.register g dest)
  instr_is_closed (Load dest ty addr align) = is_at_most None (L.register g dest)
  instr_is_closed (Store ty value addr align) = Unit {0}
  instr_is_closed (Gep dest inbounds ty base indices) =
      is_at_most (gep_level (operand_level base) ty (known_path indices)) (L.register g dest)
  instr_is_closed (Call dest ret callee args) = CallIsClosed dest callee args

-- Each register and each result has at least the level that its rules give, whatever path control takes.
pub record IsClosed (P : Program) (L : Levels) : Type 0 where
  pub instr : (g b k : ℕ) (fn : Function) (block : Block) (i : Instr) → IsBlockAt P g b fn block →
      slice_get block.body k ≡ Some i → instr_is_closed P L g i
  pub phi : (g b k j : ℕ) (fn : Function) (block : Block) (p : Phi) (e : Edge) → IsBlockAt P g b fn block →
      slice_get block.phis k ≡ Some p → slice_get p.edges j ≡ Some e →
      is_at_most (operand_level P L g e.value) (L.register g p.dest)
  pub result : (g b : ℕ) (fn : Function) (block : Block) (a : Arg) → IsBlockAt P g b fn block →
      block.end ≡ ends.Ret (Some a) → is_at_most (operand_level P L g a.value) (L.result g)

-- A register's value is within its level.
pub record IsWithinLevel (L : Levels) (g : ℕ) (name : List ℕ) (v : ℕ) : Type 0 where
  pub is : within_level (L.register g name) v

-- The registers of each frame have values within their levels.
abbrev pub RegistersAreWithin : Levels → List Frame → Type 0
RegistersAreWithin L fs = each_register (IsWithinLevel L) fs
