-- What the code gathers rules from: the levels of constants by a table of the globals, and the types in instructions.
use Rattle.std.specs.Prelude.{ℕ, Bool, true, List, All, Option, Some, None}
use Rattle.hip_types.specs.Layout.{Fits}
use Rattle.hip_tree.specs.declared.block.Block.{Block}
use Rattle.hip_tree.specs.declared.block.End.{End}
use Rattle.hip_tree.specs.declared.block.End.TheVariants as ends
use Rattle.hip_tree.specs.declared.block.Phi.{Phi}
use Rattle.hip_tree.specs.declared.constant.Const.{Const}
use Rattle.hip_tree.specs.declared.constant.Const.TheFolds.{fold-Const, fold-ConstGep}
use Rattle.hip_tree.specs.declared.constant.ConstGep.{ConstGep}
use Rattle.hip_tree.specs.declared.instr.Instr.{Instr}
use Rattle.hip_tree.specs.declared.instr.Instr.TheVariants.{Select, Store, Gep, Call}
use Rattle.hip_tree.specs.declared.instr.Operand.{Operand}
use Rattle.hip_tree.specs.declared.instr.Operand.TheVariants.{Reg, Fixed}
use Rattle.hip_tree.specs.declared.program.Function.{Function}
use Rattle.hip_names.specs.Tables.{value_beside}
use Rattle.hip_names.specs.declared.table.NameTable.{NameTable}
use Rattle.hip_globals.specs.Constants.{types_in}
use Rattle.hip_globals.specs.InitialSeen.{AllFit}
use Rattle.hip_invariants.specs.PointerLevels.{PointerLevel, level_step, gep_level_step, item_level_step}

-- ---- constants

-- The level of a global that is persistent, volatile, or not there.
abbrev pub persistence_level : Option Bool → PointerLevel
persistence_level (Some true) = None
persistence_level _ = Some 0

-- The level of a global by a table of which globals are persistent.
abbrev pub level_beside : NameTable Bool → List ℕ → PointerLevel
level_beside table name = persistence_level (value_beside table.names table.values name)

-- The level of a constant, if names have these levels.
abbrev pub level_with : (List ℕ → PointerLevel) → Const → PointerLevel
level_with names = fold-Const PointerLevel PointerLevel PointerLevel (level_step names) gep_level_step item_level_step

-- The level of an element's address: that of its base at the element's offset, which is 0 where the indices lead
-- nowhere.
abbrev pub element_with : (List ℕ → PointerLevel) → ConstGep → PointerLevel
element_with names =
    fold-ConstGep PointerLevel PointerLevel PointerLevel (level_step names) gep_level_step item_level_step

-- ---- types that fit

-- The types in an operand fit.
abbrev pub OperandFits : Operand → Type 0
OperandFits (Reg name) = Unit {0}
OperandFits (Fixed value) = AllFit (types_in value)

-- The types that the rules of an instruction use fit.
abbrev pub InstrFits : Instr → Type 0
InstrFits (Select dest test ty a b) = OperandFits a × OperandFits b
InstrFits (Gep dest inbounds ty base indices) = OperandFits base × Fits ty
InstrFits (Store ty value addr align) = OperandFits addr
InstrFits (Call dest ret callee args) = All (λ a. OperandFits a.value) args
InstrFits _ = Unit {0}

-- The types in the operands of a phi fit.
abbrev pub PhiFits : Phi → Type 0
PhiFits p = All (λ e. OperandFits e.value) p.edges

-- The types in the value that a `ret` returns fit; other ends need nothing.
abbrev pub EndFits : End → Type 0
EndFits (ends.Ret (Some a)) = OperandFits a.value
EndFits _ = Unit {0}

-- The types that the rules of a block use fit: those of its phis, its body and its end.
pub record BlockFits (b : Block) : Type 0 where
  pub phis : All PhiFits b.phis
  pub body : All InstrFits b.body
  pub last : EndFits b.end

-- The types that the rules of a function use fit, in each of its blocks.
abbrev pub FunctionFits : Function → Type 0
FunctionFits fn = All BlockFits fn.blocks
