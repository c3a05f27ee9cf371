-- The rules of pointer levels, row by row: how far past the stack's end each pointer of a program may point.
use Rattle.std.specs.Prelude.{ℕ, suc, List, [], ◌∷◌, ◌++◌, map, Option, Some, None, unwrap_or, slice_get}
use Rattle.std.specs.List.{flat_map}
use Rattle.hip_types.specs.Layout.{gep_of}
use Rattle.hip_types.specs.declared.ty.Ty.{Ty}
use Rattle.hip_tree.specs.declared.block.Block.{Block}
use Rattle.hip_tree.specs.declared.block.End.{End}
use Rattle.hip_tree.specs.declared.block.End.TheVariants as ends
use Rattle.hip_tree.specs.declared.block.Phi.{Phi}
use Rattle.hip_tree.specs.declared.instr.Arg.{Arg}
use Rattle.hip_tree.specs.declared.instr.Instr.{Instr}
use Rattle.hip_tree.specs.declared.instr.Instr.TheVariants.{Binary, Compare, Select, Cast, Alloca, Load, Store, Gep, Call}
use Rattle.hip_tree.specs.declared.instr.Operand.{Operand}
use Rattle.hip_tree.specs.declared.instr.Operand.TheVariants.{Reg, Fixed}
use Rattle.hip_tree.specs.declared.program.Function.{Function}
use Rattle.hip_tree.specs.declared.program.Param.{Param}
use Rattle.hip_tree.specs.declared.program.Program.{Program}
use Rattle.hip_externs.specs.Externs.{call_of}
use Rattle.hip_externs.specs.declared.call.ExternCall.{ExternCall}
use Rattle.hip_sound.specs.NumberedNames.{function_number}
use Rattle.hip_invariants.specs.PointerLevels.{after_offset, const_level, known_path}
use Rattle.hip_vol.specs.Bounds.{Bound, LevelRule, Register, Result, Known, AtOffset, low, free, same_as}

module _ (P : Program) (g : ℕ) where
  -- The bound of an operand: level 0 for `null`, `zeroinitializer` and a volatile global, free for a persistent global.
  abbrev pub operand_bound : Operand → Bound
  operand_bound (Reg name) = same_as (Register g name)
  operand_bound (Fixed c) = Known (const_level P.globals c)

  -- The bound at an offset from an operand.
  abbrev pub offset_bound : Operand → ℕ → Bound
  offset_bound (Reg name) offset = AtOffset offset (Register g name)
  offset_bound (Fixed c) offset = Known (after_offset (const_level P.globals c) offset)

  -- The bound of an element of an operand, by the values of the indices; free if one of them is a register.
  abbrev pub element_bound : Operand → Ty → Option (List ℕ) → Bound
  element_bound base ty None = free
  element_bound base ty (Some path) = offset_bound base (unwrap_or (gep_of ty path) 0)

  -- The rule that a register has at least the level of a bound.
  abbrev pub rule : List ℕ → Bound → LevelRule
  rule name least = record { variable = Register g name; least = least }

  -- The rule for the register that the result of a call goes into, if there is one.
  abbrev pub rule_for_result : Option (List ℕ) → Bound → List LevelRule
  rule_for_result None least = []
  rule_for_result (Some name) least = rule name least ∷ []

  -- The rules of a call's arguments: each parameter has at least the level of its argument.
  abbrev pub argument_rules : ℕ → List Param → List Arg → List LevelRule
  argument_rules h [] args = []
  argument_rules h (p ∷ ps) [] = []
  argument_rules h (p ∷ ps) (a ∷ args) =
      record { variable = Register h p.name; least = operand_bound a.value } ∷ argument_rules h ps args

  -- The rules of a call of the function of number h, given that function if there is one.
  abbrev pub rules_into : Option (List ℕ) → List Arg → ℕ → Option Function → List LevelRule
  rules_into dest args h None = []
  rules_into dest args h (Some fn) = rule_for_result dest (same_as (Result h)) ++ argument_rules h fn.params args

  -- The rules of a call of a defined function by its number; none where no function has the name.
  abbrev pub entry_rules : Option (List ℕ) → List Arg → Option ℕ → List LevelRule
  entry_rules dest args None = []
  entry_rules dest args (Some h) = rules_into dest args h (slice_get P.functions h)

  -- The rules of a call: its register has the level of the function's result, and the parameters have the levels of the
  -- arguments. An external function gives no pointer.
  abbrev pub call_rules : Option (List ℕ) → List ℕ → List Arg → Option ExternCall → List LevelRule
  call_rules dest callee args (Some call) = rule_for_result dest free
  call_rules dest callee args None = entry_rules dest args (function_number P callee)

  -- The rules of an instruction. A register that is no pointer is free, and no pointer's level depends on it.
  abbrev pub instr_rules : Instr → List LevelRule
  instr_rules (Alloca dest ty align) = rule dest low ∷ []
  instr_rules (Load dest ty addr align) = rule dest free ∷ []
  instr_rules (Cast dest op from a to) = rule dest free ∷ []
  instr_rules (Gep dest inbounds ty base indices) = rule dest (element_bound base ty (known_path indices)) ∷ []
  instr_rules (Select dest test ty a b) = rule dest (operand_bound a) ∷ rule dest (operand_bound b) ∷ []
  instr_rules (Call dest ret callee args) = call_rules dest callee args (call_of callee)
  instr_rules (Binary dest op flags width a b) = rule dest free ∷ []
  instr_rules (Compare dest pred ty a b) = rule dest free ∷ []
  instr_rules (Store ty value addr align) = []

  -- The rules of a phi: its register has at least the level of each of its values.
  abbrev pub phi_rules : Phi → List LevelRule
  phi_rules p = map (λ e. rule p.dest (operand_bound e.value)) p.edges

  -- The rule of a `ret`: the function's result has at least the level of the value that it returns.
  abbrev pub end_rules : End → List LevelRule
  end_rules (ends.Ret (Some a)) = record { variable = Result g; least = operand_bound a.value } ∷ []
  end_rules _ = []

  -- The rules of a block: of its phis, its body and its end, in this order.
  abbrev pub block_rules : Block → List LevelRule
  block_rules b = flat_map phi_rules b.phis ++ (flat_map instr_rules b.body ++ end_rules b.end)

  -- The rules of a function, block by block.
  abbrev pub function_rules : Function → List LevelRule
  function_rules fn = flat_map block_rules fn.blocks

-- The rules of functions in their order, the first of which has number g.
abbrev pub rules_from : Program → ℕ → List Function → List LevelRule
rules_from P g [] = []
rules_from P g (fn ∷ fns) = function_rules P g fn ++ rules_from P (suc g) fns

-- All rules of a program, also those of unreachable blocks. A variable without a rule has level 0.
abbrev pub level_rules : Program → List LevelRule
level_rules P = rules_from P 0 P.functions
