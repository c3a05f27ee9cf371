-- The kinds of instructions.
use Rattle.hip_tree.specs.declared.instr.Instr.{Instr}
use Rattle.hip_tree.specs.declared.instr.Instr.TheVariants as instrs

-- The instruction computes a value from those of its operands, and does nothing else.
abbrev pub IsValue : Instr → Type 0
IsValue (instrs.Binary dest op flags width a b) = Unit {0}
IsValue (instrs.Compare dest pred ty a b) = Unit {0}
IsValue (instrs.Select dest test ty a b) = Unit {0}
IsValue (instrs.Cast dest op from a to) = Unit {0}
IsValue (instrs.Alloca dest ty align) = ⊥
IsValue (instrs.Load dest ty addr align) = ⊥
IsValue (instrs.Store ty value addr align) = ⊥
IsValue (instrs.Gep dest inbounds ty base indices) = ⊥
IsValue (instrs.Call dest ret callee args) = ⊥
