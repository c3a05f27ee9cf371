-- The texts of parts of a program as its writer writes them, one by one.
use Rattle.std.specs.Prelude.{ℕ, zero, suc, List, [], codes}
use Rattle.hip_tree.specs.declared.instr.Instr.{Instr}
use Rattle.hip_tree.specs.declared.instr.Instr.TheVariants.{Binary, Compare, Alloca, Load, Store, Gep}
use Rattle.hip_grammar.specs.Show.{instr_text}

-- What the writer puts before the item of that number.
abbrev pub separator_at : ℕ → List ℕ
separator_at zero = []
separator_at (suc n) = codes ", "

-- The text of an operation or a comparison; empty for any other instruction.
abbrev pub calculation_text : Instr → List ℕ
calculation_text (Binary dest op flags w a b) = instr_text (Binary dest op flags w a b)
calculation_text (Compare dest pred ty a b) = instr_text (Compare dest pred ty a b)
calculation_text _ = []

-- The text of an instruction on memory or on addresses; empty for any other.
abbrev pub memory_text : Instr → List ℕ
memory_text (Alloca dest ty n) = instr_text (Alloca dest ty n)
memory_text (Load dest ty addr n) = instr_text (Load dest ty addr n)
memory_text (Store ty value addr n) = instr_text (Store ty value addr n)
memory_text (Gep dest inbounds ty base indices) = instr_text (Gep dest inbounds ty base indices)
memory_text _ = []
