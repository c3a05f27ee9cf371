-- A part that is read leaves at most as many tokens as there were, and fewer if it begins with a token.
use Rattle.std.proofs.Common.{◌≡◌, ◌≤◌, List, Ok, length}
use Rattle.hip_types.specs.declared.number.Scalar.{Scalar}
use Rattle.hip_types.specs.declared.number.Width.{Width}
use Rattle.hip_tokens.specs.Tokens.{At}
use Rattle.hip_grammar.specs.Production.{Production}
use Rattle.hip_grammar.specs.Laws.Exact.{never}
use Rattle.hip_grammar.specs.Laws.Loops.{TakesSome}
use Rattle.hip_grammar.specs.Laws.Productions.{read_takes_some, read_within}
use Rattle.hip_grammar.specs.declared.fault.TextFault.{TextFault}
use Rattle.hip_grammar.specs.Words.{comma, is_label}
use Rattle.hip_grammar.specs.Grammar.{scalar, is_width, literal_index, arg, index}
use Rattle.hip_grammar.specs.Bodies.{edge, case, instr, begins_instr, block}
use Rattle.hip_grammar.specs.Text.{param}
use Rattle.hip_grammar.specs.Laws.Exactness.{literal_index_read, arg_read, index_read}
use Rattle.hip_grammar.specs.Laws.BodiesExact.{edge_read, case_read, instr_read, block_read}
use Rattle.hip_grammar.specs.Laws.TextExact.{scalar_read, param_read}

-- If the part is read, no more tokens are left than before.
abbrev pub IsWithin : {A : Type 0} → Production TextFault A → Type 0
IsWithin {A} p = (ts : List At) (x : A × List At) → p.read ts ≡ Ok x → length x.1 ≤ length ts

pub literal_index_within : IsWithin literal_index
literal_index_within = read_within literal_index never literal_index_read.exact

pub arg_within : IsWithin arg
arg_within = read_within arg never arg_read.exact

pub index_within : IsWithin index
index_within = read_within index never index_read.exact

pub scalar_within : IsWithin scalar
scalar_within = read_within scalar never scalar_read.exact

pub param_within : IsWithin param
param_within = read_within param never param_read.exact

pub edge_within : (s : Scalar) → IsWithin (edge s)
edge_within s = read_within (edge s) never (edge_read s).exact

pub case_some : (w : Width) → TakesSome (case w).read
case_some w = read_takes_some (case w) (is_width w) never (case_read w)

pub instr_some : TakesSome instr.read
instr_some = read_takes_some instr begins_instr comma instr_read

pub block_some : TakesSome block.read
block_some = read_takes_some block is_label never block_read
