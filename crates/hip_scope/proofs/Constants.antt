-- The resolved form of an operand.
use Rattle.std.proofs.Common.{◌≡◌, ℕ, List, Some, sym, ap, ◌∙◌, subst}
use Rattle.hip_tree.specs.declared.instr.Operand as named
use Rattle.hip_tree.specs.declared.instr.Operand.TheVariants.{Fixed}
use Rattle.hip_tree.specs.declared.constant.Const.{Const}
use Rattle.hip_globals.specs.Values.{const_value}
use Rattle.hip_tree.specs.declared.program.GlobalVar.{GlobalVar}
use Rattle.hip_code.specs.Resolved.{IsOperand}
use Rattle.hip_code.specs.declared.op.OpOperand.{OpOperand}
use Rattle.hip_code.specs.declared.op.OpOperand.TheVariants.{Constant, Register}
use Rattle.hip_scope.specs.Known.{IsConstant}

-- A resolved operand is also resolved on any input whose region begins at the same base.
pub on_base : {globals : List GlobalVar} {base other : ℕ} {names : List (List ℕ)} {constants : List ℕ} {o : OpOperand} {x : named.Operand} →
    other ≡ base → IsOperand globals base names constants o x → IsOperand globals other names constants o x
on_base {globals} {base} {other} {names} {constants} {o} {x} e h = subst (λ r. IsOperand globals r names constants o x) (sym e) h

pub constant_stands : (globals : List GlobalVar) (base : ℕ) (names : List (List ℕ)) (constants : List ℕ) (o : OpOperand) (n : ℕ) (value : Const) →
    IsConstant constants o n → n ≡ const_value globals base value → IsOperand globals base names constants o (Fixed value)
constant_stands globals base names constants (Constant place) n value h e = record { is = h ∙ ap Some e }
constant_stands globals base names constants (Register slot) n value h e = absurd h
