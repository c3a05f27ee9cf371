use Rattle.std.proofs.Common.{sym, ap, ◌∙◌, subst}
use Rattle.hip_tree.specs.declared.instr.Operand.{Operand}
use Rattle.hip_globals.specs.Values.{written}
use Rattle.hip_scope.specs.Scopes.{OperandStandsFor}
use Rattle.hip_scope.proofs.Growth.{makes_also}
use Rattle.hip_scope.proofs.Constants.{constant_stands}
use Rattle.hip_scope.proofs.scope.operand.Goals as goal

pub returns-in_ok-constant-in-Fixed-clause-stands : goal.returns-in_ok-constant-in-Fixed-clause-stands
returns-in_ok-constant-in-Fixed-clause-stands c =
    makes_also c.in_ok-constant-in-Fixed.ensures.stands
    (λ t h. subst (λ (x : Operand). OperandStandsFor c.args.scope.now t c.in_ok-constant-in-Fixed.constant x) (sym c.in-Fixed.is)
    (constant_stands _ _ _ _ _ _ c.in-Fixed.value h (c.in_ok-number-in-Fixed.ensures ∙ ap (λ f. (written f c.in-Fixed.value).value) c.requires.scope.addresses)))
