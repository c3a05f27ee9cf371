use Rattle.std.proofs.Common.{length, sym, ap, ◌∙◌, subst, arith}
use Rattle.hip_code.specs.Entries.{entry}
use Rattle.hip_scope.specs.Grown.{grown}
use Rattle.hip_resolve.specs.Made.{IsFront}
use Rattle.hip_resolve.proofs.Fronts.{front_none}
use Rattle.hip_scope.proofs.Places.{first_place}
use Rattle.hip_resolve.proofs.resolver.add_functions.Goals as goal

pub functions-init : goal.functions-init
functions-init c = record {
  front = subst (λ ops. IsFront c.args.known.now.program.now c.args.known.now.base ops (grown c.args.tables.now)) (sym c.requires.none)
      (front_none c.args.known.now.program.now c.args.known.now.base (grown c.args.tables.now));
  place = ap (λ ops. length ops) c.requires.none ∙ sym (first_place c.args.known.now.program.now);
}

pub functions-preserved : goal.functions-preserved
functions-preserved c = record {
  front = c.in_ok-add_function.ensures.front;
  place = c.in_ok-add_function.ensures.place ∙ ap (λ number. entry c.args.known.now.program.now number 0) (omega arith);
}

pub returns-clause-place : goal.returns-clause-place
returns-clause-place c =
    c.functions.invariant.place ∙ ap (λ number. entry c.args.known.now.program.now number 0) (omega (arith, c.functions-test.false, c.functions.auto.number-end, c.len-number-end.ensures))
