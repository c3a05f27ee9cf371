use Rattle.std.proofs.Common.{◌∙◌, ap, sym, refl, arith}
use Rattle.std.specs.Int.{next_multiple_of}
use Rattle.hip_mem.specs.Areas.{after_push}
use Rattle.hip_mem.proofs.RamCalls.{too_large, pushed-is, block-is, areas-pushed}
use Rattle.hip_mem.proofs.ram.Ram.push_stack.Goals as goal

pub returns-in_default-clause-full : goal.returns-in_default-clause-full
returns-in_default-clause-full c = (λ _. omega (arith, too_large c.checked_next_multiple_of.result c.args.align (next_multiple_of c.self.inside.mark c.args.align) c.checked_next_multiple_of.ensures c.in_default.not-Some c.requires, pushed-is c.self.inside c.args.self.now c.args.size c.args.align c.self.view_is c.self.invariant), λ _. refl)

pub returns-then-mark-gt-STACK_END-clause-full : goal.returns-then-mark-gt-STACK_END-clause-full
returns-then-mark-gt-STACK_END-clause-full c =
    (λ _. omega (arith, c.if-mark-gt-STACK_END.true, c.in-Some.ensures.1, c.in-Some-checked_add.ensures.1, pushed-is c.self.inside c.args.self.now c.args.size c.args.align c.self.view_is c.self.invariant), λ _. refl)

pub returns-clause-full : goal.returns-clause-full
returns-clause-full c =
    (λ e. absurd (let z : ⊥ = cc in z), λ h. absurd (omega (arith, h, c.if-mark-gt-STACK_END.false, c.in-Some.ensures.1, c.in-Some-checked_add.ensures.1, pushed-is c.self.inside c.args.self.now c.args.size c.args.align c.self.view_is c.self.invariant)))

pub returns-clause-block : goal.returns-clause-block
returns-clause-block c = c.in-Some.ensures.1 ∙ sym (block-is c.self.inside c.args.self.now c.args.align c.self.view_is c.self.invariant)

pub returns-clause-ok : goal.returns-clause-ok
returns-clause-ok c =
    areas-pushed c.in-Some-checked_add.mark c.self.inside _ c.self.invariant refl refl refl refl (omega (arith, c.in-Some.ensures.1, c.in-Some-checked_add.ensures.1)) c.if-mark-gt-STACK_END.false c.clear.ensures
    ∙ ap (after_push c.in-Some-checked_add.mark) c.self.view_is
    ∙ ap (λ m. after_push m c.args.self.now) (omega (arith, c.in-Some.ensures.1, c.in-Some-checked_add.ensures.1, pushed-is c.self.inside c.args.self.now c.args.size c.args.align c.self.view_is c.self.invariant))
