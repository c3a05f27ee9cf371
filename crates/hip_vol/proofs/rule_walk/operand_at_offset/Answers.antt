use Rattle.std.proofs.Common.{◌≡◌, ℕ, List, sym, ap, ◌∙◌}
use Rattle.hip_tree.specs.declared.instr.Operand.{Operand}
use Rattle.hip_invariants.specs.PointerLevels.{PointerLevel, after_offset}
use Rattle.hip_vol.specs.Bounds.{Known}
use Rattle.hip_vol.specs.Gathered.{level_with}
use Rattle.hip_vol.specs.Rules.{offset_bound}
use Rattle.hip_vol.specs.Tables.{level_of}
use Rattle.hip_vol.proofs.ConstantLevels.{level_past}
use Rattle.hip_vol.proofs.rule_walk.operand_at_offset.Goals as goal

pub returns-in_ok-level-in-Fixed-clause-bound : goal.returns-in_ok-level-in-Fixed-clause-bound
returns-in_ok-level-in-Fixed-clause-bound c =
    let P = c.args.scope.now.program.now in
    let value = c.in-Fixed.value in
    let offset = c.args.offset in
    let level = c.in_ok-level-in-Fixed.level in
    let is : level_of level ≡ level_with _ value = c.in_ok-level-in-Fixed.ensures.level ∙ ap (λ (names : List ℕ → PointerLevel). level_with names value) c.requires.scope.globals in
    ap Known (ap level_of c.at_offset.ensures ∙ level_past level offset c.in_ok-level-in-Fixed.ensures.small ∙ ap (λ a. after_offset a offset) is)
    ∙ sym (ap (λ (o : Operand). offset_bound P c.args.function o offset) c.in-Fixed.is)
