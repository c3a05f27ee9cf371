use Rattle.std.proofs.Common.{sym, ap, ◌∙◌}
use Rattle.hip_names.specs.Names.{number_of}
use Rattle.hip_scope.proofs.Names.{known_numbered}
use Rattle.hip_scope.proofs.scope.slot.Goals as goal

pub unreachable-requires : goal.unreachable-requires
unreachable-requires c =
    known_numbered _ _ c.requires.known
    (ap (λ ns. number_of ns c.args.name.now) (sym c.requires.scope.registers)
    ∙ ap (number_of c.args.scope.now.registers) (sym c.as_slice.ensures) ∙ sym c.number_of.ensures ∙ c.in-None.is)
