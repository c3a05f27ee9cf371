use Rattle.std.proofs.Common.{[], ap, sym, ◌∙◌}
use Rattle.std.specs.Prelude.{unwrap_or}
use Rattle.hip_typing.proofs.ArrivalLemmas.{one_arrived}
use Rattle.hip_typing.proofs.tables.predecessors.Predecessors.add_first.Goals as goal

pub returns : goal.returns
returns c =
    one_arrived c.args.self.now.sets c.insert-2.new.self c.args.label.now c.args.from.now c.new-set.result c.insert.new.self c.in_ok-_is_new._is_new c.in_ok-_replaced.ensures.updates (ap (λ o. unwrap_or o []) c.requires ∙ sym c.new-set.ensures) c.in_ok-_is_new.ensures.new c.in_ok-_is_new.ensures.names
