use Rattle.std.proofs.Common.{[], refl, ap, sym, subst, Option, List, ℕ}
use Rattle.std.specs.Prelude.{unwrap_or, IsSome}
use Rattle.hip_typing.proofs.ArrivalLemmas.{one_arrived}
use Rattle.hip_typing.proofs.tables.predecessors.Predecessors.add.Goals as goal

pub returns-in_ok-_is_new-in-Some : goal.returns-in_ok-_is_new-in-Some
returns-in_ok-_is_new-in-Some c =
    let there = subst (λ (o : Option (List (List ℕ))). IsSome o) c.in-Some.ensures.value refl in
    one_arrived c.args.self.now.sets (c.get_mut.follows.lender c.insert.new.self) c.args.label.now c.args.from.now c.in-Some.set.now c.insert.new.self c.in_ok-_is_new-in-Some._is_new
    ((c.get_mut.follows.holds c.insert.new.self).3 there) (sym (ap (λ o. unwrap_or o []) c.in-Some.ensures.value)) c.in_ok-_is_new-in-Some.ensures.new c.in_ok-_is_new-in-Some.ensures.names
