use Rattle.std.proofs.Common.{ℕ, List, [], ◌∷◌, ◌++◌, length, sym, ap, ◌∙◌, subst, arith}
use Rattle.hip_lines.specs.declared.queue.Queue.{Queue}
use Rattle.hip_lines.specs.Places.{IsFreshAt}
use Rattle.hip_lines.proofs.Placed.{fresh-push}
use Rattle.hip_lines.proofs.queues.append.Goals as goal

pub returns-clause-ok : goal.returns-clause-ok
returns-clause-ok c = (
  omega (arith, c.len-count.ensures, c.args.queues.now.ok.0),
  subst (λ (xs : List Queue). IsFreshAt c.args.line (length c.args.queues.now.items) xs) (sym c.push_reserved.ensures.items)
      (subst (λ (n : ℕ). IsFreshAt c.args.line n (c.reserve-2.new.self.items ++ c.make_room.new.self ∷ [])) (ap length c.reserve-2.ensures.items) (fresh-push c.args.line c.reserve-2.new.self.items c.make_room.new.self (c.make_room.ensures.line ∙ c.new-queue.ensures.line) (c.make_room.ensures.pending ∙ c.new-queue.ensures.pending) c.in_ok-make_room.ensures.ok)),
)
