-- The best level so far and those of the calls that are left.
use Rattle.std.proofs.Common.{ℕ, inl, inr, ◌+◌, ◌-◌, ◌<◌, Option, ℤ, sym, ap, ap₂, ◌∙◌}
use Rattle.std.specs.Int.{w128}
use Rattle.std.proofs.lemmas.Int.{to_z-of_z}
use Rattle.hip_repairs.specs.Choice.{Candidate, best_of, is_better}
use Rattle.hip_plan.proofs.Levels.{best_end, left, taken}
use Rattle.hip_plan.specs.Worths.{is_at_limit}
use Rattle.hip_plan.proofs.Limits.{best_already}
use Rattle.hip_plan.proofs.choice.best_level.Goals as goal
use Rattle.hip_plan.proofs.choice.best_level.Goals.{then-is_better, else-is_better}

pub each-preserved : goal.each-preserved
each-preserved g c =
    let found = g.W.Worths.found c.args.worths.now in
    let i : ℕ = c.each.index in
    let best : Candidate = record { level = c.each.level; score = c.each.best } in
    let h : i < c.args.closed = c.each-test.true in
    elim c.if-is_better.branch [
      | then-is_better w ↦
          taken c.args.checked.now found best c.args.closed i c.in-Some.call c.each.left c.next.new.self c.in-Some.ensures.steps h c.if-is_better.level c.if-is_better.best w.level-is (w.best-is ∙ c.score_by-score.ensures)
          (ap (is_better c.each.best) w.best-is ∙ sym c.is_better.ensures ∙ w.if-is_better.true)
          ∙ c.each.invariant
      | else-is_better w ↦
          ap₂ (λ (n : ℕ) (s : Option ℤ). (best_of c.args.checked.now found (record { level = n; score = s }) (i + 1 + 1) (c.args.closed - (i + 1)) c.next.new.self).level) w.level-is w.best-is
          ∙ left c.args.checked.now found best c.args.closed i c.in-Some.call c.each.left c.next.new.self c.in-Some.ensures.steps h c.score_by-score.result c.score_by-score.ensures (sym c.is_better.ensures ∙ w.if-is_better.false)
          ∙ c.each.invariant
    ]

pub returns : goal.returns
returns g c =
    let found = g.W.Worths.found c.args.worths.now in
    ap (λ (x : Candidate). x.level) (sym (best_end c.args.checked.now found (record { level = c.each.level; score = c.each.best }) c.args.closed c.each.index c.each.left (inl c.each-test.false))) ∙ c.each.invariant

pub returns-in-None : goal.returns-in-None
returns-in-None g c =
    let found = g.W.Worths.found c.args.worths.now in
    ap (λ (x : Candidate). x.level) (sym (best_end c.args.checked.now found (record { level = c.each.level; score = c.each.best }) c.args.closed c.each.index c.each.left (inr c.in-None.ensures.steps.0))) ∙ c.each.invariant

pub returns-then-is_at_limit : goal.returns-then-is_at_limit
returns-then-is_at_limit g c =
    let found = g.W.Worths.found c.args.worths.now in
    let best : Candidate = record { level = c.each.level; score = c.each.best } in
    ap (λ (x : Candidate). x.level)
    (sym (best_already c.args.checked.now found c.limit-limit.result c.limit-limit.ensures best (ap (is_at_limit c.each.best) (sym (to_z-of_z w128 c.limit-limit.result (record { sfits = c.limit-limit.type_inv }))) ∙ sym c.is_at_limit.ensures ∙ c.if-is_at_limit.true) (c.each.index + 1) (c.args.closed - c.each.index) c.each.left))
    ∙ c.each.invariant
