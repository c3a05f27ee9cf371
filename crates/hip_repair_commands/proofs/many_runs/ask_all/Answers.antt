use Rattle.std.proofs.Common.{List, length, ◌+◌, ◌∙◌, refl, arith, subst, sym}
use Rattle.std.proofs.lemmas.List.{get_or_default}
use Rattle.hip_repair_commands.proofs.Loads.{HasAskedSome, asked_more, asked_none, lacked, ran_out_at, stopped_at}
use Rattle.hip_repairs.specs.declared.plan.Plan.{Plan}
use Rattle.hip_repair_commands.proofs.many_runs.ask_all.Goals as goal

pub returns-in-Err-clause-asks : goal.returns-in-Err-clause-asks
returns-in-Err-clause-asks g c =
    rw c.numbered.ensures (lacked c.traces.invariant.asked c.as_str.result.now c.traces-test.true
    (c.as_str.ensures ∙ c.index-traces-index.is ∙ get_or_default _ _ _ _ c.traces-test.true)
    (g.C.Cabinet.state c.ask.new.cabinet) (c.traces.index + 1) c.in-Err.failure refl c.in-Err.ensures.asks)

pub traces-init : goal.traces-init
traces-init g c =
    let P = c.args.checked.now in
    let names = c.args.traces.now in
    let start = g.C.Cabinet.state c.args.cabinet.now in
    record {
      asked = subst (λ (ps : List Plan). HasAskedSome P names start 0 ps 0 start) (sym c.new-plans.ensures) (asked_none P names start);
      few = omega arith;
    }

pub traces-preserved : goal.traces-preserved
traces-preserved g c = record {
  asked = rw (c.in_ok-push-in-Ok.ensures.ok, c.added-reports.ensures.sum) (asked_more c.traces.invariant.asked c.as_str.result.now c.traces-test.true
      (c.as_str.ensures ∙ c.index-traces-index.is ∙ get_or_default _ _ _ _ c.traces-test.true) (g.C.Cabinet.state c.ask.new.cabinet) c.in-Ok.asked c.in-Ok.ensures.asks);
  few = let before = c.traces.invariant.few in let here = c.added-reports.ensures.few in omega (arith, before, here);
}

pub returns-in-Err-clause-fetches : goal.returns-in-Err-clause-fetches
returns-in-Err-clause-fetches g c =
    rw c.numbered.ensures (stopped_at (length c.args.traces.now) (c.traces.index + 1) c.traces.index c.traces.invariant.asked.made
    c.in-Err.ensures.fetches c.traces-test.true refl c.in-Err.failure)

pub returns-in_err-push-in-Ok-clause-fetches : goal.returns-in_err-push-in-Ok-clause-fetches
returns-in_err-push-in-Ok-clause-fetches g c =
    ran_out_at (length c.args.traces.now) c.traces.index c.traces.invariant.asked.made c.in-Ok.ensures.fetches
    c.traces-test.true c.from_residual.result c.from_residual.ensures.1
