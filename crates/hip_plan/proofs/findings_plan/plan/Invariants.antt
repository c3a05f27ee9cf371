use Rattle.hip_repairs.specs.Choice.{asks_fence, asks_flush, asks_hoist, choice}
use Rattle.hip_plan.proofs.Listed.{HasAllBut}
use Rattle.hip_plan.proofs.findings_plan.plan.Given as goal

abbrev pub invariant-each : goal.invariant-each
invariant-each l = record {
  flushes : HasAllBut l.checked (λ r s. asks_flush r.kind (choice l.checked l.findings r) r.path s) l.findings.reports l.report-iterator l.sites.flush_after;
  fences : HasAllBut l.checked (λ r s. asks_fence r.kind (choice l.checked l.findings r) r.flush_site r.path s) l.findings.reports l.report-iterator l.sites.fence_after;
  hoists : HasAllBut l.checked (λ r s. asks_hoist r.kind (choice l.checked l.findings r) r.path s) l.findings.reports l.report-iterator l.sites.hoist;
}
