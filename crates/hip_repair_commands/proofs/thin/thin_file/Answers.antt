use Rattle.std.proofs.Common.{false, ap}
use Rattle.hip_answers.specs.Fetches.{fetches_by}
use Rattle.hip_command_io.specs.Laws.{lacking_fetched, run_answered, run_fetched, run_lacked}
use Rattle.hip_repair_commands.specs.Thin.{HasThinned}
use Rattle.hip_repair_commands.proofs.thin.thin_file.Goals as goal

pub returns-in_err-loaded-clause-gives : goal.returns-in_err-loaded-clause-gives
returns-in_err-loaded-clause-gives g c =
    run_lacked HasThinned false _ c.from_residual.result _ c.from_residual.ensures.1 c.in_err-loaded.ensures.loads

pub returns-clause-gives : goal.returns-clause-gives
returns-clause-gives g c =
    run_answered HasThinned c.thin_findings.result c.in_ok-loaded.loaded c.in_ok-loaded.ensures.loads
    c.thin_findings.ensures.gives

pub returns-in_err-loaded-clause-fetches : goal.returns-in_err-loaded-clause-fetches
returns-in_err-loaded-clause-fetches g c =
    lacking_fetched c.from_residual.result _ c.from_residual.ensures.1 c.in_err-loaded.ensures.fetches

pub returns-clause-fetches : goal.returns-clause-fetches
returns-clause-fetches g c =
    run_fetched HasThinned c.thin_findings.result c.in_ok-loaded.loaded c.in_ok-loaded.ensures.loads c.in_ok-loaded.ensures.fetches
    (λ a h. ap (fetches_by 2) h.status_is) c.thin_findings.ensures.gives
