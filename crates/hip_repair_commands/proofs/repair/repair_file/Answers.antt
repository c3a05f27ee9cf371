use Rattle.std.proofs.Common.{false, ap}
use Rattle.hip_answers.specs.Fetches.{fetches_by}
use Rattle.hip_command_io.specs.Laws.{lacking_fetched, run_answered, run_fetched, run_lacked}
use Rattle.hip_repair_answers.specs.Answers.{HasRepaired}
use Rattle.hip_repair_commands.proofs.repair.repair_file.Goals as goal

pub returns-in_err-loaded-clause-gives : goal.returns-in_err-loaded-clause-gives
returns-in_err-loaded-clause-gives g c =
    run_lacked HasRepaired false _ c.from_residual.result _ c.from_residual.ensures.1 c.in_err-loaded.ensures.loads

pub returns-clause-gives : goal.returns-clause-gives
returns-clause-gives g c =
    run_answered HasRepaired c.repair_findings.result c.in_ok-loaded.loaded c.in_ok-loaded.ensures.loads
    c.repair_findings.ensures.gives

pub returns-in_err-loaded-clause-fetches : goal.returns-in_err-loaded-clause-fetches
returns-in_err-loaded-clause-fetches g c =
    lacking_fetched c.from_residual.result _ c.from_residual.ensures.1 c.in_err-loaded.ensures.fetches

pub returns-clause-fetches : goal.returns-clause-fetches
returns-clause-fetches g c =
    run_fetched HasRepaired c.repair_findings.result c.in_ok-loaded.loaded c.in_ok-loaded.ensures.loads c.in_ok-loaded.ensures.fetches
    (λ a h. ap (fetches_by 2) h.status_is) c.repair_findings.ensures.gives
