use Rattle.std.proofs.Common.{true}
use Rattle.hip_command_io.specs.Laws.{lacking_fetched, run_fetched, run_lacked, run_reported}
use Rattle.hip_run_commands.specs.Crash.{CrashTexts}
use Rattle.hip_run_commands.proofs.Crashes.{crash_has_all}
use Rattle.hip_run_commands.proofs.crash.crash_file.Goals as goal

pub returns-in_err-loaded-clause-gives : goal.returns-in_err-loaded-clause-gives
returns-in_err-loaded-clause-gives g c =
    run_lacked (CrashTexts c.args.point.entry c.args.point.picks) true _ c.from_residual.result _
    c.from_residual.ensures.1 c.in_err-loaded.ensures.loads

pub returns-clause-gives : goal.returns-clause-gives
returns-clause-gives g c =
    run_reported (CrashTexts c.args.point.entry c.args.point.picks) c.crash_run.result c.in_ok-loaded.loaded
    c.in_ok-loaded.ensures.loads (λ found alike a texts. texts) c.crash_run.ensures.gives

pub returns-in_err-loaded-clause-fetches : goal.returns-in_err-loaded-clause-fetches
returns-in_err-loaded-clause-fetches g c =
    lacking_fetched c.from_residual.result _ c.from_residual.ensures.1 c.in_err-loaded.ensures.fetches

pub returns-clause-fetches : goal.returns-clause-fetches
returns-clause-fetches g c =
    run_fetched (CrashTexts c.args.point.entry c.args.point.picks) c.crash_run.result c.in_ok-loaded.loaded
    c.in_ok-loaded.ensures.loads c.in_ok-loaded.ensures.fetches (crash_has_all c.in_ok-loaded.loaded.checked
    c.in_ok-loaded.loaded.replayed.input c.in_ok-loaded.loaded.replayed.findings c.args.point.entry c.args.point.picks)
    c.crash_run.ensures.gives
