use Rattle.hip_tool.proofs.CrashImages.{crashes_exhaustive}
use Rattle.hip_tool.proofs.answered.crashes_are_exhaustive.Goals as goal

pub returns : goal.returns
returns c = crashes_exhaustive c.crash_misses_nothing.ensures.runs
