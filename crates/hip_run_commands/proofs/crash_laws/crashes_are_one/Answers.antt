use Rattle.hip_run_commands.proofs.OneCrash.{alike}
use Rattle.hip_run_commands.specs.Crash.{CrashTexts}
use Rattle.hip_answers.specs.RunLaws.OneAnswer.{gives_one}
use Rattle.hip_run_commands.proofs.crash_laws.crashes_are_one.Goals as goal

pub returns : goal.returns
returns c = λ entry picks. gives_one (CrashTexts entry picks) (λ P I found a b x y. alike P I entry picks found a b x y)
