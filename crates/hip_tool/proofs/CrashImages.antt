-- `crash` can run the program from each content that a crash may leave.
use Rattle.std.proofs.Common.{◌≡◌, ℕ, List, Some}
use Rattle.hip_answers.specs.Answers.{Answer, Sinks}
use Rattle.hip_answers.specs.Traces.{GivesTrace}
use Rattle.hip_answers.specs.declared.status.Status.{Status}
use Rattle.hip_run_commands.specs.Crash.{CrashTexts}
use Rattle.hip_run_commands.specs.ImagesAtEntries.{begun_with}
use Rattle.hip_run_commands.specs.CrashLaws.{CrashRunsEveryImage}
use Rattle.hip_io.specs.Cabinets.{CabinetState}
use Rattle.hip_types.specs.declared.pick.Pick.{Pick}
use Rattle.hip_runs.specs.declared.report.Findings.{Findings}
use Rattle.hip_tool.proofs.CheckedBytes.{traced_valid}
use Rattle.hip_tool.proofs.OnFiles.{on_run}
use Rattle.hip_tool.proofs.WhatIsAnswered.{gives}
use Rattle.hip_tool.specs.Crashes.{CrashesAreExhaustive}
use Rattle.hip_tool.specs.Headline.{Gives, CallEnds, OfRun}
use Rattle.hip_words.specs.declared.order.Order.TheVariants.{Crash}

pub crashes_exhaustive : CrashRunsEveryImage → CrashesAreExhaustive
crashes_exhaustive every files p t P I given trace n content h = (image.0, image.1, runs)
  where
    image : (entry : ℕ) × (picks : List Pick) × ((found : Findings) → (answer : Answer)
        → CrashTexts entry picks P I found answer → GivesTrace P (begun_with I content) answer)
    image = every P I (traced_valid files t P I trace) n content h

    runs : (old new : CabinetState) (s : Sinks) (status : Status) → old.files ≡ Some files
        → CallEnds (Crash p t image.0 image.1) old new s status → Gives (GivesTrace P (begun_with I content)) s status
    runs old new s status stated call =
        gives old new s call.nothing _ _ _ status
        (λ a k. on_texts a (on_run files p P given old new s stated call.nothing t I trace (CrashTexts image.0 image.1) a k)) call.answered
      where
        on_texts : (a : Answer) → OfRun (CrashTexts image.0 image.1) P I a → GivesTrace P (begun_with I content) a
        on_texts a k = image.2 k.0 a k.2
