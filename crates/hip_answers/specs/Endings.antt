-- How a run has ended, as a status and on a line.
use Rattle.std.specs.Prelude.{ℕ, List, ◌++◌, codes}
use Rattle.std.specs.Fmt.{signed_decimal}
use Rattle.hip_answers.specs.declared.status.Status.{Status}
use Rattle.hip_answers.specs.declared.status.Status.TheVariants as statuses
use Rattle.hip_run_traces.specs.Traces.{trap_word}
use Rattle.hip_runs.specs.declared.event.Ending.{Ending}
use Rattle.hip_runs.specs.declared.event.Ending.TheVariants as endings
use Rattle.hip_runs.specs.declared.event.TrapKind.{TrapKind}
use Rattle.hip_trace.specs.Entries.{trap_text}

-- The status of a command that runs a program: Done if the run stops, whatever number `main` returned, and else the
-- trap or the cut.
abbrev pub status_of_ending : Ending → Status
status_of_ending (endings.Stop code) = statuses.Done
status_of_ending (endings.Trap kind) = statuses.Trapped kind
status_of_ending endings.Cut = statuses.Cut

-- The word for a kind of trap, as a trace has it.
abbrev pub trap_text_of : TrapKind → List ℕ
trap_text_of kind = trap_text (trap_word kind)

-- `stop C`, `trap K` or `cut`.
abbrev pub ending_line : Ending → List ℕ
ending_line (endings.Stop code) = codes "stop " ++ signed_decimal code ++ codes "\n"
ending_line (endings.Trap kind) = codes "trap " ++ trap_text_of kind ++ codes "\n"
ending_line endings.Cut = codes "cut\n"
