-- All definitions that a closed run computes by.
use Rattle.hip_types.specs.Bytes.{zeros}
use Rattle.hip_lines.specs.Line.{fresh_lines}
use Rattle.hip_runs.specs.Actions.{accessed, allocated, entered, flushing, instr_action, jump, end_action}
use Rattle.hip_runs.specs.Step.{leave, perform, carry_out, on_frames, on_ending, step, event, run}
use Rattle.hip_runs.specs.Found.Reports.{reports}
use Rattle.hip_runs.specs.Found.Marks.{pointed, hit}

-- A proof that unfolds this name unfolds all definitions that a closed run computes by. So it can compute the run of a
-- given program.
unfoldable pub run_opened : Unit {0}
unfolding
    zeros fresh_lines accessed allocated entered flushing instr_action jump end_action leave perform carry_out on_frames
    on_ending step event run reports pointed hit
run_opened = tt
