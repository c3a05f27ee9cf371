-- How many steps and entries a run has at most.
use Rattle.std.specs.Prelude.{ℕ, suc, ◌+◌, ◌*◌, ◌/◌, ◌≤◌, ◌<◌, ◌^◌, length}
use Rattle.hip_tree.specs.declared.program.Program.{Program}
use Rattle.hip_types.specs.declared.areas.TheConstants.{LINE_SIZE}
use Rattle.hip_runs.specs.declared.input.Input.{Input}
use Rattle.hip_runs.specs.Ends.{longest}
use Rattle.hip_runs.specs.Step.{header_entries, run}

-- What is true after n steps of a run. There are at most as many steps as the limit of turns plus one, times the length
-- of the longest body plus one. Each step has at most one entry, after those of the header: two, one for each number,
-- and at most one for each cache line. (This project's own.)
pub record IsBounded (P : Program) (I : Input) (n : ℕ) : Type 0 where
  pub steps : (run P I n).counts.steps ≤ suc I.limit * suc (longest P)
  pub entries : (run P I n).counts.entries ≤ header_entries I + (run P I n).counts.steps
  pub header : header_entries I ≤ 2 + length I.numbers + length I.image / LINE_SIZE

-- The counts of a run are numbers of 128 bits. This is so if no body has 2^64 instructions.
pub record CountsFit (P : Program) (I : Input) (n : ℕ) : Type 0 where
  pub steps : (run P I n).counts.steps < 2 ^ 128
  pub entries : (run P I n).counts.entries < 2 ^ 128
