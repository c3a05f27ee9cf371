-- A machine at the start of its run.
use Rattle.std.specs.Prelude.{◌≡◌, ℕ, length}
use Rattle.hip_run_traces.specs.Traces.{header_of}
use Rattle.hip_runs.specs.Seen.{Seen}
use Rattle.hip_runs.specs.Validity.{IsValid}

-- The machine's input is valid, it has taken no step, and its trace has this many entries, those of the header.
pub record IsAtStart (m : Seen) (entries : ℕ) : Type 0 where
  pub valid : IsValid m.program m.input
  pub fresh : m.taken ≡ 0
  pub counted : entries ≡ length (header_of m.input)
