use Rattle.std.proofs.lemmas.List.Elements.{All-weaker}
use Rattle.hip_run_traces.specs.Traces.{trace}
use Rattle.hip_trace.specs.Laws.FitLaws.{fits_spelled}
use Rattle.hip_trace.specs.Fits.{IsSpelled, ValuesFit}
use Rattle.hip_run_traces.specs.Laws.RangeLaws.{trace_fits}
use Rattle.hip_run_traces.proofs.laws.trace_entries_are_spelled.Goals as goal

pub returns-clause-fit : goal.returns-clause-fit
returns-clause-fit c = λ P sound I input valid n. trace_fits P I sound valid input n

pub returns-clause-spelled : goal.returns-clause-spelled
returns-clause-spelled c = λ P sound I input valid n. All-weaker ValuesFit IsSpelled fits_spelled (trace P I n) (trace_fits P I sound valid input n)
