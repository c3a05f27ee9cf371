-- The text of a run's trace is the trace of the run.
use Rattle.std.proofs.Common.{◌≡◌, true, List, sym, ap, ◌∙◌, subst}
use Rattle.std.specs.Prelude.{All}
use Rattle.hip_tree.specs.declared.program.Program.{Program}
use Rattle.hip_runs.specs.Step.{header_entries}
use Rattle.hip_runs.specs.Validity.{IsInput, IsValid}
use Rattle.hip_runs.specs.declared.input.Input.{Input}
use Rattle.hip_run_traces.specs.Headers.{header}
use Rattle.hip_run_traces.specs.Laws.HeaderLaws.{header-trace}
use Rattle.hip_run_traces.specs.Laws.RangeLaws.{trace_fits}
use Rattle.hip_run_traces.specs.Misfits.{IsTraceOf}
use Rattle.hip_run_traces.specs.Traces.{IsTrace, stated}
use Rattle.hip_trace.specs.Laws.WrittenLaws.{read_back}
use Rattle.hip_trace.specs.Fits.{ValuesFit}
use Rattle.hip_trace.specs.Pieces.{spelled}
use Rattle.hip_trace.specs.Texts.{lines_of}
use Rattle.hip_trace.specs.declared.entry.Entry.{Entry}
use Rattle.hip_sound.specs.Sound.{IsSound}

pub written-trace : (P : Program) → IsSound P → (I : Input) → IsInput I → IsValid P I → (es : List Entry)
    → IsTrace P I es → IsTraceOf P (lines_of es) I
written-trace P sound I input valid es t =
    let fits = subst (All ValuesFit) (sym t.are) (trace_fits P I sound valid input t.steps) in
    let spells : spelled true (lines_of es) ≡ stated es = read_back es fits in
    record {
      entries = header_entries I;
      header_is = ap (header P) (spells ∙ ap stated t.are) ∙ header-trace P I valid t.steps;
      trace = es;
      is_trace = t;
      spells = spells;
    }
