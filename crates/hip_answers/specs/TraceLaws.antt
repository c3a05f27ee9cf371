-- A known file is the trace of at most one run of a program, and if it is the trace of none, there is one reason.
use Rattle.std.specs.Prelude.{ℕ, ◌≡◌, true, List, Some}
use Rattle.std.proofs.Common.{refl, sym, ◌∙◌, subst}
use Rattle.hip_answers.specs.TraceFiles.{HasNoTrace, IsTraceFile}
use Rattle.hip_answers.specs.declared.refusal.TraceFileRefusal.{TraceFileRefusal}
use Rattle.hip_answers.specs.declared.refusal.TraceFileRefusal.TheVariants as traces
use Rattle.hip_io.specs.Cabinets.{file_of}
use Rattle.hip_io.specs.declared.cabinet.NamedFile.{NamedFile}
use Rattle.hip_program_files.specs.Laws.OneAnswer.{not_there, same_bytes}
use Rattle.hip_run_traces.specs.Headers.{Gives}
use Rattle.hip_run_traces.specs.Laws.MisfitLaws.{no-misfit, one-misfit}
use Rattle.hip_run_traces.specs.Misfits.{IsMisfit, IsTraceOf}
use Rattle.hip_run_traces.specs.declared.misfit.MisfitKind.{MisfitKind}
use Rattle.hip_runs.specs.declared.input.Input.{Input}
use Rattle.hip_tree.specs.declared.program.Program.{Program}

-- A trace is the trace of one input.
pub one_input : (P : Program) (bytes : List ℕ) (I J : Input) → IsTraceOf P bytes I → IsTraceOf P bytes J
    → I ≡ J
one_input P bytes I J t u = let same : Gives t.entries I ≡ Gives u.entries J = sym t.header_is ∙ u.header_is in cc

module _ (files : List NamedFile) (t : List ℕ) where
  pub untraced_once : (P : Program) (why other : TraceFileRefusal) → HasNoTrace (Some files) t P why
      → HasNoTrace (Some files) t P other → why ≡ other
  untraced_once P traces.Missing traces.Missing h k = refl
  untraced_once P traces.Missing (traces.Misfit e k) h m = absurd (not_there (file_of files t) m.bytes m.found h)
  untraced_once P (traces.Misfit e k) traces.Missing m h = absurd (not_there (file_of files t) m.bytes m.found h)
  untraced_once P (traces.Misfit e k) (traces.Misfit e' k') m n =
      let bytes = same_bytes (file_of files t) n.bytes m.bytes n.found m.found in
      let same = one-misfit P m.bytes true e e' k k' m.misfit
      (subst (λ bs. IsMisfit P bs true e' k') bytes n.misfit) in
      made same.0 same.1
    where
      made : {x y : ℕ} {u v : MisfitKind} → x ≡ y → u ≡ v → traces.Misfit x u ≡ traces.Misfit y v
      made a b = cc

  pub never_both : (P : Program) (why : TraceFileRefusal) (I : Input) → HasNoTrace (Some files) t P why
      → IsTraceFile files t P I → ⊥
  never_both P traces.Missing I h d = not_there (file_of files t) d.bytes d.found h
  never_both P (traces.Misfit e k) I m d =
      let bytes = same_bytes (file_of files t) m.bytes d.bytes m.found d.found in
      no-misfit P d.bytes I e k d.trace (subst (λ bs. IsMisfit P bs true e k) bytes m.misfit)

  pub same_trace : (P : Program) (I J : Input) → IsTraceFile files t P I → IsTraceFile files t P J → I ≡ J
  same_trace P I J d e =
      let bytes = same_bytes (file_of files t) e.bytes d.bytes e.found d.found in
      one_input P d.bytes I J d.trace (subst (λ bs. IsTraceOf P bs J) bytes e.trace)
