-- What is shown of the generated program, as a result of `demo`.
use Rattle.std.proofs.Common.{ℕ, [], false, Err, Ok, refl}
use Rattle.hip_answers.specs.Answers.{Answer}
use Rattle.hip_answers.specs.declared.status.Status.TheVariants as statuses
use Rattle.hip_command_io.specs.Results.{GivesResult}
use Rattle.hip_command_io.specs.StageLaws.{wrote_part, wrote_whole}
use Rattle.hip_command_io.specs.declared.counts.Counts.TheVariants as results
use Rattle.hip_demo.specs.Demo.{DemoAnswers, HasShown, demo_input, demo_text}
use Rattle.hip_demo.specs.declared.shown.Shown.{Shown}
use Rattle.hip_gen.specs.Generated.{generated_program}
use Rattle.hip_gen.specs.Read.{IsReadAsSound}
use Rattle.hip_io.specs.Cabinets.{CabinetState}
use Rattle.hip_io.specs.Sinks.{AppendsAll, AppendsPrefix, SinkState}

abbrev answer_of : ℕ → ℕ → Shown → Answer
answer_of seed size shown = record { status = statuses.Done; out = demo_text seed size shown; notes = [] }

module _ (seed size : ℕ) (generated : IsReadAsSound seed size) (files : CabinetState) where
  row : (shown : Shown) → HasShown (generated_program seed size) (demo_input seed size) shown
      → DemoAnswers seed size files files (answer_of seed size shown)
  row shown h = record {
    met = refl;
    generated = generated;
    shown = shown;
    has_shown = h;
    status_is = refl;
    out_is = refl;
    notes_is = refl;
  }

  pub shown_whole : {out out_new : SinkState} (shown : Shown) → HasShown (generated_program seed size) (demo_input seed size) shown
      → AppendsAll out out_new (demo_text seed size shown)
      → GivesResult (DemoAnswers seed size files files) false files files out out_new (Ok results.Nothing)
  shown_whole shown h whole = wrote_whole (answer_of seed size shown) (row shown h) results.Nothing refl refl refl whole

  pub was_cut : {out out_new : SinkState} (shown : Shown) → HasShown (generated_program seed size) (demo_input seed size) shown
      → AppendsPrefix out out_new (demo_text seed size shown)
      → GivesResult (DemoAnswers seed size files files) false files files out out_new (Err statuses.WriteFault)
  was_cut shown h part = wrote_part (answer_of seed size shown) (row shown h) refl part
