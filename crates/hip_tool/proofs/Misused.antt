-- What a call gives whose words are no order.
use Rattle.std.proofs.Common.{◌≡◌, Option, None, Err, refl, sym, subst}
use Rattle.hip_answers.specs.Answers.{HasAnswered, refusal, sinks}
use Rattle.hip_answers.specs.Fetches.{FetchesFiles}
use Rattle.hip_answers.specs.Laws.{refused}
use Rattle.hip_answers.specs.declared.status.Status.{Status}
use Rattle.hip_answers.specs.declared.status.Status.TheVariants as statuses
use Rattle.hip_command_io.specs.Results.{GivesResult}
use Rattle.hip_io.specs.Cabinets.{CabinetState}
use Rattle.hip_io.specs.Sinks.{SinkState}
use Rattle.hip_tool.proofs.SentOut.{misused}
use Rattle.hip_tool.specs.Call.{AnswersTo, begins, files_of}
use Rattle.hip_words.specs.declared.order.Order.{Order}

module _ (words : Option Order) (none : words ≡ None) (files : CabinetState) where
  row : AnswersTo words files files (refusal statuses.Usage)
  row =
      subst (λ (o : Option Order). AnswersTo o files files (refusal statuses.Usage)) (sym none)
      (record { met = refl; is = refl })

  pub no_order : {out : SinkState}
      → GivesResult (AnswersTo words files files) (begins words) files files out out (Err statuses.Usage)
  no_order {out} = record {
    answered = λ notes notes_new status w.
        subst (λ (x : Status). HasAnswered (AnswersTo words files files) (begins words) files files
        (sinks out out notes notes_new) x) (sym w.is)
        (refused (sinks out out notes notes_new) statuses.Usage refl row refl w.line);
  }

  pub no_order_fetched : FetchesFiles (files_of words) statuses.Usage files files
  no_order_fetched =
      subst (λ (o : Option Order). FetchesFiles (files_of o) statuses.Usage files files) (sym none) (misused files)
