-- What each order answers if nothing fails, and the headline.
use Rattle.std.proofs.Common.{◌≡◌, inl, inr, ℕ, List, [], ◌∷◌, Option, Some, sym, subst}
use Rattle.std.specs.List.{All}
use Rattle.std.proofs.lemmas.List.Elements.{All-head, All-tail}
use Rattle.hip_answers.specs.Answers.{Answer, HasAnswered, Sinks}
use Rattle.hip_answers.specs.declared.status.Status.{Status}
use Rattle.hip_run_commands.specs.Crash.{CrashTexts}
use Rattle.hip_io.specs.Cabinets.{CabinetState}
use Rattle.hip_io.specs.declared.cabinet.NamedFile.{NamedFile}
use Rattle.hip_repair_commands.specs.ManyLaws.{ManyAreAnswered, ManyAreOne}
use Rattle.hip_repair_commands.specs.ManyRuns.{IsRunOf, TracedRun}
use Rattle.hip_repair_answers.specs.Answers.{HasChecked, HasRepaired, HasRerun}
use Rattle.hip_runs.specs.Found.Marks.{IsFound}
use Rattle.hip_runs.specs.StoredParts.Parts.{In}
use Rattle.hip_runs.specs.Validity.{IsValid}
use Rattle.hip_runs.specs.declared.input.Input.{Input}
use Rattle.hip_sound.specs.Sound.{IsSound}
use Rattle.hip_repair_commands.specs.Thin.{HasThinned}
use Rattle.hip_tool.proofs.CheckedBytes as checks
use Rattle.hip_tool.proofs.OnFiles.{on_run, records, runs, runs_done}
use Rattle.hip_tool.proofs.Repairs as repairs
use Rattle.hip_tool.proofs.WhatIsAnswered.{gives}
use Rattle.hip_tool.specs.Call.{AnswersTo, begins}
use Rattle.hip_tool.specs.Checks.{HasCheckedBytes}
use Rattle.hip_tool.specs.Headline.{Headline, CallEnds, IsCallOfWords, OfRun, OrdersAreAnswered}
use Rattle.hip_tree.specs.declared.program.Program.{Program}
use Rattle.hip_words.specs.Laws.{FilesArePlain}
use Rattle.hip_words.specs.Order.{order}
use Rattle.hip_words.specs.declared.order.Order.{Order}
use Rattle.hip_words.specs.declared.order.Order.TheVariants.{Repair}

-- Each traced run has a valid input, and found what it found.
run_there : (files : Option (List NamedFile)) (P : Program) (rs : List TracedRun) → All (IsRunOf files P) rs
    → (r : TracedRun) → In r rs → IsValid P r.input × IsFound P r.input r.found
run_there files P [] all r i = absurd i
run_there files P (q ∷ rs) all r (inl same) =
    let h = All-head (IsRunOf files P) q rs all in
    subst (λ (x : TracedRun). IsValid P x.input × IsFound P x.input x.found) (sym same) (h.valid, h.found_is)
run_there files P (q ∷ rs) all r (inr i) = run_there files P rs (All-tail (IsRunOf files P) q rs all) r i

-- What a run found, with what the bytes that it checks say.
checked : (by : checks.Cited) (P : Program) (I : Input) → IsSound P → IsValid P I → (a : Answer) → OfRun HasChecked P I a
    → OfRun HasCheckedBytes P I a
checked by P I sound valid a h = (h.0, h.1, checks.checked_bytes by P I h.0 h.1 sound valid a h.2)

module _ (by : repairs.Cited) (bytes : checks.Cited) (one : ManyAreOne) (answered : ManyAreAnswered) where
  pub all_orders : OrdersAreAnswered
  all_orders = record {
    programs = λ files p P old new s status stated given. record {
      run = λ limit numbers call.
          gives old new s call.nothing _ _ _ status
          (λ a h. runs files p P given old new s stated call.nothing limit numbers a h) call.answered;
      recorded = λ base limit numbers call.
          gives old new s call.nothing _ _ _ status
          (λ a h. records files p P given old new s stated call.nothing base limit numbers a h) call.answered;
      many = λ names rs are call.
          gives old new s call.nothing _ _ _ status
          (λ a h. repairs.of_many by P given.sound rs a (run_there (Some files) P rs are.each)
          (runs_done files p P given old new s stated call.nothing one answered names rs are a h)) call.answered;
    };
    traces = λ files p t P I old new s status stated given trace.
        let valid = checks.traced_valid files t P I trace in
        record {
          check = λ call.
              gives old new s call.nothing _ _ _ status
              (λ a h. checked bytes P I given.sound valid a
              (on_run files p P given old new s stated call.nothing t I trace HasChecked a h)) call.answered;
          repair = λ call.
              gives old new s call.nothing _ _ _ status
              (λ a h. repairs.of_repair by P given.sound I a valid
              (on_run files p P given old new s stated call.nothing t I trace HasRepaired a h)) call.answered;
          rerun = λ call.
              gives old new s call.nothing _ _ _ status
              (λ a h. on_run files p P given old new s stated call.nothing t I trace HasRerun a h) call.answered;
          thin = λ call.
              gives old new s call.nothing _ _ _ status
              (λ a h. repairs.of_thin by P given.sound I a valid
              (on_run files p P given old new s stated call.nothing t I trace HasThinned a h)) call.answered;
          crash = λ entry picks call.
              gives old new s call.nothing _ _ _ status
              (λ a h. on_run files p P given old new s stated call.nothing t I trace (CrashTexts entry picks) a h)
              call.answered;
        };
    demo = λ seed size old new s status call. gives old new s call.nothing _ _ _ status (λ a h. h) call.answered;
  }

-- The call of some words is a call for the order that they give.
call_of : (words : List (List ℕ)) (o : Order) → order words ≡ Some o → (old new : CabinetState) (s : Sinks)
    (status : Status) → IsCallOfWords words old new s status → CallEnds o old new s status
call_of words o is old new s status call = record {
  answered = subst (λ (x : Option Order). HasAnswered (AnswersTo x old new) (begins x) old new s status) is call.answered;
  nothing = call.nothing;
}

pub the_headline : OrdersAreAnswered → FilesArePlain → Headline
the_headline orders plain files p t P I old new s status stated given trace is_p is_t call =
    (orders.traces files p t P I old new s status stated given trace).repair
    (call_of _ (Repair p t) (plain p t is_p is_t).1 old new s status call)
