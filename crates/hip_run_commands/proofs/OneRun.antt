-- The files give one answer of `run`.
use Rattle.std.proofs.Common.{◌≡◌, ℕ, ℤ, List, is_some, sym, ap, ◌∙◌, subst}
use Rattle.hip_answers.specs.Answers.{Answer}
use Rattle.hip_runs.specs.Laws.OneEndLaws.{one_end, one_ending}
use Rattle.hip_answers.specs.Endings.{ending_line, status_of_ending}
use Rattle.hip_answers.specs.Same.{IsSameAnswer, pathless}
use Rattle.hip_run_commands.proofs.OneProgram.{one_answer, same_program}
use Rattle.hip_runs.specs.FirstInput.{first_input}
use Rattle.hip_run_commands.specs.RunLaws.{RunsAreOne}
use Rattle.hip_run_commands.specs.Run.{HasRun}
use Rattle.hip_io.specs.Cabinets.{CabinetState}
use Rattle.hip_io.specs.declared.cabinet.NamedFile.{NamedFile}
use Rattle.hip_tree.specs.declared.program.Program.{Program}
use Rattle.hip_program_files.specs.Laws.{LoadsOne}
use Rattle.hip_replay.specs.PrintedText.{IsPrinted}
use Rattle.hip_runs.specs.State.{State}
use Rattle.hip_runs.specs.declared.event.Ending.{Ending}
use Rattle.hip_runs.specs.declared.input.Input.{Input}
use Rattle.hip_types.specs.declared.limits.TheConstants.{LOWEST_BASE}

record PrintsOne (text more : List ℕ) (ending other : Ending) : Type 0 where
  text_is : text ≡ more
  ending_is : ending ≡ other

one_printed : (P : Program) (I : Input) (text more : List ℕ) (ending other : Ending) → IsPrinted P I text ending
    → IsPrinted P I more other → PrintsOne text more ending other
one_printed P I text more ending other p q =
    let same = one_end P I p.steps q.steps (ap is_some p.ended) (ap is_some q.ended) in
    record {
      text_is = p.is ∙ ap (λ (s : State). s.world.output) same ∙ sym q.is;
      ending_is = one_ending P I p.steps q.steps ending other p.ended q.ended;
    }

module _ (one : (files : List NamedFile) (name : List ℕ) → LoadsOne files name) (name : List ℕ) (limit : ℕ)
    (numbers : List ℤ) where
  both_run : (old new other other_new : CabinetState) (a b : Answer) → (u : HasRun old new name limit numbers a)
      → (v : HasRun other other_new name limit numbers b) → u.program ≡ v.program → IsSameAnswer a b
  both_run old new other other_new a b u v same =
      let printed : IsPrinted v.program (first_input v.program LOWEST_BASE limit numbers) a.out u.ending =
      subst (λ P. IsPrinted P (first_input P LOWEST_BASE limit numbers) a.out u.ending) same u.printed in
      let both = one_printed v.program (first_input v.program LOWEST_BASE limit numbers) a.out b.out u.ending v.ending
      printed v.printed in
      record {
        status = ap pathless (u.status_is ∙ ap status_of_ending both.ending_is ∙ sym v.status_is);
        out = both.text_is;
        notes = u.notes_is ∙ ap ending_line both.ending_is ∙ sym v.notes_is;
      }

pub one_run : ((files : List NamedFile) (name : List ℕ) → LoadsOne files name) → RunsAreOne
one_run one name limit numbers files old new other other_new a b e h =
    one_answer one files name old new other other_new e h (HasRun old new name limit numbers a)
    (HasRun other other_new name limit numbers b) a b (λ u. (u.program, u.loaded)) (λ v. (v.program, v.loaded))
    (λ u v. both_run one name limit numbers old new other other_new a b u v
    (same_program one files name old new other other_new e h u.program v.program u.loaded v.loaded))
