-- Equal answers are the same, and so are refusals of a program that differ in a path alone.
use Rattle.std.specs.Prelude.{◌≡◌}
use Rattle.std.proofs.Common.{refl, sym, ap, ◌∙◌}
use Rattle.hip_answers.specs.Answers.{Answer, refusal}
use Rattle.hip_answers.specs.Lines.{fault_words, form_refusal, line_of}
use Rattle.hip_answers.specs.Same.{IsSameAnswer, pathless}
use Rattle.hip_answers.specs.Statuses.{status_of_refusal}
use Rattle.hip_program_files.specs.Laws.{without_path, without_paths}
use Rattle.hip_program_files.specs.declared.refusal.LoadRefusal.{LoadRefusal}
use Rattle.hip_program_files.specs.declared.refusal.LoadRefusal.TheVariants as loads
use Rattle.hip_program_files.specs.declared.refusal.ProgramRefusal.TheVariants as refusals
use Rattle.hip_sound.specs.declared.fault.TypeFault.{TypeFault}
use Rattle.hip_sound.specs.declared.fault.TypeFault.TheVariants as faults

pub same_answer : {a b : Answer} → a ≡ b → IsSameAnswer a b
same_answer e = record {
  status = ap (λ (x : Answer). pathless x.status) e;
  out = ap (λ (x : Answer). x.out) e;
  notes = ap (λ (x : Answer). x.notes) e;
}

same_words : (fault : TypeFault) → fault_words fault ≡ fault_words (without_path fault)
same_words (faults.Unassigned path) = refl
same_words _ = refl

-- The line of a refusal does not show the path.
line_is : (why : LoadRefusal) → line_of (status_of_refusal why) ≡ line_of (status_of_refusal (without_paths why))
unfolding line_of
line_is loads.Missing = refl
line_is loads.TooLarge = refl
line_is (loads.Bad (refusals.Text why)) = refl
line_is (loads.Bad (refusals.Form why)) = ap (λ words. form_refusal words why.place) (same_words why.fault)

status_is : (why : LoadRefusal) → pathless (status_of_refusal why) ≡ status_of_refusal (without_paths why)
status_is loads.Missing = refl
status_is loads.TooLarge = refl
status_is (loads.Bad (refusals.Text why)) = refl
status_is (loads.Bad (refusals.Form why)) = refl

pub same_refusal : (why other : LoadRefusal) → without_paths why ≡ without_paths other
    → IsSameAnswer (refusal (status_of_refusal why)) (refusal (status_of_refusal other))
same_refusal why other e = record {
  status = status_is why ∙ ap status_of_refusal e ∙ sym (status_is other);
  out = refl;
  notes = line_is why ∙ ap (λ (w : LoadRefusal). line_of (status_of_refusal w)) e ∙ sym (line_is other);
}
