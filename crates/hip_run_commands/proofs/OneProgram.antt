-- Two answers on the program of one file: the same refusal, or both have run the program.
use Rattle.std.proofs.Common.{◌≡◌, ℕ, List, Option, Some, sym, ap, subst, inl, inr}
use Rattle.std.specs.Prelude.{◌⊎◌}
use Rattle.hip_answers.specs.Answers.{Answer, refusal}
use Rattle.hip_answers.specs.Programs.{IsUnloaded, LacksProgram}
use Rattle.hip_answers.specs.Same.{IsSameAnswer}
use Rattle.hip_answers.specs.SameLaws.{same_refusal}
use Rattle.hip_answers.specs.Statuses.{status_of_refusal}
use Rattle.hip_answers.specs.declared.status.Status.TheVariants.{ReadFault}
use Rattle.hip_io.specs.Cabinets.{CabinetState}
use Rattle.hip_io.specs.declared.cabinet.NamedFile.{NamedFile}
use Rattle.hip_tree.specs.declared.program.Program.{Program}
use Rattle.hip_program_files.specs.Laws.{LoadsOne}
use Rattle.hip_program_files.specs.LoadedPrograms.{HasNoProgram, IsProgramOf}
use Rattle.hip_program_files.specs.declared.refusal.LoadRefusal.{LoadRefusal}

-- The file has a program.
abbrev pub HasLoaded : Option (List NamedFile) → List ℕ → Type 0
HasLoaded files name = (P : Program) × IsProgramOf files name P

module _ (one : (files : List NamedFile) (name : List ℕ) → LoadsOne files name) (files : List NamedFile) (name : List ℕ)
    (old new other other_new : CabinetState) (e : old.files ≡ Some files) (h : other.files ≡ Some files) where
  program_of : (f : Option (List NamedFile)) (P : Program) → f ≡ Some files → IsProgramOf f name P
      → IsProgramOf (Some files) name P
  program_of f P known p = subst (λ (x : Option (List NamedFile)). IsProgramOf x name P) known p

  refusal_of : (f : Option (List NamedFile)) (why : LoadRefusal) → f ≡ Some files → HasNoProgram f name why
      → HasNoProgram (Some files) name why
  refusal_of f why known p = subst (λ (x : Option (List NamedFile)). HasNoProgram x name why) known p

  pub same_program : (P Q : Program) → IsProgramOf old.files name P → IsProgramOf other.files name Q → P ≡ Q
  same_program P Q p q = (one files name).programs P Q (program_of old.files P e p) (program_of other.files Q h q)

  unloaded : (a b : Answer) → IsUnloaded old new name a → IsUnloaded other other_new name b → IsSameAnswer a b
  unloaded a b u v =
      let same = (one files name).refusals u.why v.why (refusal_of old.files u.why e u.cause)
      (refusal_of other.files v.why h v.cause) in
      subst (λ x. IsSameAnswer x b) (sym u.is) (subst (λ x. IsSameAnswer (refusal (status_of_refusal u.why)) x) (sym v.is)
      (same_refusal u.why v.why same))

  -- If both calls have no program, or both have run it, their answers are the same, unless one is a read fault.
  pub one_answer : (Did DidToo : Type 0) (a b : Answer) → (Did → HasLoaded old.files name)
      → (DidToo → HasLoaded other.files name) → (Did → DidToo → IsSameAnswer a b) → LacksProgram old new name a ⊎ Did
      → LacksProgram other other_new name b ⊎ DidToo
      → (a.status ≡ ReadFault) ⊎ ((b.status ≡ ReadFault) ⊎ IsSameAnswer a b)
  one_answer Did DidToo a b loaded too both (inl (inr u)) v = inl (ap (λ (x : Answer). x.status) u.is)
  one_answer Did DidToo a b loaded too both (inl (inl u)) (inl (inr v)) =
      inr (inl (ap (λ (x : Answer). x.status) v.is))
  one_answer Did DidToo a b loaded too both (inr u) (inl (inr v)) = inr (inl (ap (λ (x : Answer). x.status) v.is))
  one_answer Did DidToo a b loaded too both (inl (inl u)) (inl (inl v)) = inr (inr (unloaded a b u v))
  one_answer Did DidToo a b loaded too both (inr u) (inr v) = inr (inr (both u v))
  one_answer Did DidToo a b loaded too both (inl (inl u)) (inr v) =
      absurd ((one files name).excluded (too v).0 u.why (program_of other.files (too v).0 h (too v).1)
      (refusal_of old.files u.why e u.cause))
  one_answer Did DidToo a b loaded too both (inr u) (inl (inl v)) =
      absurd ((one files name).excluded (loaded u).0 v.why (program_of old.files (loaded u).0 e (loaded u).1)
      (refusal_of other.files v.why h v.cause))
