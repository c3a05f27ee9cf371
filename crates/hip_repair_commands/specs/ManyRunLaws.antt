-- The files that are known under these names have at most one list of runs.
use Rattle.std.specs.Prelude.{ℕ, ◌≡◌, List, [], ◌∷◌, map, Some}
use Rattle.std.specs.List.{All}
use Rattle.std.proofs.Common.{refl, sym, ◌∙◌, subst}
use Rattle.std.proofs.lemmas.List.Elements.{All-head, All-tail}
use Rattle.hip_answers.specs.TraceFiles.{IsTraceFile}
use Rattle.hip_answers.specs.TraceLaws.{same_trace}
use Rattle.hip_io.specs.declared.cabinet.NamedFile.{NamedFile}
use Rattle.hip_repair_commands.specs.ManyRuns.{AreRunsOf, IsRunOf, TracedRun}
use Rattle.hip_runs.specs.Found.Marks.{IsFound}
use Rattle.hip_runs.specs.Laws.Found.FoundLaws.{found_is_one}
use Rattle.hip_runs.specs.declared.input.Input.{Input}
use Rattle.hip_tree.specs.declared.program.Program.{Program}

pub heads : {A : Type 0} (x y : A) (xs ys : List A) → x ∷ xs ≡ y ∷ ys → x ≡ y
heads x y xs ys e = cc

pub tails : {A : Type 0} (x y : A) (xs ys : List A) → x ∷ xs ≡ y ∷ ys → xs ≡ ys
tails x y xs ys e = cc

module _ (files : List NamedFile) (P : Program) where
  one_run : (r q : TracedRun) → r.name ≡ q.name → IsRunOf (Some files) P r → IsRunOf (Some files) P q
      → r ≡ q
  one_run r q named x y =
      let input = same_trace files q.name P r.input q.input
      (subst (λ (n : List ℕ). IsTraceFile files n P r.input) named x.traced) y.traced in
      let found = found_is_one P q.input r.found q.found
      (subst (λ (I : Input). IsFound P I r.found) input x.found_is) y.found_is in
      λ i. record { name = named i; input = input i; found = found i }

  one_list : (rs qs : List TracedRun) → map (λ (r : TracedRun). r.name) rs ≡ map (λ (r : TracedRun). r.name) qs
      → All (IsRunOf (Some files) P) rs → All (IsRunOf (Some files) P) qs → rs ≡ qs
  one_list [] [] e h k = refl
  one_list [] (q ∷ qs) e h k = absurd (let z : ⊥ = cc in z)
  one_list (r ∷ rs) [] e h k = absurd (let z : ⊥ = cc in z)
  one_list (r ∷ rs) (q ∷ qs) e h k =
      let is = IsRunOf (Some files) P in
      let first = one_run r q (heads r.name q.name _ _ e) (All-head is r rs h) (All-head is q qs k) in
      let rest = one_list rs qs (tails r.name q.name _ _ e) (All-tail is r rs h) (All-tail is q qs k) in
      λ i. first i ∷ rest i

  pub one_runs : (names : List (List ℕ)) (rs qs : List TracedRun) → AreRunsOf (Some files) P names rs
      → AreRunsOf (Some files) P names qs → rs ≡ qs
  one_runs names rs qs x y = one_list rs qs (x.named ∙ sym y.named) x.each y.each
