-- The files give one answer of `many`.
use Rattle.std.proofs.Common.{◌≡◌, ◌⊎◌, ◌++◌, ℕ, suc, List, [], ◌∷◌, length, map, Some, inl, inr, refl, sym, ap, ◌∙◌, subst}
use Rattle.std.proofs.lemmas.List.Elements.{All-cons, All-head, All-nil, All-tail}
use Rattle.std.specs.List.{All}
use Rattle.hip_answers.specs.Answers.{Answer, refusal}
use Rattle.hip_answers.specs.Same.{IsSameAnswer}
use Rattle.hip_answers.specs.SameLaws.{same_answer, same_refusal}
use Rattle.hip_answers.specs.Statuses as programs
use Rattle.hip_answers.specs.declared.status.Status.TheVariants as statuses
use Rattle.hip_io.specs.Cabinets.{CabinetState}
use Rattle.hip_io.specs.declared.cabinet.NamedFile.{NamedFile}
use Rattle.hip_grammar.specs.Show.{show}
use Rattle.hip_tree.specs.declared.program.Program.{Program}
use Rattle.hip_program_files.specs.Laws.OneAnswer.{loads_one}
use Rattle.hip_program_files.specs.Laws.{LoadsOne}
use Rattle.hip_program_files.specs.LoadedPrograms.{HasNoProgram, IsProgramOf}
use Rattle.hip_program_files.specs.declared.refusal.LoadRefusal.{LoadRefusal}
use Rattle.hip_many.specs.Reasons.{reasons}
use Rattle.hip_many.specs.Union.{IsUnion}
use Rattle.hip_repair_commands.specs.ManyLaws.{ManyAreOne}
use Rattle.hip_repair_commands.specs.Many.{HasRepairedMany, ManyAnswers, status_in}
use Rattle.hip_repairs.specs.Direct.{direct}
use Rattle.hip_repairs.specs.Repaired.{repaired}
use Rattle.hip_command_io.specs.Notes.{many_notes}
use Rattle.hip_repair_commands.specs.ManyRunLaws.{heads, one_runs, tails}
use Rattle.hip_repair_commands.specs.ManyRuns.{AreRunsOf, IsAfterRuns, IsRunOf, TracedRun, plans_of, reports_of}
use Rattle.hip_repair_answers.specs.Laws.Repairs.{answer_is}
use Rattle.hip_answers.specs.TraceFiles.{HasNoTrace, IsTraceFile}
use Rattle.hip_answers.specs.TraceLaws.{never_both, untraced_once}
use Rattle.hip_answers.specs.declared.refusal.TraceFileRefusal.{TraceFileRefusal}
use Rattle.hip_repairs.specs.CloneNumbers.{clone_numbers}
use Rattle.hip_repairs.specs.declared.plan.Plan.{Plan}
use Rattle.hip_runs.specs.declared.input.Input.{Input}

-- ---- the first that is no trace of a run

module _ (files : List NamedFile) (P : Program) where
  -- The file of that name is the trace of a run of the program.
  pub record IsTraced (name : List ℕ) : Type 0 where
    input : Input
    is : IsTraceFile files name P input

  traced_list : (rs : List TracedRun) → All (IsRunOf (Some files) P) rs
      → All IsTraced (map (λ (r : TracedRun). r.name) rs)
  traced_list [] h = All-nil IsTraced
  traced_list (r ∷ rs) h =
      let run = All-head (IsRunOf (Some files) P) r rs h in
      All-cons IsTraced r.name _ (record { input = r.input; is = run.traced })
      (traced_list rs (All-tail (IsRunOf (Some files) P) r rs h))

  all_traced : (names : List (List ℕ)) (rs : List TracedRun) → AreRunsOf (Some files) P names rs → All IsTraced names
  all_traced names rs are = subst (λ (ns : List (List ℕ)). All IsTraced ns) are.named (traced_list rs are.each)

  apart : (name : List ℕ) (why : TraceFileRefusal) → HasNoTrace (Some files) name P why → IsTraced name → ⊥
  apart name why h t = never_both files name P why t.input h t.is

  among : (before after : List (List ℕ)) (name : List ℕ) (why : TraceFileRefusal) → HasNoTrace (Some files) name P why
      → All IsTraced (before ++ name ∷ after) → ⊥
  among [] after name why h all = apart name why h (All-head IsTraced name after all)
  among (x ∷ xs) after name why h all = among xs after name why h (All-tail IsTraced x (xs ++ name ∷ after) all)

  -- The two names are the same, and so are the names before each of them.
  pub record SamePlace (before before' : List (List ℕ)) (name name' : List ℕ) : Type 0 where
    pub fronts : before ≡ before'
    pub names : name ≡ name'

  one_place : (before before' after after' : List (List ℕ)) (name name' : List ℕ) (why why' : TraceFileRefusal)
      → HasNoTrace (Some files) name P why → HasNoTrace (Some files) name' P why' → All IsTraced before
      → All IsTraced before' → before ++ name ∷ after ≡ before' ++ name' ∷ after'
      → SamePlace before before' name name'
  one_place [] [] after after' name name' why why' h k t u e =
      record { fronts = refl; names = heads name name' after after' e }
  one_place [] (x ∷ xs) after after' name name' why why' h k t u e =
      absurd (apart x why (subst (λ n. HasNoTrace (Some files) n P why) (heads name x after (xs ++ name' ∷ after') e) h)
      (All-head IsTraced x xs u))
  one_place (x ∷ xs) [] after after' name name' why why' h k t u e =
      absurd (apart x why' (subst (λ n. HasNoTrace (Some files) n P why') (sym (heads x name' (xs ++ name ∷ after) after' e)) k)
      (All-head IsTraced x xs t))
  one_place (x ∷ xs) (y ∷ ys) after after' name name' why why' h k t u e =
      let first = heads x y (xs ++ name ∷ after) (ys ++ name' ∷ after') e in
      let later =
      one_place xs ys after after' name name' why why' h k (All-tail IsTraced x xs t) (All-tail IsTraced y ys u)
      (tails x y (xs ++ name ∷ after) (ys ++ name' ∷ after') e) in
      record { fronts = (λ i. first i ∷ later.fronts i); names = later.names }

-- ---- the answers on files that are known

pub record Unloaded (files : List NamedFile) (p : List ℕ) (a : Answer) : Type 0 where
  why : LoadRefusal
  cause : HasNoProgram (Some files) p why
  is : a ≡ refusal (programs.status_of_refusal why)

pub record Untraced (files : List NamedFile) (p : List ℕ) (names : List (List ℕ)) (a : Answer) : Type 0 where
  program : Program
  loaded : IsProgramOf (Some files) p program
  number : ℕ
  name : List ℕ
  follows : IsAfterRuns (Some files) program names number name
  why : TraceFileRefusal
  cause : HasNoTrace (Some files) name program why
  is : a ≡ refusal (status_in number why)

pub record Carried (files : List NamedFile) (p : List ℕ) (names : List (List ℕ)) (a : Answer) : Type 0 where
  program : Program
  loaded : IsProgramOf (Some files) p program
  runs : List TracedRun
  are : AreRunsOf (Some files) program names runs
  texts : HasRepairedMany program runs a

pub data View (files : List NamedFile) (p : List ℕ) (names : List (List ℕ)) (a : Answer) : Type 0 where
  Faulted : a.status ≡ statuses.ReadFault → View files p names a
  IsUnloaded : Unloaded files p a → View files p names a
  IsUntraced : Untraced files p names a → View files p names a
  IsCarried : Carried files p names a → View files p names a

-- Plans have only one union.
abbrev UnionsAreOne : Type 0
UnionsAreOne = (plans : List Plan) (a b : Plan) → IsUnion plans a → IsUnion plans b → a ≡ b

alike : UnionsAreOne → (P : Program) (runs : List TracedRun) (a b : Answer) → HasRepairedMany P runs a
    → HasRepairedMany P runs b → a ≡ b
alike unions P runs a b x y =
    let plan = unions (plans_of P runs) x.plan y.plan x.union y.union in
    answer_is b (x.status_is ∙ sym y.status_is)
    (x.out_is ∙ ap (λ (q : Plan). show (repaired P q (direct P))) plan ∙ sym y.out_is)
    (x.notes_is
    ∙ ap (λ (q : Plan). many_notes P (length runs) (reports_of runs) q (length (clone_numbers P q))
    (reasons (plans_of P runs) q)) plan
    ∙ sym y.notes_is)

module _ (unions : UnionsAreOne) (files : List NamedFile) (p : List ℕ) (names : List (List ℕ)) where
  view : (old new : CabinetState) (a : Answer) → old.files ≡ Some files → ManyAnswers old new p names a
      → View files p names a
  view old new a known (inl u) = IsUnloaded (record {
    why = u.why;
    cause = subst (λ fs. HasNoProgram fs p u.why) known u.cause;
    is = u.is;
  })
  view old new a known (inr (inl u)) = Faulted (ap (λ (x : Answer). x.status) u.is)
  view old new a known (inr (inr (inl u))) = IsUntraced (record {
    program = u.program;
    loaded = subst (λ fs. IsProgramOf fs p u.program) known u.loaded;
    number = u.number;
    name = u.name;
    follows = subst (λ fs. IsAfterRuns fs u.program names u.number u.name) known u.follows;
    why = u.why;
    cause = subst (λ fs. HasNoTrace fs u.name u.program u.why) known u.cause;
    is = u.is;
  })
  view old new a known (inr (inr (inr (inl u)))) = Faulted (ap (λ (x : Answer). x.status) u.is)
  view old new a known (inr (inr (inr (inr d)))) = IsCarried (record {
    program = d.program;
    loaded = subst (λ fs. IsProgramOf fs p d.program) known d.loaded;
    runs = d.runs;
    are = subst (λ fs. AreRunsOf fs d.program names d.runs) known d.are;
    texts = d.texts;
  })

  one : LoadsOne files p
  one = loads_one files p

  two_untraced : (a b : Answer) → Untraced files p names a → Untraced files p names b → IsSameAnswer a b
  two_untraced a b u v =
      let P = u.program in
      let same = one.programs v.program P v.loaded u.loaded in
      let follows = subst (λ (Q : Program). IsAfterRuns (Some files) Q names v.number v.name) same v.follows in
      let cause = subst (λ (Q : Program). HasNoTrace (Some files) v.name Q v.why) same v.cause in
      let place = one_place files P u.follows.before follows.before u.follows.after follows.after u.name v.name u.why v.why
      u.cause cause (all_traced files P u.follows.before u.follows.runs u.follows.are)
      (all_traced files P follows.before follows.runs follows.are) (sym u.follows.names_are ∙ follows.names_are) in
      let why = untraced_once files v.name P u.why v.why
      (subst (λ (n : List ℕ). HasNoTrace (Some files) n P u.why) place.names u.cause) cause in
      let number : u.number ≡ v.number =
      u.follows.number_is ∙ ap (λ (ns : List (List ℕ)). suc (length ns)) place.fronts ∙ sym follows.number_is in
      same_answer (u.is ∙ ap (λ n. refusal (status_in n u.why)) number ∙ ap (λ w. refusal (status_in v.number w)) why
      ∙ sym v.is)

  untraced_carried : (a b : Answer) → Untraced files p names a → Carried files p names b → ⊥
  untraced_carried a b u d =
      let same = one.programs d.program u.program d.loaded u.loaded in
      let are = subst (λ (Q : Program). AreRunsOf (Some files) Q names d.runs) same d.are in
      among files u.program u.follows.before u.follows.after u.name u.why u.cause
      (subst (λ (ns : List (List ℕ)). All (IsTraced files u.program) ns) u.follows.names_are
      (all_traced files u.program names d.runs are))

  two_carried : (a b : Answer) → Carried files p names a → Carried files p names b → a ≡ b
  two_carried a b c d =
      let same = one.programs d.program c.program d.loaded c.loaded in
      let runs = one_runs files c.program names d.runs c.runs
      (subst (λ (Q : Program). AreRunsOf (Some files) Q names d.runs) same d.are) c.are in
      alike unions c.program c.runs a b c.texts
      (subst (λ (rs : List TracedRun). HasRepairedMany c.program rs b) runs
      (subst (λ (Q : Program). HasRepairedMany Q d.runs b) same d.texts))

  two : (a b : Answer) → View files p names a → View files p names b
      → (a.status ≡ statuses.ReadFault) ⊎ ((b.status ≡ statuses.ReadFault) ⊎ IsSameAnswer a b)
  two a b (Faulted e) v = inl e
  two a b (IsUnloaded u) (Faulted e) = inr (inl e)
  two a b (IsUntraced u) (Faulted e) = inr (inl e)
  two a b (IsCarried u) (Faulted e) = inr (inl e)
  two a b (IsUnloaded u) (IsUnloaded v) =
      inr (inr (subst (λ x. IsSameAnswer x b) (sym u.is)
      (subst (λ y. IsSameAnswer (refusal (programs.status_of_refusal u.why)) y) (sym v.is)
      (same_refusal u.why v.why (one.refusals u.why v.why u.cause v.cause)))))
  two a b (IsUnloaded u) (IsUntraced v) = absurd (one.excluded v.program u.why v.loaded u.cause)
  two a b (IsUnloaded u) (IsCarried v) = absurd (one.excluded v.program u.why v.loaded u.cause)
  two a b (IsUntraced v) (IsUnloaded u) = absurd (one.excluded v.program u.why v.loaded u.cause)
  two a b (IsCarried v) (IsUnloaded u) = absurd (one.excluded v.program u.why v.loaded u.cause)
  two a b (IsUntraced u) (IsUntraced v) = inr (inr (two_untraced a b u v))
  two a b (IsUntraced u) (IsCarried v) = absurd (untraced_carried a b u v)
  two a b (IsCarried v) (IsUntraced u) = absurd (untraced_carried b a u v)
  two a b (IsCarried c) (IsCarried d) = inr (inr (same_answer (two_carried a b c d)))

pub many_are_one : UnionsAreOne → ManyAreOne
many_are_one unions p names files old new other other_new a b known known' x y =
    two unions files p names a b (view unions files p names old new a known x)
    (view unions files p names other other_new b known' y)
