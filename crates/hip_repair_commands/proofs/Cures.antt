-- What the repair for many runs does.
use Rattle.std.proofs.Common.{ℕ, Bool, List, [], ◌∷◌, Option, inl, inr, refl}
use Rattle.std.proofs.lemmas.List.Elements.{All-cons, All-head, All-nil, All-tail}
use Rattle.std.specs.List.{All}
use Rattle.hip_io.specs.declared.cabinet.NamedFile.{NamedFile}
use Rattle.hip_tree.specs.declared.program.Program.{Program}
use Rattle.hip_tree.specs.declared.site.Site.{Site}
use Rattle.hip_repair_commands.specs.ManyRuns.{AreRunsOf, IsRunOf, TracedRun, plans_of}
use Rattle.hip_repair_answers.specs.Cured.{IsCuredBy}
use Rattle.hip_repairs.specs.Choice.{Contains, plan_for}
use Rattle.hip_repairs.specs.Direct.{direct}
use Rattle.hip_repairs.specs.StayOutside.{StayOutside}
use Rattle.hip_repairs.specs.declared.plan.Plan.{Plan}
use Rattle.hip_runs.specs.Found.Marks.{IsFound}
use Rattle.hip_runs.specs.StoredParts.Parts.{In}
use Rattle.hip_runs.specs.Validity.{IsValid}
use Rattle.hip_runs.specs.declared.input.Input.{Input}
use Rattle.hip_runs.specs.declared.report.Findings.{Findings}
use Rattle.hip_sound.specs.Sound.{IsSound}

-- What a repair does if its plan has what a run found.
abbrev pub PlansCure : Type 0
PlansCure =
    (P : Program) (I : Input) (plan : Plan) (skip : Site → Bool) (found : Findings) → IsSound P → IsValid P I
    → StayOutside P skip → IsFound P I found → Contains plan (plan_for P found) → IsCuredBy P I plan skip

module _ (cure : PlansCure) (files : Option (List NamedFile)) (P : Program) (sound : IsSound P)
    (quiet : StayOutside P (direct P)) (all : List Plan) (plan : Plan)
    (contains : (part : Plan) → In part all → Contains plan part) where
  -- The repair cures each run whose plan is among all plans.
  each_cured : (rs : List TracedRun) → ((part : Plan) → In part (plans_of P rs) → In part all)
      → All (IsRunOf files P) rs → All (λ r. IsCuredBy P r.input plan (direct P)) rs
  each_cured [] within h = All-nil (λ r. IsCuredBy P r.input plan (direct P))
  each_cured (r ∷ rs) within h =
      let run = All-head (IsRunOf files P) r rs h in
      All-cons (λ q. IsCuredBy P q.input plan (direct P)) r rs
      (cure P r.input plan (direct P) r.found sound run.valid quiet run.found_is
      (contains (plan_for P r.found) (within (plan_for P r.found) (inl refl))))
      (each_cured rs (λ part i. within part (inr i)) (All-tail (IsRunOf files P) r rs h))

pub cures : PlansCure → (files : Option (List NamedFile)) (P : Program) (names : List (List ℕ)) (runs : List TracedRun)
    (plan : Plan) → IsSound P → StayOutside P (direct P) → AreRunsOf files P names runs
    → ((part : Plan) → In part (plans_of P runs) → Contains plan part)
    → All (λ r. IsCuredBy P r.input plan (direct P)) runs
cures cure files P names runs plan sound quiet are contains =
    each_cured cure files P sound quiet (plans_of P runs) plan contains runs (λ part i. i) are.each
