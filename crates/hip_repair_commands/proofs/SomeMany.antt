-- An answer of `many` for all runs whose traces are given.
use Rattle.std.proofs.Common.{◌≡◌, ◌⊎◌, Bool, true, false, ◌||◌, List, [], ◌∷◌, length, Option, Some, inl, inr, refl, sym, ◌∙◌, subst}
use Rattle.std.specs.Cmp.{both_ways}
use Rattle.std.specs.List.{filter, list_any}
use Rattle.hip_answers.specs.declared.status.Status.TheVariants as statuses
use Rattle.hip_io.specs.declared.cabinet.NamedFile.{NamedFile}
use Rattle.hip_grammar.specs.Show.{show}
use Rattle.hip_tree.specs.Sites.{has_site, sites_of}
use Rattle.hip_tree.specs.declared.program.Program.{Program}
use Rattle.hip_tree.specs.declared.site.Site.{Site}
use Rattle.hip_program_files.specs.LoadedPrograms.{IsProgramOf}
use Rattle.hip_many.specs.Reasons.{reasons}
use Rattle.hip_many.specs.Union.{HasAll, IsUnion}
use Rattle.hip_repair_commands.proofs.Cures.{PlansCure, cures}
use Rattle.hip_repair_commands.specs.ManyLaws.{ManyAreAnswered}
use Rattle.hip_repairs.specs.Repaired.{repaired}
use Rattle.hip_command_io.specs.Notes.{many_notes}
use Rattle.hip_repair_commands.specs.ManyRuns.{AreRunsOf, TracedRun, plans_of, reports_of}
use Rattle.hip_repairs.specs.Choice.{Contains, plan_for, wants_fence, wants_flush, wants_hoist}
use Rattle.hip_repairs.specs.CloneNumbers.{clone_numbers}
use Rattle.hip_repairs.specs.Direct.{direct}
use Rattle.hip_repairs.specs.Laws.SiteOrder.{filter_ascends, filtered_are}
use Rattle.hip_repairs.specs.StayOutside.{StayOutside}
use Rattle.hip_repairs.specs.declared.plan.Plan.{Plan}
use Rattle.hip_runs.specs.StoredParts.Parts.{In}
use Rattle.hip_runs.specs.declared.report.Findings.{Findings}
use Rattle.hip_types.specs.Laws.DistinctLaws.{either}
use Rattle.hip_sound.specs.Sound.{IsSound}

-- ---- the plans for runs have a union

module _ (P : Program) (sites_in : Plan → List Site) (wants : Findings → Site → Bool)
    (are : (found : Findings) → sites_in (plan_for P found) ≡ filter (wants found) (sites_of P)) where
  within : (rs : List TracedRun) (s : Site) → list_any (λ p. has_site (sites_in p) s) (plans_of P rs) ≡ true
      → has_site (sites_of P) s ≡ true
  within [] s e = absurd (let z : ⊥ = cc in z)
  within (r ∷ rs) s e =
      go (λ later. within rs s later)
      (either (has_site (sites_in (plan_for P r.found)) s) (list_any (λ p. has_site (sites_in p) s) (plans_of P rs)) e)
    where
      go : (list_any (λ p. has_site (sites_in p) s) (plans_of P rs) ≡ true → has_site (sites_of P) s ≡ true)
          → (has_site (sites_in (plan_for P r.found)) s ≡ true)
          ⊎ (list_any (λ p. has_site (sites_in p) s) (plans_of P rs) ≡ true) → has_site (sites_of P) s ≡ true
      go rest (inl here) =
          (filtered_are P (wants r.found)).site s
          (subst (λ (xs : List Site). has_site xs s ≡ true) (are r.found) here)
      go rest (inr later) = rest later

  has_all : (rs : List TracedRun) → HasAll sites_in (plans_of P rs)
      (filter (λ s. list_any (λ p. has_site (sites_in p) s) (plans_of P rs)) (sites_of P))
  has_all rs = record {
    ascends = filter_ascends P (λ s. list_any (λ p. has_site (sites_in p) s) (plans_of P rs));
    has = λ s.
        let those = filtered_are P (λ x. list_any (λ p. has_site (sites_in p) x) (plans_of P rs)) in
        both_ways
        (has_site (filter (λ x. list_any (λ p. has_site (sites_in p) x) (plans_of P rs)) (sites_of P)) s)
        (list_any (λ p. has_site (sites_in p) s) (plans_of P rs)) (those.asked s)
        (λ e. those.has s (within rs s e) e);
  }

abbrev united : Program → (Plan → List Site) → List TracedRun → List Site
united P sites_in rs = filter (λ s. list_any (λ p. has_site (sites_in p) s) (plans_of P rs)) (sites_of P)

abbrev union_of : Program → List TracedRun → Plan
union_of P rs =
    record {
      flush_after = united P (λ p. p.flush_after) rs;
      fence_after = united P (λ p. p.fence_after) rs;
      hoist = united P (λ p. p.hoist) rs;
    }

is_union : (P : Program) (rs : List TracedRun) → IsUnion (plans_of P rs) (union_of P rs)
is_union P rs = record {
  flush_after = has_all P (λ p. p.flush_after) (λ found. wants_flush P found) (λ found. refl) rs;
  fence_after = has_all P (λ p. p.fence_after) (λ found. wants_fence P found) (λ found. refl) rs;
  hoist = has_all P (λ p. p.hoist) (λ found. wants_hoist P found) (λ found. refl) rs;
}

-- ---- the union has each of them

-- One of several plans has the site.
among : (sites_in : Plan → List Site) (plans : List Plan) (part : Plan) (s : Site) → In part plans
    → has_site (sites_in part) s ≡ true → list_any (λ p. has_site (sites_in p) s) plans ≡ true
among sites_in [] part s i e = absurd i
among sites_in (p ∷ ps) part s (inl same) e =
    subst (λ (b : Bool). b || list_any (λ q. has_site (sites_in q) s) ps ≡ true)
    (sym (subst (λ (q : Plan). has_site (sites_in q) s ≡ true) same e)) refl
among sites_in (p ∷ ps) part s (inr later) e =
    or_true (has_site (sites_in p) s) (list_any (λ q. has_site (sites_in q) s) ps) (among sites_in ps part s later e)
  where
    or_true : (a b : Bool) → b ≡ true → a || b ≡ true
    or_true true b h = refl
    or_true false b h = h

contains : (plans : List Plan) (plan part : Plan) → IsUnion plans plan → In part plans → Contains plan part
contains plans plan part u i = record {
  flush_after = λ s e. u.flush_after.has s ∙ among (λ p. p.flush_after) plans part s i e;
  fence_after = λ s e. u.fence_after.has s ∙ among (λ p. p.fence_after) plans part s i e;
  hoist = λ s e. u.hoist.has s ∙ among (λ p. p.hoist) plans part s i e;
}

pub many_are_answered : PlansCure → ((P : Program) → IsSound P → StayOutside P (direct P)) → ManyAreAnswered
many_are_answered cure quiet files old new p names P runs known loaded are met =
    let plan = union_of P runs in (
      record {
        status = statuses.Done;
        out = show (repaired P plan (direct P));
        notes =
            many_notes P (length runs) (reports_of runs) plan (length (clone_numbers P plan))
            (reasons (plans_of P runs) plan);
      },
      refl,
      inr (inr (inr (inr (record {
        program = P;
        loaded = subst (λ (fs : Option (List NamedFile)). IsProgramOf fs p P) (sym known) loaded;
        runs = runs;
        are = subst (λ (fs : Option (List NamedFile)). AreRunsOf fs P names runs) (sym known) are;
        met = met;
        texts = record {
          plan = plan;
          union = is_union P runs;
          status_is = refl;
          out_is = refl;
          notes_is = refl;
          cured = cures cure (Some files) P names runs plan loaded.sound (quiet P loaded.sound) are
              (λ part i. contains (plans_of P runs) plan part (is_union P runs) i);
        };
      })))),
    )
