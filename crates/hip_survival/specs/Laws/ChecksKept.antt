-- A repair makes no check worse.
use Rattle.std.proofs.Common.{◌≡◌, ℕ, zero, suc, Bool, true, false, cond, [], ◌++◌, Option, Some, None, refl, sym, ap, ap₂, ◌∙◌}
use Rattle.std.specs.Prelude.{is_some}
use Rattle.hip_tree.specs.declared.program.Program.{Program}
use Rattle.hip_tree.specs.declared.site.Site.{Site}
use Rattle.hip_sound.specs.Laws.SoundExact.{sound-passes}
use Rattle.hip_sound.specs.Sound.{IsSound}
use Rattle.hip_runs.specs.Found.Reports.{Range, checked_by, check_reports, next_check, reports}
use Rattle.hip_runs.specs.State.{World, State}
use Rattle.hip_runs.specs.Step.{event, run}
use Rattle.hip_runs.specs.Validity.{IsValid}
use Rattle.hip_runs.specs.declared.event.Ending.{Ending}
use Rattle.hip_runs.specs.declared.input.Input.{Input}
use Rattle.hip_repairs.specs.Clean.{IsClean}
use Rattle.hip_repairs.specs.Harmless.{matched, stands_inserted}
use Rattle.hip_repairs.specs.Repaired.{repaired}
use Rattle.hip_repairs.specs.declared.plan.Plan.{Plan}
use Rattle.hip_repairs.proofs.Theorems.{repairs_do_no_harm}
use Rattle.hip_repairs.proofs.clean.Events.{Checks, checks}
use Rattle.hip_repairs.proofs.functions.Lookup.{sound_callable}
use Rattle.hip_repairs.proofs.simulation.Sim.{follows}
use Rattle.hip_survival.specs.Laws.CheckedBytes.{loose_reported, reported_loose}
use Rattle.hip_survival.specs.Kept.{IsNoWorse, WorsensNoCheck}
use Rattle.hip_survival.specs.Laws.ChecksSurvive.{none_reported}
use Rattle.hip_repairs.proofs.simulation.Harm.{nothing_held, nothing_kept}
use Rattle.hip_survival.specs.Laws.LoosensNothing.{as_durable, loosens_nothing, matched_onward}
use Rattle.hip_survival.specs.Laws.SameStores.{report_there}

-- A state in which something is checked next has not ended.
going_of : (P : Program) (I : Input) (s : State) (range : Range) → next_check P I s ≡ Some range
    → s.world.ending ≡ None
going_of P I s range e = by s.world.ending refl e
  where
    by : (o : Option Ending) → s.world.ending ≡ o
        → cond (is_some o) None (checked_by I (event P I s)) ≡ Some range
        → s.world.ending ≡ None
    by None h q = h
    by (Some x) h q = absurd (let z : ⊥ = cc in z)

-- The state checks the range that its event gives.
next_is : (P : Program) (I : Input) (s : State) → s.world.ending ≡ None
    → next_check P I s ≡ checked_by I (event P I s)
next_is P I s going = ap (λ (o : Option Ending). cond (is_some o) None (checked_by I (event P I s))) going

module _ (P : Program) (plan : Plan) (skip : Site → Bool) (s : IsSound P) (I : Input) (v : IsValid P I) where
  check_there : (n : ℕ) (range : Range)
      → next_check (repaired P plan skip) I (run (repaired P plan skip) I n) ≡ Some range
      → next_check P I (run P I (matched P plan skip I n)) ≡ Some range
  check_there n range e = by_mark (stands_inserted P plan skip (run (repaired P plan skip) I n)) refl
    where
      going : (run (repaired P plan skip) I n).world.ending ≡ None
      going = going_of (repaired P plan skip) I (run (repaired P plan skip) I n) range e

      there : checked_by I (event (repaired P plan skip) I (run (repaired P plan skip) I n)) ≡ Some range
      there = sym (next_is (repaired P plan skip) I (run (repaired P plan skip) I n) going) ∙ e

      before : (run P I (matched P plan skip I n)).world.ending ≡ None
      before =
          ap (λ (w : World). w.ending) (sym ((repairs_do_no_harm P plan skip s).matches I v n).world) ∙ going

      by_mark : (t : Bool) → stands_inserted P plan skip (run (repaired P plan skip) I n) ≡ t
          → next_check P I (run P I (matched P plan skip I n)) ≡ Some range
      by_mark t mark =
          let good = sound_callable P (sound-passes P s) in
          let f = follows P plan skip I good v nothing_held (nothing_kept P plan skip I) n in
          let c = checks P plan skip I good nothing_held f.size (run P I (matched P plan skip I n))
          (run (repaired P plan skip) I n) f.pair going in
          go c t mark
        where
          go : Checks P plan skip I (sound_callable P (sound-passes P s)) nothing_held
              (run P I (matched P plan skip I n)) (run (repaired P plan skip) I n) → (t : Bool)
              → stands_inserted P plan skip (run (repaired P plan skip) I n) ≡ t
              → next_check P I (run P I (matched P plan skip I n)) ≡ Some range
          go c true m = absurd (let x : None ≡ Some range = sym (c.inserted m) ∙ there in let z : ⊥ = cc in z)
          go c false m =
              next_is P I (run P I (matched P plan skip I n)) before ∙ ap (checked_by I) (sym (c.same m)) ∙ there

  no_worse : (n : ℕ) (range : Range)
      → next_check (repaired P plan skip) I (run (repaired P plan skip) I n) ≡ Some range
      → IsNoWorse P (repaired P plan skip) I (matched P plan skip I) n range
  no_worse n range e = record {
    there = check_there n range e;
    reports =
        report_there P (repaired P plan skip) I (matched P plan skip I) (matched_onward P plan skip I)
        (λ k. ((repairs_do_no_harm P plan skip s).matches I v k).lines) (as_durable P plan skip s I v) n range;
    quiet = λ none. reported_loose (repaired P plan skip) I n range
        (λ b low high h. loose_reported P I (matched P plan skip I n) range none b low high
        ((loosens_nothing P plan skip s).loose I v n b h));
  }

  step_clean : IsClean P I → (n : ℕ)
      → check_reports (run (repaired P plan skip) I n)
      (next_check (repaired P plan skip) I (run (repaired P plan skip) I n)) ≡ []
  step_clean clean n = go (next_check (repaired P plan skip) I (run (repaired P plan skip) I n)) refl
    where
      go : (o : Option Range) → next_check (repaired P plan skip) I (run (repaired P plan skip) I n) ≡ o
          → check_reports (run (repaired P plan skip) I n) o ≡ []
      go None e = refl
      go (Some range) e =
          let w = no_worse n range e in
          w.quiet (ap (check_reports (run P I (matched P plan skip I n))) (sym w.there)
          ∙ none_reported P I clean (matched P plan skip I n))

  clean_too : IsClean P I → (n : ℕ) → reports (repaired P plan skip) I n ≡ []
  unfolding reports
  clean_too clean zero = refl
  clean_too clean (suc n) = ap₂ (λ xs ys. xs ++ ys) (clean_too clean n) (step_clean clean n)

pub worsens_no_check : (P : Program) (plan : Plan) (skip : Site → Bool) → IsSound P → WorsensNoCheck P plan skip
worsens_no_check P plan skip s I v n range e = no_worse P plan skip s I v n range e

pub stays_clean : (P : Program) (plan : Plan) (skip : Site → Bool) → IsSound P → (I : Input) → IsValid P I
    → IsClean P I → IsClean (repaired P plan skip) I
stays_clean P plan skip s I v clean n = clean_too P plan skip s I v clean n
