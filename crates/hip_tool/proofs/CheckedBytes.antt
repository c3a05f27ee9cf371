-- The reports of `check` are neither too few nor too many.
use Rattle.std.proofs.Common.{◌≡◌, ◌⊎◌, inl, inr, ℕ, zero, suc, ◌+◌, ◌-◌, ◌<◌, ◌≤◌, Bool, true, cond, List, Option, Some, None, refl, sym, ap, ◌∙◌, subst, arith}
use Rattle.hip_answers.specs.Answers.{Answer}
use Rattle.hip_answers.specs.TraceFiles.{IsTraceFile}
use Rattle.hip_io.specs.declared.cabinet.NamedFile.{NamedFile}
use Rattle.hip_repair_answers.specs.Answers.{HasChecked}
use Rattle.hip_run_traces.specs.Laws.GivenLaws.{fit_pieces, header-given}
use Rattle.hip_runs.specs.Found.Marks.{IsFound}
use Rattle.hip_runs.specs.Found.Reports.{Range, check_reports, checked_by, next_check, reports}
use Rattle.hip_runs.specs.Laws.OneEndLaws.{rests_later}
use Rattle.hip_runs.specs.Laws.PartLaws.{append-left, append-right, in-append}
use Rattle.hip_runs.specs.Step.{event, has_ended, run}
use Rattle.hip_runs.specs.StoredParts.Parts.{In}
use Rattle.hip_runs.specs.Validity.{IsValid}
use Rattle.hip_runs.specs.declared.input.Input.{Input}
use Rattle.hip_runs.specs.declared.report.Findings.{Findings}
use Rattle.hip_runs.specs.declared.report.Report.{Report}
use Rattle.hip_sound.specs.Sound.{IsSound}
use Rattle.hip_survival.specs.Survival.{IsOfByte, IsReportedAt, Survives}
use Rattle.hip_tool.specs.Checks.{HasCheckedBytes, IsOfCheckedByte, IsReported}
use Rattle.hip_tree.specs.declared.program.Program.{Program}

-- The laws of bytes that are cited.
pub record Cited : Type 0 where
  pub decided : (P : Program) → IsSound P → (I : Input) → IsValid P I → (n : ℕ) → (range : Range)
      → next_check P I (run P I n) ≡ Some range → (b : ℕ) → range.offset ≤ b → b < range.offset + range.size
      → Survives P I (run P I n) b ⊎ IsReportedAt P I n range b
  pub lost : (P : Program) → IsSound P → (I : Input) → IsValid P I → (n : ℕ) → (range : Range) → (r : Report)
      → In r (check_reports (run P I n) (Some range)) → IsOfByte P I (run P I n) range r

pub traced_valid : (files : List NamedFile) (t : List ℕ) (P : Program) (I : Input) → IsTraceFile files t P I → IsValid P I
traced_valid files t P I traced = (header-given P _ _ I (fit_pieces true traced.bytes) traced.trace.header_is).valid

module _ (by : Cited) (P : Program) (I : Input) where
  -- The reports of some steps are among those of more steps.
  more_reports : (r : Report) (m d : ℕ) → In r (reports P I m) → In r (reports P I (m + d))
  unfolding reports
  more_reports r m zero i = let e : m ≡ m + 0 = omega arith in subst (λ k. In r (reports P I k)) e i
  more_reports r m (suc d) i =
      let e : suc (m + d) ≡ m + suc d = omega arith in
      subst (λ k. In r (reports P I k)) e (append-left (reports P I (m + d)) _ r (more_reports r m d i))

  own_reports : (r : Report) (n : ℕ) → In r (check_reports (run P I n) (next_check P I (run P I n)))
      → In r (reports P I (suc n))
  unfolding reports
  own_reports r n i = append-right (reports P I n) _ r i

  module _ (found : Findings) (is : IsFound P I found) where
    -- A run that has ended checks nothing.
    going : (n : ℕ) (range : Range) → next_check P I (run P I n) ≡ Some range → n < is.steps
    going n range e = go (split n is.steps)
      where
        split : (a b : ℕ) → (a < b) ⊎ (b ≤ a)
        split a b = grind arith

        go : (n < is.steps) ⊎ (is.steps ≤ n) → n < is.steps
        go (inl lt) = lt
        go (inr le) =
            let over : has_ended (run P I n) ≡ true = ap has_ended (rests_later P I is.steps n le is.ended) ∙ is.ended in
            let none : None ≡ Some range =
            sym (ap (λ (b : Bool). cond b None (checked_by I (event P I (run P I n)))) over) ∙ e in
            absurd (let z : ⊥ = cc in z)

    check_found : (n : ℕ) (range : Range) → next_check P I (run P I n) ≡ Some range → (r : Report)
        → In r (check_reports (run P I n) (Some range)) → In r found.reports
    check_found n range e r i =
        let lt = going n range e in
        let there = subst (λ (o : Option Range). In r (check_reports (run P I n) o)) (sym e) i in
        let long : suc n + (is.steps - suc n) ≡ is.steps = omega (arith, lt) in
        subst (λ (f : Findings). In r f.reports) (sym is.is)
        (subst (λ k. In r (reports P I k)) long (more_reports r (suc n) (is.steps - suc n) (own_reports r n there)))

    module _ (sound : IsSound P) (valid : IsValid P I) where
      complete : (n : ℕ) (range : Range) → next_check P I (run P I n) ≡ Some range → (b : ℕ) → range.offset ≤ b
          → b < range.offset + range.size → Survives P I (run P I n) b ⊎ IsReported P I found n range b
      complete n range e b low high = go (by.decided P sound I valid n range e b low high)
        where
          go : Survives P I (run P I n) b ⊎ IsReportedAt P I n range b
              → Survives P I (run P I n) b ⊎ IsReported P I found n range b
          go (inl h) = inl h
          go (inr h) = inr (record { at = h; there = check_found n range e h.report h.there })

      by_check : (r : Report) (n : ℕ) (o : Option Range) → next_check P I (run P I n) ≡ o
          → In r (check_reports (run P I n) o) → IsOfCheckedByte P I r
      by_check r n None e i = absurd i
      by_check r n (Some range) e i = record {
        steps = n;
        range = range;
        checked = e;
        byte = by.lost P sound I valid n range r i;
      }

      of_steps : (r : Report) (n : ℕ) → In r (reports P I n) → IsOfCheckedByte P I r
      unfolding reports
      of_steps r zero i = absurd i
      of_steps r (suc n) i = go (λ j. of_steps r n j) (in-append (reports P I n) _ r i)
        where
          go : (In r (reports P I n) → IsOfCheckedByte P I r)
              → In r (reports P I n) ⊎ In r (check_reports (run P I n) (next_check P I (run P I n)))
              → IsOfCheckedByte P I r
          go earlier (inl j) = earlier j
          go earlier (inr j) = by_check r n (next_check P I (run P I n)) refl j

      pub checked_bytes : (a : Answer) → HasChecked P I found a → HasCheckedBytes P I found a
      checked_bytes a h = record {
        texts = h;
        complete = complete;
        sound = λ r i. of_steps r is.steps (subst (λ (f : Findings). In r f.reports) is.is i);
      }
