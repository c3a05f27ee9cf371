-- Picks for each content that a crash may leave, and what `crash` answers for them.
use Rattle.std.proofs.Common.{◌≡◌, inl, inr, ◌+◌, ◌≤◌, ℕ, zero, suc, List, [], ◌∷◌, ◌++◌, length, Some, slice_get, refl, sym, ap, ◌∙◌, subst, arith, length-append}
use Rattle.hip_answers.specs.Answers.{Answer}
use Rattle.hip_answers.specs.Traces.{GivesTrace}
use Rattle.hip_crash.proofs.PickLaws.{AreFound, found-all, found-more}
use Rattle.hip_crash.proofs.Steps.{get_there}
use Rattle.hip_crash.specs.Picks.{ArePicksOf}
use Rattle.hip_run_commands.proofs.OneCrash.{no_image, one_image}
use Rattle.hip_run_commands.specs.Crash.{CrashTexts}
use Rattle.hip_run_commands.specs.ImagesAtEntries.{TraceHasEntry, HasImage, begun_with}
use Rattle.hip_run_commands.specs.CrashLaws.{CrashRunsEveryImage, PicksGiveEveryImage}
use Rattle.hip_lines.specs.Image.{IsLineImageAt}
use Rattle.hip_lines.specs.Line.{Line}
use Rattle.hip_types.specs.declared.pick.Pick.{Pick}
use Rattle.hip_run_traces.specs.Laws.TraceLaws.{front-trace, length-trace, whole-front, whole-trace}
use Rattle.hip_run_traces.specs.Traces.{IsTrace, trace}
use Rattle.hip_runs.specs.Crash.{IsCrashImage, byte_of, covers}
use Rattle.hip_runs.specs.Entry.{IsAtEntry}
use Rattle.hip_runs.specs.Laws.CrashLaws.{same_size}
use Rattle.hip_runs.specs.Laws.ImageLaws.{image_valid}
use Rattle.hip_runs.specs.State.{State, StorePart}
use Rattle.hip_runs.specs.Step.{header_entries, run}
use Rattle.hip_runs.specs.Validity.{IsValid}
use Rattle.hip_runs.specs.declared.input.Input.{Input}
use Rattle.hip_runs.specs.declared.report.Findings.{Findings}
use Rattle.hip_trace.specs.declared.entry.Entry.{Entry}
use Rattle.hip_tree.specs.declared.program.Program.{Program}

-- What a crash may leave in any state, it may leave at the entry that came last.
abbrev pub ComesAtEntry : Type 0
ComesAtEntry =
    (P : Program) (I : Input) (n : ℕ) (content : List ℕ) → IsCrashImage I (run P I n) content
    → (m : ℕ) × IsAtEntry P I (run P I n).counts.entries m × IsCrashImage I (run P I m) content

-- Picks for the first lines of a crash image.
first_picks : (I : Input) (s : State) (content : List ℕ) → IsCrashImage I s content → (count : ℕ)
    → count ≤ length s.lines → (picks : List Pick) × AreFound I s content count picks
first_picks I s content h zero le = (
  [],
  record {
    many = refl;
    lines = λ k p e. absurd (let z : ⊥ = cc in z);
    numbers = λ k p e. absurd (let z : ⊥ = cc in z);
  },
)
first_picks I s content h (suc count) le = more (first_picks I s content h count (omega (arith, le)))
  where
    line : (l : Line StorePart) × (slice_get s.lines count ≡ Some l)
    line = get_there s.lines count (omega (arith, le))

    at : (q : ℕ) × IsLineImageAt covers byte_of I.image content count line.0 q
    at = h.lines count line.0 line.1

    same : (l : Line StorePart) → slice_get s.lines count ≡ Some l → line.0 ≡ l
    same l e = let z = line.1 in cc

    more : (picks : List Pick) × AreFound I s content count picks
        → (picks : List Pick) × AreFound I s content (suc count) picks
    more rest = (
      rest.0 ++ record { line = count; upto = at.0 } ∷ [],
      subst (λ k. AreFound I s content k (rest.0 ++ record { line = count; upto = at.0 } ∷ []))
          (let e : count + 1 ≡ suc count = omega arith in e)
          (found-more I s content count rest.0 at.0 rest.1 (record {
            is = λ l e. subst (λ (x : Line StorePart). IsLineImageAt covers byte_of I.image content count x at.0) (same l e) at.1;
          })),
    )

module _ (P : Program) (I : Input) where
  picks_for : IsValid P I → (n : ℕ) (content : List ℕ) → IsCrashImage I (run P I n) content
      → (picks : List Pick) × ArePicksOf I (run P I n) picks content
  picks_for v n content h =
      let ps = first_picks I (run P I n) content h (length (run P I n).lines) (omega arith) in (
        ps.0,
        found-all I (run P I n) content (length (run P I n).lines) ps.0 (same_size P I n v) h.whole refl ps.1,
      )

  -- The entries of the header are counted from the start.
  at_start : (run P I 0).counts.entries ≡ header_entries I
  unfolding run
  at_start = refl

  -- The trace has each entry that a state of the run counts.
  has_entry : (n : ℕ) → TraceHasEntry P I (run P I n).counts.entries
  has_entry n = record {
    entries = length traced.0;
    counted = record { trace = traced.0; is_trace = traced.1; many = refl };
    some = some;
    there = there n;
  }
    where
      traced : (es : List Entry) × IsTrace P I es
      traced = whole-trace P I

      there : (m : ℕ) → (run P I m).counts.entries ≤ length traced.0
      there m =
          let front = whole-front P I m traced.0 traced.1 in
          let long = ap length front.1 ∙ length-append (trace P I m) front.0 in
          let count = length-trace P I m in
          omega (arith, long, count)

      some : 1 ≤ (run P I n).counts.entries
      some =
          let front = front-trace P I 0 n in
          let from_start : 0 + n ≡ n = omega arith in
          let long = ap length (sym (ap (trace P I) from_start) ∙ front.1) ∙ length-append (trace P I 0) front.0 in
          let first = length-trace P I 0 in
          let count = length-trace P I n in
          let header = at_start in
          omega (arith, long, first, count, header)

module _ (comes : ComesAtEntry) where
  pub picks_give_every_image : PicksGiveEveryImage
  picks_give_every_image P I valid n content h =
      let at = comes P I n content h in
      let ps = picks_for P I valid at.0 content at.2 in (
        ps.0,
        record {
          state = run P I at.0;
          at = record { has = has_entry P I n; steps = at.0; at = at.1; state_is = refl };
          fit = ps.1.fit;
          content_is = sym ps.1.content;
          image = at.2;
          valid = image_valid P I at.0 content valid at.2;
        },
      )

  pub runs_every_image : CrashRunsEveryImage
  runs_every_image P I valid n content h = (entry, ps.0, λ found answer given. go found answer given)
    where
      entry : ℕ
      entry = (run P I n).counts.entries

      ps : (picks : List Pick) × HasImage P I entry picks content
      ps = picks_give_every_image P I valid n content h

      go : (found : Findings) (answer : Answer) → CrashTexts entry ps.0 P I found answer
          → GivesTrace P (begun_with I content) answer
      go found answer (inl u) = absurd (no_image P I entry ps.0 u.why content u.cause ps.1)
      go found answer (inr u) =
          subst (λ (c : List ℕ). GivesTrace P (begun_with I c) answer)
          (one_image P I entry ps.0 u.content content u.image ps.1) u.recorded
