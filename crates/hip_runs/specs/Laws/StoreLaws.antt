-- The parts of the cache lines are those of the stores that the run made.
use Rattle.std.proofs.Common.{◌≡◌, ◌⊎◌, inl, inr, ℕ, zero, suc, ◌+◌, ◌-◌, ◌≤◌, Bool, true, false, cond, List, ◌∷◌, length, Option, Some, slice_get, slice_index, refl, sym, ap, ◌∙◌, subst, arith}
use Rattle.std.proofs.lemmas.Bool.Decides.{nat_tests}
use Rattle.hip_tree.specs.declared.program.Program.{Program}
use Rattle.hip_types.specs.Bytes.{little_endian, bytes_of}
use Rattle.hip_lines.specs.Line.{Line, has_bytes}
use Rattle.hip_lines.specs.Laws.LineLaws.{byte-of_part}
use Rattle.hip_runs.specs.declared.event.Event.{Event}
use Rattle.hip_runs.specs.declared.input.Input.{Input}
use Rattle.hip_runs.specs.Actions.{in_region}
use Rattle.hip_runs.specs.StoredParts.Parts.{PartOf}
use Rattle.hip_runs.specs.StoredParts.Persistence.{earlier, part_of_store, noted_flush, noted_fence}
use Rattle.hip_runs.specs.StoredParts.Since.{top_site, IsOfStore}
use Rattle.hip_runs.specs.Laws.HeldBytes.{held, holds_byte, held_byte, line_byte}
use Rattle.hip_runs.specs.Laws.SinceLaws.{InLine, line_of_part, of_fenced, of_flushed, of_stored, line_of_start, no_part}
use Rattle.hip_runs.specs.State.{Flush, StorePart, Frame, levels_of, site_of}
use Rattle.hip_runs.specs.Step.{event, run}
use Rattle.hip_runs.specs.Laws.StepLaws.{Cases, IsTop, step-cases, counted-steps}
use Rattle.hip_runs.specs.declared.event.Event.TheVariants as events

in_there : (I : Input) (a n : ℕ) → in_region I a n ≡ true → I.base ≤ a
in_there I a n h = grind (arith, nat_tests)

-- ---- a step

module _ (P : Program) (I : Input) where
  -- A flush and a fence change only what a part notes of flushes and fences.
  of_noted : (x : StorePart) (first : Option Flush) (is_fenced : Bool) → IsOfStore P I x
      → IsOfStore P I (record x { first_flush = first; fenced = is_fenced })
  of_noted x first is_fenced s =
      record {
        addr = s.addr;
        bytes = s.bytes;
        stored = s.stored;
        written = s.written;
        site = s.site;
        levels = s.levels;
        entry = s.entry;
        covered = s.covered;
        whole = s.whole;
      }

  of_fence : (x : StorePart) → IsOfStore P I x → IsOfStore P I (noted_fence x)
  of_fence x = of_noted x x.first_flush true

  of_flush : (flush : Flush) (x : StorePart) → IsOfStore P I x → IsOfStore P I (noted_flush flush x)
  of_flush flush x = of_noted x (earlier x.first_flush flush) x.fenced

  of_flushes : (flush : Flush) (b : Bool) (x : StorePart) → IsOfStore P I x
      → IsOfStore P I (cond b (noted_flush flush x) x)
  of_flushes flush true x s = of_flush flush x s
  of_flushes flush false x s = s

  -- Each part of these lines is one of a store of the run.
  abbrev AreOf : List (Line StorePart) → Type 0
  AreOf ls = (j : ℕ) (x : StorePart) → InLine (slice_get ls j) x → IsOfStore P I x

  module _ (n : ℕ) where
    new : (f : Frame) (fs : List Frame) → IsTop (run P I n) f fs → (a : ℕ) (bytes : List ℕ) → I.base ≤ a
        → bytes_of (length bytes) (little_endian bytes) ≡ bytes
        → event P I (run P I n) ≡ events.Store a (little_endian bytes) (length bytes) →
        (j : ℕ) → has_bytes j (a - I.base) (length bytes) ≡ true
        → IsOfStore P I (part_of_store (run P I n).counts (site_of f) (levels_of (f ∷ fs)) (a - I.base) bytes j)
    new f fs t a bytes low w q j there =
        let steps = counted-steps P I n t.going in
        let line = line_of_start (a - I.base) (length bytes) j there in
        record {
          addr = a;
          bytes = bytes;
          stored =
              subst (λ i. event P I (run P I i) ≡ events.Store a (little_endian bytes) (length bytes)) (sym steps) q;
          written = w;
          site = subst (λ i. top_site (run P I i).frames ≡ Some (site_of f)) (sym steps) (ap top_site t.frames);
          levels =
              subst (λ i. levels_of (f ∷ fs) ≡ levels_of (run P I i).frames) (sym steps)
              (sym (ap levels_of t.frames));
          entry = subst (λ i. (run P I n).counts.entries + 1 ≡ (run P I i).counts.entries + 1) (sym steps) refl;
          covered = λ b h.
              let r = held (a - I.base) bytes j b h in
              let o = byte-of_part (a - I.base) (length bytes) j b r.0 r.1 in (
                omega (arith, low, o.0),
                omega (arith, low, o.1),
                o.2 ∙ sym line,
                held_byte (a - I.base) bytes j b r.0 r.1
                    ∙ (let e : b - (a - I.base) ≡ I.base + b - a = omega (arith, low) in ap (slice_index bytes) e),
              );
          whole = λ b from to e.
              let r = line_byte (a - I.base) bytes j b (omega (arith, low, from)) (omega (arith, low, to))
              (e ∙ line) in
              holds_byte (a - I.base) bytes j b r.0 r.1;
        }

    -- If this is the event of step n, each part of these lines is one of a store of the run.
    abbrev Next : Event → List (Line StorePart) → Type 0
    Next e ls = event P I (run P I n) ≡ e → AreOf ls

    of_cases : AreOf (run P I n).lines → Cases I (run P I n) Next
    of_cases old = record {
      plain = λ e p q. old;
      store =
          λ f fs t a bytes e w q j x i. by_store f fs t a bytes (in_there I a (length bytes) e) w q j x
          (of_stored _ (a - I.base) (length bytes) _ j x i);
      flush =
          λ f fs t a m e q j y i. let r = of_flushed I _ a m _ j y i in
          subst (IsOfStore P I) (sym r.2) (of_flushes _ (has_bytes j (a - I.base) m) r.0 (old j r.0 r.1));
      persist = λ f fs t a m e q j z i.
          let s = of_fenced _ j z i in
          let r = of_flushed I _ a m _ j s.0 s.1 in
          subst (IsOfStore P I) (sym (s.2 ∙ ap noted_fence r.2))
          (of_fence _ (of_flushes _ (has_bytes j (a - I.base) m) r.0 (old j r.0 r.1)));
      fence = λ q j y i. let r = of_fenced _ j y i in subst (IsOfStore P I) (sym r.2) (of_fence r.0 (old j r.0 r.1));
    }
      where
        by_store : (f : Frame) (fs : List Frame) → IsTop (run P I n) f fs → (a : ℕ) (bytes : List ℕ)
            → I.base ≤ a
            → bytes_of (length bytes) (little_endian bytes) ≡ bytes
            → event P I (run P I n) ≡ events.Store a (little_endian bytes) (length bytes)
            → (j : ℕ) (x : StorePart) →
            InLine (slice_get (run P I n).lines j) x
            ⊎ ((has_bytes j (a - I.base) (length bytes) ≡ true)
            × (x ≡ part_of_store (run P I n).counts (site_of f) (levels_of (f ∷ fs)) (a - I.base) bytes j))
            → IsOfStore P I x
        by_store f fs t a bytes low w q j x (inl i) = old j x i
        by_store f fs t a bytes low w q j x (inr r) = subst (IsOfStore P I) (sym r.1) (new f fs t a bytes low w q j r.0)

    of_next : AreOf (run P I n).lines → AreOf (run P I (suc n)).lines
    unfolding run
    of_next old = step-cases P I (run P I n) Next (of_cases old) refl

  run_of : (n : ℕ) → AreOf (run P I n).lines
  unfolding run
  run_of zero j x i = absurd (no_part _ j x i)
  run_of (suc n) j x i = of_next n (run_of n) j x i

  -- Each part of a line is one of a store that the run made.
  pub part-of_store : (n : ℕ) (x : StorePart) → PartOf (run P I n).lines x → IsOfStore P I x
  part-of_store n x i = let r = line_of_part (run P I n).lines x i in run_of n r.0 x r.1
