-- If a run stops with nothing to report at its stop, working memory is the only crash image.
use Rattle.std.proofs.Common.{◌≡◌, ℕ, suc, ◌<◌, Bool, false, cond, ℤ, [], length, Some, None, slice_get, sym, ap, ◌∙◌, subst, arith}
use Rattle.hip_tree.specs.declared.program.Program.{Program}
use Rattle.hip_lines.specs.Image.{IsImage, parts_of, image_of}
use Rattle.hip_sound.specs.Sound.{IsSound}
use Rattle.hip_runs.specs.Actions.{memory_of}
use Rattle.hip_runs.specs.Crash.{covers, byte_of}
use Rattle.hip_runs.specs.Found.Reports.{Range, check_reports, checked_by, next_check}
use Rattle.hip_runs.specs.Laws.NextLaws.{next_lines}
use Rattle.hip_runs.specs.State.{levels_of}
use Rattle.hip_runs.specs.Step.{event, has_ended, run}
use Rattle.hip_runs.specs.StoredParts.After.{lines_after}
use Rattle.hip_runs.specs.StoredParts.Since.{top_site}
use Rattle.hip_runs.specs.Validity.{IsValid}
use Rattle.hip_runs.specs.declared.event.Ending.TheVariants.{Stop}
use Rattle.hip_runs.specs.declared.event.Event.{Event}
use Rattle.hip_runs.specs.declared.event.Event.TheVariants as events
use Rattle.hip_runs.specs.declared.input.Input.{Input}
use Rattle.hip_survival.specs.Survival.{working_region, IsOnlyImage}
use Rattle.hip_survival.specs.Laws.CheckedBytes.{checked_survives}
use Rattle.hip_survival.specs.Laws.WholeImage.{index-bytes_at, length-bytes_at, same_lists, whole_image}

module _ (P : Program) (s : IsSound P) (I : Input) (v : IsValid P I) (n : ℕ) where
  -- The whole region, as a stop checks it.
  abbrev whole : Range
  whole = record { offset = 0; size = length I.image }

  checked_image : next_check P I (run P I n) ≡ Some whole → check_reports (run P I n) (Some whole) ≡ []
      → IsOnlyImage P I (run P I n)
  checked_image e none content image =
      same_lists content (working_region P I (run P I n))
      (image.whole ∙ sym (length-bytes_at (memory_of P I (run P I n).world) I.base (length I.image)))
      (λ b h. let lt : b < length I.image = omega (arith, h, image.whole) in
      checked_survives P s I v n whole e none b (omega arith) (omega (arith, lt)) content image
      ∙ sym (index-bytes_at (memory_of P I (run P I n).world) I.base (length I.image) b lt))

  pub stop_image : (code : ℤ) → has_ended (run P I n) ≡ false → event P I (run P I n) ≡ events.End (Stop code)
      → check_reports (run P I n) (next_check P I (run P I n)) ≡ [] → IsOnlyImage P I (run P I (suc n))
  stop_image code going e none content image =
      checked_image check (ap (check_reports (run P I n)) (sym check) ∙ none) content
      (subst (λ ls. IsImage covers byte_of I.image ls content) lines image)
      ∙ (whole_image P s I v n).is
      ∙ ap (λ ls. image_of covers byte_of ls (λ j. length (parts_of covers byte_of (slice_get ls j))) I.image)
      (sym lines)
      ∙ sym (whole_image P s I v (suc n)).is
    where
      check : next_check P I (run P I n) ≡ Some whole
      check = ap (λ (b : Bool). cond b None (checked_by I (event P I (run P I n)))) going ∙ ap (checked_by I) e

      lines : (run P I (suc n)).lines ≡ (run P I n).lines
      lines =
          next_lines P I n
          ∙ ap (λ (x : Event). lines_after I x (run P I n).counts (top_site (run P I n).frames)
          (levels_of (run P I n).frames) (run P I n).lines) e
