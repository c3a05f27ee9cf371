-- A byte that is not loose survives.
use Rattle.std.proofs.Common.{◌≡◌, ◌≢◌, ℕ, ◌/◌, ◌<◌, List, length, slice_index, sym, ap, ◌∙◌, arith}
use Rattle.hip_tree.specs.declared.program.Program.{Program}
use Rattle.hip_lines.specs.Image.{byte_after, parts_of}
use Rattle.hip_sound.specs.Sound.{IsSound}
use Rattle.hip_runs.specs.Crash.{covers, byte_of, IsCrashImage}
use Rattle.hip_runs.specs.Laws.CrashLaws.{same_size}
use Rattle.hip_runs.specs.Step.{run}
use Rattle.hip_runs.specs.Validity.{IsValid}
use Rattle.hip_runs.specs.declared.input.Input.{Input}
use Rattle.hip_survival.specs.Survival.{working_byte, IsLooseAt, Survives, durable_byte}
use Rattle.hip_survival.specs.Laws.CutParts.{tight-byte}
use Rattle.hip_survival.specs.Laws.WholeImage.{durable_image}
use Rattle.hip_survival.specs.Laws.WorkingBytes.{has_all_parts, line_there}

pub tight_survives : (P : Program) → IsSound P → (I : Input) → IsValid P I → (n b : ℕ) → b < length I.image
    → ¬ IsLooseAt (run P I n) b → Survives P I (run P I n) b
tight_survives P s I v n b lt tight content image =
    let l = line_there (run P I n).lines (b / 64) (omega (arith, lt, same_size P I n v)) in
    let h = image.lines (b / 64) l.0 l.1 in
    h.1.bytes b (omega arith) (omega arith)
    ∙ tight-byte covers byte_of l.0 h.0 b (slice_index I.image b) h.1.least (λ loose. tight (l.0, l.1, loose))
    ∙ ap (λ o. byte_after covers byte_of (parts_of covers byte_of o) b (slice_index I.image b)) (sym l.1)
    ∙ sym (has_all_parts P s I v n b lt)

-- A byte that survives has its durable value already, so a byte with another durable value may be lost.
pub surviving_durable : (P : Program) (I : Input) → IsValid P I → (n b : ℕ) → b < length I.image
    → Survives P I (run P I n) b → durable_byte I (run P I n) b ≡ working_byte P I (run P I n) b
surviving_durable P I v n b lt h =
    let image = durable_image P I v n in sym (image.2 b lt) ∙ h image.0 image.1

pub lost_byte : (P : Program) (I : Input) → IsValid P I → (n b : ℕ) → b < length I.image
    → durable_byte I (run P I n) b ≢ working_byte P I (run P I n) b
    → (content : List ℕ) × IsCrashImage I (run P I n) content
    × (slice_index content b ≢ working_byte P I (run P I n) b)
lost_byte P I v n b lt differs =
    let image = durable_image P I v n in (image.0, image.1, λ e. differs (sym (image.2 b lt) ∙ e))
