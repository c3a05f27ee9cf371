-- Working memory is the crash image that has all parts of each line; and some crash image has the durable parts alone.
use Rattle.std.proofs.Common.{◌≡◌, ℕ, zero, suc, ◌+◌, ◌/◌, ◌<◌, List, [], ◌∷◌, length, take, Option, Some, None, slice_get, slice_index, refl, sym, ap, ◌∙◌, subst, arith}
use Rattle.hip_tree.specs.declared.program.Program.{Program}
use Rattle.hip_lines.specs.Image.{byte_after, parts_of, IsPick}
use Rattle.hip_lines.specs.Line.{Line, AreOrdered}
use Rattle.hip_lines.specs.Laws.ImageLaws.{length-image_from, slice_index-image_from}
use Rattle.hip_lines.specs.Laws.LineLaws.{ordered-at}
use Rattle.hip_mem.specs.Memory.{Memory, byte_at, bytes_at}
use Rattle.hip_sound.specs.Sound.{IsSound}
use Rattle.hip_runs.specs.Actions.{memory_of}
use Rattle.hip_runs.specs.Crash.{covers, byte_of, IsCrashImage, crash_image}
use Rattle.hip_runs.specs.Laws.CrashLaws.{choice-image}
use Rattle.hip_runs.specs.Laws.HistoryLaws.{lines_ordered}
use Rattle.hip_runs.specs.State.{StorePart, State}
use Rattle.hip_runs.specs.Step.{run}
use Rattle.hip_runs.specs.Validity.{IsValid}
use Rattle.hip_runs.specs.declared.input.Input.{Input}
use Rattle.hip_survival.specs.Survival.{working_region, parts_over, all_parts, IsWholeImage, durable_of, HasDurableAlone}
use Rattle.hip_survival.specs.Laws.CutParts.{take_all}
use Rattle.hip_survival.specs.Laws.WorkingBytes.{has_all_parts}

-- ---- lists by their items

pub length-bytes_at : (m : Memory) (a n : ℕ) → length (bytes_at m a n) ≡ n
length-bytes_at m a zero = refl
length-bytes_at m a (suc n) = ap suc (length-bytes_at m (suc a) n)

pub index-bytes_at : (m : Memory) (a n i : ℕ) → i < n → slice_index (bytes_at m a n) i ≡ byte_at m (a + i)
index-bytes_at m a zero i h = absurd (omega arith)
index-bytes_at m a (suc n) zero h = ap (byte_at m) (let e : a ≡ a + 0 = omega arith in e)
index-bytes_at m a (suc n) (suc i) h =
    index-bytes_at m (suc a) n i (omega arith) ∙ ap (byte_at m) (let e : suc a + i ≡ a + suc i = omega arith in e)

pub same_lists : (xs ys : List ℕ) → length xs ≡ length ys
    → ((i : ℕ) → i < length xs → slice_index xs i ≡ slice_index ys i) → xs ≡ ys
same_lists [] [] n h = refl
same_lists [] (y ∷ ys) n h = absurd (omega (arith, n))
same_lists (x ∷ xs) [] n h = absurd (omega (arith, n))
same_lists (x ∷ xs) (y ∷ ys) n h =
    ap (λ z. z ∷ xs) (h 0 (omega arith))
    ∙ ap (λ zs. y ∷ zs) (same_lists xs ys (omega (arith, n)) (λ i lt. h (suc i) (omega arith)))

-- ---- the image of a pick, byte by byte

pub image_byte : (I : Input) (s : State) (pick : ℕ → ℕ) (b : ℕ) → b < length I.image
    → slice_index (crash_image I s pick) b
    ≡ byte_after covers byte_of (take (pick (b / 64)) (parts_over s b)) b (slice_index I.image b)
image_byte I s pick b lt =
    let z : 0 + b ≡ b = omega arith in
    slice_index-image_from covers byte_of s.lines pick 0 I.image b lt
    ∙ ap (λ c. byte_after covers byte_of
    (take (pick (c / 64)) (parts_of covers byte_of (slice_get s.lines (c / 64)))) c (slice_index I.image b)) z

-- ---- all parts

all_picked : (ls : List (Line StorePart)) → AreOrdered ls
    → IsPick covers byte_of ls (λ j. length (parts_of covers byte_of (slice_get ls j)))
all_picked ls o j l e =
    let n : length (parts_of covers byte_of (slice_get ls j)) ≡ length l.parts =
    ap (λ x. length (parts_of covers byte_of x)) e in
    let h = ordered-at ls j l o e in (omega (arith, n, h.durable, h.flushed), omega (arith, n))

pub whole_image : (P : Program) → IsSound P → (I : Input) → IsValid P I → (n : ℕ)
    → IsWholeImage P I (run P I n)
whole_image P s I v n = record {
  is = same;
  image = subst (IsCrashImage I (run P I n)) (sym same)
      (choice-image P I n (all_parts (run P I n)) v (all_picked (run P I n).lines (lines_ordered P I n)));
}
  where
    long : length (bytes_at (memory_of P I (run P I n).world) I.base (length I.image)) ≡ length I.image
    long = length-bytes_at (memory_of P I (run P I n).world) I.base (length I.image)

    same : working_region P I (run P I n) ≡ crash_image I (run P I n) (all_parts (run P I n))
    same =
        same_lists (working_region P I (run P I n)) (crash_image I (run P I n) (all_parts (run P I n)))
        (long ∙ sym (length-image_from covers byte_of (run P I n).lines (all_parts (run P I n)) 0 I.image))
        (λ b h. let lt : b < length I.image = omega (arith, h, long) in
        index-bytes_at (memory_of P I (run P I n).world) I.base (length I.image) b lt
        ∙ has_all_parts P s I v n b lt
        ∙ sym (image_byte I (run P I n) (all_parts (run P I n)) b lt
        ∙ ap (λ ps. byte_after covers byte_of ps b (slice_index I.image b)) (take_all (parts_over (run P I n) b))))

-- ---- durable parts alone

-- How many parts of a line are durable, if it is there.
abbrev pub durable_count : Option (Line StorePart) → ℕ
durable_count None = 0
durable_count (Some l) = l.durable

-- The pick that has the durable parts alone.
abbrev pub durable_alone : State → ℕ → ℕ
durable_alone s j = durable_count (slice_get s.lines j)

pub durable_picked : (ls : List (Line StorePart)) → AreOrdered ls
    → IsPick covers byte_of ls (λ j. durable_count (slice_get ls j))
durable_picked ls o j l e =
    let n : durable_count (slice_get ls j) ≡ l.durable = ap durable_count e in
    let h = ordered-at ls j l o e in (omega (arith, n), omega (arith, n, h.durable, h.flushed))

pub durable_image : (P : Program) (I : Input) → IsValid P I → (n : ℕ)
    → (content : List ℕ) × IsCrashImage I (run P I n) content × HasDurableAlone I (run P I n) content
durable_image P I v n = (
  crash_image I (run P I n) (durable_alone (run P I n)),
  choice-image P I n (durable_alone (run P I n)) v (durable_picked (run P I n).lines (lines_ordered P I n)),
  λ b lt. image_byte I (run P I n) (durable_alone (run P I n)) b lt ∙ cut b (slice_get (run P I n).lines (b / 64)),
)
  where
    cut : (b : ℕ) (o : Option (Line StorePart))
        → byte_after covers byte_of (take (durable_count o) (parts_of covers byte_of o)) b (slice_index I.image b)
        ≡ byte_after covers byte_of (durable_of o) b (slice_index I.image b)
    cut b None = refl
    cut b (Some l) = refl
