-- Laws of the crash images of a run.
use Rattle.std.proofs.Common.{◌≡◌, ℕ, zero, suc, ◌+◌, ◌-◌, ◌*◌, ◌/◌, ◌%◌, ◌≤◌, Bool, true, false, cond, List, [], ◌∷◌, length, map, take, Option, Some, None, option_map, slice_get, slice_index, refl, sym, ap, ◌∙◌, subst, arith}
use Rattle.std.proofs.lemmas.List.{length-map}
use Rattle.hip_tree.specs.declared.program.Program.{Program}
use Rattle.hip_lines.specs.Image.{byte_after, IsLineImage, IsImage}
use Rattle.hip_lines.specs.Laws.ImageLaws.{line_image-with_part, image_of-image, pick_of, pick_of-pick, image-image_of}
use Rattle.hip_lines.specs.Line.{Line, IsOrdered, AreOrdered, with_part, has_bytes, stored}
use Rattle.hip_lines.specs.Laws.LineLaws.{slice_get-change_range, ordered-at}
use Rattle.hip_lines.specs.Laws.LooseLaws.{get-map}
use Rattle.hip_globals.specs.Addresses.{end_of}
use Rattle.hip_runs.specs.declared.input.Input.{Input}
use Rattle.hip_runs.specs.Crash.{covers, byte_of, IsCrashImage, IsCrashPick, crash_image}
use Rattle.hip_runs.specs.Laws.HistoryLaws.{lines_ordered}
use Rattle.hip_runs.specs.StoredParts.After.{flushed_by}
use Rattle.hip_runs.specs.StoredParts.Persistence.{noted_flush, noted_fence, flush_line, fence_line, fenced_lines}
use Rattle.hip_runs.specs.StoredParts.Since.{stores, fences}
use Rattle.hip_runs.specs.State.{Flush, StorePart, State}
use Rattle.hip_runs.specs.Step.{event, run}
use Rattle.hip_runs.specs.Laws.StepLaws.{Cases, step-cases, length-lines, ordered-flushed_by}
use Rattle.hip_runs.specs.Validity.{IsValid}

-- ---- every image is the content of a pick, and every pick gives an image

whole_lines : (P : Program) (I : Input) → IsValid P I → length I.image ≡ 64 * (length I.image / 64)
whole_lines P I v = go (end_of true 0 P.globals) v.image
  where
    go : (x : ℕ) → length I.image ≡ x + (64 - x % 64) % 64 → length I.image ≡ 64 * (length I.image / 64)
    go x e = omega arith

-- The region's initial bytes fill its lines.
pub same_size : (P : Program) (I : Input) (n : ℕ) → IsValid P I → length I.image ≡ 64 * length (run P I n).lines
same_size P I n v = whole_lines P I v ∙ ap (λ k. 64 * k) (sym (length-lines P I n))

pub choice-image : (P : Program) (I : Input) (n : ℕ) (pick : ℕ → ℕ) → IsValid P I
    → IsCrashPick (run P I n) pick
    → IsCrashImage I (run P I n) (crash_image I (run P I n) pick)
choice-image P I n pick v p = image_of-image covers byte_of (run P I n).lines pick I.image (same_size P I n v) p

pub image-choice : (P : Program) (I : Input) (n : ℕ) (content : List ℕ) → IsValid P I
    → IsCrashImage I (run P I n) content
    → (pick : ℕ → ℕ) × IsCrashPick (run P I n) pick × (crash_image I (run P I n) pick ≡ content)
image-choice P I n content v h =
    let ls = (run P I n).lines in (
      pick_of covers byte_of I.image content ls h,
      pick_of-pick covers byte_of I.image content ls h,
      sym (image-image_of covers byte_of I.image content ls h (same_size P I n v)),
    )

-- ---- which steps remove images, and which add some

-- A change of parts that keeps the bytes of each part.
abbrev IsSame : (StorePart → StorePart) → Type 0
IsSame f =
    (x : StorePart) (b first : ℕ)
    → cond (covers (f x) b) (byte_of (f x) b) first ≡ cond (covers x b) (byte_of x b) first

byte_same : (f : StorePart → StorePart) → IsSame f → (xs : List StorePart) (b first : ℕ)
    → byte_after covers byte_of (map f xs) b first ≡ byte_after covers byte_of xs b first
byte_same f h [] b first = refl
byte_same f h (x ∷ xs) b first = byte_same f h xs b _ ∙ ap (λ c. byte_after covers byte_of xs b c) (h x b first)

take_map : (f : StorePart → StorePart) (q : ℕ) (xs : List StorePart) → take q (map f xs) ≡ map f (take q xs)
take_map f zero [] = refl
take_map f zero (x ∷ xs) = refl
take_map f (suc q) [] = refl
take_map f (suc q) (x ∷ xs) = ap (λ ys. f x ∷ ys) (take_map f q xs)

front_same : (f : StorePart → StorePart) → IsSame f → (q : ℕ) (xs : List StorePart) (b first : ℕ)
    → byte_after covers byte_of (take q (map f xs)) b first ≡ byte_after covers byte_of (take q xs) b first
front_same f h q xs b first =
    ap (λ ys. byte_after covers byte_of ys b first) (take_map f q xs) ∙ byte_same f h (take q xs) b first

module _ (first content : List ℕ) (j : ℕ) where
  -- In cache line j, a crash may leave the content of this line.
  abbrev At : Line StorePart → Type 0
  At l = IsLineImage covers byte_of first content j l

  -- If the changed line has at least as many durable parts, each image of the changed line is an image of the line.
  unmet : (f : StorePart → StorePart) → IsSame f → (l l' : Line StorePart) → l'.parts ≡ map f l.parts
      → l.durable ≤ l'.durable → At l' → At l
  unmet f s l l' e d h = (
    h.0,
    record {
      least = omega (arith, d, h.1.least);
      most = omega (arith, h.1.most, ap length e, length-map l.parts f);
      bytes =
          λ b from to. h.1.bytes b from to ∙ ap
          (λ xs. byte_after covers byte_of (take h.0 xs) b (slice_index first b))
          e ∙ front_same f s h.0 l.parts b (slice_index first b);
    },
  )

  met : (f : StorePart → StorePart) → IsSame f → (l l' : Line StorePart) → l'.parts ≡ map f l.parts
      → l'.durable ≤ l.durable → At l → At l'
  met f s l l' e d h = (
    h.0,
    record {
      least = omega (arith, d, h.1.least);
      most = omega (arith, h.1.most, ap length e, length-map l.parts f);
      bytes =
          λ b from to. h.1.bytes b from to ∙ sym (ap
          (λ xs. byte_after covers byte_of (take h.0 xs) b (slice_index first b)) e
          ∙ front_same f s h.0 l.parts b (slice_index first b));
    },
  )

  unflushed : (flush : Flush) (l : Line StorePart) → At (flush_line flush l) → At l
  unflushed flush l h = unmet (noted_flush flush) (λ x b c. refl) l (flush_line flush l) refl (omega arith) h

  flushed_too : (flush : Flush) (l : Line StorePart) → At l → At (flush_line flush l)
  flushed_too flush l h = met (noted_flush flush) (λ x b c. refl) l (flush_line flush l) refl (omega arith) h

  unfenced : (l : Line StorePart) → IsOrdered l → At (fence_line l) → At l
  unfenced l o h = unmet noted_fence (λ x b c. refl) l (fence_line l) refl o.durable h

some_before : {A B : Type 0} (g : A → B) (o : Option A) (y : B) → option_map g o ≡ Some y
    → (x : A) × (o ≡ Some x) × (g x ≡ y)
some_before g None y e = absurd (let z : ⊥ = cc in z)
some_before g (Some x) y e = (x, refl, cc)

module _ (I : Input) (ls : List (Line StorePart)) where
  -- Each image of the other lines is an image of these.
  abbrev OnlyOf : List (Line StorePart) → Type 0
  OnlyOf ls' =
      (content : List ℕ) → IsImage covers byte_of I.image ls' content → IsImage covers byte_of I.image ls content

  -- Each image of these lines is an image of the other lines.
  abbrev AllOf : List (Line StorePart) → Type 0
  AllOf ls' =
      (content : List ℕ) → IsImage covers byte_of I.image ls content → IsImage covers byte_of I.image ls' content

  fewer_flushed : (flush : Flush) (a n : ℕ) → OnlyOf (flushed_by I flush a n ls)
  fewer_flushed flush a n content h = record { whole = h.whole; lines = at }
    where
      at : (j : ℕ) (l : Line StorePart) → slice_get ls j ≡ Some l
          → IsLineImage covers byte_of I.image content j l
      at j l e =
          go (has_bytes j (a - I.base) n) (h.lines j _
          (slice_get-change_range _ (a - I.base) n ls j
          ∙ ap (option_map (λ x. cond (has_bytes j (a - I.base) n) (flush_line flush x) x)) e))
        where
          go : (t : Bool) → IsLineImage covers byte_of I.image content j (cond t (flush_line flush l) l)
              → IsLineImage covers byte_of I.image content j l
          go true i = unflushed I.image content j flush l i
          go false i = i

  fewer_fenced : AreOrdered ls → OnlyOf (fenced_lines ls)
  fewer_fenced o content h =
      record {
        whole = h.whole;
        lines = λ j l e. unfenced I.image content j l (ordered-at ls j l o e)
            (h.lines j (fence_line l) (get-map fence_line ls j l e));
      }

  all_flushed : (flush : Flush) (a n : ℕ) → AllOf (flushed_by I flush a n ls)
  all_flushed flush a n content h = record { whole = h.whole; lines = at }
    where
      at : (j : ℕ) (l : Line StorePart) → slice_get (flushed_by I flush a n ls) j ≡ Some l
          → IsLineImage covers byte_of I.image content j l
      at j l e =
          let b =
          some_before _ (slice_get ls j) l (sym (slice_get-change_range (λ _ x. flush_line flush x)
          (a - I.base) n ls j) ∙ e) in
          subst (IsLineImage covers byte_of I.image content j) b.2
          (go (has_bytes j (a - I.base) n) b.0 (h.lines j b.0 b.1))
        where
          go : (t : Bool) (x : Line StorePart) → IsLineImage covers byte_of I.image content j x
              → IsLineImage covers byte_of I.image content j (cond t (flush_line flush x) x)
          go true x i = flushed_too I.image content j flush x i
          go false x i = i

  all_stored : (part : ℕ → StorePart) (o n : ℕ) → AllOf (stored part o n ls)
  all_stored part o n content h = record { whole = h.whole; lines = at }
    where
      at : (j : ℕ) (l : Line StorePart) → slice_get (stored part o n ls) j ≡ Some l
          → IsLineImage covers byte_of I.image content j l
      at j l e =
          let b =
          some_before _ (slice_get ls j) l (sym (slice_get-change_range (λ k x. with_part (part k) x) o n ls j) ∙ e)
          in
          subst (IsLineImage covers byte_of I.image content j) b.2 (go (has_bytes j o n) b.0 (h.lines j b.0 b.1))
        where
          go : (t : Bool) (x : Line StorePart) → IsLineImage covers byte_of I.image content j x
              → IsLineImage covers byte_of I.image content j (cond t (with_part (part j) x) x)
          go true x i = line_image-with_part covers byte_of I.image content j (part j) x i
          go false x i = i

fewer : (I : Input) (s : State) → AreOrdered s.lines
    → Cases I s (λ e ls. stores e ≡ false → OnlyOf I s.lines ls)
fewer I s o = record {
  plain = λ e p q content h. h;
  store = λ f fs t a bytes e w q. absurd (let z : ⊥ = cc in z);
  flush = λ f fs t a n e q. fewer_flushed I s.lines _ a n;
  persist =
      λ f fs t a n e q content h. fewer_flushed I s.lines _ a n content
      (fewer_fenced I _ (ordered-flushed_by I _ a n s.lines o) content h);
  fence = λ q. fewer_fenced I s.lines o;
}

-- Only a step that stores into the region adds crash images.
pub only_stores_add : (P : Program) (I : Input) (n : ℕ) (content : List ℕ)
    → stores (event P I (run P I n)) ≡ false
    → IsCrashImage I (run P I (suc n)) content → IsCrashImage I (run P I n) content
unfolding run
only_stores_add P I n content q h = step-cases P I (run P I n) _ (fewer I (run P I n) (lines_ordered P I n)) q content h

kept : (I : Input) (s : State) → Cases I s (λ e ls. fences e ≡ false → AllOf I s.lines ls)
kept I s = record {
  plain = λ e p q content h. h;
  store = λ f fs t a bytes e w q. all_stored I s.lines _ (a - I.base) (length bytes);
  flush = λ f fs t a n e q. all_flushed I s.lines _ a n;
  persist = λ f fs t a n e q. absurd (let z : ⊥ = cc in z);
  fence = λ q. absurd (let z : ⊥ = cc in z);
}

-- Only a fence removes crash images.
pub only_fences_remove : (P : Program) (I : Input) (n : ℕ) (content : List ℕ)
    → fences (event P I (run P I n)) ≡ false
    → IsCrashImage I (run P I n) content → IsCrashImage I (run P I (suc n)) content
unfolding run
only_fences_remove P I n content q h = step-cases P I (run P I n) _ (kept I (run P I n)) q content h
