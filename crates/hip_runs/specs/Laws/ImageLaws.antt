-- Crash images line by line, and inputs that begin with them.
use Rattle.std.proofs.Common.{◌≡◌, ◌⊎◌, inl, inr, ℕ, zero, suc, ◌+◌, ◌-◌, ◌*◌, ◌<◌, ◌≤◌, Bool, true, nat_eq, List, [], ◌∷◌, ◌++◌, length, take, drop, Some, slice_get, slice_index, refl, sym, ap, ◌∙◌, subst, arith, false}
use Rattle.std.specs.List.{list_all, list_any, range_with_len}
use Rattle.hip_types.specs.Laws.DistinctLaws.{or_first, or_second, either}
use Rattle.hip_lines.specs.Image.{byte_after, IsLineImage}
use Rattle.hip_lines.specs.Line.{Line}
use Rattle.std.proofs.lemmas.List.Elements.{All-nil, All-cons, All-head, All-tail}
use Rattle.hip_types.specs.Bytes.{little_endian, bytes_of}
use Rattle.hip_mem.specs.Laws.BytesLaws.{bytes_of-below}
use Rattle.hip_runs.specs.StoredParts.Parts.{In, PartOf}
use Rattle.hip_runs.specs.Laws.CrashLaws.{same_size}
use Rattle.hip_runs.specs.Laws.Found.LooseBytes.{part_at}
use Rattle.hip_runs.specs.Laws.StoreLaws.{part-of_store}
use Rattle.std.specs.Prelude.{All, cond, ◌/◌}
use Rattle.hip_runs.specs.declared.input.Input.{Input}
use Rattle.hip_runs.specs.Crash.{covers, byte_of, IsCrashImage, is_line_after, is_line_image, are_line_images, is_crash_image}
use Rattle.hip_runs.specs.State.{StorePart, State}
use Rattle.hip_runs.specs.Laws.Members.{both_true, equal_true, true_both, true_equal}
use Rattle.hip_runs.specs.Step.{run}
use Rattle.hip_runs.specs.Validity.{IsInput, IsValid}
use Rattle.hip_tree.specs.declared.program.Program.{Program}

-- ---- the parts after the durable ones

after_append : (xs ys : List StorePart) (b first : ℕ)
    → byte_after covers byte_of (xs ++ ys) b first
    ≡ byte_after covers byte_of ys b (byte_after covers byte_of xs b first)
after_append [] ys b first = refl
after_append (x ∷ xs) ys b first = after_append xs ys b _

take_parts : {A : Type 0} (d q : ℕ) (xs : List A) → d ≤ q → take q xs ≡ take d xs ++ take (q - d) (drop d xs)
take_parts zero q xs le = let e : q - 0 ≡ q = omega arith in ap (λ k. take k xs) (sym e)
take_parts (suc d) zero xs le = absurd (omega (arith, le))
take_parts (suc d) (suc q) [] le = nothing [] (suc q - suc d) refl
  where
    nothing : {A : Type 0} (ys : List A) (k : ℕ) → ys ≡ [] → [] ≡ take k ys
    nothing [] zero e = refl
    nothing [] (suc k) e = refl
    nothing (y ∷ ys) k e = absurd (let z : ⊥ = cc in z)
take_parts (suc d) (suc q) (x ∷ xs) le =
    ap (λ ys. x ∷ ys) (take_parts d q xs (omega (arith, le)))
    ∙ ap (λ k. x ∷ (take d xs ++ take k (drop d xs))) (let e : q - d ≡ suc q - suc d = omega arith in e)

-- The byte after the first q parts of a line, from the byte after its durable parts.
pub past_durable : (l : Line StorePart) (q b first : ℕ) → l.durable ≤ q →
    byte_after covers byte_of (take q l.parts) b first
    ≡ byte_after covers byte_of (take (q - l.durable) (drop l.durable l.parts)) b
    (byte_after covers byte_of (take l.durable l.parts) b first)
past_durable l q b first le =
    ap (λ xs. byte_after covers byte_of xs b first) (take_parts l.durable q l.parts le)
    ∙ after_append (take l.durable l.parts) (take (q - l.durable) (drop l.durable l.parts)) b first

-- ---- numbers of a range

module _ (test : ℕ → Bool) where
  first_or_later : (a b : ℕ) → a ≤ b → (a ≡ b) ⊎ (a + 1 ≤ b)
  first_or_later a b h = grind arith

  all_there : (a n : ℕ) → list_all test (range_with_len a n) ≡ true → (b : ℕ) → a ≤ b → b < a + n
      → test b ≡ true
  all_there a zero h b le lt = absurd (omega (arith, le, lt))
  all_there a (suc n) h b le lt =
      go (λ low. all_there (a + 1) n (both_true (test a) _ h).1 b low (omega (arith, lt))) (first_or_later a b le)
    where
      go : (a + 1 ≤ b → test b ≡ true) → (a ≡ b) ⊎ (a + 1 ≤ b) → test b ≡ true
      go next (inl e) = subst (λ k. test k ≡ true) e (both_true (test a) _ h).0
      go next (inr low) = next low

  there_all : (a n : ℕ) → ((b : ℕ) → a ≤ b → b < a + n → test b ≡ true)
      → list_all test (range_with_len a n) ≡ true
  there_all a zero h = refl
  there_all a (suc n) h =
      true_both (h a (omega arith) (omega arith))
      (there_all (a + 1) n (λ b le lt. h b (omega (arith, le)) (omega (arith, lt))))

  some_there : (a n : ℕ) → list_any test (range_with_len a n) ≡ true → (b : ℕ) × (a ≤ b) × (b < a + n)
      × (test b ≡ true)
  some_there a zero h = absurd (let z : ⊥ = cc in z)
  some_there a (suc n) h = go (λ g. some_there (a + 1) n g) (either (test a) _ h)
    where
      go : (list_any test (range_with_len (a + 1) n) ≡ true → (b : ℕ) × (a + 1 ≤ b) × (b < a + 1 + n)
          × (test b ≡ true))
          → (test a ≡ true) ⊎ (list_any test (range_with_len (a + 1) n) ≡ true)
          → (b : ℕ) × (a ≤ b) × (b < a + suc n) × (test b ≡ true)
      go next (inl t) = (a, omega arith, omega arith, t)
      go next (inr t) = let r = next t in (r.0, omega (arith, r.1), omega (arith, r.2), r.3)

  there_some : (a n b : ℕ) → a ≤ b → b < a + n → test b ≡ true
      → list_any test (range_with_len a n) ≡ true
  there_some a zero b le lt t = absurd (omega (arith, le, lt))
  there_some a (suc n) b le lt t = go (λ low. there_some (a + 1) n b low (omega (arith, lt)) t) (first_or_later a b le)
    where
      go : (a + 1 ≤ b → list_any test (range_with_len (a + 1) n) ≡ true) → (a ≡ b) ⊎ (a + 1 ≤ b)
          → list_any test (range_with_len a (suc n)) ≡ true
      go next (inl e) = or_first _ _ (subst (λ k. test k ≡ true) (sym e) t)
      go next (inr low) = or_second (test a) _ (next low)

-- ---- the test and the definition

module _ (first content : List ℕ) where
  same_byte : ℕ → Line StorePart → ℕ → ℕ → Bool
  same_byte j l q b =
      nat_eq (slice_index content b) (byte_after covers byte_of (take q l.parts) b (slice_index first b))

  line_of_test : (j : ℕ) (l : Line StorePart) → is_line_image first content j l ≡ true
      → IsLineImage covers byte_of first content j l
  line_of_test j l h =
      let r = some_there (is_line_after first content j l) l.durable (suc (length l.parts) - l.durable) h in (
        r.0,
        record {
          least = r.1;
          most = omega (arith, r.1, r.2);
          bytes =
              λ b from to. equal_true _ _ (all_there
              (λ k. nat_eq (slice_index content k) (byte_after covers byte_of (take r.0 l.parts) k
              (slice_index first k))) (64 * j) 64 r.3 b from to);
        },
      )

  test_of_line : (j : ℕ) (l : Line StorePart) → IsLineImage covers byte_of first content j l
      → is_line_image first content j l ≡ true
  test_of_line j l h =
      there_some (is_line_after first content j l) l.durable (suc (length l.parts) - l.durable) h.0 h.1.least
      (omega (arith, h.1.least, h.1.most))
      (there_all (λ k. nat_eq (slice_index content k)
      (byte_after covers byte_of (take h.0 l.parts) k (slice_index first k))) (64 * j) 64
      (λ b from to. true_equal _ _ (h.1.bytes b from to)))

  lines_of_test : (j : ℕ) (ls : List (Line StorePart)) → are_line_images first content j ls ≡ true
      → (k : ℕ) (l : Line StorePart) → slice_get ls k ≡ Some l
      → IsLineImage covers byte_of first content (j + k) l
  lines_of_test j [] h k l e = absurd (let z : ⊥ = cc in z)
  lines_of_test j (x ∷ ls) h zero l e =
      let same_line : x ≡ l = cc in
      let z : j ≡ j + 0 = omega arith in
      subst (λ i. IsLineImage covers byte_of first content i l) z
      (subst (IsLineImage covers byte_of first content j) same_line
      (line_of_test j x (both_true (is_line_image first content j x) _ h).0))
  lines_of_test j (x ∷ ls) h (suc k) l e =
      let z : suc j + k ≡ j + suc k = omega arith in
      subst (λ i. IsLineImage covers byte_of first content i l) z
      (lines_of_test (suc j) ls (both_true (is_line_image first content j x) _ h).1 k l e)

  test_of_lines : (j : ℕ) (ls : List (Line StorePart))
      → ((k : ℕ) (l : Line StorePart) → slice_get ls k ≡ Some l
      → IsLineImage covers byte_of first content (j + k) l)
      → are_line_images first content j ls ≡ true
  test_of_lines j [] h = refl
  test_of_lines j (x ∷ ls) h =
      let z : j + 0 ≡ j = omega arith in
      true_both (test_of_line j x (subst (λ i. IsLineImage covers byte_of first content i x) z (h 0 x refl)))
      (test_of_lines (suc j) ls (λ k l e. let y : j + suc k ≡ suc j + k = omega arith in
      subst (λ i. IsLineImage covers byte_of first content i l) y (h (suc k) l e)))

pub image_of_test : (I : Input) (s : State) (content : List ℕ) → is_crash_image I s content ≡ true
    → IsCrashImage I s content
image_of_test I s content h =
    let p = both_true (nat_eq (length content) (length I.image)) _ h in
    record {
      whole = equal_true _ _ p.0;
      lines = λ j l e. let z : 0 + j
          ≡ j = omega arith in subst (λ i. IsLineImage covers byte_of I.image content i l) z (lines_of_test I.image
          content 0 s.lines p.1 j l e);
    }

pub test_of_image : (I : Input) (s : State) (content : List ℕ) → IsCrashImage I s content
    → is_crash_image I s content ≡ true
test_of_image I s content h =
    true_both (true_equal _ _ h.whole)
    (test_of_lines I.image content 0 s.lines (λ k l e. let z : k ≡ 0 + k = omega arith in
    subst (λ i. IsLineImage covers byte_of I.image content i l) z (h.lines k l e)))

-- ---- an input that begins with an image

below_index : (xs : List ℕ) → All (λ b. b < 256) xs → (i : ℕ) → slice_index xs i < 256
below_index [] h i = omega arith
below_index (x ∷ xs) h zero = All-head (λ b. b < 256) x xs h
below_index (x ∷ xs) h (suc i) = below_index xs (All-tail (λ b. b < 256) x xs h) i

index_below : (xs : List ℕ) → ((i : ℕ) → i < length xs → slice_index xs i < 256) → All (λ b. b < 256) xs
index_below [] h = All-nil (λ b. b < 256)
index_below (x ∷ xs) h =
    All-cons (λ b. b < 256) x xs (h 0 (omega arith)) (index_below xs (λ i lt. h (suc i) (omega (arith, lt))))

in_front : (q : ℕ) (xs : List StorePart) (x : StorePart) → In x (take q xs) → In x xs
in_front zero [] x i = i
in_front zero (y ∷ xs) x i = absurd i
in_front (suc q) [] x i = i
in_front (suc q) (y ∷ xs) x (inl e) = inl e
in_front (suc q) (y ∷ xs) x (inr i) = inr (in_front q xs x i)

line_there : (ls : List (Line StorePart)) (j : ℕ) → j < length ls → (l : Line StorePart)
    × (slice_get ls j ≡ Some l)
line_there [] j h = absurd (omega (arith, h))
line_there (l ∷ ls) zero h = (l, refl)
line_there (l ∷ ls) (suc j) h = line_there ls j (omega (arith, h))

after_below : (xs : List StorePart) (b first : ℕ) → first < 256
    → ((x : StorePart) → In x xs → covers x b ≡ true → byte_of x b < 256)
    → byte_after covers byte_of xs b first < 256
after_below [] b first h parts = h
after_below (x ∷ xs) b first h parts =
    after_below xs b (cond (covers x b) (byte_of x b) first) (go (covers x b) refl) (λ y i. parts y (inr i))
  where
    go : (t : Bool) → covers x b ≡ t → cond t (byte_of x b) first < 256
    go true e = parts x (inl refl) e
    go false e = h

module _ (P : Program) (I : Input) (n : ℕ) where
  part_below : (x : StorePart) (b : ℕ) → PartOf (run P I n).lines x → covers x b ≡ true → byte_of x b < 256
  part_below x b i e =
      let o = part-of_store P I n x i in
      let same : byte_of x b ≡ slice_index (bytes_of (length o.bytes) (little_endian o.bytes)) (I.base + b - o.addr) =
      (o.covered b e).3 ∙ ap (λ bs. slice_index bs (I.base + b - o.addr)) (sym o.written) in
      subst (λ v. v < 256) (sym same) (bytes_of-below (length o.bytes) (little_endian o.bytes) (I.base + b - o.addr))

  image_bytes : (content : List ℕ) → IsValid P I → All (λ b. b < 256) I.image
      → IsCrashImage I (run P I n) content
      → All (λ b. b < 256) content
  image_bytes content v first h = index_below content below
    where
      below : (i : ℕ) → i < length content → slice_index content i < 256
      below i lt =
          let size = same_size P I n v in
          let whole = h.whole in
          let l = line_there (run P I n).lines (i / 64) (omega (arith, lt, whole, size)) in
          let r = h.lines (i / 64) l.0 l.1 in
          subst (λ k. k < 256) (sym (r.1.bytes i (omega arith) (omega arith)))
          (after_below (take r.0 l.0.parts) i (slice_index I.image i) (below_index I.image first i)
          (λ x j e. part_below x i (part_at (run P I n).lines (i / 64) l.0 x l.1 (in_front r.0 l.0.parts x j)) e))

  pub image_valid : (content : List ℕ) → IsValid P I → IsCrashImage I (run P I n) content
      → IsValid P (record I { image = content })
  image_valid content v h = record { base = v.base; image = h.whole ∙ v.image; numbers = v.numbers; limit = v.limit }

  pub image_input : (content : List ℕ) → IsInput I → IsValid P I → IsCrashImage I (run P I n) content
      → IsInput (record I { image = content })
  image_input content i v h = record { bytes = image_bytes content v i.bytes h; numbers = i.numbers }
