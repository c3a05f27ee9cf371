-- A line after a store, a flush and a fence, byte by byte.
use Rattle.std.proofs.Common.{◌≡◌, ◌⊎◌, inl, inr, ℕ, ◌+◌, ◌-◌, ◌/◌, ◌<◌, ◌≤◌, Bool, true, false, cond, ◌&&◌, nat_lt, nat_le, List, [], ◌∷◌, length, map, Option, Some, None, option_map, slice_get, slice_index, refl, sym, ap, ◌∙◌, arith}
use Rattle.std.proofs.lemmas.Bool.Decides.{nat_tests}
use Rattle.hip_tree.specs.declared.site.Site.{Site}
use Rattle.hip_lines.specs.Image.{byte_after, parts_of}
use Rattle.hip_lines.specs.Line.{Line, with_part, start_in, has_bytes, change_range, stored}
use Rattle.hip_lines.specs.Laws.LineLaws.{byte-of_part, has_bytes-of_byte, slice_get-change_range}
use Rattle.hip_mem.specs.Memory.{write_covers, byte_written}
use Rattle.hip_mem.specs.Laws.AreasLaws.{covered_or_not}
use Rattle.hip_runs.specs.Actions.{in_region}
use Rattle.hip_runs.specs.Crash.{covers, byte_of}
use Rattle.hip_runs.specs.Laws.HeldBytes.{Held, held, holds_byte, held_byte}
use Rattle.hip_runs.specs.Laws.SinceLaws.{get_mapped}
use Rattle.hip_runs.specs.State.{Level, Flush, StorePart, Counts}
use Rattle.hip_runs.specs.StoredParts.Persistence.{part_of_store, noted_flush, noted_fence, flush_line, fence_line, flushes_lines, flushed_lines, fenced_lines}
use Rattle.hip_runs.specs.declared.input.Input.{Input}
use Rattle.hip_survival.specs.Laws.CutParts.{byte_after-append}

-- Byte b of the region after all parts of its line.
abbrev pub line_byte : Input → List (Line StorePart) → ℕ → ℕ
line_byte I ls b = byte_after covers byte_of (parts_of covers byte_of (slice_get ls (b / 64))) b (slice_index I.image b)

-- ---- a flush and a fence change no byte

flush_same : (flush : Flush) (ps : List StorePart) (b first : ℕ)
    → byte_after covers byte_of (map (noted_flush flush) ps) b first ≡ byte_after covers byte_of ps b first
flush_same flush [] b first = refl
flush_same flush (p ∷ ps) b first = flush_same flush ps b (cond (covers p b) (byte_of p b) first)

fence_same : (ps : List StorePart) (b first : ℕ)
    → byte_after covers byte_of (map noted_fence ps) b first ≡ byte_after covers byte_of ps b first
fence_same [] b first = refl
fence_same (p ∷ ps) b first = fence_same ps b (cond (covers p b) (byte_of p b) first)

pub line_byte-flushed : (I : Input) (flush : Flush) (a n : ℕ) (ls : List (Line StorePart)) (b : ℕ)
    → line_byte I (flushed_lines I flush a n ls) b ≡ line_byte I ls b
line_byte-flushed I flush a n ls b = whole (flushes_lines I a n)
  where
    one : (c : Bool) (o : Option (Line StorePart))
        → byte_after covers byte_of
        (parts_of covers byte_of (option_map (λ l. cond c (flush_line flush l) l) o)) b (slice_index I.image b)
        ≡ byte_after covers byte_of (parts_of covers byte_of o) b (slice_index I.image b)
    one c None = refl
    one true (Some l) = flush_same flush l.parts b (slice_index I.image b)
    one false (Some l) = refl

    whole : (c : Bool)
        → line_byte I (cond c (change_range (λ _ l. flush_line flush l) (a - I.base) n ls) ls) b ≡ line_byte I ls b
    whole true =
        ap (λ o. byte_after covers byte_of (parts_of covers byte_of o) b (slice_index I.image b))
        (slice_get-change_range (λ _ l. flush_line flush l) (a - I.base) n ls (b / 64))
        ∙ one (has_bytes (b / 64) (a - I.base) n) (slice_get ls (b / 64))
    whole false = refl

pub line_byte-fenced : (I : Input) (ls : List (Line StorePart)) (b : ℕ)
    → line_byte I (fenced_lines ls) b ≡ line_byte I ls b
line_byte-fenced I ls b =
    ap (λ o. byte_after covers byte_of (parts_of covers byte_of o) b (slice_index I.image b))
    (get_mapped fence_line ls (b / 64)) ∙ one (slice_get ls (b / 64))
  where
    one : (o : Option (Line StorePart))
        → byte_after covers byte_of (parts_of covers byte_of (option_map fence_line o)) b (slice_index I.image b)
        ≡ byte_after covers byte_of (parts_of covers byte_of o) b (slice_index I.image b)
    one None = refl
    one (Some l) = fence_same l.parts b (slice_index I.image b)

-- ---- a store writes its bytes

true_or_not : (c : Bool) → (c ≡ true) ⊎ (c ≡ false)
true_or_not true = inl refl
true_or_not false = inr refl

-- A byte that the part covers is one of the store.
held-stored : (o : ℕ) (bytes : List ℕ) (j b : ℕ)
    → nat_le (start_in j o) b && nat_lt b (start_in j o + length (Held o bytes j)) ≡ true
    → (o ≤ b) × (b < o + length bytes)
held-stored o bytes j b h =
    let c = held o bytes j b h in
    let r = byte-of_part o (length bytes) j b c.0 c.1 in (r.0, r.1)

within : (base size a n : ℕ) → nat_le base a && nat_le (a + n) (base + size) ≡ true → base ≤ a
within base size a n h = grind (arith, nat_tests)

module _ (I : Input) (counts : Counts) (site : Site) (levels : List Level) (a : ℕ) (bytes : List ℕ) (b : ℕ)
    (inside : in_region I a (length bytes) ≡ true) where
  from : I.base ≤ a
  from = within I.base (length I.image) a (length bytes) inside

  abbrev part : StorePart
  part = part_of_store counts site levels (a - I.base) bytes (b / 64)

  -- The byte of the part in its line is the byte of the write.
  part_written : (old : ℕ)
      → cond (covers part b) (byte_of part b) old
      ≡ byte_written (record { addr = a; bytes = bytes }) (I.base + b) old
  part_written old = go (covered_or_not (record { addr = a; bytes = bytes }) (I.base + b))
    where
      go : ((write_covers (record { addr = a; bytes = bytes }) (I.base + b) ≡ true) × (a ≤ I.base + b)
          × (I.base + b < a + length bytes))
          ⊎ ((write_covers (record { addr = a; bytes = bytes }) (I.base + b) ≡ false)
          × ((I.base + b < a) ⊎ (a + length bytes ≤ I.base + b)))
          → cond (covers part b) (byte_of part b) old
          ≡ byte_written (record { addr = a; bytes = bytes }) (I.base + b) old
      go (inl x) =
          let low : a - I.base ≤ b = omega (arith, x.1, from) in
          let high : b < (a - I.base) + length bytes = omega (arith, x.2, from) in
          let r = has_bytes-of_byte (a - I.base) (length bytes) b low high in
          let at : b - (a - I.base) ≡ (I.base + b) - a = omega (arith, from, low) in
          ap (λ c. cond c (byte_of part b) old) (holds_byte (a - I.base) bytes (b / 64) b r.1 r.2)
          ∙ held_byte (a - I.base) bytes (b / 64) b r.1 r.2
          ∙ ap (slice_index bytes) at
          ∙ sym (ap (λ c. cond c (slice_index bytes ((I.base + b) - a)) old) x.0)
      go (inr x) =
          ap (λ c. cond c (byte_of part b) old) (none (true_or_not (covers part b)))
          ∙ sym (ap (λ c. cond c (slice_index bytes ((I.base + b) - a)) old) x.0)
        where
          apart : (I.base + b < a) ⊎ (a + length bytes ≤ I.base + b)
              → (a - I.base ≤ b) × (b < (a - I.base) + length bytes)
              → ⊥
          apart (inl lt) r = omega (arith, lt, r.0, from)
          apart (inr le) r = omega (arith, le, r.1, from)

          none : (covers part b ≡ true) ⊎ (covers part b ≡ false) → covers part b ≡ false
          none (inl e) = absurd (apart x.1 (held-stored (a - I.base) bytes (b / 64) b e))
          none (inr e) = e

  -- A line that the store does not reach has no byte of the store.
  not_reached : has_bytes (b / 64) (a - I.base) (length bytes) ≡ false → (old : ℕ)
      → old ≡ byte_written (record { addr = a; bytes = bytes }) (I.base + b) old
  not_reached f old = go (covered_or_not (record { addr = a; bytes = bytes }) (I.base + b))
    where
      go : ((write_covers (record { addr = a; bytes = bytes }) (I.base + b) ≡ true) × (a ≤ I.base + b)
          × (I.base + b < a + length bytes))
          ⊎ ((write_covers (record { addr = a; bytes = bytes }) (I.base + b) ≡ false)
          × ((I.base + b < a) ⊎ (a + length bytes ≤ I.base + b)))
          → old ≡ byte_written (record { addr = a; bytes = bytes }) (I.base + b) old
      go (inl x) =
          let low : a - I.base ≤ b = omega (arith, x.1, from) in
          let high : b < (a - I.base) + length bytes = omega (arith, x.2, from) in
          let r = has_bytes-of_byte (a - I.base) (length bytes) b low high in
          absurd (let e : false ≡ true = sym f ∙ r.0 in let z : ⊥ = cc in z)
      go (inr x) = sym (ap (λ c. cond c (slice_index bytes ((I.base + b) - a)) old) x.0)

  pub line_byte-stored : (ls : List (Line StorePart)) (l : Line StorePart) → slice_get ls (b / 64) ≡ Some l
      → line_byte I (stored (part_of_store counts site levels (a - I.base) bytes) (a - I.base) (length bytes) ls) b
      ≡ byte_written (record { addr = a; bytes = bytes }) (I.base + b) (line_byte I ls b)
  line_byte-stored ls l e =
      ap (λ z. byte_after covers byte_of (parts_of covers byte_of z) b (slice_index I.image b))
      (slice_get-change_range (λ j x. with_part (part_of_store counts site levels (a - I.base) bytes j) x)
      (a - I.base) (length bytes) ls (b / 64)
      ∙ ap (option_map (λ x. cond (has_bytes (b / 64) (a - I.base) (length bytes)) (with_part part x) x)) e)
      ∙ go (has_bytes (b / 64) (a - I.base) (length bytes)) refl
      ∙ sym (ap (λ z. byte_written (record { addr = a; bytes = bytes }) (I.base + b)
      (byte_after covers byte_of (parts_of covers byte_of z) b (slice_index I.image b))) e)
    where
      go : (c : Bool) → has_bytes (b / 64) (a - I.base) (length bytes) ≡ c
          → byte_after covers byte_of (cond c (with_part part l) l).parts b (slice_index I.image b)
          ≡ byte_written (record { addr = a; bytes = bytes }) (I.base + b)
          (byte_after covers byte_of l.parts b (slice_index I.image b))
      go true f =
          byte_after-append covers byte_of l.parts part b (slice_index I.image b)
          ∙ part_written (byte_after covers byte_of l.parts b (slice_index I.image b))
      go false f = not_reached f (byte_after covers byte_of l.parts b (slice_index I.image b))
