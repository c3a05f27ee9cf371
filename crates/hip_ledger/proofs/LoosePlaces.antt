-- Loose bytes and the parts of stores by which they are loose.
use Rattle.std.proofs.Common.{◌≡◌, ◌⊎◌, inl, inr, ℕ, zero, suc, ◌+◌, ◌/◌, ◌<◌, ◌≤◌, List, Option, Some, None, option_map, slice_get, nat_lt, refl, sym, ap, ◌∙◌, subst, arith}
use Rattle.std.specs.Prelude.{option_and_then, option_to_list}
use Rattle.hip_tree.specs.declared.program.Program.{Program}
use Rattle.hip_lines.specs.Line.{Line}
use Rattle.hip_lines.specs.Loose.{last_over}
use Rattle.hip_lines.specs.Pending.{Pending}
use Rattle.hip_lines.specs.declared.part.LooseByte.{LooseByte}
use Rattle.hip_lines.specs.declared.part.Part.{Part}
use Rattle.hip_types.specs.declared.areas.TheConstants.{LINE_SIZE}
use Rattle.hip_runs.specs.Found.Reports.{LoosePart}
use Rattle.hip_runs.specs.Found.Tags.{IsLoosePart, loose_bytes}
use Rattle.hip_runs.specs.Laws.Found.LooseBytes.{loose_part, part_loose}
use Rattle.hip_runs.specs.Laws.Found.TagLaws.{loose_stated}
use Rattle.hip_runs.specs.Laws.LineOrder.{in_lines}
use Rattle.hip_runs.specs.Laws.PartLaws.{in-append, append-left, append-right}
use Rattle.hip_runs.specs.State.{StorePart}
use Rattle.hip_runs.specs.Step.{run}
use Rattle.hip_runs.specs.StoredParts.Parts.{In}
use Rattle.hip_runs.specs.StoredParts.Shown.{shown}
use Rattle.hip_runs.specs.declared.input.Input.{Input}
use Rattle.hip_lines.specs.Parts as bytes
use Rattle.hip_ledger.specs.Sufficiency.{IsLooseAt}

-- A loose byte is at its offset.
pub byte_at : (ws : List (Pending Part)) (c : ℕ) (x : LooseByte) → bytes.loose_at ws c ≡ Some x → x.offset ≡ c
byte_at ws c x e = go (slice_get ws (c / LINE_SIZE)) e
  where
    inner : (w : Pending Part) (o : Option (ℕ × Part)) → option_map (bytes.loose_by w c) o ≡ Some x → x.offset ≡ c
    inner w None e = absurd (let z : ⊥ = cc in z)
    inner w (Some f) e = let z : bytes.loose_by w c f ≡ x = cc in sym (ap (λ (y : LooseByte). y.offset) z)

    go : (o : Option (Pending Part)) → option_and_then (λ w. bytes.loose_in w c) o ≡ Some x → x.offset ≡ c
    go None e = absurd (let z : ⊥ = cc in z)
    go (Some w) e = inner w (last_over bytes.part_covers c w.parts) e

pub in_bytes : (ws : List (Pending Part)) (o n : ℕ) (x : LooseByte) → In x (bytes.loose_from ws o n)
    → (b : ℕ) × (o ≤ b) × (b < o + n) × (bytes.loose_at ws b ≡ Some x)
in_bytes ws o zero x i = absurd i
in_bytes ws o (suc n) x i = go (λ j. in_bytes ws (suc o) n x j) (bytes.loose_at ws o) refl (in-append (option_to_list (bytes.loose_at ws o)) (bytes.loose_from ws (suc o) n) x i)
  where
    go : (In x (bytes.loose_from ws (suc o) n) → (b : ℕ) × (suc o ≤ b) × (b < suc o + n) × (bytes.loose_at ws b ≡ Some x))
        → (a : Option LooseByte) → bytes.loose_at ws o ≡ a → In x (option_to_list a) ⊎ In x (bytes.loose_from ws (suc o) n)
        → (b : ℕ) × (o ≤ b) × (b < o + suc n) × (bytes.loose_at ws b ≡ Some x)
    go next a e (inr j) = let r = next j in (r.0, omega (arith, r.1), omega (arith, r.2), r.3)
    go next None e (inl j) = absurd j
    go next (Some z) e (inl (inl q)) = (o, omega arith, omega arith, e ∙ ap Some (sym q))
    go next (Some z) e (inl (inr j)) = absurd j

split : (a b : ℕ) → a ≤ b → (a ≡ b) ⊎ (suc a ≤ b)
split a b h = grind arith

pub bytes_in : (ws : List (Pending Part)) (o n : ℕ) (x : LooseByte) (b : ℕ) → o ≤ b → b < o + n
    → bytes.loose_at ws b ≡ Some x → In x (bytes.loose_from ws o n)
bytes_in ws o zero x b le lt e = absurd (omega (arith, le, lt))
bytes_in ws o (suc n) x b le lt e = go (λ low. bytes_in ws (suc o) n x b low (omega (arith, lt)) e) (split o b le)
  where
    go : (suc o ≤ b → In x (bytes.loose_from ws (suc o) n)) → (o ≡ b) ⊎ (suc o ≤ b) → In x (bytes.loose_from ws o (suc n))
    go next (inl q) = append-left (option_to_list (bytes.loose_at ws o)) (bytes.loose_from ws (suc o) n) x (subst (λ (a : Option LooseByte). In x (option_to_list a)) (sym e ∙ ap (bytes.loose_at ws) (sym q)) (inl refl))
    go next (inr low) = append-right (option_to_list (bytes.loose_at ws o)) (bytes.loose_from ws (suc o) n) x (next low)

module _ (P : Program) (I : Input) (n : ℕ) where
  abbrev Lines : List (Line StorePart)
  Lines = (run P I n).lines

  -- A loose part is one by which a byte of its range is loose, in the byte's line.
  pub at_place : (o len made : ℕ) (p : LoosePart) → IsLoosePart o len made Lines p
      → (b k : ℕ) × IsLooseAt Lines b k p.part × (o ≤ b) × (b < o + len) × (p.part.step ≡ made)
  at_place o len made p h = (
    h.byte,
    h.place,
    record { line = h.of; line_at = ap (slice_get Lines) (in_lines P I n h.line h.of h.place p.part h.line_at h.loose.last_over.at h.byte h.loose.last_over.over) ∙ h.line_at; loose = h.loose },
    h.low,
    h.high,
    h.step,
  )

  -- The part by which a loose byte is loose.
  pub part_of_byte : (o len : ℕ) (x : LooseByte) → In x (loose_bytes (run P I n) o len)
      → (k : ℕ) × (p : StorePart) × IsLooseAt Lines x.offset k p × (p.step ≡ x.tag) × (o ≤ x.offset) × (x.offset < o + len)
  part_of_byte o len x i =
      let a = in_bytes (shown Lines) o len x i in
      let c = a.0 in
      let off : x.offset ≡ c = byte_at (shown Lines) c x a.3 in
      let there : In x (loose_bytes (run P I n) c 1) = bytes_in (shown Lines) c 1 x c (omega arith) (omega arith) a.3 in
      let r = (loose_stated P I n c 1 x.tag).alike.part_of x there refl in
      let t = at_place c 1 x.tag r.0 (part_loose c 1 x.tag Lines r.0 r.1) in
      let same : t.0 ≡ x.offset = (let low = t.3 in let high = t.4 in omega (arith, off, low, high)) in
      (t.1, r.0.part, subst (λ b. IsLooseAt Lines b t.1 r.0.part) same t.2, t.5, omega (arith, off, a.1), omega (arith, off, a.2))

  -- The loose byte that is loose by a part.
  pub byte_of_part : (o len b k : ℕ) (p : StorePart) → IsLooseAt Lines b k p → o ≤ b → b < o + len
      → (x : LooseByte) × In x (loose_bytes (run P I n) o len) × (x.offset ≡ b) × (x.tag ≡ p.step)
  byte_of_part o len b k p h low high =
      let part : IsLoosePart b 1 p.step Lines (record { part = p; flushed = nat_lt k h.line.flushed }) = record { line = b / LINE_SIZE; of = h.line; place = k; byte = b; line_at = h.line_at; loose = h.loose; low = omega arith; high = omega arith; step = refl; flushed = refl } in
      let r = (loose_stated P I n b 1 p.step).alike.byte_of _ (loose_part b 1 p.step Lines _ part) in
      let a = in_bytes (shown Lines) b 1 r.0 r.1 in
      let same : a.0 ≡ b = omega (arith, a.1, a.2) in (
        r.0,
        bytes_in (shown Lines) o len r.0 a.0 (omega (arith, same, low)) (omega (arith, same, high)) a.3,
        byte_at (shown Lines) a.0 r.0 a.3 ∙ same,
        r.2,
      )
