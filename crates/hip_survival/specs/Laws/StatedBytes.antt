-- The loose bytes are those of the code's lines.
use Rattle.std.proofs.Common.{◌≡◌, ℕ, ◌+◌, ◌/◌, ◌<◌, ◌≤◌, nat_lt, slice_get, refl, ap, ◌∙◌, subst, arith}
use Rattle.hip_tree.specs.declared.program.Program.{Program}
use Rattle.hip_lines.specs.declared.part.LooseByte.{LooseByte}
use Rattle.hip_runs.specs.Found.Reports.{LoosePart}
use Rattle.hip_runs.specs.Found.Tags.{IsLoosePart, loose_bytes}
use Rattle.hip_runs.specs.Laws.Found.LooseBytes.{are_alike, loose_part, part_loose}
use Rattle.hip_runs.specs.Laws.LineOrder.{in_lines}
use Rattle.hip_runs.specs.Step.{run}
use Rattle.hip_runs.specs.StoredParts.Parts.{In}
use Rattle.hip_runs.specs.declared.input.Input.{Input}
use Rattle.hip_survival.specs.Survival.{IsLooseAt}

module _ (P : Program) (I : Input) (n : ℕ) where
  -- The part of a loose byte is a loose part of each range that has the byte.
  pub part_of_loose : (b o size : ℕ) → o ≤ b → b < o + size → (h : IsLooseAt (run P I n) b)
      → IsLoosePart o size h.2.1.step (run P I n).lines (record { part = h.2.1; flushed = nat_lt h.2.0 h.0.flushed })
  part_of_loose b o size low high h = record {
    line = b / 64;
    of = h.0;
    place = h.2.0;
    byte = b;
    line_at = h.1;
    loose = h.2.2;
    low = low;
    high = high;
    step = refl;
    flushed = refl;
  }

  -- If a byte makes a part loose, the byte is loose.
  pub loose_of_part : (o size made : ℕ) (p : LoosePart) (r : IsLoosePart o size made (run P I n).lines p)
      → IsLooseAt (run P I n) r.byte
  loose_of_part o size made p r =
      let at : r.byte / 64 ≡ r.line =
      in_lines P I n r.line r.of r.place p.part r.line_at r.loose.last_over.at r.byte r.loose.last_over.over in
      (r.of, ap (slice_get (run P I n).lines) at ∙ r.line_at, (r.place, p.part, r.loose))

  pub loose-stated : (b : ℕ) → IsLooseAt (run P I n) b → (x : LooseByte) × In x (loose_bytes (run P I n) b 1)
  loose-stated b h =
      let there = loose_part b 1 h.2.1.step (run P I n).lines
      (record { part = h.2.1; flushed = nat_lt h.2.0 h.0.flushed })
      (part_of_loose b b 1 (omega arith) (omega arith) h) in
      let alike = are_alike (run P I n).lines (in_lines P I n) b 1 h.2.1.step in
      let r = alike.byte_of (record { part = h.2.1; flushed = nat_lt h.2.0 h.0.flushed }) there in
      (r.0, r.1)

  pub stated-loose : (b : ℕ) (x : LooseByte) → In x (loose_bytes (run P I n) b 1) → IsLooseAt (run P I n) b
  stated-loose b x i =
      let alike = are_alike (run P I n).lines (in_lines P I n) b 1 x.tag in
      let r = alike.part_of x i refl in
      let q = part_loose b 1 x.tag (run P I n).lines r.0 r.1 in
      let same : q.byte ≡ b = omega (arith, q.low, q.high) in
      subst (IsLooseAt (run P I n)) same (loose_of_part b 1 x.tag r.0 q)
