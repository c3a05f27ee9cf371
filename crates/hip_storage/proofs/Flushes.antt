-- What the flush of a range in the region shows.
use Rattle.std.proofs.Common.{inr, ◌≡◌, ℕ, ◌+◌, ◌-◌, ◌*◌, ◌/◌, ◌<◌, ◌≤◌, true, cond, ◌&&◌, length, None, Some, sym, ap, ap₂, ◌∙◌, lt-ltb, arith}
use Rattle.hip_types.specs.declared.areas.TheConstants.{LINE_SIZE}
use Rattle.hip_mem.specs.Laws.AreasLaws.{fits-are_valid}
use Rattle.hip_runs.specs.Actions.{is_within}
use Rattle.hip_runs.specs.Step.{first_line, lines_size}
use Rattle.hip_runs.specs.StoredParts.Persistence.{flushes_lines}
use Rattle.hip_runs.specs.declared.event.Event.TheVariants as events
use Rattle.hip_runs.specs.declared.event.TrapKind.TheVariants as traps
use Rattle.hip_storage.specs.Calls.{ShowsFlush}
use Rattle.hip_storage.specs.Contents.{Contents, range_trap, region_of}

-- A range with at least one byte is in the region, whose base and size are those of the contents.
pub record IsReached (s : Contents) (base size a n : ℕ) : Type 0 where
  pub base_is : base ≡ s.areas.base
  pub size_is : size ≡ length s.areas.region
  pub some : 0 < n
  pub within : is_within base (base + size) a n ≡ true
  pub low : base ≤ a
  pub high : a + n ≤ base + size

module _ {s : Contents} {base size a n : ℕ} (r : IsReached s base size a n) where
  reaches : flushes_lines (region_of s) a n ≡ true
  reaches = ap₂ (λ x y. x && y) (lt-ltb 0 n r.some) (ap₂ (λ b k. is_within b (b + k) a n) (sym r.base_is) (sym r.size_is) ∙ r.within)

  allowed : range_trap s a n ≡ None
  allowed = ap (λ t. cond t None (Some traps.Address)) (fits-are_valid s.areas n a (inr (inr (omega (arith, r.low, r.base_is), omega (arith, r.high, r.base_is, r.size_is)))))

  first_is : (l : ℕ) → l ≡ base + LINE_SIZE * ((a - base) / LINE_SIZE) → l ≡ first_line (region_of s) a
  first_is l e = e ∙ ap (λ b. b + LINE_SIZE * ((a - b) / LINE_SIZE)) r.base_is

  size_is : (z : ℕ) → z ≡ LINE_SIZE * (((a - base) + n - 1) / LINE_SIZE + 1) - LINE_SIZE * ((a - base) / LINE_SIZE) → z ≡ lines_size (region_of s) a n
  size_is z e = e ∙ ap (λ b. LINE_SIZE * (((a - b) + n - 1) / LINE_SIZE + 1) - LINE_SIZE * ((a - b) / LINE_SIZE)) r.base_is

  pub flushes : {l z : ℕ} → l ≡ base + LINE_SIZE * ((a - base) / LINE_SIZE) →
      z ≡ LINE_SIZE * (((a - base) + n - 1) / LINE_SIZE + 1) - LINE_SIZE * ((a - base) / LINE_SIZE) → ShowsFlush s (events.Flush l z) a n
  flushes {l} {z} f g = record {
    allowed = allowed;
    seen = ap₂ events.Flush (first_is l f) (size_is z g) ∙ ap (λ t. cond t (events.Flush (first_line (region_of s) a) (lines_size (region_of s) a n)) events.Quiet) (sym reaches);
  }
