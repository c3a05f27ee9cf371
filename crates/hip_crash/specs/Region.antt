-- What a log shows of the region.
use Rattle.std.specs.Prelude.{◌≡◌, ℕ, ◌+◌, ◌*◌, ◌%◌, ◌^◌, ◌<◌, ◌≤◌, List, length}
use Rattle.hip_crash.specs.Kept.{Kept}
use Rattle.hip_crash.specs.Now.{now_at}
use Rattle.hip_crash.specs.PendingChange.{with_waiting}
use Rattle.hip_crash.specs.declared.region_log.RegionLog.{RegionLog}
use Rattle.hip_types.specs.declared.areas.TheConstants.{LINE_SIZE}

-- The state of line j of a region with these initial bytes.
unfoldable pub seen_at : RegionLog → List ℕ → ℕ → Kept
seen_at r image j = with_waiting r.waiting j (now_at r.lines image j)

-- There is room to take up what waits: the initial bytes are whole lines, 2^32 bytes at most, and each line has fewer
-- than 2^63 stores.
pub record LogHasRoom (log : RegionLog) (image : List ℕ) : Type 0 where
  pub whole : length image % LINE_SIZE ≡ 0
  pub small : length image ≤ 2 ^ 32
  pub few : (j : ℕ) → LINE_SIZE * j + LINE_SIZE ≤ length image
      → (seen_at log image j).least + length (seen_at log image j).later < 2 ^ 63
