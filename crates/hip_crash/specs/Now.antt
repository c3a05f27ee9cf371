-- The state of a cache line: what is kept of it, or its initial bytes if nothing is.
use Rattle.std.specs.Prelude.{ℕ, ◌*◌, List, [], drop, take, Option, Some, None}
use Rattle.hip_types.specs.declared.areas.TheConstants.{LINE_SIZE}
use Rattle.hip_crash.specs.Kept.{Kept}
use Rattle.hip_crash.specs.KeptLines.{kept_at}
use Rattle.hip_crash.specs.declared.kept_lines.KeptLines.{KeptLines}

-- Line j, into which nothing was stored, of a region with these initial bytes.
abbrev pub fresh : List ℕ → ℕ → Kept
fresh image j = record { bytes = take LINE_SIZE (drop (LINE_SIZE * j) image); least = 0; later = []; flushed = 0 }

-- What is kept of line j; if nothing is kept, the line with its initial bytes and no stores.
abbrev pub kept_or_fresh : List ℕ → ℕ → Option Kept → Kept
kept_or_fresh image j None = fresh image j
kept_or_fresh image j (Some k) = k

-- The state of line j, without a store or a flush that waits to be taken up.
abbrev pub now_at : KeptLines → List ℕ → ℕ → Kept
now_at m image j = kept_or_fresh image j (kept_at m j)
