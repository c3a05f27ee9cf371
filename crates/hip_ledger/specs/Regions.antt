-- The region of a run as notes see it.
use Rattle.std.specs.Prelude.{◌≡◌, ◌*◌, length}
use Rattle.hip_types.specs.declared.areas.TheConstants.{LINE_SIZE}
use Rattle.hip_ledger.specs.declared.region.Region.{Region}

-- The region is whole cache lines, and these are all of them.
abbrev pub IsWhole : Region → Type 0
IsWhole r = r.size ≡ LINE_SIZE * length r.lines.now.lines
