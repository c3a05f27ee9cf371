-- What the fields of a storage represent.
use Rattle.std.specs.Prelude.{◌≡◌, ◌≤◌, ◌^◌, length}
use Rattle.hip_types.specs.declared.limits.TheConstants.{LARGEST_REGION}
use Rattle.hip_storage.specs.Contents.{Contents}
use Rattle.hip_storage.specs.declared.storage.Storage.TheInside.{Inside}

-- The contents that a storage represents: the bytes of its memory.
abbrev pub contents_of : Inside → Contents
contents_of s = record { areas = s.ram }

-- The region's place and size are those of the memory.
pub record RegionIsKept (s : Inside) : Type 0 where
  pub base : s.base ≡ s.ram.base
  pub size : s.size ≡ length s.ram.region
  pub high : s.base ≤ 2 ^ 46
  pub small : s.size ≤ LARGEST_REGION
