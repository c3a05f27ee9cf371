-- The bytes of an `Image`.
use Rattle.std.specs.Prelude.{ℕ, ◌+◌, ◌^◌, ◌<◌, List, ◌++◌, length, replicate}
use Rattle.hip_image.specs.declared.image.Image.TheInside.{Inside}

-- The stored bytes, and the zeros after them.
abbrev pub bytes_in : Inside → List ℕ
bytes_in i = i.stored.items ++ replicate i.zeros 0

-- The number of bytes is a `usize`.
pub record IsTrimmed (i : Inside) : Type 0 where
  pub fits : length i.stored.items + i.zeros < 2 ^ 64
