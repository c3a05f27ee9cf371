-- Values that were stored into the region, byte by byte.
use Rattle.std.specs.Prelude.{ℕ, suc, ◌+◌, ◌-◌, Bool, cond, ◌&&◌, nat_le, nat_lt, List, [], ◌∷◌, slice_index}
use Rattle.hip_types.specs.Bytes.{bytes_of}
use Rattle.hip_crash.specs.declared.values.StoredValue.{StoredValue}

-- Whether a stored value covers the byte at an offset of the region.
abbrev pub stored_covers : StoredValue → ℕ → Bool
stored_covers v b = nat_le v.offset b && nat_lt b (v.offset + v.size)

-- The byte that a stored value gives an offset that it covers. The value's lowest byte is at its first offset.
abbrev pub stored_byte : StoredValue → ℕ → ℕ
stored_byte v b = slice_index (bytes_of v.size v.value) (b - v.offset)

-- Bytes of the region, the first of which has offset b, after a value was stored.
abbrev pub bytes_with : StoredValue → ℕ → List ℕ → List ℕ
bytes_with v b [] = []
bytes_with v b (x ∷ xs) = cond (stored_covers v b) (stored_byte v b) x ∷ bytes_with v (suc b) xs

-- Those bytes after these values were stored, in this order.
abbrev pub bytes_after : List StoredValue → ℕ → List ℕ → List ℕ
bytes_after [] b xs = xs
bytes_after (v ∷ vs) b xs = bytes_after vs b (bytes_with v b xs)
