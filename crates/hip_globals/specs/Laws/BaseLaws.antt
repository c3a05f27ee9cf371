-- The test of a base, and what the addresses of globals require of it.
use Rattle.std.specs.Prelude.{ℕ, ◌%◌, ◌==◌, ◌≡◌, ◌&&◌, nat_le, true}
use Rattle.std.proofs.lemmas.Bool.{and_parts, eqb-true, leb-true}
use Rattle.hip_types.specs.declared.limits.TheConstants.{BASE_ALIGNMENT, HIGHEST_BASE, LOWEST_BASE}
use Rattle.hip_globals.specs.Addresses.{IsBase, is_base}

-- A number that passes the test of a base is one.
pub base_valid : (base : ℕ) → is_base base ≡ true → IsBase base
base_valid base e =
    let both = and_parts (base % BASE_ALIGNMENT == 0) (nat_le LOWEST_BASE base && nat_le base HIGHEST_BASE) e in
    let bounds = and_parts (nat_le LOWEST_BASE base) (nat_le base HIGHEST_BASE) both.1 in
    record {
      page = eqb-true (base % BASE_ALIGNMENT) 0 both.0;
      low = leb-true LOWEST_BASE base bounds.0;
      high = leb-true base HIGHEST_BASE bounds.1;
    }
