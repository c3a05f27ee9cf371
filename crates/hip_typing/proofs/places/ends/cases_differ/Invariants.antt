use Rattle.std.proofs.Common.{◌≡◌, ◌&&◌, nat_eq, take, true}
use Rattle.std.specs.List.{list_any}
use Rattle.hip_types.specs.declared.number.Bits.{Bits}
use Rattle.hip_types.specs.Widths.{bits_of}
use Rattle.hip_sound.specs.Equal.{same_bits}
use Rattle.hip_sound.specs.Places.{cases_differ}
use Rattle.indexmap.specs.IndexSet.{contains}
use Rattle.hip_typing.proofs.places.ends.cases_differ.Given as goal

abbrev pub invariant-each : goal.invariant-each
invariant-each l =
    record {
      differ : cases_differ (take l.case-index l.cases) ≡ true;
      seen : (b : Bits) → contains (λ x y. nat_eq x.0 y.0 && nat_eq x.1 y.1) l.earlier (bits_of b.width, b.value) ≡ list_any (λ c. same_bits c.value b) (take l.case-index l.cases);
    }
