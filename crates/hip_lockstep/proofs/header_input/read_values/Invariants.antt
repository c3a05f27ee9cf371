use Rattle.std.proofs.Common.{◌+◌, ◌-◌, length}
use Rattle.hip_globals.specs.Addresses.{region_size}
use Rattle.hip_lockstep.specs.Laws.Openings.{IsGiving}
use Rattle.hip_lockstep.specs.GivenInput.{input_of}
use Rattle.hip_lockstep.proofs.header_input.read_values.Given as goal

abbrev pub invariant-entries : goal.invariant-entries
invariant-entries g l =
    IsGiving l.checked l.initial.reader (g.C.Cabinet.state l.initial.cabinet) (input_of l.initial.given)
    l.reader (g.C.Cabinet.state l.cabinet) (input_of l.given) l.entries

abbrev pub decreases-entries : goal.decreases-entries
decreases-entries g l =
    1048576 - length (input_of l.given).numbers + (region_size l.checked - length (input_of l.given).image)
