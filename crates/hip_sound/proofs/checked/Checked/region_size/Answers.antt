use Rattle.hip_globals.specs.Laws.AddressLaws.{globals-fit}
use Rattle.hip_sound.proofs.checked.Checked.region_size.Goals as goal

pub region_size-requires-clause-fit : goal.region_size-requires-clause-fit
region_size-requires-clause-fit c = globals-fit c.self.inside.program.globals c.self.invariant.global_types_fit

pub region_size-requires-clause-small : goal.region_size-requires-clause-small
region_size-requires-clause-small c = c.self.invariant.sizes.region
