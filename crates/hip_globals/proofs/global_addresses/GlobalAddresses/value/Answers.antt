use Rattle.hip_globals.proofs.global_addresses.GlobalAddresses.value.Goals as goal

pub value_of-requires : goal.value_of-requires
value_of-requires c = record { fit = c.requires }
