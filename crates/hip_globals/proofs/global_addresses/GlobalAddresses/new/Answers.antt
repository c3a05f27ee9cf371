use Rattle.hip_globals.proofs.InitialLemmas.{addresses_alike}
use Rattle.hip_globals.proofs.global_addresses.GlobalAddresses.new.Goals as goal

pub returns : goal.returns
returns c = addresses_alike c.args.globals.now c.args.base c.in_ok-table.table c.in_ok-table.ensures
