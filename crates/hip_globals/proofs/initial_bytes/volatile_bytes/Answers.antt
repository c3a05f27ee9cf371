use Rattle.std.proofs.Common.{◌≡◌, [], false}
use Rattle.hip_types.specs.Areas.{volatile_start}
use Rattle.hip_globals.specs.AddressesSeen.{address_beside}
use Rattle.hip_globals.specs.Initial.{laid_bytes, volatile_bytes}
use Rattle.hip_globals.specs.Laws.AddressLaws.{globals-fit}
use Rattle.hip_globals.proofs.HeldLemmas.{volatile_holds}
use Rattle.hip_globals.proofs.InitialLemmas.{globals_fit, laid_alike, volatile_length}
use Rattle.hip_globals.proofs.initial_bytes.volatile_bytes.Goals as goal

pub address_table-requires-clause-fit : goal.address_table-requires-clause-fit
address_table-requires-clause-fit c = rw c.as_slice-globals.ensures (globals-fit c.args.program.now.globals c.requires.globals)

pub laid_bytes-requires : goal.laid_bytes-requires
laid_bytes-requires c = rw c.as_slice-globals.ensures (globals_fit c.args.program.now.globals c.requires.globals)

pub returns-clause-bytes : goal.returns-clause-bytes
returns-clause-bytes c =
    let table = c.in_ok-addresses.addresses in
    let e : laid_bytes (address_beside table) false volatile_start [] c.as_slice-globals.result.now ≡ volatile_bytes c.args.program.now c.args.base =
    laid_alike c.args.program.now c.args.base table c.as_slice-globals.result.now false volatile_start c.in_ok-addresses.ensures c.as_slice-globals.ensures in
    rw (← e) c.laid_bytes.ensures

pub returns-clause-length : goal.returns-clause-length
returns-clause-length c =
    let table = c.in_ok-addresses.addresses in
    let e : laid_bytes (address_beside table) false volatile_start [] c.as_slice-globals.result.now ≡ volatile_bytes c.args.program.now c.args.base =
    laid_alike c.args.program.now c.args.base table c.as_slice-globals.result.now false volatile_start c.in_ok-addresses.ensures c.as_slice-globals.ensures in
    volatile_length c.args.program.now c.args.base c.laid_bytes.result _ e c.laid_bytes.ensures

pub returns-clause-held : goal.returns-clause-held
returns-clause-held c = volatile_holds c.args.program.now c.args.base c.laid_bytes.result (returns-clause-bytes c)
