use Rattle.std.proofs.Common.{◌≡◌, true, length, ap, ◌∙◌}
use Rattle.hip_globals.specs.Initial.{region_bytes}
use Rattle.hip_globals.specs.Laws.AddressLaws.{globals-fit}
use Rattle.hip_globals.specs.Values.{aligned}
use Rattle.hip_globals.proofs.ByteLists.{aligned_whole}
use Rattle.hip_globals.proofs.HeldLemmas.{region_holds}
use Rattle.hip_globals.proofs.InitialLemmas.{globals_fit, laid_alike, length-region}
use Rattle.hip_globals.proofs.initial_bytes.region_bytes.Goals as goal

pub address_table-requires-clause-fit : goal.address_table-requires-clause-fit
address_table-requires-clause-fit c = rw c.as_slice-globals.ensures (globals-fit c.args.program.now.globals c.requires.globals)

pub laid_bytes-requires : goal.laid_bytes-requires
laid_bytes-requires c = rw c.as_slice-globals.ensures (globals_fit c.args.program.now.globals c.requires.globals)

pub returns-clause-bytes : goal.returns-clause-bytes
returns-clause-bytes c =
    let table = c.in_ok-addresses.addresses in
    c.in_ok-set_align.ensures ∙ aligned_whole 0 64 c.in_ok-bytes.bytes
    ∙ ap (λ bytes. aligned 0 64 bytes)
    (c.in_ok-bytes.ensures ∙ laid_alike c.args.program.now c.args.base table c.as_slice-globals.result.now true 0 c.in_ok-addresses.ensures c.as_slice-globals.ensures)

pub returns-clause-length : goal.returns-clause-length
returns-clause-length c =
    let table = c.in_ok-addresses.addresses in
    let e : c.set_align.new.bytes ≡ region_bytes c.args.program.now c.args.base =
    c.in_ok-set_align.ensures ∙ aligned_whole 0 64 c.in_ok-bytes.bytes
    ∙ ap (λ bytes. aligned 0 64 bytes)
    (c.in_ok-bytes.ensures ∙ laid_alike c.args.program.now c.args.base table c.as_slice-globals.result.now true 0 c.in_ok-addresses.ensures c.as_slice-globals.ensures) in
    ap length e ∙ length-region c.args.program.now c.args.base

pub returns-clause-held : goal.returns-clause-held
returns-clause-held c = region_holds c.args.program.now c.args.base c.set_align.new.bytes (returns-clause-bytes c)
