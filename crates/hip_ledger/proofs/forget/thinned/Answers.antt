use Rattle.std.proofs.Common.{◌∙◌, ap}
use Rattle.std.specs.BTreeSet as bag
use Rattle.std.specs.List.{flat_map}
use Rattle.std.specs.Ordering.{nat_cmp}
use Rattle.hip_ledger.specs.Noted.{flush_among}
use Rattle.hip_ledger.proofs.Thinning.{ok_map, thin}
use Rattle.hip_ledger.proofs.forget.thinned.Goals as goal

pub returns : goal.returns
returns c =
    let steps = bag.contains nat_cmp c.in_ok-steps.steps in
    ok_map _ _ c.flushes_among.result c.flushes_among.ensures (λ kept e. thin c.args.lines.now.lines c.args.line c.args.flushes.now kept steps (e ∙ ap (flat_map (flush_among steps)) c.as_slice.ensures) c.in_ok-steps.ensures)
