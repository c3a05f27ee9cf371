use Rattle.std.proofs.Common.{◌≡◌, ◌++◌, get_or}
use Rattle.std.specs.BTreeSet as bag
use Rattle.std.specs.Ordering.{nat_cmp}
use Rattle.hip_ledger.specs.Noted.{flush_among}
use Rattle.hip_ledger.specs.declared.pending.FlushNote.{FlushNote}
use Rattle.hip_ledger.proofs.Thinning.{among_next}
use Rattle.hip_ledger.proofs.forget.flushes_among.Goals as goal

pub each-preserved : goal.each-preserved
each-preserved c =
    let fs = c.args.flushes.now in
    let steps = bag.contains nat_cmp c.args.steps.now in
    let none : FlushNote = record { step = 0; site = record { function = 0; block = 0; index = 0 } } in
    let pushed : c.push_among.new.kept ≡ c.each.kept ++ flush_among steps (get_or fs c.each.flush-index none) = c.in_ok-push_among.ensures in
    record { kept = among_next steps c.each.kept c.push_among.new.kept fs c.each.flush-index none c.each-test.true pushed _ c.each.invariant.kept }
