use Rattle.std.proofs.Common.{◌≡◌, slice_index, ap, arith}
use Rattle.hip_directory.specs.Tables.{set_once}
use Rattle.hip_directory.proofs.Counts.{index-read, count-most, count-set, count-there}
use Rattle.hip_directory.proofs.directory.Directory.set.Goals as goal

pub held_after-held-requires-clause-there : goal.held_after-held-requires-clause-there
held_after-held-requires-clause-there c = λ p.
    let d = c.args.self.now in
    let read = index-read d.entries.items c.place-place.result c.index.result.now c.place-place.ensures.within c.index.ensures in
    let there = count-there d.entries.items c.place-place.result (omega (arith, p, read)) in
    omega (arith, there, d.counted)

pub held_after-held-requires-clause-small : goal.held_after-held-requires-clause-small
held_after-held-requires-clause-small c =
    let d = c.args.self.now in
    let most = count-most d.entries.items in
    omega (arith, most, d.counted, d.entries.ok.0, d.entries.small)

pub invariant_of-self-clause-counted : goal.invariant_of-self-clause-counted
invariant_of-self-clause-counted c =
    let d = c.args.self.now in
    let read = index-read d.entries.items c.place-place.result c.index.result.now c.place-place.ensures.within c.index.ensures in
    let same = count-set d.entries.items c.place-place.result c.args.number c.place-place.ensures.within in
    omega (arith, same, c.held_after-held.ensures, ap set_once read, d.counted)
