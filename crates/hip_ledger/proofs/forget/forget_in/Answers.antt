use Rattle.std.proofs.Common.{ℕ, ◌/◌, inr, subst, sym}
use Rattle.std.specs.Prelude.{IsSome}
use Rattle.std.specs.BTreeMap.{BTreeMap}
use Rattle.std.specs.BTreeSet as bag
use Rattle.std.specs.Ordering.{nat_cmp}
use Rattle.hip_types.specs.declared.areas.TheConstants.{LINE_SIZE}
use Rattle.hip_ledger.specs.Noted.{MayThin}
use Rattle.hip_ledger.specs.Pending.{lines_of}
use Rattle.hip_ledger.specs.declared.pending.LineNote.{LineNote}
use Rattle.hip_ledger.proofs.forget.forget_in.Goals as goal

pub returns-in-Ok : goal.returns-in-Ok
returns-in-Ok c =
    let notes = c.args.pending.now.lines in
    let now = sym c.keep.ensures.lines in
    inr (record {
      tags = bag.contains nat_cmp c.in-Ok.needed.tags;
      stated = c.in-Ok.ensures.tags;
      stores = c.keep.ensures.stores;
      lines = λ j. subst (λ (m : BTreeMap ℕ LineNote). MayThin c.args.lines.now.lines j (lines_of notes j) (lines_of m j)) now (c.in-Ok.ensures.lines j);
      there = λ x i some. subst (λ (m : BTreeMap ℕ LineNote). IsSome (lines_of m (x.offset / LINE_SIZE))) now (c.in-Ok.ensures.there x i some);
    })
