use Rattle.std.proofs.Common.{◌≡◌, ◌⊎◌, Some, true}
use Rattle.std.specs.Ordering.{nat_cmp}
use Rattle.std.specs.BTreeSet as bag
use Rattle.hip_lines.specs.Parts.{loose_from}
use Rattle.hip_lines.specs.declared.part.LooseByte.{LooseByte}
use Rattle.hip_runs.specs.StoredParts.Parts.{In}
use Rattle.hip_ledger.specs.Pending.{first_after}
use Rattle.hip_ledger.specs.declared.pending.FlushNote.{FlushNote}
use Rattle.hip_ledger.proofs.forget.steps_in.Given as goal

abbrev pub invariant-bytes : goal.invariant-bytes
invariant-bytes l = record {
  met : (x : LooseByte) → In x (loose_from l.lines.lines l.offset l.size)
      → In x l.byte-iterator ⊎ ((f : FlushNote) → first_after x.tag l.flushes ≡ Some f → bag.contains nat_cmp l.steps f.step ≡ true);
}
