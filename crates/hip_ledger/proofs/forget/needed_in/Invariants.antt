use Rattle.std.proofs.Common.{◌≡◌, ◌⊎◌, ℕ, ◌/◌, ◌<◌, Some, true}
use Rattle.std.specs.Prelude.{IsSome}
use Rattle.std.specs.Ordering.{nat_cmp}
use Rattle.std.specs.BTreeSet as bag
use Rattle.hip_lines.specs.Parts.{loose_from}
use Rattle.hip_types.specs.declared.areas.TheConstants.{LINE_SIZE}
use Rattle.hip_lines.specs.declared.part.LooseByte.{LooseByte}
use Rattle.hip_runs.specs.StoredParts.Parts.{In}
use Rattle.hip_ledger.specs.Noted.{MayThin}
use Rattle.hip_ledger.specs.Pending.{lines_of}
use Rattle.hip_ledger.proofs.forget.needed_in.Given as goal

abbrev pub invariant-bytes : goal.invariant-bytes
invariant-bytes l = record {
  low : (x : LooseByte) → In x l.byte-iterator → x.offset < l.region;
  last_tag : (t : ℕ) → l.last_tag ≡ Some t → bag.contains nat_cmp l.needed.tags t ≡ true;
  last_line : (j : ℕ) → l.last_line ≡ Some j → IsSome (lines_of l.notes j) → IsSome (lines_of l.needed.lines j);
  tags : (x : LooseByte) → In x (loose_from l.lines.lines 0 l.region) → In x l.byte-iterator ⊎ (bag.contains nat_cmp l.needed.tags x.tag ≡ true);
  there : (x : LooseByte) → In x (loose_from l.lines.lines 0 l.region)
      → In x l.byte-iterator ⊎ (IsSome (lines_of l.notes (x.offset / LINE_SIZE)) → IsSome (lines_of l.needed.lines (x.offset / LINE_SIZE)));
  lines : (j : ℕ) → MayThin l.lines.lines j (lines_of l.notes j) (lines_of l.needed.lines j);
}
