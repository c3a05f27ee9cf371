use Rattle.std.proofs.Common.{[], refl}
use Rattle.hip_ledger.proofs.Blank.{none_hit}
use Rattle.hip_ledger.proofs.ledger.Ledger.new.Goals as goal

pub returns : goal.returns
returns c = record {
  sought = refl;
  header = refl;
  steps = refl;
  entries = refl;
  fence = refl;
  calls = c.in_ok-calls.ensures;
  stores = c.new.ensures.stores;
  lines = c.new.ensures.lines;
  marks = c.new-2.ensures.empty;
  recent = c.in_ok-recent.ensures;
  hit = c.new-3.ensures.empty;
  flags = none_hit [] _ c.new-4.ensures.items;
  reports = c.new-5.ensures;
}
