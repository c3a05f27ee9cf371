use Rattle.std.proofs.Common.{refl, sym, ◌∙◌}
use Rattle.std.proofs.lemmas.Option.{slice_get_read}
use Rattle.std.proofs.lemmas.Slice.Eq.{bytes_eq-Decides}
use Rattle.hip_io.proofs.Pieces.{first_here}
use Rattle.hip_files.proofs.held_files.number_of.Goals as goal

pub returns-then-eq : goal.returns-then-eq
returns-then-eq c =
    let name = rw (← c.index-files-at.is) at c.as_slice.ensures in
    let same = rw name at (sym c.eq.ensures ∙ c.if-eq.true) in
    record {
      file = c.index-files-at.result;
      here = slice_get_read _ _ _ _ refl c.each-test.true c.index-files-at.is;
      named = (bytes_eq-Decides _ _).0 same;
      first = sym c.each.invariant ∙ first_here _ _ _ _ c.each-test.true c.index-files-at.is same;
    }
