use Rattle.std.proofs.Common.{◌∙◌, ap, sym, get_or, arith}
use Rattle.std.proofs.lemmas.Option.{slice_get-get_or}
use Rattle.hip_crash.specs.declared.values.StoredValue.{StoredValue}
use Rattle.hip_crash.specs.Values.{bytes_with}
use Rattle.hip_crash.proofs.Bytes.{after-more}
use Rattle.hip_crash.proofs.kept_line.put_front.Goals as goal

pub loop-place-preserved : goal.loop-place-preserved
loop-place-preserved c =
    let none : StoredValue = record { offset = 0; value = 0; size = 0 } in
    c.put_value.ensures
    ∙ ap (bytes_with (get_or c.args.values.now c.loop-place.place none) c.args.start) c.loop-place.invariant
    ∙ sym (after-more c.args.values.now c.loop-place.place (get_or c.args.values.now c.loop-place.place none) c.args.start c.args.bytes.now (slice_get-get_or c.args.values.now c.loop-place.place none (omega (arith, c.requires.count, c.loop-place-test.true))))
