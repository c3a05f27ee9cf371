use Rattle.std.proofs.Common.{arith}
use Rattle.std.proofs.lemmas.Grind.{common_steps}
use Rattle.hip_io.proofs.Reading.{stopped}
use Rattle.hip_io.proofs.read.read_rest.Goals as goal

pub returns-then-is_err : goal.returns-then-is_err
returns-then-is_err g c =
    let fits = c.in-Got.ensures.fits in
    let len = c.take.auto.buf in
    let most = c.min-most.ensures in
    let few = c.more-test.true in
    let first = c.len.ensures in
    let second = c.len-in-more.ensures in
    stopped (g.C.Cabinet.state c.args.cabinet.now) (g.C.Cabinet.state c.more.cabinet) (g.C.Cabinet.state c.take.new.self) c.args.limit c.in-Got.count c.more.bytes.items c.take.new.buf c.more.invariant.taken c.in-Got.ensures (grind (arith, common_steps, fits, len, most, few, first, second))
