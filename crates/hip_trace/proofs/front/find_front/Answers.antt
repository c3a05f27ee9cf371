use Rattle.std.proofs.Common.{sym}
use Rattle.hip_trace.proofs.ReaderLaws.{holds_on, holds_still, may_go_on, rest_first}
use Rattle.hip_trace.proofs.front.find_front.Goals as goal

pub more-init : goal.more-init
more-init g c = holds_still c.args.held.now (g.C.Cabinet.state c.args.cabinet.now) c.requires

pub more-preserved : goal.more-preserved
more-preserved g c =
    holds_on c.args.held.now c.more.held c.take_more.new.self (g.C.Cabinet.state c.args.cabinet.now) (g.C.Cabinet.state c.more.cabinet) (g.C.Cabinet.state c.take_more.new.cabinet)
    c.more.invariant (may_go_on c.more.held c.len.result c.in-None.ensures c.len.ensures c.if-len-gt256.false) c.in-Got.ensures

pub returns-in-End : goal.returns-in-End
returns-in-End g c =
    rest_first c.args.held.now c.more.held c.take_more.new.self (g.C.Cabinet.state c.args.cabinet.now) (g.C.Cabinet.state c.more.cabinet) (g.C.Cabinet.state c.take_more.new.cabinet)
    c.more.invariant c.in-End.ensures (sym c.in-None.ensures)
