use Rattle.std.proofs.Common.{◌<◌, arith}
use Rattle.hip_runner.proofs.Acted.{call_out}
use Rattle.hip_runner.proofs.actions.call.Goals as goal

pub returns-clause-some : goal.returns-clause-some
returns-clause-some c =
    let a = c.args in
    let off = c.if-core.false in
    let below : a.core.now.turns < a.core.now.limit = omega (arith, off) in
    call_out a.code.now a.core.now c.of.result c.of.ensures c.call_quickly.new.core c.in_ok-next.next a.call.now c.in_ok-next.ensures.some below c.put_into.new.core c.put_into.ensures
