use Rattle.std.proofs.Common.{refl, arith}
use Rattle.hip_core.specs.declared.core_parts.Core.{Core}
use Rattle.hip_core.proofs.CallArms.{acts_too_deep, acts_call_from, keeps_longer, on_err}
use Rattle.hip_core.proofs.calls.call.Goals as goal

pub returns-then-below-clause-ok : goal.returns-then-below-clause-ok
returns-then-below-clause-ok c = acts_too_deep (omega (arith, c.if-below.true, c.len-below.ensures, c.args.core.now.saved.ok.0)) c.trap.ensures.does

pub returns-in_err-lengthen-clause-err : goal.returns-in_err-lengthen-clause-err
returns-in_err-lengthen-clause-err c =
    let read = c.read_all.new.core in
    let mid : Core = record read { slots = c.lengthen.new.slots } in
    on_err c.from_residual-in_err-lengthen.result (keeps_longer read mid c.read_all.ensures.others c.lengthen.ensures.longer refl)

pub returns-in_err-keep-clause-err : goal.returns-in_err-keep-clause-err
returns-in_err-keep-clause-err c =
    let read = c.read_all.new.core in
    let mid : Core = record read { slots = c.lengthen.new.slots; saved = c.keep.new.saved } in
    on_err c.from_residual-in_err-keep.result (keeps_longer read mid c.read_all.ensures.others c.lengthen.ensures.longer c.in_err-keep.ensures.err)

pub returns-clause-ok : goal.returns-clause-ok
returns-clause-ok c =
    let read = c.read_all.new.core in
    let kept : Core = record read { saved = c.keep.new.saved } in
    acts_call_from read c.lengthen.new.slots.items kept c.write_all.new.core c.moves_of-moves.result.now
    (omega (arith, c.if-below.false, c.len-below.ensures, c.args.core.now.saved.ok.0))
    c.read_all.ensures.others c.moves_of-moves.ensures c.in_ok-read_all.ensures.ok c.lengthen.ensures.longer (omega (arith, c.in_ok-lengthen.ensures.ok)) c.in_ok-keep.ensures.ok c.write_all.ensures.slots c.write_all.ensures.others c.enter.ensures
