use Rattle.std.proofs.Common.{◌∙◌, drop}
use Rattle.hip_trace.proofs.HeldLaws.{after_front, got_more}
use Rattle.hip_trace.proofs.held.Held.take_more.Goals as goal

pub returns-in-Got : goal.returns-in-Got
returns-in-Got g c =
    let h = c.self.inside in
    let after = c.take_after-taken.new.bytes in
    let front = c.take_after-taken.ensures.front ∙ c.move_down.ensures ∙ c.self.view_is in
    got_more c.args.self.now _ (drop _ after) c.in-Got.count (g.C.Cabinet.state c.args.cabinet.now) (g.C.Cabinet.state c.take_after-taken.new.cabinet) c.in-Got.ensures.taken (after_front _ c.in-Got.count c.args.self.now after front)
