use Rattle.std.proofs.Common.{◌≡◌, ◌∙◌, ◌+◌, sym, ap, subst, cond, suc, arith, refl}
use Rattle.hip_crash.specs.LogState.{IsLogging}
use Rattle.hip_crash.specs.declared.log.CrashLog.TheInside.{Inside}
use Rattle.hip_crash.proofs.Logged.{has_room, image-small, logged-same, event-same, event-within, taken-fit, count-fit, logged-next}
use Rattle.hip_crash.proofs.log.CrashLog.advance.Goals as goal
use Rattle.hip_crash.proofs.log.CrashLog.advance.Goals.{then-is_counted, else-is_counted}

pub take_up-requires-clause-room : goal.take_up-requires-clause-room
take_up-requires-clause-room c = has_room c.self.inside c.self.invariant c.self.inside.input.now.image refl

pub invariant_of-self : goal.invariant_of-self
invariant_of-self c = logged-same c.self.inside c.self.invariant c.self.inside.input.now.image refl c.take_up.new.self c.take_up.ensures.same c.take_up.ensures.within

pub invariant_of-self-in_err-event : goal.invariant_of-self-in_err-event
invariant_of-self-in_err-event c = logged-same c.self.inside c.self.invariant c.self.inside.input.now.image refl c.take_up.new.self c.take_up.ensures.same c.take_up.ensures.within

pub note-requires-clause-within : goal.note-requires-clause-within
note-requires-clause-within c =
    let e = event-same c.self.inside c.self.invariant c.args.machine.now c.in_ok-event.event (c.self.view_is ∙ c.requires) c.in_ok-event.ensures.event in
    (c.self.inside.input.now.image, event-within c.self.inside c.self.invariant c.in_ok-event.event e, image-small c.self.inside c.self.invariant)

pub overflow_add-self : goal.overflow_add-self
overflow_add-self c = let fit = taken-fit c.self.inside c.self.invariant c.if-self.false in omega (arith, fit)

pub overflow_add-self-then-is_counted : goal.overflow_add-self-then-is_counted
overflow_add-self-then-is_counted c =
    let e = event-same c.self.inside c.self.invariant c.args.machine.now c.in_ok-event.event (c.self.view_is ∙ c.requires) c.in_ok-event.ensures.event in
    let fit = count-fit c.self.inside c.self.invariant c.if-self.false c.in_ok-event.event e (sym c.is_counted.ensures ∙ c.if-is_counted.true) in omega (arith, fit)

pub invariant_of-self-2 : goal.invariant_of-self-2
invariant_of-self-2 c =
    let e = event-same c.self.inside c.self.invariant c.args.machine.now c.in_ok-event.event (c.self.view_is ∙ c.requires) c.in_ok-event.ensures.event in
    let whole = λ (y : Inside). IsLogging (record { checked = y.checked; input = y.input; taken = y.taken; entries = y.entries; ended = c.is_end-self-inside.result; region = y.region }) in
    elim c.if-is_counted.branch [
      | then-is_counted w ↦ subst whole (sym w.self-inside-is) (logged-next c.self.inside c.self.invariant c.if-self.false c.in_ok-event.event e c.take_up.new.self c.note.new.log c.self.inside.input.now.image refl c.take_up.ensures.same
          (c.note.ensures.seen c.self.inside.input.now.image) (c.note.ensures.within c.self.inside.input.now.image (event-within c.self.inside c.self.invariant c.in_ok-event.event e))
          (c.self.inside.entries + 1) ((let one : c.self.inside.entries + 1 ≡ suc c.self.inside.entries = omega arith in one) ∙ ap (λ b. cond b (suc c.self.inside.entries) c.self.inside.entries) (sym w.if-is_counted.true ∙ c.is_counted.ensures)) c.is_end-self-inside.result c.is_end-self-inside.ensures)
      | else-is_counted w ↦ subst whole (sym w.self-inside-is) (logged-next c.self.inside c.self.invariant c.if-self.false c.in_ok-event.event e c.take_up.new.self c.note.new.log c.self.inside.input.now.image refl c.take_up.ensures.same
          (c.note.ensures.seen c.self.inside.input.now.image) (c.note.ensures.within c.self.inside.input.now.image (event-within c.self.inside c.self.invariant c.in_ok-event.event e))
          c.self.inside.entries (ap (λ b. cond b (suc c.self.inside.entries) c.self.inside.entries) (sym w.if-is_counted.false ∙ c.is_counted.ensures)) c.is_end-self-inside.result c.is_end-self-inside.ensures)
    ]
