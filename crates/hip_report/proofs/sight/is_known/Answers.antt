use Rattle.std.proofs.Common.{[], Option, subst, sym}
use Rattle.hip_runs.specs.Found.Marks.{mark_of}
use Rattle.hip_runs.specs.declared.event.Object.{Object}
use Rattle.hip_ledger.specs.MetMarks.{AreMet}
use Rattle.hip_ledger.specs.Sights.{AddAlike}
use Rattle.hip_ledger.proofs.MarksAtHand.{at_hand_adds}
use Rattle.hip_report.proofs.sight.is_known.Goals as goal

pub returns-in-Some : goal.returns-in-Some
returns-in-Some c known =
    let before = c.args.ledger.now.marks.keys in
    subst (λ (o : Option Object). AddAlike before [] (mark_of c.args.site c.args.operand o)) (sym c.in-Some.is)
    (at_hand_adds before [] c.as_slice.result.now (record { site = c.args.site; operand = c.args.operand; object = c.in-Some.object }) (subst (λ rs. AreMet before rs) (sym c.as_slice.ensures.value) c.requires) (c.is_recent.ensures known))
