use Rattle.std.proofs.Common.{subst, sym}
use Rattle.hip_ledger.specs.MetMarks.{AreMet}
use Rattle.hip_ledger.proofs.MarksAtHand.{at_hand_adds}
use Rattle.hip_report.proofs.sight.push_mark.Goals as goal

pub returns-then-is_recent : goal.returns-then-is_recent
returns-then-is_recent c =
    let before = c.args.ledger.now.marks.keys in
    at_hand_adds before c.args.marks.now c.as_slice.result.now c.args.mark (subst (λ rs. AreMet before rs) (sym c.as_slice.ensures.value) c.requires) (c.is_recent.ensures c.if-is_recent.true)
