use Rattle.hip_ledger.proofs.MarksAtHand.{met_at_hand}
use Rattle.hip_ledger.proofs.marks.meet_mark.Goals as goal

pub returns-clause-known : goal.returns-clause-known
returns-clause-known c = met_at_hand c.args.marks.now.keys c.insert.new.marks.keys c.args.recent.now.items c.keep_recent.new.recent.items c.args.mark c.requires c.in_ok-insert.ensures c.keep_recent.ensures
