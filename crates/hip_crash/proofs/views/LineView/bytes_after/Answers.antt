use Rattle.hip_crash.proofs.Reading.{whole-after}
use Rattle.hip_crash.proofs.views.LineView.bytes_after.Goals as goal

pub returns-then-count-front : goal.returns-then-count-front
returns-then-count-front c = whole-after c.args.self.now.later.now c.args.self.now.last c.args.count c.min-front.result c.args.start c.args.self.now.bytes c.put_front.new.bytes c.put_last.new.bytes c.min-front.ensures c.if-count-front.true c.requires.count c.put_front.ensures c.put_last.ensures
