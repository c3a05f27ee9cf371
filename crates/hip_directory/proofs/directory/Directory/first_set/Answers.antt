use Rattle.std.proofs.Common.{◌∙◌, sym}
use Rattle.hip_directory.proofs.Counts.{none-set}
use Rattle.hip_directory.proofs.directory.Directory.first_set.Goals as goal

pub returns-then-self-eq0 : goal.returns-then-self-eq0
returns-then-self-eq0 c = none-set c.args.self.now c.args.from c.args.to (sym c.args.self.now.counted ∙ c.if-self-eq0.true)
