use Rattle.hip_num.proofs.Decided.{number-is}
use Rattle.hip_num.proofs.read.read_number.Goals as goal

pub returns : goal.returns
returns c = number-is c.args.base _ c.args.text.now c.read_digits.ensures
