use Rattle.hip_tool.proofs.Orders.{the_headline}
use Rattle.hip_tool.proofs.answered.headline.Goals as goal

pub returns : goal.returns
returns c = the_headline c.orders_are_answered.ensures c.files_are_plain.ensures
