use Rattle.std.proofs.Common.{not, ap, ◌∙◌}
use Rattle.hip_names.proofs.NameLemmas.{among-pointed}
use Rattle.hip_names.proofs.hashed.insert_into.Goals as goal

pub returns-in-Ok-clause-new : goal.returns-in-Ok-clause-new
returns-in-Ok-clause-new c = c.in-Ok.ensures.added ∙ ap not (among-pointed c.args.name.now c.args.names.now.keys)
