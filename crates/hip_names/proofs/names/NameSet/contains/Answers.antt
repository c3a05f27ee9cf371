use Rattle.std.proofs.Common.{is_some, ap, ◌∙◌}
use Rattle.hip_names.proofs.NameLemmas.{numbered-among}
use Rattle.hip_names.proofs.names.NameSet.contains.Goals as goal

pub returns : goal.returns
returns c = c.is_some.ensures ∙ ap is_some c.number_of.ensures ∙ numbered-among c.args.self.now c.args.name.now
