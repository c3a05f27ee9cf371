use Rattle.hip_names.proofs.NameLemmas.{number-pointed}
use Rattle.hip_names.proofs.hashed.HashedNames.number_of.Goals as goal

pub returns-in-Some-clause-number : goal.returns-in-Some-clause-number
returns-in-Some-clause-number c = rw (← c.self.view_is, c.in-Some.is, ← c.deref.ensures, c.get_index_of.ensures.index) (number-pointed c.args.name.now c.deref.result.now.keys)
