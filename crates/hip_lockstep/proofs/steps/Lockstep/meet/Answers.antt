use Rattle.std.proofs.Common.{sym, ◌∙◌}
use Rattle.hip_lockstep.proofs.Meets.{silent}
use Rattle.hip_lockstep.proofs.StepEntries.{none_is}
use Rattle.hip_lockstep.proofs.steps.Lockstep.meet.Goals as goal

pub returns-in-Some-clause-meets : goal.returns-in-Some-clause-meets
returns-in-Some-clause-meets g c = c.meet_usual.ensures.meets c.args.event (sym c.usual_of.ensures ∙ c.in-Some.is)

pub returns-in-Some-ending_of-clause-meets : goal.returns-in-Some-ending_of-clause-meets
returns-in-Some-ending_of-clause-meets g c = c.meet_ending.ensures.meets c.args.event (sym c.ending_of.ensures ∙ c.in-Some-ending_of.is)

pub returns-in-None-ending_of-clause-meets : goal.returns-in-None-ending_of-clause-meets
returns-in-None-ending_of-clause-meets g c = λ P I start n is here. silent P I start n is here (none_is c.args.event (sym c.usual_of.ensures ∙ c.in-None.is) (sym c.ending_of.ensures ∙ c.in-None-ending_of.is))
