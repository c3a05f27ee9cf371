use Rattle.std.proofs.Common.{subst}
use Rattle.hip_sound.specs.Laws.GivenLaws.{sound-calls, sound-operands, sound-labels, sound-phis}
use Rattle.hip_sound.specs.Sound.{IsSound}
use Rattle.hip_sound.proofs.checked.Checked.program.Goals as goal

pub returns-clause-calls : goal.returns-clause-calls
returns-clause-calls c = sound-calls c.args.self.now (subst IsSound c.self.view_is c.self.invariant)

pub returns-clause-operands : goal.returns-clause-operands
returns-clause-operands c = sound-operands c.args.self.now (subst IsSound c.self.view_is c.self.invariant)

pub returns-clause-assigned : goal.returns-clause-assigned
returns-clause-assigned c = let sound = subst IsSound c.self.view_is c.self.invariant in sound.assigned

pub returns-clause-labels : goal.returns-clause-labels
returns-clause-labels c = sound-labels c.args.self.now (subst IsSound c.self.view_is c.self.invariant)

pub returns-clause-phis : goal.returns-clause-phis
returns-clause-phis c = sound-phis c.args.self.now (subst IsSound c.self.view_is c.self.invariant)

pub returns-clause-main : goal.returns-clause-main
returns-clause-main c = let sound = subst IsSound c.self.view_is c.self.invariant in sound.main
