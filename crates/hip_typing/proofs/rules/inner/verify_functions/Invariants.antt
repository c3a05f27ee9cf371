use Rattle.std.proofs.Common.{◌≡◌, drop}
use Rattle.hip_sound.specs.Requirement.{each, each_from}
use Rattle.hip_sound.specs.Rules.{inner_required}
use Rattle.hip_typing.proofs.rules.inner.verify_functions.Given as goal

abbrev pub invariant-functions : goal.invariant-functions
invariant-functions l = (each_from l.number inner_required (drop l.number l.functions)).found ≡ (each inner_required l.functions).found
