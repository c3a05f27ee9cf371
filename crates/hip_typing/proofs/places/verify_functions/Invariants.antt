use Rattle.std.proofs.Common.{◌≡◌, drop}
use Rattle.hip_sound.specs.Requirement.{each, each_from}
use Rattle.hip_sound.specs.Rules.{function_required}
use Rattle.hip_typing.proofs.places.verify_functions.Given as goal

abbrev pub invariant-functions : goal.invariant-functions
invariant-functions l = (each_from l.number (function_required l.program.program.now) (drop l.number l.functions)).found ≡ (each (function_required l.program.program.now) l.functions).found
