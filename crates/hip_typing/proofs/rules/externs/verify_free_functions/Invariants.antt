use Rattle.std.proofs.Common.{◌≡◌, drop}
use Rattle.hip_sound.specs.Requirement.{each, each_from}
use Rattle.hip_sound.specs.Rules.{free_function}
use Rattle.hip_typing.proofs.rules.externs.verify_free_functions.Given as goal

abbrev pub invariant-functions : goal.invariant-functions
invariant-functions l = (each_from l.number free_function (drop l.number l.functions)).found ≡ (each free_function l.functions).found
