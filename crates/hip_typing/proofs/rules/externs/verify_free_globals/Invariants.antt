use Rattle.std.proofs.Common.{◌≡◌, drop}
use Rattle.hip_sound.specs.Requirement.{each, each_from}
use Rattle.hip_sound.specs.Rules.{free_global}
use Rattle.hip_typing.proofs.rules.externs.verify_free_globals.Given as goal

abbrev pub invariant-globals : goal.invariant-globals
invariant-globals l = (each_from l.number free_global (drop l.number l.globals)).found ≡ (each free_global l.globals).found
