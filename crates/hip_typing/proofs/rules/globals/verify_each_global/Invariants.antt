use Rattle.std.proofs.Common.{◌≡◌, drop}
use Rattle.hip_sound.specs.Requirement.{each, each_from}
use Rattle.hip_sound.specs.Rules.{global_required}
use Rattle.hip_typing.proofs.rules.globals.verify_each_global.Given as goal

abbrev pub invariant-globals : goal.invariant-globals
invariant-globals l = (each_from l.number (global_required l.known) (drop l.number l.globals)).found ≡ (each (global_required l.known) l.globals).found
