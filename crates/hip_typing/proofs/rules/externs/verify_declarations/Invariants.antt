use Rattle.std.proofs.Common.{◌≡◌, drop}
use Rattle.hip_sound.specs.Requirement.{each, each_from}
use Rattle.hip_sound.specs.Rules.{declared}
use Rattle.hip_typing.proofs.rules.externs.verify_declarations.Given as goal

abbrev pub invariant-externs : goal.invariant-externs
invariant-externs l = (each_from l.number declared (drop l.number l.externs)).found ≡ (each declared l.externs).found
