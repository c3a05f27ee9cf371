use Rattle.std.proofs.Common.{◌≡◌, drop}
use Rattle.hip_sound.specs.Places.{args_enter}
use Rattle.hip_typing.proofs.places.instrs.args_enter.Given as goal

abbrev pub invariant-each : goal.invariant-each
invariant-each l = args_enter (drop l.index-index l.indices) l.ty ≡ args_enter l.indices l.initial.ty
