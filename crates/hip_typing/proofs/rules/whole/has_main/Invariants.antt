use Rattle.std.proofs.Common.{◌≡◌, drop}
use Rattle.hip_sound.specs.Rules.{has_main}
use Rattle.hip_typing.proofs.rules.whole.has_main.Given as goal

abbrev pub invariant-functions : goal.invariant-functions
invariant-functions l = has_main (drop l.function-index l.functions) ≡ has_main l.functions
