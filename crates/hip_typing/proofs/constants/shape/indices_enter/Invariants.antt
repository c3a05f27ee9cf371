use Rattle.std.proofs.Common.{◌≡◌, drop}
use Rattle.hip_sound.specs.Constants.{enters, path_exists}
use Rattle.hip_typing.proofs.constants.shape.indices_enter.Given as goal

abbrev pub invariant-indices : goal.invariant-indices
invariant-indices l = enters (drop l.index_bits-index l.index_bits-items) l.ty ≡ path_exists l.indices l.initial.ty
