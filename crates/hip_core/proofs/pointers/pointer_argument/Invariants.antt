use Rattle.std.proofs.Common.{◌≡◌, drop, slice_get}
use Rattle.std.specs.List.{flat_map}
use Rattle.hip_runs.specs.Found.Marks.{pointer_arg}
use Rattle.hip_core.proofs.pointers.pointer_argument.Given as goal

abbrev pub invariant-looking : goal.invariant-looking
invariant-looking l = slice_get (flat_map pointer_arg (drop l.place l.args)) l.left ≡ slice_get (flat_map pointer_arg l.args) l.operand
