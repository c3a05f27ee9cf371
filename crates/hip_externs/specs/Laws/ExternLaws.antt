-- The name of each external function names that function.
use Rattle.std.specs.Prelude.{◌≡◌, Some, refl}
use Rattle.hip_externs.specs.Externs.{call_of, row_of}
use Rattle.hip_externs.specs.declared.call.ExternCall.{ExternCall}
use Rattle.hip_externs.specs.declared.call.ExternCall.TheVariants as calls

pub call_of_name : (c : ExternCall) → call_of (row_of c).name ≡ Some c
call_of_name calls.ReadI64 = refl
call_of_name _ = refl
