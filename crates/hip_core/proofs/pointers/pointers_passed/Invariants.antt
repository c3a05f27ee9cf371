use Rattle.std.proofs.Common.{◌≡◌, ◌++◌, drop}
use Rattle.hip_code.specs.Named.{values_passed}
use Rattle.hip_core.specs.Acts.{numbers_of}
use Rattle.hip_core.specs.PointerOperands.{pointers_among}
use Rattle.hip_core.proofs.pointers.pointers_passed.Given as goal

abbrev pub invariant-passing : goal.invariant-passing
invariant-passing l =
    let vs = values_passed (numbers_of l.code l.core) l.call in
    l.values ++ pointers_among (drop l.place l.args) (drop l.place vs) ≡ pointers_among l.args vs
