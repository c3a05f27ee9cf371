use Rattle.std.proofs.Common.{◌≡◌, ◌≤◌, true, drop}
use Rattle.hip_types.specs.Layout.{Fits}
use Rattle.hip_sound.specs.Places.{args_enter}
use Rattle.hip_instr_ops.specs.Far.{ReachesPart}
use Rattle.hip_instr_ops.proofs.path.path_of.Given as goal

pub record Invariant (l : goal.Live-inner) : Type 0 where
  pub some : 1 ≤ l.number
  pub fits : Fits l.part
  pub enters : args_enter (drop l.number l.indices) l.part ≡ true
  pub reaches : ReachesPart l.scope l.ty l.indices l.number l.part l.path

abbrev pub invariant-inner : goal.invariant-inner
invariant-inner l = Invariant l
