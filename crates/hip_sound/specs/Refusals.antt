-- The refusal of a program that is not sound.
use Rattle.hip_tree.specs.declared.program.Program.{Program}
use Rattle.hip_sound.specs.Rules.{IsFirstFault}
use Rattle.hip_sound.specs.Sound.{IsSound}
use Rattle.hip_sound.specs.declared.fault.Fault.{Fault}
use Rattle.hip_sound.specs.declared.fault.Fault.TheVariants as breaks
use Rattle.hip_sound.specs.declared.fault.TypeFault.{TypeFault}
use Rattle.hip_sound.specs.declared.fault.TypeFault.TheVariants as faults
use Rattle.hip_sound.specs.declared.fault.TypeRefusal.{TypeRefusal}

-- A requirement's fault among the faults of a program; those of spelling, of paths and of memory come from no requirement.
abbrev pub fault_of : Fault → TypeFault
fault_of breaks.Duplicate = faults.Duplicate
fault_of breaks.Unknown = faults.Unknown
fault_of breaks.Mismatch = faults.Mismatch
fault_of breaks.NoMain = faults.NoMain
fault_of breaks.BadExtern = faults.BadExtern
fault_of breaks.BadGlobal = faults.BadGlobal
fault_of breaks.BadEdge = faults.BadEdge
fault_of breaks.TooLarge = faults.TooLarge

-- The first fault of a program that is not sound.
pub record IsRefused (P : Program) (refusal : TypeRefusal) : Type 0 where
  pub unsound : ¬ IsSound P
  pub first : IsFirstFault P refusal
