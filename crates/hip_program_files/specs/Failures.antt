-- Refusals of the stages, as failures to load a program.
use Rattle.hip_grammar.specs.declared.refusal.ParseRefusal.{ParseRefusal}
use Rattle.hip_grammar.specs.declared.refusal.ParseRefusal.TheVariants as parse
use Rattle.hip_io.specs.declared.read.ReadRefusal.{ReadRefusal}
use Rattle.hip_io.specs.declared.read.ReadRefusal.TheVariants as reads
use Rattle.hip_program_files.specs.declared.failure.Failure.{Failure}
use Rattle.hip_program_files.specs.declared.failure.Failure.TheVariants as failures
use Rattle.hip_program_files.specs.declared.refusal.LoadRefusal.{LoadRefusal}
use Rattle.hip_program_files.specs.declared.refusal.LoadRefusal.TheVariants as loads
use Rattle.hip_program_files.specs.declared.refusal.ProgramRefusal.{ProgramRefusal}
use Rattle.hip_program_files.specs.declared.refusal.ProgramRefusal.TheVariants as refusals
use Rattle.hip_sound.specs.declared.fault.Place.{Place}
use Rattle.hip_sound.specs.declared.fault.TypeFault.{TypeFault}
use Rattle.hip_sound.specs.declared.fault.TypeFault.TheVariants as faults
use Rattle.hip_sound.specs.declared.fault.TypeRefusal.{TypeRefusal}

-- A refusal of the reader, which may be out of memory.
abbrev pub failure_of_text : ParseRefusal → Failure ProgramRefusal
failure_of_text parse.NoMemory = failures.NoMemory
failure_of_text why = failures.Refused (refusals.Text why)

-- A fault at a place, which may be out of memory.
abbrev pub failure_of_fault : TypeFault → Place → Failure ProgramRefusal
failure_of_fault faults.NoMemory place = failures.NoMemory
failure_of_fault fault place = failures.Refused (refusals.Form (record { fault = fault; place = place }))

-- A refusal of the verifier.
abbrev pub failure_of_form : TypeRefusal → Failure ProgramRefusal
failure_of_form why = failure_of_fault why.fault why.place

-- A refusal to read the file.
abbrev pub failure_of_file : ReadRefusal → Failure LoadRefusal
failure_of_file reads.Missing = failures.Refused loads.Missing
failure_of_file reads.ReadFault = failures.ReadFault
failure_of_file reads.TooLarge = failures.Refused loads.TooLarge
failure_of_file reads.NoMemory = failures.NoMemory

-- A failure of the text in the file.
abbrev pub failure_of_program : Failure ProgramRefusal → Failure LoadRefusal
failure_of_program (failures.Refused why) = failures.Refused (loads.Bad why)
failure_of_program failures.ReadFault = failures.ReadFault
failure_of_program failures.NoMemory = failures.NoMemory
