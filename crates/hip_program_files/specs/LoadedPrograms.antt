-- The program in a file, and why there is none.
use Rattle.std.specs.Prelude.{ℕ, ◌≡◌, ◌≤◌, ◌<◌, ◌⊎◌, Bool, true, false, List, length, Option, Some, None, IfSome, Result, Ok, Err}
use Rattle.hip_io.specs.Cabinets.{CabinetState, file_of}
use Rattle.hip_io.specs.declared.cabinet.NamedFile.{NamedFile}
use Rattle.hip_grammar.specs.declared.fault.TextFault.{TextFault}
use Rattle.hip_grammar.specs.declared.fault.TextFault.TheVariants as faults
use Rattle.hip_tree.specs.declared.program.Program.{Program}
use Rattle.hip_grammar.specs.ReadTexts.{Reads, IsRefusal}
use Rattle.hip_program_files.specs.Outside.{CountsFetches, HasMet}
use Rattle.hip_program_files.specs.declared.failure.Failure.{Failure}
use Rattle.hip_program_files.specs.declared.failure.Failure.TheVariants as failures
use Rattle.hip_program_files.specs.declared.limits.TheConstants.{TEXT_LIMIT}
use Rattle.hip_program_files.specs.declared.refusal.LoadRefusal.{LoadRefusal}
use Rattle.hip_program_files.specs.declared.refusal.LoadRefusal.TheVariants as loads
use Rattle.hip_program_files.specs.declared.refusal.ProgramRefusal.{ProgramRefusal}
use Rattle.hip_program_files.specs.declared.refusal.ProgramRefusal.TheVariants as refusals
use Rattle.hip_grammar.specs.declared.refusal.ParseRefusal.{ParseRefusal}
use Rattle.hip_grammar.specs.declared.refusal.ParseRefusal.TheVariants as parse
use Rattle.hip_sound.specs.Refusals.{IsRefused}
use Rattle.hip_sound.specs.Sound.{IsSound}

-- ---- texts

-- No program is read from the text, and this is the refused token's fault and line.
pub record IsRefusedText (text : List ℕ) (why : TextFault) (line : ℕ) : Type 0 where
  pub unread : (program : Program) → Reads text program → ⊥
  pub refused : IsRefusal text why line

-- The text is refused in this way; out of memory is no such refusal.
abbrev pub RefusesText : List ℕ → ParseRefusal → Type 0
RefusesText text (parse.Syntax line) = IsRefusedText text faults.Syntax line
RefusesText text (parse.Unsupported line) = IsRefusedText text faults.Unsupported line
RefusesText text (parse.Range line) = IsRefusedText text faults.Range line
RefusesText text (parse.TooDeep line) = IsRefusedText text faults.TooDeep line
RefusesText text parse.NoMemory = ⊥

-- The text reads as no program, or as one that is not sound.
abbrev pub RefusesProgram : List ℕ → ProgramRefusal → Type 0
RefusesProgram text (refusals.Text why) = RefusesText text why
RefusesProgram text (refusals.Form why) = (program : Program) × Reads text program × IsRefused program why

-- What the verifier answers for a program that is read.
abbrev pub ChecksProgram : Program → Result Program (Failure ProgramRefusal) → Type 0
ChecksProgram program (Ok checked) = (checked ≡ program) × IsSound program
ChecksProgram program (Err (failures.Refused (refusals.Form why))) = IsRefused program why
ChecksProgram program (Err (failures.Refused (refusals.Text why))) = ⊥
ChecksProgram program (Err failures.ReadFault) = ⊥
ChecksProgram program (Err failures.NoMemory) = Unit {0}

-- What reading a text answers; out of memory may come at any time.
abbrev pub ReadsProgram : List ℕ → Result Program (Failure ProgramRefusal) → Type 0
ReadsProgram text (Ok program) = Reads text program × IsSound program
ReadsProgram text (Err (failures.Refused why)) = RefusesProgram text why
ReadsProgram text (Err failures.ReadFault) = ⊥
ReadsProgram text (Err failures.NoMemory) = Unit {0}

-- ---- files

-- The file has this text, if the cabinet's files are known, and it is not too long.
pub record FileHasText (files : Option (List NamedFile)) (name text : List ℕ) : Type 0 where
  pub fits : length text ≤ TEXT_LIMIT
  pub stated : IfSome files (λ fs. file_of fs name ≡ Some text)

-- The file's text reads as the program, which is sound.
pub record IsProgramOf (files : Option (List NamedFile)) (name : List ℕ) (program : Program) : Type 0 where
  pub text : List ℕ
  pub is_text : FileHasText files name text
  pub reads : Reads text program
  pub sound : IsSound program

-- The file is there and has more than 16,777,216 bytes.
pub record FileIsTooLong (files : List NamedFile) (name : List ℕ) : Type 0 where
  pub text : List ℕ
  pub found : file_of files name ≡ Some text
  pub long : TEXT_LIMIT < length text

-- The file's text, which is not too long, reads as no program, or as one that is not sound, for this reason.
pub record IsBadProgram (files : Option (List NamedFile)) (name : List ℕ) (why : ProgramRefusal) : Type 0 where
  pub text : List ℕ
  pub is_text : FileHasText files name text
  pub refused : RefusesProgram text why

-- Why there is no program in the file.
abbrev pub HasNoProgram : Option (List NamedFile) → List ℕ → LoadRefusal → Type 0
HasNoProgram files name loads.Missing = IfSome files (λ fs. file_of fs name ≡ None)
HasNoProgram files name loads.TooLarge = IfSome files (λ fs. FileIsTooLong fs name)
HasNoProgram files name (loads.Bad why) = IsBadProgram files name why

-- Whether the refusal is that no file has the name of the program.
abbrev pub is_missing : LoadRefusal → Bool
is_missing loads.Missing = true
is_missing loads.TooLarge = false
is_missing (loads.Bad why) = false

-- The file of that name is the current one.
pub record IsCurrent (name : List ℕ) (new : CabinetState) : Type 0 where
  pub current : new.is_current ≡ true
  pub named : IfSome new.name (λ n. n ≡ name)

-- A file could not be read: it could not be fetched, and no file is current, or it is current and was read in part.
pub record HasFailedLoading (old new : CabinetState) (name : List ℕ) : Type 0 where
  pub met : HasMet false true old new
  pub unread : (new.is_current ≡ false) ⊎ IsCurrent name new

-- What loading the program of a file answers: one file is fetched; out of memory may come at any time.
abbrev pub Loads : List ℕ → CabinetState → CabinetState → Result Program (Failure LoadRefusal) → Type 0
Loads name old new (Ok program) =
    HasMet false false old new × IsProgramOf old.files name program × CountsFetches 1 old new
Loads name old new (Err (failures.Refused why)) =
    HasMet (is_missing why) false old new × HasNoProgram old.files name why
Loads name old new (Err failures.ReadFault) = HasFailedLoading old new name
Loads name old new (Err failures.NoMemory) = HasMet false false old new
