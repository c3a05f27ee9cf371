-- Failures of the stages, as answers.
use Rattle.std.proofs.Common.{◌≡◌, ◌⊎◌, ℕ, false, List, Option, Some, None, Ok, Err, inl, inr, sym, ap, ◌∙◌, subst}
use Rattle.std.specs.Prelude.{IfSome, Result}
use Rattle.std.specs.Result.{IsErrAnd}
use Rattle.std.proofs.lemmas.Result.{err_from_is_err_and}
use Rattle.hip_grammar.specs.ReadTexts.{Reads}
use Rattle.hip_grammar.specs.Refusals.{GivesProgram, IsCause}
use Rattle.hip_grammar.specs.declared.refusal.ParseRefusal.{ParseRefusal}
use Rattle.hip_grammar.specs.declared.refusal.ParseRefusal.TheVariants as parse
use Rattle.hip_io.specs.Cabinets.{CabinetState, file_of}
use Rattle.hip_io.specs.Reads.{HasBegun, HasRead, HasReadWhole, IsLongFile, IsWholeFile}
use Rattle.hip_io.specs.declared.cabinet.NamedFile.{NamedFile}
use Rattle.hip_io.specs.declared.read.ReadRefusal.{ReadRefusal}
use Rattle.hip_io.specs.declared.read.ReadRefusal.TheVariants as reads
use Rattle.hip_program_files.specs.Failures.{failure_of_fault, failure_of_file, failure_of_form, failure_of_program, failure_of_text}
use Rattle.hip_program_files.specs.LoadedPrograms.{FileIsTooLong, IsCurrent, Loads, ReadsProgram}
use Rattle.hip_program_files.specs.Outside.{CountsFetches}
use Rattle.hip_program_files.specs.declared.failure.Failure.{Failure}
use Rattle.hip_program_files.specs.declared.failure.Failure.TheVariants as failures
use Rattle.hip_program_files.specs.declared.limits.TheConstants.{TEXT_LIMIT}
use Rattle.hip_program_files.specs.declared.refusal.LoadRefusal.{LoadRefusal}
use Rattle.hip_program_files.specs.declared.refusal.ProgramRefusal.{ProgramRefusal}
use Rattle.hip_sound.specs.declared.fault.Place.{Place}
use Rattle.hip_sound.specs.declared.fault.TypeFault.{TypeFault}
use Rattle.hip_sound.specs.declared.fault.TypeFault.TheVariants as faults
use Rattle.hip_sound.specs.declared.fault.TypeRefusal.{TypeRefusal}
use Rattle.hip_tree.specs.declared.program.Program.{Program}
use Rattle.hip_typing.specs.Verified.{Refuses}

-- What the exit of a `?` answers.
fails : {T E : Type 0} (P : Result T E → Type 0) (r : Result T E) (e : E) → IsErrAnd r (λ y. y ≡ e) → P (Err e)
    → P r
fails P r e h p = let q = err_from_is_err_and r h in subst P (sym (q.1 ∙ ap (λ x. Err x) q.2)) p

-- ---- texts

unread : (text : List ℕ) (why : ParseRefusal)
    → ((program : Program) → Reads text program → GivesProgram (Err why) program) → IsCause text why
    → ReadsProgram text (Err (failure_of_text why))
unread text (parse.Syntax line) only cause = record { unread = only; refused = cause }
unread text (parse.Unsupported line) only cause = record { unread = only; refused = cause }
unread text (parse.Range line) only cause = record { unread = only; refused = cause }
unread text (parse.TooDeep line) only cause = record { unread = only; refused = cause }
unread text parse.NoMemory only cause = tt {0}

pub text_refused : (text : List ℕ) (why : ParseRefusal) (r : Result Program (Failure ProgramRefusal))
    → ((program : Program) → Reads text program → GivesProgram (Err why) program) → IsCause text why
    → IsErrAnd r (λ y. y ≡ failure_of_text why) → ReadsProgram text r
text_refused text why r only cause h = fails (ReadsProgram text) r (failure_of_text why) h (unread text why only cause)

unsound : (text : List ℕ) (program : Program) (fault : TypeFault) (place : Place) → Reads text program
    → Refuses program (record { fault = fault; place = place }) → ReadsProgram text (Err (failure_of_fault fault place))
unsound text program faults.NoMemory place reads refused = tt {0}
unsound text program _ place reads refused = (program, reads, refused)

pub form_refused : (text : List ℕ) (program : Program) (why : TypeRefusal)
    (r : Result Program (Failure ProgramRefusal)) → Reads text program → Refuses program why
    → IsErrAnd r (λ y. y ≡ failure_of_form why) → ReadsProgram text r
form_refused text program why r reads refused h =
    fails (ReadsProgram text) r (failure_of_form why) h (unsound text program why.fault why.place reads refused)

-- ---- files

-- A file that was read, or not, was fetched once.
pub read_once : (old new : CabinetState) (name : List ℕ) (limit : ℕ) (r : Result (List ℕ) ReadRefusal)
    → HasRead old new name limit r → CountsFetches 1 old new
read_once old new name limit (Ok bytes) h = record { count = h.fetches }
read_once old new name limit (Err reads.Missing) h = record { count = h.fetches }
read_once old new name limit (Err reads.ReadFault) h = record { count = h.fetches }
read_once old new name limit (Err reads.TooLarge) h = record { count = h.fetches }
read_once old new name limit (Err reads.NoMemory) h = record { count = h.fetches }

-- The same by what the exit of a `?` answers.
pub refused_once : (old new : CabinetState) (name : List ℕ) (why : ReadRefusal)
    (r : Result Program (Failure LoadRefusal)) → HasRead old new name TEXT_LIMIT (Err why)
    → IsErrAnd r (λ y. y ≡ failure_of_file why) → CountsFetches 1 old new
refused_once old new name why r read h = read_once old new name TEXT_LIMIT (Err why) read

module _ (old new : CabinetState) (name : List ℕ) where
  unfetched : (why : ReadRefusal) → HasRead old new name TEXT_LIMIT (Err why)
      → Loads name old new (Err (failure_of_file why))
  unfetched reads.Missing h = search
  unfetched reads.ReadFault h = record {
    met = record { files = h.files; misses = h.misses; faults = (h.later, h.rose) };
    unread = by h.begun;
  }
    where
      by : (new.is_current ≡ false) ⊎ HasBegun old new name TEXT_LIMIT
          → (new.is_current ≡ false) ⊎ IsCurrent name new
      by (inl closed) = inl closed
      by (inr begun) = inr (record { current = begun.current; named = begun.named })
  unfetched reads.TooLarge h =
      (record { files = h.files; misses = h.misses; faults = h.faults }, long old.files h.stated)
    where
      long : (files : Option (List NamedFile)) → IfSome files (λ known. IsLongFile known name TEXT_LIMIT new)
          → IfSome files (λ known. FileIsTooLong known name)
      long None stated = stated
      long (Some known) stated = record { text = stated.bytes; found = stated.found; long = stated.long }
  unfetched reads.NoMemory h = search

  pub file_refused : (why : ReadRefusal) (r : Result Program (Failure LoadRefusal))
      → HasRead old new name TEXT_LIMIT (Err why) → IsErrAnd r (λ y. y ≡ failure_of_file why) → Loads name old new r
  file_refused why r read h = fails (Loads name old new) r (failure_of_file why) h (unfetched why read)

  unloaded : (text : List ℕ) (why : Failure ProgramRefusal) → HasReadWhole old new name TEXT_LIMIT text
      → ReadsProgram text (Err why) → Loads name old new (Err (failure_of_program why))
  unloaded text (failures.Refused why) whole h = (
    record { files = whole.files; misses = whole.misses; faults = whole.faults },
    record { text = text; is_text = record { fits = whole.fits; stated = found old.files whole.stated }; refused = h },
  )
    where
      found : (files : Option (List NamedFile)) → IfSome files (λ known. IsWholeFile known name text new)
          → IfSome files (λ known. file_of known name ≡ Some text)
      found None stated = stated
      found (Some known) stated = stated.found
  unloaded text failures.ReadFault whole h = absurd h
  unloaded text failures.NoMemory whole h = search

  pub program_refused : (text : List ℕ) (why : Failure ProgramRefusal) (r : Result Program (Failure LoadRefusal))
      → HasReadWhole old new name TEXT_LIMIT text → ReadsProgram text (Err why)
      → IsErrAnd r (λ y. y ≡ failure_of_program why) → Loads name old new r
  program_refused text why r whole read h = fails (Loads name old new) r (failure_of_program why) h (unloaded text why whole read)
