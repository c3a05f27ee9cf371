-- When the notes of pending stores suffice for the checks to come.
use Rattle.std.specs.Prelude.{◌≡◌, ℕ, ◌/◌, false, List, Option, Some, option_map, slice_get, IsSome}
use Rattle.hip_tree.specs.declared.program.Program.{Program}
use Rattle.hip_lines.specs.Line.{Line}
use Rattle.hip_lines.specs.Loose.{IsLooseBy}
use Rattle.hip_types.specs.declared.areas.TheConstants.{LINE_SIZE}
use Rattle.hip_runs.specs.Crash.{covers}
use Rattle.hip_runs.specs.State.{Flush, StorePart}
use Rattle.hip_runs.specs.Step.{header_entries, run}
use Rattle.hip_runs.specs.declared.input.Input.{Input}
use Rattle.hip_ledger.specs.declared.pending.FlushNote.{FlushNote}
use Rattle.hip_ledger.specs.declared.pending.LineNote.{LineNote}
use Rattle.hip_ledger.specs.declared.pending.StoreNote.{StoreNote}
use Rattle.hip_ledger.specs.Pending.{first_after, FlushesAscend, note_of, StoresAscend}

-- A byte is loose by a part of a store. The part is at place k of the byte's cache line.
pub record IsLooseAt (ls : List (Line StorePart)) (b k : ℕ) (x : StorePart) : Type 0 where
  pub line : Line StorePart
  pub line_at : slice_get ls (b / LINE_SIZE) ≡ Some line
  pub loose : IsLooseBy covers line b k x

-- The step and the site of a noted flush.
abbrev pub flush_of : FlushNote → Flush
flush_of f = record { step = f.step; site = f.site }

-- What is kept of the part of a store by which byte b is loose. There is the note of the store, with its site, its
-- calls and, if the header's entries were counted right, its entry. And there is the note of the byte's line, which
-- gives the first flush after the part.
pub record StoreIsKept (I : Input) (header : ℕ) (notes : List StoreNote) (lines : ℕ
    → Option LineNote) (b : ℕ) (x : StorePart) : Type 0 where
  pub note : StoreNote
  pub there : note_of notes x.step ≡ Some note
  pub tag : note.tag ≡ x.step
  pub site : note.site ≡ x.site
  pub calls : note.calls.value ≡ x.levels
  pub entry : header ≡ header_entries I → note.entry ≡ x.entry
  pub line : LineNote
  pub line_there : lines (b / LINE_SIZE) ≡ Some line
  pub flush : option_map flush_of (first_after x.step line.flushes) ≡ x.first_flush
  pub flushed : line.stored ≡ false → IsSome (first_after x.step line.flushes)

-- All is kept of each part by which a byte is loose after n steps, and the steps of the ledger ascend below n.
pub record TellsLoose (P : Program) (I : Input) (n header : ℕ) (notes : List StoreNote) (lines : ℕ
    → Option LineNote) : Type 0 where
  pub stores : StoresAscend 0 n notes
  pub flushes : (j : ℕ) (l : LineNote) → lines j ≡ Some l → FlushesAscend 0 n l.flushes
  pub kept : (b k : ℕ) (x : StorePart) → IsLooseAt (run P I n).lines b k x → StoreIsKept I header notes lines b x
