-- The use of canonical texts, and where a reader ends.
pub mod FieldLaws
pub mod FitLaws
pub mod PieceLaws
pub mod TextLaws
pub mod WrittenLaws
use Rattle.std.specs.Prelude.{ℕ, ◌≡◌, ◌≤◌, ◌⊎◌, List, [], length, Option, Some, None, Result, Ok, Err}
use Rattle.hip_io.specs.Cabinets.{CabinetState}
use Rattle.hip_trace.specs.Entries.{entry_of}
use Rattle.hip_trace.specs.Texts.{text_of}
use Rattle.hip_trace.specs.Reads.{ReaderState, ahead, ReadsOn}
use Rattle.hip_trace.specs.declared.entry.Entry.{Entry}
use Rattle.hip_trace.specs.declared.refusal.TraceRefusal.{TraceRefusal}
use Rattle.hip_trace.specs.declared.refusal.TraceRefusal.TheVariants.{ReadFault}

-- If some text spells an entry, its canonical text does.
abbrev pub CanonicalTextsSpell : Type 0
CanonicalTextsSpell = (text : List ℕ) (e : Entry) → entry_of text ≡ Some e → entry_of (text_of e) ≡ Some e

-- No text that spells an entry is shorter than its canonical text.
abbrev pub CanonicalTextsAreShortest : Type 0
CanonicalTextsAreShortest = (text : List ℕ) (e : Entry) → entry_of text ≡ Some e
    → length (text_of e) ≤ length text

-- At the file's end, a reader that reads on answers None, or a read failed.
abbrev pub ReadersEnd : Type 0
ReadersEnd =
    (r r' : ReaderState) (s s' : CabinetState) (result : Result (Option Entry) TraceRefusal)
    → ahead r s ≡ Some [] →
    ReadsOn r r' s s' result → (result ≡ Ok None) ⊎ (result ≡ Err ReadFault)
