-- The misfit of a trace: the first number at which its pieces differ from the trace of a run of the program.
use Rattle.std.specs.Prelude.{ℕ, ◌+◌, ◌≡◌, ◌≢◌, Bool, true, List, map, take, slice_get, Option, Some, None}
use Rattle.hip_tree.specs.declared.program.Program.{Program}
use Rattle.hip_run_traces.specs.Headers.{Header, Stops, Gives, header}
use Rattle.hip_run_traces.specs.Traces.{IsTrace}
use Rattle.hip_run_traces.specs.declared.misfit.MisfitKind.{MisfitKind}
use Rattle.hip_run_traces.specs.declared.misfit.MisfitKind.TheVariants.{Malformed, Differs, Early, Extra}
use Rattle.hip_runs.specs.declared.input.Input.{Input}
use Rattle.hip_trace.specs.Pieces.{spelled}
use Rattle.hip_trace.specs.declared.entry.Entry.{Entry}

-- How a piece differs from an entry: it is malformed, or the kind is the given one.
abbrev pub kind_of : Option Entry → MisfitKind → MisfitKind
kind_of None otherwise = Malformed
kind_of (Some e) otherwise = otherwise

-- A piece and an entry of the run's trace at the same number differ. The end of the pieces, or of the entries, differs
-- from every entry, but the end of the pieces counts only if the file is whole.
abbrev pub DiffersAt : Bool → Option (Option Entry) → Option Entry → MisfitKind → Type 0
DiffersAt whole None None kind = ⊥
DiffersAt whole None (Some e) kind = (whole ≡ true) × (kind ≡ Early)
DiffersAt whole (Some piece) None kind = kind ≡ kind_of piece Extra
DiffersAt whole (Some piece) (Some e) kind = (piece ≢ Some e) × (kind ≡ kind_of piece Differs)

-- `count` pieces spell the first entries of the trace, and the next piece does not spell the next entry.
pub record FirstDiffers (whole : Bool) (pieces : List (Option Entry)) (trace : List Entry) (count : ℕ)
    (kind : MisfitKind) : Type 0 where
  pub before : take count pieces ≡ map (λ e. Some e) (take count trace)
  pub here : DiffersAt whole (slice_get pieces count) (slice_get trace count) kind

-- After a header of less than two entries, the next piece is missing or is not a valid entry.
abbrev pub StopsAt : Bool → Option (Option Entry) → MisfitKind → Type 0
StopsAt whole None kind = (whole ≡ true) × (kind ≡ Early)
StopsAt whole (Some piece) kind = kind ≡ kind_of piece Differs

-- The pieces differ from the trace of the run on an input.
pub record DiffersFromRun (P : Program) (I : Input) (whole : Bool) (pieces : List (Option Entry)) (entry : ℕ)
    (kind : MisfitKind) : Type 0 where
  pub trace : List Entry
  pub is_trace : IsTrace P I trace
  pub count : ℕ
  pub number : entry ≡ count + 1
  pub differs : FirstDiffers whole pieces trace count kind

-- After a header that gives no input, the misfit is the next entry, which is missing or not valid there. After a header
-- that gives an input, it is the first entry at which the pieces differ from the trace of the run on that input.
abbrev pub MisfitPast : Header → Program → Bool → List (Option Entry) → ℕ → MisfitKind → Type 0
MisfitPast (Stops count) P whole pieces entry kind = (entry ≡ count + 1)
    × StopsAt whole (slice_get pieces count) kind
MisfitPast (Gives count I) P whole pieces entry kind = DiffersFromRun P I whole pieces entry kind

-- The misfit of a program and the bytes of a trace, or of a front of a trace if `whole` is false: the number of an
-- entry, counted from 1, and how it differs from the run's entry. (This project's own.)
pub record IsMisfit (P : Program) (bytes : List ℕ) (whole : Bool) (entry : ℕ) (kind : MisfitKind) : Type 0 where
  pub here : MisfitPast (header P (spelled whole bytes)) P whole (spelled whole bytes) entry kind

-- The whole file is the trace of the run on the input that its header gives.
pub record IsTraceOf (P : Program) (bytes : List ℕ) (I : Input) : Type 0 where
  pub entries : ℕ
  pub header_is : header P (spelled true bytes) ≡ Gives entries I
  pub trace : List Entry
  pub is_trace : IsTrace P I trace
  pub spells : spelled true bytes ≡ map (λ e. Some e) trace
