-- The edges between blocks, and the moves of phis along them.
use Rattle.std.specs.Prelude.{ℕ, ◌≡◌, ◌≤◌, List, [], ◌∷◌, ◌++◌, Some, length, slice_get}
use Rattle.hip_tree.specs.declared.block.Block.{Block}
use Rattle.hip_tree.specs.declared.block.Phi.{Phi}
use Rattle.hip_runs.specs.Places.{block_at, block_number, blocks_of, label_of, phis_of}
use Rattle.hip_code.specs.Edges.{are_moves}
use Rattle.hip_code.specs.Entries.{PlaceStandsAt}
use Rattle.hip_code.specs.Numbers.{Tables, entries_of, HasSpan}
use Rattle.hip_code.specs.declared.op.OpEdge.{OpEdge}
use Rattle.hip_code.specs.declared.op.Move.{Move}
use Rattle.hip_scope.specs.Growth.{TablesGrow, Makes}
use Rattle.hip_scope.specs.Known.{PhisKnown}
use Rattle.hip_scope.specs.Scopes.{names_of}
use Rattle.hip_end_ops.specs.declared.edges.EdgeSource.{EdgeSource}
use Rattle.hip_scope.specs.declared.scope.Scope.{Scope}

-- The moves are those of phis of the function, for control from a label, one for each phi.
abbrev pub moves_of : Scope → Tables → List ℕ → List Move → List Phi → Type 0
moves_of s t from ms ps = are_moves s.program.now.globals s.base (names_of s) t.constants from ms ps

-- Moves for phis are put into the table; the tables of edges and of cases stay the same.
pub record PutsMoves (s : Scope) (t u : Tables) (from : List ℕ) (ps : List Phi) : Type 0 where
  pub moves : List Move
  pub are : u.moves ≡ t.moves ++ moves
  pub makes : Makes t u (λ v. moves_of s v from moves ps)
  pub edges : u.edges ≡ t.edges
  pub cases : u.cases ≡ t.cases

-- The edge of that number leads from a block of the function to another.
pub record EdgeLeads (s : Scope) (t : Tables) (b number target : ℕ) : Type 0 where
  pub edge : OpEdge
  pub here : slice_get t.edges number ≡ Some edge
  pub block : edge.block ≡ target
  pub begins : PlaceStandsAt s.program.now edge.target s.number target 0
  pub span : HasSpan edge.moves t.moves
  pub moves : moves_of s t (label_of (block_at s.program.now s.number b)) (entries_of edge.moves t.moves)
      (phis_of (block_at s.program.now s.number target))

-- Each edge from that number on leads from the block.
pub record LeadFrom (s : Scope) (b first : ℕ) (t : Tables) : Type 0 where
  pub at : (k : ℕ) (e : OpEdge) → first ≤ k → slice_get t.edges k ≡ Some e → (u : Tables) → TablesGrow t u
      → EdgeLeads s u b k e.block

-- The edge of that number leads to the block with a label.
pub record EdgeLeadsTo (s : Scope) (t : Tables) (b number : ℕ) (label : List ℕ) : Type 0 where
  pub target : ℕ
  pub numbered : block_number (blocks_of s.program.now s.number) label ≡ Some target
  pub leads : EdgeLeads s t b number target

-- The source's block is the block that has the source's number in the function.
pub record IsSource (s : Scope) (source : EdgeSource) : Type 0 where
  pub here : block_at s.program.now s.number source.number ≡ Some source.block.now

-- The block of that number exists, and its phis have operands for control from the source.
pub record IsTarget (s : Scope) (source : EdgeSource) (target : ℕ) : Type 0 where
  pub block : Block
  pub here : block_at s.program.now s.number target ≡ Some block
  pub known : PhisKnown (names_of s) source.block.now.label block.phis

-- An edge is put at the end of the table.
pub record NewEdge (s : Scope) (t u : Tables) (b number target : ℕ) : Type 0 where
  pub edge : OpEdge
  pub number_is : number ≡ length t.edges
  pub are : u.edges ≡ t.edges ++ edge ∷ []
  pub block : edge.block ≡ target
  pub cases : u.cases ≡ t.cases
  pub makes : Makes t u (λ v. EdgeLeads s v b number target)

-- There is an edge to the block with a label.
pub record HasEdge (s : Scope) (t u : Tables) (source : EdgeSource) (number : ℕ) (label : List ℕ) : Type 0 where
  pub lead : LeadFrom s source.number source.first u
  pub cases : u.cases ≡ t.cases
  pub makes : Makes t u (λ v. EdgeLeadsTo s v source.number number label)

-- An edge from the block to this target was put into the table earlier.
pub record Earlier (t : Tables) (first target number : ℕ) : Type 0 where
  pub edge : OpEdge
  pub from : first ≤ number
  pub here : slice_get t.edges number ≡ Some edge
  pub block : edge.block ≡ target
