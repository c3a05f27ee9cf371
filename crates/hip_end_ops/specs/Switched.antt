-- The ends of blocks.
use Rattle.std.specs.List.Sorted.{IsNonDecreasingBy, IsPermutation}
use Rattle.std.specs.Prelude.{ℕ, ◌≡◌, ◌++◌, true, List, [], ◌∷◌, Some, length, slice_get}
use Rattle.hip_tree.specs.declared.block.Case as named_case
use Rattle.hip_names.specs.Names.{IsAmong}
use Rattle.hip_sound.specs.Registers.{end_labels}
use Rattle.hip_code.specs.Numbers.{Tables}
use Rattle.hip_code.specs.Ops.{case_edge, is_end}
use Rattle.hip_code.specs.declared.op.EdgeCase.{EdgeCase}
use Rattle.hip_code.specs.declared.op.Op.{Op}
use Rattle.hip_code.specs.declared.op.Span.{Span}
use Rattle.hip_end_ops.specs.Edged.{LeadFrom, EdgeLeadsTo}
use Rattle.hip_scope.specs.Growth.{Makes}
use Rattle.hip_scope.specs.Scopes.{DoesEnd}
use Rattle.hip_end_ops.specs.declared.edges.EdgeSource.{EdgeSource}
use Rattle.hip_scope.specs.declared.scope.Scope.{Scope}

-- The op resolves the end of a block.
pub record EndsHere (s : Scope) (t u : Tables) (source : EdgeSource) (o : Op) : Type 0 where
  pub end_is : is_end o ≡ true
  pub makes : Makes t u (λ v. DoesEnd s.program.now s.base s.number source.number v o source.block.now.«end»)

-- The cases are those of the program, in its order, each with its value and an edge that leads to its label.
abbrev pub are_cases : (ℕ → List ℕ → Type 0) → List EdgeCase → List named_case.Case → Type 0
are_cases Leads [] [] = Unit {0}
are_cases Leads [] (d ∷ ds) = ⊥
are_cases Leads (c ∷ cs) [] = ⊥
are_cases Leads (c ∷ cs) (d ∷ ds) = (c.value ≡ d.value.value) × Leads c.edge d.label × are_cases Leads cs ds

-- Each case has an edge.
pub record HasCases (s : Scope) (t u : Tables) (source : EdgeSource) (cs : List EdgeCase)
    (ds : List named_case.Case) : Type 0 where
  pub makes : Makes t u (λ v. are_cases (EdgeLeadsTo s v source.number) cs ds)
  pub lead : LeadFrom s source.number source.first u

-- The same cases in ascending order of value. Of the cases with the same value, the first one stays first.
pub record IsSorted (cs sorted : List EdgeCase) : Type 0 where
  pub ascend : IsNonDecreasingBy (λ c. c.value) sorted
  pub same : IsPermutation cs sorted
  pub first : (v other : ℕ) → case_edge v sorted other ≡ case_edge v cs other

-- The cases are put at the end of the table, in ascending order of value.
pub record PutsCases (t u : Tables) (cs : List EdgeCase) (span : Span) : Type 0 where
  pub sorted : List EdgeCase
  pub is : IsSorted cs sorted
  pub are : u ≡ record t { cases = t.cases ++ sorted }
  pub from : span.from ≡ length t.cases
  pub count : span.count ≡ length sorted

-- The block's end names the labels of the cases.
pub record CasesNamed (source : EdgeSource) (ds : List named_case.Case) : Type 0 where
  pub at : (k : ℕ) (d : named_case.Case) → slice_get ds k ≡ Some d
      → IsAmong (end_labels source.block.now.«end») d.label
