-- How far the indices of a `getelementptr` lead, index by index.
use Rattle.std.specs.Prelude.{ℕ, ◌⊎◌, ◌+◌, ◌*◌, ◌%◌, ◌^◌, ◌≡◌, List, [], ◌∷◌, ◌++◌, drop}
use Rattle.hip_types.specs.declared.ty.Ty.{Ty}
use Rattle.hip_tree.specs.declared.instr.Arg.{Arg}
use Rattle.hip_code.specs.Numbers.{Tables, entries_of, HasSpan}
use Rattle.hip_code.specs.Paths.{IsFixed, IsScaled, IsGep, is_path}
use Rattle.hip_code.specs.declared.op.Gep.{Gep}
use Rattle.hip_code.specs.declared.op.Gep.TheVariants as geps
use Rattle.hip_code.specs.declared.op.OpOperand.{OpOperand}
use Rattle.hip_code.specs.declared.op.Term.{Term}
use Rattle.hip_scope.specs.Scopes.{names_of}
use Rattle.hip_instr_ops.specs.declared.path.Path.{Path}
use Rattle.hip_scope.specs.declared.scope.Scope.{Scope}

-- A constant index steps over as many values of a size as it says; any other index gives a term.
abbrev pub is_over : Scope → List ℕ → Arg → ℕ → ℕ → List Term → Type 0
is_over s constants a size far more =
    ((index : ℕ) × IsFixed s.program.now.globals s.base a index × (far ≡ index * size) × (more ≡ []))
    ⊎ ((term : Term) × IsScaled s.program.now.globals s.base (names_of s) constants a size term × (far ≡ 0)
    × (more ≡ term ∷ []))

-- The path grows by an offset, modulo 2^64, and by terms.
pub record PathGrows (old new : Path) (far : ℕ) (more : List Term) : Type 0 where
  pub offset : new.offset % 2 ^ 64 ≡ (old.offset + far) % 2 ^ 64
  pub terms : new.terms ≡ old.terms ++ more

-- An index steps over values of a size.
pub record Steps (s : Scope) (a : Arg) (size : ℕ) (old new : Path) : Type 0 where
  pub far : ℕ
  pub more : List Term
  pub grows : PathGrows old new far more
  pub over : (constants : List ℕ) → is_over s constants a size far more

-- Indices after the first one add this offset and these terms, from the start of a value of the type on.
abbrev pub leads : Scope → List ℕ → Ty → List Arg → ℕ → List Term → Type 0
leads s constants t args offset terms = is_path s.program.now.globals s.base (names_of s) constants t args offset terms

-- An index enters a part of a type: if other indices lead on from the part, this index and the others lead from the
-- type.
pub record Enters (s : Scope) (t : Ty) (a : Arg) (part : Ty) (old new : Path) : Type 0 where
  pub far : ℕ
  pub more : List Term
  pub grows : PathGrows old new far more
  pub on : (constants : List ℕ) (rest : List Arg) (offset : ℕ) (terms : List Term) →
      leads s constants part rest offset terms → leads s constants t (a ∷ rest) (far + offset) (more ++ terms)

-- The indices before number k lead to a part: if the indices from number k on lead on from this part, all indices lead
-- from the start.
pub record ReachesPart (s : Scope) (t : Ty) (args : List Arg) (k : ℕ) (part : Ty) (path : Path) : Type 0 where
  pub whole : ℕ
  pub offset : path.offset % 2 ^ 64 ≡ whole % 2 ^ 64
  pub on : (constants : List ℕ) (offset : ℕ) (terms : List Term)
      → leads s constants part (drop k args) offset terms →
      IsGep s.program.now.globals s.base (names_of s) constants t args (whole + offset) (path.terms ++ terms)

-- All indices lead as far as the path says.
pub record IndicesLead (s : Scope) (t : Ty) (args : List Arg) (path : Path) : Type 0 where
  pub whole : ℕ
  pub offset : path.offset % 2 ^ 64 ≡ whole % 2 ^ 64
  pub is : (constants : List ℕ) →
      IsGep s.program.now.globals s.base (names_of s) constants t args whole path.terms

-- The op gives the address at an offset from a base, plus terms: without terms, with one term of its own, or with terms
-- in the table.
abbrev pub is_address : Tables → OpOperand → ℕ → List Term → Gep → Type 0
is_address t base offset terms (geps.Fixed b o) = (b ≡ base) × (o ≡ offset) × (terms ≡ [])
is_address t base offset terms (geps.Scaled b index width scale o) =
    (b ≡ base) × (o ≡ offset) × (terms ≡ record { index = index; width = width; scale = scale } ∷ [])
is_address t base offset terms (geps.Terms b o span) =
    (b ≡ base) × (o ≡ offset) × HasSpan span t.terms × (entries_of span t.terms ≡ terms)

-- The op gives the address at an offset from a base, plus terms, in one of its three forms.
pub record IsAddress (t : Tables) (base : OpOperand) (offset : ℕ) (terms : List Term) (gep : Gep) : Type 0 where
  pub is : is_address t base offset terms gep
