-- The addresses of globals: the volatile ones are in order from 65,536 on, and the persistent ones in order from the
-- base of the region on, each at a multiple of its alignment. These addresses are this project's own.
use Rattle.std.specs.Prelude.{ℕ, zero, suc, ◌+◌, ◌%◌, ◌==◌, ◌≡◌, ◌==◌, ◌≤◌, ◌&&◌, nat_le, max, Bool, true, false, List, [], ◌∷◌, All, Option, Some, None, if◌then◌else◌}
use Rattle.std.specs.Int.{next_multiple_of}
use Rattle.hip_types.specs.Layout.{Fits, shape}
use Rattle.hip_types.specs.declared.limits.TheConstants.{BASE_ALIGNMENT, HIGHEST_BASE, LARGEST_ALIGNMENT, LARGEST_REGION, LARGEST_VOLATILE, LOWEST_BASE}
use Rattle.hip_tree.specs.declared.program.GlobalVar.{GlobalVar}
use Rattle.hip_tree.specs.declared.program.Program.{Program}
use Rattle.hip_types.specs.declared.areas.TheConstants.{LINE_SIZE}
use Rattle.hip_types.specs.Areas.{volatile_start}
use Rattle.hip_globals.specs.Constants.{types_in}

-- Whether two truth values are equal.
abbrev pub same_truth : Bool → Bool → Bool
same_truth true b = b
same_truth false true = false
same_truth false false = true

-- A base of the persistent region is a multiple of its alignment, from the lowest base to the highest.
pub record IsBase (base : ℕ) : Type 0 where
  pub page : base % BASE_ALIGNMENT ≡ 0
  pub low : LOWEST_BASE ≤ base
  pub high : base ≤ HIGHEST_BASE

-- Whether the number is such a base.
abbrev pub is_base : ℕ → Bool
is_base base = (base % BASE_ALIGNMENT == 0) && (nat_le LOWEST_BASE base && nat_le base HIGHEST_BASE)

-- The greater of a type's alignment and the written one, if one is written.
abbrev with_own : Option ℕ → ℕ → ℕ
with_own None natural = natural
with_own (Some n) natural = max n natural

-- The alignment of a global: the greater of its type's and the one that is written, if one is.
abbrev pub global_align : GlobalVar → ℕ
global_align g = with_own g.align (shape g.ty).align

-- Where a global begins that is laid from `at` on: at the next multiple of its alignment.
abbrev pub global_start : ℕ → GlobalVar → ℕ
global_start at g = next_multiple_of at (global_align g)

-- Where the globals of one kind, persistent or volatile, end if they are laid from `at` on.
abbrev pub end_of : Bool → ℕ → List GlobalVar → ℕ
end_of persistent at [] = at
end_of persistent at (g ∷ gs) =
    end_of persistent (if same_truth g.persistent persistent then global_start at g + (shape g.ty).size else at) gs

-- Where the global of that number begins, counted from 0 among all globals, if the globals of its kind, persistent or
-- volatile, are laid from `at` on. If no global has the number, it is where the globals of the kind end.
abbrev pub start_of : Bool → ℕ → List GlobalVar → ℕ → ℕ
start_of persistent at [] number = at
start_of persistent at (g ∷ gs) zero = global_start at g
start_of persistent at (g ∷ gs) (suc number) =
    start_of persistent
    (if same_truth g.persistent persistent then global_start at g + (shape g.ty).size else at) gs number

-- Whether the global of that number is persistent; false if no global has it.
abbrev pub is_persistent : List GlobalVar → ℕ → Bool
is_persistent [] number = false
is_persistent (g ∷ gs) zero = g.persistent
is_persistent (g ∷ gs) (suc number) = is_persistent gs number

-- The address of the global of that number.
abbrev pub address_in : List GlobalVar → ℕ → ℕ → ℕ
address_in globals base number =
    if is_persistent globals number then start_of true base globals number
    else start_of false volatile_start globals number

-- The address of a program's global of that number, where the region begins at a base.
abbrev pub address : Program → ℕ → ℕ → ℕ
address P base number = address_in P.globals base number

-- The end of the last volatile global, 65,536 if there is none.
abbrev pub volatile_end : Program → ℕ
volatile_end P = end_of false volatile_start P.globals

-- The region ends with the last persistent global, rounded up to a whole cache line. It is the same from each base,
-- since a base is a multiple of every alignment.
abbrev pub region_size : Program → ℕ
region_size P = next_multiple_of (end_of true 0 P.globals) LINE_SIZE

-- The type of each global fits, whatever types its initialiser has.
abbrev pub OwnTypesFit : List GlobalVar → Type 0
OwnTypesFit globals = All (λ g. Fits g.ty) globals

-- The type of the global fits, and those in its initialiser.
abbrev pub TypesFitIn : GlobalVar → Type 0
TypesFitIn g = All Fits (g.ty ∷ types_in g.init)

-- The alignment of each global divides the largest one that can be written, and so each base.
abbrev pub AllDivide : List GlobalVar → Type 0
AllDivide [] = Unit {0}
AllDivide (g ∷ gs) = (LARGEST_ALIGNMENT % global_align g ≡ 0) × AllDivide gs

-- The region and the volatile globals are within the limits of their sizes.
abbrev pub are_within_limits : List GlobalVar → Bool
are_within_limits globals =
    nat_le (next_multiple_of (end_of true 0 globals) LINE_SIZE) LARGEST_REGION
    && nat_le (end_of false volatile_start globals) (volatile_start + LARGEST_VOLATILE)
