-- The bytes that the globals hold before a program runs: those of their initialisers, each where its global lies, with
-- zeros in between.
use Rattle.std.specs.Prelude.{ℕ, Bool, true, false, List, [], ◌∷◌, ◌++◌, if◌then◌else◌}
use Rattle.hip_tree.specs.declared.program.GlobalVar.{GlobalVar}
use Rattle.hip_tree.specs.declared.program.Program.{Program}
use Rattle.hip_types.specs.declared.areas.TheConstants.{LINE_SIZE}
use Rattle.hip_types.specs.Areas.{volatile_start}
use Rattle.hip_globals.specs.Addresses.{global_align, same_truth}
use Rattle.hip_globals.specs.Values.{global_address, aligned, constant_bytes}

-- The bytes so far, and after them those of the globals of one kind, persistent or volatile. The first byte is at
-- `start`.
abbrev pub laid_bytes : (List ℕ → ℕ) → Bool → ℕ → List ℕ → List GlobalVar → List ℕ
laid_bytes address_of persistent start so_far [] = so_far
laid_bytes address_of persistent start so_far (g ∷ gs) =
    laid_bytes address_of persistent start
    (if same_truth g.persistent persistent
    then aligned start (global_align g) so_far ++ constant_bytes address_of g.init g.ty else so_far) gs

-- The bytes of the volatile globals, from the first one's place to the end of the last one.
abbrev pub volatile_bytes : Program → ℕ → List ℕ
volatile_bytes P base = laid_bytes (global_address P.globals base) false volatile_start [] P.globals

-- The bytes of the region, with zeros after the last persistent global up to a whole cache line.
abbrev pub region_bytes : Program → ℕ → List ℕ
region_bytes P base = aligned 0 LINE_SIZE (laid_bytes (global_address P.globals base) true 0 [] P.globals)
