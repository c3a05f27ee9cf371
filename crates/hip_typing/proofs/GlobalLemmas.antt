-- Globals verified against one list of names or another.
use Rattle.std.proofs.Common.{ℕ, ◌+◌, ◌≡◌, List, [], ◌∷◌, refl, ap, ◌∙◌}
use Rattle.hip_tree.specs.declared.program.GlobalVar.{GlobalVar}
use Rattle.hip_typing.specs.Seen.Answers.{asked}
use Rattle.hip_sound.specs.Requirement.{or_else, each_from, each}
use Rattle.hip_sound.specs.Constants.{has_shape, names_in}
use Rattle.hip_globals.specs.Constants.{types_in}
use Rattle.hip_names.specs.Names.{Knows}
use Rattle.hip_sound.specs.Places.{types_fit}
use Rattle.hip_sound.specs.Rules.{global_required}
use Rattle.hip_sound.specs.declared.fault.Fault.TheVariants as breaks
use Rattle.hip_sound.specs.declared.fault.Place.TheVariants as places
use Rattle.hip_typing.proofs.KnownLemmas.{all_known}

global_known : (known names : List (List ℕ)) (n : ℕ) (g : GlobalVar) → Knows known names → (global_required known n g).found ≡ (global_required names n g).found
global_known known names n g knows =
    ap (λ b. or_else (types_fit (g.ty ∷ types_in g.init) (places.Global n)).found (or_else (asked (has_shape g.init g.ty) breaks.BadGlobal (places.Global n)) (asked b breaks.Unknown (places.Global n)))) (all_known known names (names_in g.init) knows)

from_known : (known names : List (List ℕ)) (n : ℕ) (gs : List GlobalVar) → Knows known names → (each_from n (global_required known) gs).found ≡ (each_from n (global_required names) gs).found
from_known known names n [] knows = refl
from_known known names n (g ∷ gs) knows =
    ap (λ found. or_else found (each_from (n + 1) (global_required known) gs).found) (global_known known names n g knows)
    ∙ ap (λ found. or_else (global_required names n g).found found) (from_known known names (n + 1) gs knows)

pub globals_known : (known names : List (List ℕ)) (gs : List GlobalVar) → Knows known names → (each (global_required known) gs).found ≡ (each (global_required names) gs).found
globals_known known names gs knows = from_known known names 0 gs knows
