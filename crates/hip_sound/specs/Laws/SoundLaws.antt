-- The rules of a program are exact: there is no fault exactly if all rules hold.
use Rattle.std.specs.Prelude.{ℕ, ◌≤◌, true, List, ◌∷◌}
use Rattle.hip_types.specs.declared.limits.TheConstants.{LARGEST_REGION}
use Rattle.hip_tree.specs.declared.block.Block.{Block}
use Rattle.hip_tree.specs.declared.block.End.{End}
use Rattle.hip_tree.specs.declared.block.Phi.{Phi}
use Rattle.hip_tree.specs.declared.instr.Instr.{Instr}
use Rattle.hip_tree.specs.declared.program.GlobalVar.{GlobalVar}
use Rattle.hip_tree.specs.declared.program.Program.{Program}
use Rattle.hip_sound.specs.Requirement.{IsDecided}
use Rattle.std.proofs.Common.{arith}
use Rattle.hip_globals.specs.Addresses.{end_of}
use Rattle.hip_sound.specs.Sound.{KeepsToSizes}
use Rattle.hip_sound.specs.Laws.CheckLaws.{asks_true-exact, and_then-exact, each_from-exact, differ_after-exact, types_fit-exact}
use Rattle.hip_sound.specs.Places.{Scope, scope_of, instr_required, end_required, phi_required}
use Rattle.hip_sound.specs.Rules.{global_required, globals_required, externs_required, inner_names_required, places_required, block_required, rules_required}
use Rattle.hip_globals.specs.Constants.{types_in}
use Rattle.hip_sound.specs.declared.fault.Fault.TheVariants as breaks
use Rattle.hip_sound.specs.declared.fault.Place.{Place}
use Rattle.hip_sound.specs.declared.fault.Place.TheVariants as places

pub global-exact : (known : List (List ℕ)) (n : ℕ) (g : GlobalVar) → IsDecided (global_required known n g)
global-exact known n g =
    and_then-exact _ _ (types_fit-exact (g.ty ∷ types_in g.init) (places.Global n))
    (and_then-exact _ _ (asks_true-exact _ breaks.BadGlobal (places.Global n))
    (asks_true-exact _ breaks.Unknown (places.Global n)))

pub globals-exact : (P : Program) → IsDecided (globals_required P)
globals-exact P = each_from-exact 0 _ P.globals (λ n g. global-exact _ n g)

pub externs-exact : (P : Program) → IsDecided (externs_required P)
externs-exact P =
    and_then-exact _ _ (each_from-exact 0 _ P.globals (λ n g. asks_true-exact _ _ _))
    (and_then-exact _ _ (each_from-exact 0 _ P.externs (λ n e. asks_true-exact _ _ _))
    (each_from-exact 0 _ P.functions (λ n f. asks_true-exact _ _ _)))

pub inner_names-exact : (P : Program) → IsDecided (inner_names_required P)
inner_names-exact P = each_from-exact 0 _ P.functions (λ n f. differ_after-exact _ _)

pub instr-exact : (s : Scope) (i : Instr) (place : Place) → IsDecided (instr_required s i place)
instr-exact s i place =
    and_then-exact _ _ (asks_true-exact _ _ _) (and_then-exact _ _ (types_fit-exact _ _) (asks_true-exact _ _ _))

pub end-exact : (s : Scope) (e : End) (place : Place) → IsDecided (end_required s e place)
end-exact s e place =
    and_then-exact _ _ (asks_true-exact _ _ _)
    (and_then-exact _ _ (types_fit-exact _ _)
    (and_then-exact _ _ (asks_true-exact _ _ _)
    (and_then-exact _ _ (asks_true-exact _ _ _) (asks_true-exact _ _ _))))

pub phi-exact : (s : Scope) (label : List ℕ) (p : Phi) (place : Place) → IsDecided (phi_required s label p place)
phi-exact s label p place =
    and_then-exact _ _ (asks_true-exact _ _ _)
    (and_then-exact _ _ (types_fit-exact _ _) (and_then-exact _ _ (asks_true-exact _ _ _) (asks_true-exact _ _ _)))

pub block-exact : (s : Scope) (f n : ℕ) (block : Block) → IsDecided (block_required s f n block)
block-exact s f n block =
    and_then-exact _ _ (each_from-exact 0 _ block.phis (λ i p. phi-exact s block.label p _))
    (and_then-exact _ _ (each_from-exact 0 _ block.body (λ i instr. instr-exact s instr _))
    (end-exact s block.end _))

pub places-exact : (P : Program) → IsDecided (places_required P)
places-exact P =
    each_from-exact 0 _ P.functions (λ f fn. each_from-exact 0 _ fn.blocks
    (λ n block. block-exact (scope_of P fn) f n block))

pub rules-exact : (P : Program) → IsDecided (rules_required P)
rules-exact P =
    and_then-exact _ _ (differ_after-exact _ _)
    (and_then-exact _ _ (globals-exact P)
    (and_then-exact _ _ (externs-exact P) (and_then-exact _ _ (asks_true-exact _ _ _)
    (and_then-exact _ _ (asks_true-exact _ _ _) (and_then-exact _ _ (inner_names-exact P) (places-exact P))))))

-- The persistent globals of a sound program end within the largest region.
pub persistent-end : (P : Program) → KeepsToSizes P → end_of true 0 P.globals ≤ LARGEST_REGION
persistent-end P k = let small = k.region in omega (arith, small)
