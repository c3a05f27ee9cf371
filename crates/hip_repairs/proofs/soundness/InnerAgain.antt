-- The names inside each function of the repaired program differ.
use Rattle.std.proofs.Common.{◌≡◌, ℕ, suc, Bool, List, [], ◌∷◌, ◌++◌, refl, sym, ap, ap₂, ◌∙◌, subst}
use Rattle.std.specs.List.{flat_map}
use Rattle.hip_tree.specs.declared.block.Block.{Block}
use Rattle.hip_tree.specs.declared.program.Function.{Function}
use Rattle.hip_tree.specs.declared.program.Program.{Program}
use Rattle.hip_tree.specs.declared.site.Site.{Site}
use Rattle.hip_sound.specs.Laws.Decided.{holds-at, holds-made}
use Rattle.hip_sound.specs.Laws.NameLaws.{inner-sound, inner-whole}
use Rattle.hip_names.specs.Names.{AllDiffer}
use Rattle.hip_sound.specs.Paths.{names_of}
use Rattle.hip_sound.specs.Registers.{phi_registers, parameter_registers}
use Rattle.hip_sound.specs.Rules.{PassesVerifier, inner_required, inner_names_required}
use Rattle.hip_sound.specs.Sound.{names_in_block, names_in_function}
use Rattle.hip_repairs.specs.declared.plan.Plan.{Plan}
use Rattle.hip_repairs.specs.Repaired.{Clone, Wanted, wanted_by, clones_of, repaired, repaired_blocks, repaired_function}
use Rattle.hip_repairs.proofs.soundness.Bodies.{same_registers}
use Rattle.hip_repairs.proofs.functions.Origins.{Origin, origin}

same_blocks_names : (clones : List Clone) (w : Wanted) (clone : Bool) (f b : ℕ) (blocks : List Block) → flat_map names_in_block (repaired_blocks clones w clone f b blocks) ≡ flat_map names_in_block blocks
same_blocks_names clones w clone f b [] = refl
same_blocks_names clones w clone f b (x ∷ xs) =
    ap₂ (λ rs ys. (x.label ∷ names_of (phi_registers x.phis ++ rs)) ++ ys) (same_registers clones w clone f b 0 x.body) (same_blocks_names clones w clone f (suc b) xs)

module _ (P : Program) (plan : Plan) (skip : Site → Bool) (sound : PassesVerifier P) where
  inner_again : (f' : ℕ) (fn' : Function) → Origin P plan skip f' fn' → (inner_required f' fn').Holds
  inner_again f' fn' o =
      let before : AllDiffer (names_in_function o.fn) = inner-sound o.f o.fn (holds-at inner_required P.functions o.f o.fn sound.registers o.at) in
      let same : names_in_function (repaired_function (clones_of P plan) (wanted_by plan skip) o.clone o.f o.name o.fn) ≡ names_in_function o.fn =
      ap (λ xs. names_of (parameter_registers o.fn) ++ xs) (same_blocks_names (clones_of P plan) (wanted_by plan skip) o.clone o.f 0 o.fn.blocks) in
      inner-whole f' fn' (subst AllDiffer (sym (ap names_in_function o.is ∙ same)) before)

  pub registers_again : (inner_names_required (repaired P plan skip)).Holds
  registers_again = holds-made inner_required (repaired P plan skip).functions (λ f' fn' e. inner_again f' fn' (origin P plan skip f' fn' e))
