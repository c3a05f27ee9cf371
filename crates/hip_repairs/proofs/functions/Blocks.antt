-- The blocks of a function, and of what takes its place in the repaired program: the same labels, phis and ends, and
-- the repaired body.
use Rattle.std.proofs.Common.{◌≡◌, ℕ, zero, suc, ◌+◌, Bool, List, [], ◌∷◌, map, Option, Some, None, slice_get, option_map, refl, ap, ap₂, ◌∙◌, arith}
use Rattle.hip_tree.specs.declared.block.Block.{Block}
use Rattle.hip_tree.specs.declared.block.End.{End}
use Rattle.hip_tree.specs.declared.block.End.TheVariants as ends
use Rattle.hip_names.specs.Names.{number_of}
use Rattle.hip_tree.specs.declared.program.Program.{Program}
use Rattle.hip_tree.specs.declared.site.Site.{Site}
use Rattle.hip_runs.specs.declared.input.Input.{Input}
use Rattle.hip_runs.specs.Actions.{Jumps, after_phis, jump, jump_to, end_action}
use Rattle.hip_runs.specs.Places.{blocks_of, block_at, body_of, end_of, phis_of, label_of, body_at, block_number}
use Rattle.hip_runs.specs.State.{Registers, Slot, Level, Frame}
use Rattle.hip_repairs.specs.declared.plan.Plan.{Plan}
use Rattle.hip_repairs.specs.Harmless.{marked_body}
use Rattle.hip_repairs.specs.Repaired.{Clone, Wanted, wanted_by, clones_of, repaired, instrs_of, repaired_body, repaired_block, repaired_blocks}
use Rattle.hip_repairs.proofs.functions.Twins.{Twin}

module _ (clones : List Clone) (w : Wanted) (clone : Bool) (f : ℕ) where
  get_blocks : (b0 b c : ℕ) (xs : List Block) → b0 + b ≡ c → slice_get (repaired_blocks clones w clone f b0 xs) b ≡ option_map (repaired_block clones w clone f c) (slice_get xs b)
  get_blocks b0 b c [] e = refl
  get_blocks b0 zero c (x ∷ xs) e = let h : b0 ≡ c = omega arith in ap (λ b. Some (repaired_block clones w clone f b x)) h
  get_blocks b0 (suc b) c (x ∷ xs) e = get_blocks (suc b0) b c xs (omega arith)

  labels_same : (b0 : ℕ) (xs : List Block) → map (λ b. b.label) (repaired_blocks clones w clone f b0 xs) ≡ map (λ b. b.label) xs
  labels_same b0 [] = refl
  labels_same b0 (x ∷ xs) = ap (λ ls. x.label ∷ ls) (labels_same (suc b0) xs)

  body_of_repaired : (b : ℕ) (o : Option Block) → body_of (option_map (repaired_block clones w clone f b) o) ≡ instrs_of (repaired_body clones w clone f b 0 (body_of o))
  body_of_repaired b None = refl
  body_of_repaired b (Some x) = refl

  end_of_repaired : (b : ℕ) (o : Option Block) → end_of (option_map (repaired_block clones w clone f b) o) ≡ end_of o
  end_of_repaired b None = refl
  end_of_repaired b (Some x) = refl

  label_of_repaired : (b : ℕ) (o : Option Block) → label_of (option_map (repaired_block clones w clone f b) o) ≡ label_of o
  label_of_repaired b None = refl
  label_of_repaired b (Some x) = refl

  phis_of_repaired : (b : ℕ) (o : Option Block) → phis_of (option_map (repaired_block clones w clone f b) o) ≡ phis_of o
  phis_of_repaired b None = refl
  phis_of_repaired b (Some x) = refl

module _ (P : Program) (plan : Plan) (skip : Site → Bool) (clone : Bool) (f f' : ℕ) (twin : Twin P plan skip clone f f') where
  block_twin : (b : ℕ) → block_at (repaired P plan skip) f' b ≡ option_map (repaired_block (clones_of P plan) (wanted_by plan skip) clone f b) (block_at P f b)
  block_twin b = ap (λ bs. slice_get bs b) twin.blocks ∙ get_blocks (clones_of P plan) (wanted_by plan skip) clone f 0 b b (blocks_of P f) (omega arith)

  pub body_twin : (b : ℕ) → body_at (repaired P plan skip) f' b ≡ instrs_of (marked_body P (clones_of P plan) (wanted_by plan skip) clone f b)
  body_twin b = ap body_of (block_twin b) ∙ body_of_repaired (clones_of P plan) (wanted_by plan skip) clone f b (block_at P f b)

  pub end_twin : (b : ℕ) → end_of (block_at (repaired P plan skip) f' b) ≡ end_of (block_at P f b)
  end_twin b = ap end_of (block_twin b) ∙ end_of_repaired (clones_of P plan) (wanted_by plan skip) clone f b (block_at P f b)

  label_twin : (b : ℕ) → label_of (block_at (repaired P plan skip) f' b) ≡ label_of (block_at P f b)
  label_twin b = ap label_of (block_twin b) ∙ label_of_repaired (clones_of P plan) (wanted_by plan skip) clone f b (block_at P f b)

  phis_twin : (b : ℕ) → phis_of (block_at (repaired P plan skip) f' b) ≡ phis_of (block_at P f b)
  phis_twin b = ap phis_of (block_twin b) ∙ phis_of_repaired (clones_of P plan) (wanted_by plan skip) clone f b (block_at P f b)

  number_twin : (label : List ℕ) → block_number (blocks_of (repaired P plan skip) f') label ≡ block_number (blocks_of P f) label
  number_twin label =
      ap (λ bs. block_number bs label) twin.blocks
      ∙ ap (λ ls. number_of ls label) (labels_same (clones_of P plan) (wanted_by plan skip) clone f 0 (blocks_of P f))

  -- Two frames in the same block of the two functions, with the same registers.
  module _ (I : Input) (b k k' m m' : ℕ) (regs : Registers) (slots slots' : List Slot) (dest dest' : Option (List ℕ)) (level level' : Option Level) where
    abbrev frame : Frame
    frame = record { function = f; block = b; place = k; registers = regs; mark = m; slots = slots; dest = dest; level = level }

    abbrev frame' : Frame
    frame' = record { function = f'; block = b; place = k'; registers = regs; mark = m'; slots = slots'; dest = dest'; level = level' }

    jump_to_twin : (o : Option ℕ) → jump_to (repaired P plan skip) I frame' o ≡ jump_to P I frame o
    jump_to_twin None = refl
    jump_to_twin (Some c) = ap₂ (λ from phis. Jumps c (after_phis P.globals I.base regs from phis)) (label_twin b) (phis_twin c)

    jump_twin : (label : List ℕ) → jump (repaired P plan skip) I frame' label ≡ jump P I frame label
    unfolding jump
    jump_twin label = ap (jump_to (repaired P plan skip) I frame') (number_twin label) ∙ jump_to_twin (block_number (blocks_of P f) label)

    pub end_action_twin : (o : Option End) → end_action (repaired P plan skip) I frame' o ≡ end_action P I frame o
    unfolding end_action
    end_action_twin None = refl
    end_action_twin (Some (ends.Br label)) = jump_twin label
    end_action_twin (Some (ends.CondBr test first second)) = jump_twin _
    end_action_twin (Some (ends.Switch width value other cases)) = jump_twin _
    end_action_twin (Some (ends.Ret arg)) = refl
    end_action_twin (Some ends.Unreachable) = refl
