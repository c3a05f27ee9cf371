-- Pairs of states of a program and of the repaired program that correspond.
use Rattle.std.proofs.Common.{◌≡◌, inl, inr, ℕ, suc, ◌≤◌, Bool, true, false, List, [], ◌∷◌, ◌++◌, length, drop, Option, Some, None, refl, ap, subst, arith}
use Rattle.hip_tree.specs.Sites.{has_site}
use Rattle.hip_tree.specs.declared.instr.Instr.{Instr}
use Rattle.hip_tree.specs.declared.program.Program.{Program}
use Rattle.hip_tree.specs.declared.site.Site.{Site}
use Rattle.hip_runs.specs.declared.input.Input.{Input}
use Rattle.hip_runs.specs.Actions.{Flushes, instr_action, is_turn}
use Rattle.hip_runs.specs.StoredParts.Persistence.{flushed_lines}
use Rattle.hip_runs.specs.Places.{body_at}
use Rattle.hip_runs.specs.State.{Registers, Slot, Level, Flush, Frame, World, Counts, State, level_list, levels_of, site_of}
use Rattle.hip_repairs.specs.declared.plan.Plan.{Plan}
use Rattle.hip_repairs.specs.Harmless.{extents, marked_body}
use Rattle.hip_repairs.specs.Repaired.{Marked, the_fence, wanted_by, clones_of, repaired, repaired_body}
use Rattle.hip_repairs.proofs.simulation.Ahead.{Ahead}
use Rattle.hip_runs.specs.StoredParts.Parts.{In}
use Rattle.hip_repairs.proofs.simulation.Facts.{Lines, fence_if}
use Rattle.hip_repairs.proofs.functions.Twins.{Twin}

-- The inserted instructions that may come next in a frame below the top: at most a fence.
pub data Quiet : List Marked → Bool → Type 0 where
  nothing : Quiet [] false
  fence : Quiet ((the_fence, true) ∷ []) true

-- The lines once the inserted instructions that come next are done: perhaps a flush of a range, perhaps a fence.
abbrev pub flush_range : Input → Flush → Option (ℕ × ℕ) → Lines → Lines
flush_range I flush None ls = ls
flush_range I flush (Some r) ls = flushed_lines I flush r.0 r.1 ls

abbrev pub pending_lines : Input → Flush → Option (ℕ × ℕ) → Bool → Lines → Lines
pending_lines I flush range fenced ls = fence_if fenced (flush_range I flush range ls)

module _ (P : Program) (plan : Plan) (skip : Site → Bool) where
  -- The inserted instructions that may come next in the top frame, which has these registers: perhaps a flush of a
  -- range, and then perhaps a fence.
  pub data Ready (I : Input) (w : World) (regs : Registers) : List Marked → Option (ℕ × ℕ) → Bool → Type 0 where
    quiet : {pend : List Marked} {fenced : Bool} → Quiet pend fenced → Ready I w regs pend None fenced
    flush : {pend : List Marked} {fenced : Bool} (i : Instr) (a n : ℕ) → is_turn i ≡ false → ((below : ℕ) → instr_action (repaired P plan skip) I w below regs i ≡ Flushes a n) → Quiet pend fenced → Ready I w regs ((i, true) ∷ pend) (Some (a, n)) fenced

  -- A frame of the program, with the rest of its block to do, and a frame of the repaired program, which first has
  -- inserted instructions to do. It is in the same function, or in its clone.
  pub data Tied : Bool → List Marked → Frame → Frame → Type 0 where
    tied : {clone : Bool} {f f' b k k' m : ℕ} {dest : Option (List ℕ)} {lvl lvl' : Option Level} {regs : Registers} {slots slots' : List Slot} {pend : List Marked} (rest : List Instr) →
        Twin P plan skip clone f f' → drop k (body_at P f b) ≡ rest → drop k' (marked_body P (clones_of P plan) (wanted_by plan skip) clone f b) ≡ pend ++ repaired_body (clones_of P plan) (wanted_by plan skip) clone f b k rest → extents slots' ≡ extents slots →
        Tied clone pend (record { function = f; block = b; place = k; registers = regs; mark = m; slots = slots; dest = dest; level = lvl }) (record { function = f'; block = b; place = k'; registers = regs; mark = m; slots = slots'; dest = dest; level = lvl' })

  -- The frames below a frame, which may be a clone's and may have been made by a call. A call in a clone's frame goes
  -- to a clone, and so does a hoisted call, which a fence follows.
  pub data Below : Bool → Option Level → Option Level → List Frame → List Frame → Type 0 where
    bottom : {clone : Bool} → Below clone None None [] []
    on : {above clone : Bool} {lv lv' : Level} {f f' : Frame} {fs fs' : List Frame} {pend : List Marked} {fenced : Bool} →
        Tied clone pend f f' → Quiet pend fenced → (clone ≡ true → above ≡ true) → (has_site plan.hoist lv.call ≡ true → (above ≡ true) × (fenced ≡ true)) → Below clone f.level f'.level fs fs' →
        Below above (Some lv) (Some lv') (f ∷ fs) (f' ∷ fs')

  -- Under a hoisted call the top frame is a clone's.
  pub top_clone : {clone : Bool} {lvl lvl' : Option Level} {fs fs' : List Frame} → Below clone lvl lvl' fs fs' → (v : Level) → In v (level_list lvl (levels_of fs)) → has_site plan.hoist v.call ≡ true → clone ≡ true
  top_clone bottom v i h = absurd i
  top_clone (on {lv = lv} t q up hoisted b) v (inl e) h = (hoisted (subst (λ (l : Level). has_site plan.hoist l.call ≡ true) e h)).0
  top_clone (on t q up hoisted b) v (inr i) h = up (top_clone b v i h)

  pub below_size : {clone : Bool} {lvl lvl' : Option Level} {fs fs' : List Frame} → Below clone lvl lvl' fs fs' → length fs' ≡ length fs
  below_size bottom = refl
  below_size (on t q u h b) = ap suc (below_size b)

  -- Two states with the same world, where at most `size` inserted instructions are to be done first; a fact holds of
  -- the lines when they are done.
  pub data Related (I : Input) (Holds : List Level → Lines → Lines → Type 0) (size : ℕ) : State → State → Type 0 where
    related : {w : World} {f f' : Frame} {fs fs' : List Frame} {ls ls' : Lines} {c c' : Counts} {pend : List Marked} {range : Option (ℕ × ℕ)} {fenced clone : Bool} →
        Tied clone pend f f' → Ready I w f.registers pend range fenced → Below clone f.level f'.level fs fs' → Ahead ls ls' →
        Holds (levels_of (f ∷ fs)) ls (pending_lines I (record { step = c'.steps; site = site_of f' }) range fenced ls') → length pend ≤ size →
        Related I Holds size (record { world = w; frames = f ∷ fs; lines = ls; counts = c }) (record { world = w; frames = f' ∷ fs'; lines = ls'; counts = c' })

pub quiet_size : {pend : List Marked} {fenced : Bool} → Quiet pend fenced → length pend ≤ 1
quiet_size nothing = omega arith
quiet_size fence = omega arith

pub ready_size : {P : Program} {plan : Plan} {skip : Site → Bool} {I : Input} {w : World} {regs : Registers} {pend : List Marked} {range : Option (ℕ × ℕ)} {fenced : Bool} → Ready P plan skip I w regs pend range fenced → length pend ≤ 2
ready_size (quiet q) = omega (arith, quiet_size q)
ready_size (flush i a n t e q) = omega (arith, quiet_size q)
