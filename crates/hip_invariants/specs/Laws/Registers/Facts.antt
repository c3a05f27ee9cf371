-- If each case in which a register gets a value keeps a fact of (function, register, value), the fact holds of each
-- register of each frame of a run.
use Rattle.std.proofs.Common.{◌≡◌, ℕ, suc, Bool, true, false, cond, List, [], ◌∷◌, length, Option, Some, None, slice_get, refl, subst}
use Rattle.std.specs.Str.{bytes_eq}
use Rattle.std.proofs.lemmas.Slice.Eq.{bytes_eq-Decides}
use Rattle.hip_types.specs.Numbers.{wrapped}
use Rattle.hip_types.specs.declared.number.Width.TheVariants.{W64}
use Rattle.hip_tree.specs.declared.block.Block.{Block}
use Rattle.hip_tree.specs.declared.block.End.{End}
use Rattle.hip_tree.specs.declared.block.End.TheVariants as ends
use Rattle.hip_tree.specs.declared.block.Phi.{Phi}
use Rattle.hip_tree.specs.declared.instr.Arg.{Arg}
use Rattle.hip_tree.specs.declared.instr.Instr.{Instr}
use Rattle.hip_tree.specs.declared.program.Function.{Function}
use Rattle.hip_tree.specs.declared.program.Program.{Program}
use Rattle.hip_sound.specs.Sound.{IsBlockAt}
use Rattle.hip_runs.specs.declared.input.Input.{Input}
use Rattle.hip_runs.specs.Actions.{Action, Traps, Assigns, Allocates, Stores, Flushes, Persists, Fences, Asserts, Prints, Reads, Calls, Jumps, Returns, instr_action, edge_value, after_phis, jump_to, jump, returned, end_action, deed_of}
use Rattle.hip_runs.specs.Operands.{look_up, assigned}
use Rattle.hip_runs.specs.Places.{block_at, body_of, end_of, phis_of, label_of, body_at, code_at, end_at}
use Rattle.hip_runs.specs.State.{Registers, Frame}
use Rattle.hip_runs.specs.Step.{main_number, run}
use Rattle.hip_runs.specs.Laws.StepLaws.{IsTop}
use Rattle.hip_invariants.specs.FrameFacts.{below_hold, frames_hold, each_register}
use Rattle.hip_invariants.specs.Laws.Frames.{keeps, IsInvariant, invariant_holds}
use Rattle.hip_runs.specs.Laws.Members.{get_drop}
use Rattle.hip_invariants.specs.Laws.Places.{block_there}

-- The fact `Fact` is about a function, a register and its value. The fact `Returned` is about a function and a value
-- that it returns.
module _ (Fact : ℕ → List ℕ → ℕ → Type 0) (Returned : ℕ → ℕ → Type 0) where
  -- The fact holds for each value in these registers, also for values that a newer one hides.
  abbrev pub each_value : ℕ → Registers → Type 0
  each_value g [] = Unit {0}
  each_value g (r ∷ rs) = Fact g r.0 r.1 × each_value g rs

  -- The fact holds for each value in the registers of a frame of the function.
  pub record ValuesHold (g : ℕ) (rs : Registers) : Type 0 where
    pub all : each_value g rs

  -- The fact holds of the register that takes the value; true if none does.
  abbrev pub assigned_fact : ℕ → Option (List ℕ) → ℕ → Type 0
  assigned_fact g None v = Unit {0}
  assigned_fact g (Some name) v = Fact g name v

  -- Function g waits for the result of function h: for each value that h may return, the fact holds for the register
  -- that takes it.
  pub record WaitsFor (g : ℕ) (dest : Option (List ℕ)) (h : ℕ) : Type 0 where
    pub for_result : (v : ℕ) → Returned h v → assigned_fact g dest v

  -- A frame that waits for the result of a called function, which goes into a register.
  pub record IsAfterCall (h : ℕ) (dest : Option (List ℕ)) (g : Frame) : Type 0 where
    pub hold : ValuesHold g.function g.registers
    pub waits : WaitsFor g.function dest h

  -- The fact holds of each value of the frame on top.
  abbrev pub on_top : Frame → Type 0
  on_top f = ValuesHold f.function f.registers

  -- What has to be shown of an action of a function: the fact holds of what it gives to registers, or returns.
  abbrev pub gives_facts : ℕ → Action → Type 0
  gives_facts g (Assigns dest v) = assigned_fact g dest v
  gives_facts g (Allocates dest a n) = Fact g dest a
  gives_facts g (Reads dest z rest) = assigned_fact g dest (wrapped W64 z)
  gives_facts g (Calls h rs dest) = ValuesHold h rs × WaitsFor g dest h
  gives_facts g (Jumps b rs) = ValuesHold g rs
  gives_facts g (Returns v) = Returned g v
  gives_facts g _ = Unit {0}

  -- What has to be shown of the action holds.
  pub record GivesFacts (g : ℕ) (x : Action) : Type 0 where
    pub is : gives_facts g x

  -- The fact still holds after a register takes a value that has it.
  pub with_value : (g : ℕ) (dest : Option (List ℕ)) (v : ℕ) (rs : Registers) → assigned_fact g dest v
      → ValuesHold g rs
      → ValuesHold g (assigned dest v rs)
  with_value g None v rs p h = h
  with_value g (Some name) v rs p h = record { all = (p, h.all) }

  facts_kept : (f : Frame) (x : Action) → on_top f → gives_facts f.function x → keeps on_top IsAfterCall f x
  facts_kept f (Traps kind) h p = tt
  facts_kept f (Assigns dest v) h p = with_value f.function dest v f.registers p h
  facts_kept f (Allocates dest a n) h p = with_value f.function (Some dest) a f.registers p h
  facts_kept f (Stores a bytes) h p = h
  facts_kept f (Flushes a n) h p = h
  facts_kept f (Persists a n) h p = h
  facts_kept f Fences h p = h
  facts_kept f (Asserts a n) h p = h
  facts_kept f (Prints z) h p = h
  facts_kept f (Reads dest z rest) h p = with_value f.function dest (wrapped W64 z) f.registers p h
  facts_kept f (Calls g rs dest) h p = (λ mark level. p.0, record { hold = h; waits = p.1 })
  facts_kept f (Jumps b rs) h p = p
  facts_kept f (Returns v) h p =
      λ g below. with_value g.function f.dest v g.registers (below.waits.for_result v p) below.hold

  -- The fact holds for the value that a register reads as, which is 0 if the register has no value.
  pub fact_of_value : (g : ℕ) (rs : Registers) (name : List ℕ) → ValuesHold g rs → Fact g name 0
      → Fact g name (look_up rs name)
  fact_of_value g [] name h none = none
  fact_of_value g (r ∷ rs) name h none =
      go (bytes_eq r.0 name) refl (fact_of_value g rs name (record { all = h.all.1 }) none)
    where
      go : (b : Bool) → bytes_eq r.0 name ≡ b → Fact g name (look_up rs name)
          → Fact g name (cond b r.1 (look_up rs name))
      go true e rest = subst (λ n. Fact g n r.1) ((bytes_eq-Decides r.0 name).0 e) h.all.0
      go false e rest = rest

  -- The fact holds of each value in the registers of each frame.
  abbrev pub values_in_frames : List Frame → Type 0
  values_in_frames [] = Unit {0}
  values_in_frames (f ∷ fs) = ValuesHold f.function f.registers × values_in_frames fs

  -- If the fact holds of 0 in each register, it holds of each register of each frame.
  pub each_stated : ((g : ℕ) (name : List ℕ) → Fact g name 0) → (fs : List Frame) → values_in_frames fs
      → each_register Fact fs
  each_stated none [] h = tt
  each_stated none (f ∷ fs) h =
      (λ name. fact_of_value f.function f.registers name h.0 (none f.function name), each_stated none fs h.1)

  module _ (P : Program) (I : Input) where
    -- Each case in which a register gets a value, or a function returns one, keeps the fact: an instruction, a phi, and
    -- the end of a block.
    pub record ActionsKeep : Type 0 where
      pub instr : (n : ℕ) (f : Frame) (fs : List Frame) (fn : Function) (block : Block) (i : Instr) →
          IsTop (run P I n) f fs → ValuesHold f.function f.registers →
          IsBlockAt P f.function f.block fn block → slice_get block.body f.place ≡ Some i →
          GivesFacts f.function (instr_action P I (run P I n).world (length fs) f.registers i)
      pub phi : (f : Frame) (c k : ℕ) (fn : Function) (block : Block) (p : Phi) (from : List ℕ) →
          ValuesHold f.function f.registers → IsBlockAt P f.function c fn block
          → slice_get block.phis k ≡ Some p →
          Fact f.function p.dest (edge_value P.globals I.base f.registers p.edges from)
      pub result : (f : Frame) (fn : Function) (block : Block) (arg : Option Arg)
          → ValuesHold f.function f.registers →
          IsBlockAt P f.function f.block fn block → block.end ≡ ends.Ret arg →
          Returned f.function (returned P.globals I.base f.registers arg)

    module _ (kept : ActionsKeep) where
      phis_hold : (f : Frame) (c : ℕ) (fn : Function) (block : Block) (from : List ℕ)
          → ValuesHold f.function f.registers → IsBlockAt P f.function c fn block →
          (ps : List Phi)
          → ((k : ℕ) (p : Phi)
          → slice_get ps k ≡ Some p → Fact f.function p.dest
          (edge_value P.globals I.base f.registers p.edges from))
          → each_value f.function (after_phis P.globals I.base f.registers from ps)
      phis_hold f c fn block from h at [] each = h.all
      phis_hold f c fn block from h at (p ∷ ps) each =
          (each 0 p refl, phis_hold f c fn block from h at ps (λ k q e. each (suc k) q e))

      jump_to_gives : (f : Frame) → ValuesHold f.function f.registers → (o : Option ℕ)
          → GivesFacts f.function (jump_to P I f o)
      jump_to_gives f h None = record { is = tt }
      jump_to_gives f h (Some c) = record { is = record { all = go (block_at P f.function c) refl } }
        where
          from : List ℕ
          from = label_of (block_at P f.function f.block)

          go : (o : Option Block) → block_at P f.function c ≡ o
              → each_value f.function (after_phis P.globals I.base f.registers from (phis_of o))
          go None e = h.all
          go (Some block) e =
              let at = block_there P f.function c block e in
              phis_hold f c at.0 block from h at.1 block.phis (λ k p q. kept.phi f c k at.0 block p from h at.1 q)

      end_gives : (f : Frame) → ValuesHold f.function f.registers → (o : Option End) → end_at P f ≡ o
          → GivesFacts f.function (end_action P I f o)
      unfolding end_action jump
      end_gives f h None e = record { is = tt }
      end_gives f h (Some (ends.Br label)) e = jump_to_gives f h _
      end_gives f h (Some (ends.CondBr test first second)) e = jump_to_gives f h _
      end_gives f h (Some (ends.Switch width value other cases)) e = jump_to_gives f h _
      end_gives f h (Some (ends.Ret arg)) e = record { is = go (block_at P f.function f.block) refl e }
        where
          go : (o : Option Block) → block_at P f.function f.block ≡ o → end_of o ≡ Some (ends.Ret arg)
              → Returned f.function (returned P.globals I.base f.registers arg)
          go None q r = cc
          go (Some block) q r =
              let at = block_there P f.function f.block block q in
              kept.result f at.0 block arg h at.1 (let s : block.end ≡ ends.Ret arg = cc in s)
      end_gives f h (Some ends.Unreachable) e = record { is = tt }

      deed_gives : (n : ℕ) (f : Frame) (fs : List Frame) → IsTop (run P I n) f fs
          → ValuesHold f.function f.registers
          → (code : List Instr) → code_at P f ≡ code →
          GivesFacts f.function (deed_of P I (run P I n).world (length fs) f (end_at P f) code).action
      deed_gives n f fs t h [] e = end_gives f h (end_at P f) refl
      deed_gives n f fs t h (i ∷ rest) e =
          go (block_at P f.function f.block) refl (get_drop (body_at P f.function f.block) f.place i rest e)
        where
          go : (o : Option Block) → block_at P f.function f.block ≡ o → slice_get (body_of o) f.place ≡ Some i
              → GivesFacts f.function (instr_action P I (run P I n).world (length fs) f.registers i)
          go None q r = cc
          go (Some block) q r =
              let at = block_there P f.function f.block block q in kept.instr n f fs at.0 block i t h at.1 r

      facts_invariant : IsInvariant on_top IsAfterCall P I
      facts_invariant = record {
        first = record { all = tt };
        each = λ n f fs t s. record { is = facts_kept f _ s.0 (deed_gives n f fs t s.0 (code_at P f) refl).is };
      }

      values_below : (h : ℕ) (dest : Option (List ℕ)) (fs : List Frame)
          → below_hold on_top IsAfterCall (main_number P) h dest fs → values_in_frames fs
      values_below h dest [] u = tt
      values_below h dest (g ∷ fs) u = (u.0.hold, values_below g.function g.dest fs u.1)

      all_frames : (fs : List Frame) → frames_hold on_top IsAfterCall (main_number P) fs → values_in_frames fs
      all_frames [] s = tt
      all_frames (f ∷ fs) s = (s.0, values_below f.function f.dest fs s.1)

      -- If each action keeps the fact, it holds for each register of each frame.
      pub actions_keep_facts : (n : ℕ) → values_in_frames (run P I n).frames
      actions_keep_facts n = all_frames (run P I n).frames (invariant_holds on_top IsAfterCall P I facts_invariant n)
