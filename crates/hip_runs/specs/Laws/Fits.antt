-- How the action and the event of a step fit the instruction of the step.
use Rattle.std.proofs.Common.{◌≡◌, ℕ, ◌+◌, Bool, true, false, cond, ◌%◌, nat_eq, nat_le, nat_lt, ℤ, List, [], ◌∷◌, length, Option, Some, None, slice_get, Result, Ok, Err, refl, sym, ap, ◌∙◌, subst}
use Rattle.hip_tree.specs.Sites.{instr_of}
use Rattle.hip_tree.specs.declared.block.End.{End}
use Rattle.hip_tree.specs.declared.instr.Instr.{Instr}
use Rattle.hip_tree.specs.declared.instr.Instr.TheVariants.{Binary, Compare, Select, Cast, Alloca, Load, Store, Gep, Call}
use Rattle.hip_tree.specs.declared.program.Function.{Function}
use Rattle.hip_tree.specs.declared.program.Program.{Program}
use Rattle.hip_tree.specs.declared.site.Site.{Site}
use Rattle.hip_num.specs.declared.arithmetic.NumTrap.{NumTrap}
use Rattle.hip_types.specs.declared.number.Bits.{Bits}
use Rattle.hip_externs.specs.Externs.{call_of, row_of}
use Rattle.hip_externs.specs.declared.call.ExternCall.{ExternCall}
use Rattle.hip_sound.specs.NumberedNames.{function_number}
use Rattle.hip_runs.specs.declared.event.Ending.{Ending}
use Rattle.hip_runs.specs.declared.event.Ending.TheVariants.{Stop, Cut}
use Rattle.hip_types.specs.Numbers.{bits, signed}
use Rattle.hip_types.specs.declared.number.Width.TheVariants.{W32}
use Rattle.std.specs.Int.{next_multiple_of}
use Rattle.hip_types.specs.Bytes.{little_endian, bytes_of}
use Rattle.hip_mem.specs.Laws.BytesLaws.{bytes_of-below, bytes_of-little_endian}
use Rattle.hip_types.specs.Areas.{stack_end}
use Rattle.hip_num.specs.Arithmetic.{binary_of}
use Rattle.hip_runs.specs.Laws.HistoryLaws.{instr_at_place}
use Rattle.hip_runs.specs.Laws.Members.{get_drop}
use Rattle.hip_runs.specs.Operands.{scalar_size, value_of, values_of}
use Rattle.hip_runs.specs.declared.event.Event.{Event}
use Rattle.hip_runs.specs.declared.input.Input.{Input}
use Rattle.hip_runs.specs.Actions.{Action, Traps, Assigns, Allocates, Stores, Flushes, Persists, Fences, Asserts, Prints, Reads, Calls, Jumps, Returns, Deed, are_valid, arg_value, in_region, accessed, calculated, allocated, bound_call, numbered_call, entered, flushing, read_next, call_action, instr_action, jump_to, jump, end_action, deed_of, line_action, flushed_size}
use Rattle.hip_runs.specs.StoredParts.Persistence.{flushes_lines}
use Rattle.hip_runs.specs.Places.{body_at, code_at, end_at}
use Rattle.hip_runs.specs.StoredParts.Since.{top_site}
use Rattle.hip_runs.specs.Sites.{is_store, only_flushes, persists, is_flush_call, is_persist_call, called_number}
use Rattle.hip_runs.specs.State.{Registers, Frame, World, State, site_of}
use Rattle.hip_runs.specs.Step.{first_line, lines_size, event_of, is_bottom, is_cut, event_at, deed_at, event_on_frames, event_on_ending, event}
use Rattle.hip_tree.specs.declared.block.End.TheVariants as ends
use Rattle.hip_externs.specs.declared.call.ExternCall.TheVariants as calls
use Rattle.hip_externs.specs.declared.call.LineEffect.{LineEffect}
use Rattle.hip_externs.specs.declared.call.LineEffect.TheVariants as effects
use Rattle.hip_runs.specs.declared.event.TrapKind.TheVariants as traps
use Rattle.hip_runs.specs.declared.event.Event.TheVariants as events

-- ---- actions of instructions

-- A store is the action of a `store`, and each of its bytes is below 256. A flush is the action of a call that flushes
-- and takes no fence, and a persist that of a call that does both. A call is the action of a call of the same function.
-- All other actions fit any instruction.
abbrev fits : Program → Action → Option Instr → Type 0
fits P (Stores a bytes) o = (is_store o ≡ true) × (bytes_of (length bytes) (little_endian bytes) ≡ bytes)
fits P (Flushes a n) o = is_flush_call o ≡ true
fits P (Persists a n) o = is_persist_call o ≡ true
fits P (Calls g rs to) o = called_number P o ≡ Some g
fits P _ o = Unit {0}

-- The action fits the instruction.
pub record ActionFits (P : Program) (x : Action) (o : Option Instr) : Type 0 where
  pub is : fits P x o

-- Writing the number of a value's bytes gives the same bytes.
written : (n v : ℕ) → bytes_of (length (bytes_of n v)) (little_endian (bytes_of n v)) ≡ bytes_of n v
written n v = bytes_of-little_endian (bytes_of n v) (λ i. bytes_of-below n v i)

fits_cond : {P : Program} (b : Bool) (x y : Action) (o : Option Instr) → ActionFits P x o → ActionFits P y o
    → ActionFits P (cond b x y) o
fits_cond true x y o p q = p
fits_cond false x y o p q = q

flushes_alone : (c : ExternCall) → (row_of c).effect ≡ effects.Flush → only_flushes (Some c) ≡ true
flushes_alone calls.ReadI64 e = cc
flushes_alone _ e = cc

flushes_and_fences : (c : ExternCall) → (row_of c).effect ≡ effects.FlushAndFence → persists (Some c) ≡ true
flushes_and_fences calls.ReadI64 e = cc
flushes_and_fences _ e = cc

module _ (P : Program) (I : Input) (w : World) (below : ℕ) (rs : Registers) where
  fits_accessed : (a n align : ℕ) (x : Action) (o : Option Instr) → ActionFits P x o
      → ActionFits P (accessed P I w a n align x) o
  unfolding accessed
  fits_accessed a n align x o h =
      fits_cond (nat_eq (a % align) 0) (cond (are_valid P I w a n) x (Traps traps.Address)) (Traps traps.Misaligned) o
      (fits_cond (are_valid P I w a n) x (Traps traps.Address) o h (record { is = tt {0} })) (record { is = tt {0} })

  fits_flushing : (a n : ℕ) (x : Action) (o : Option Instr) → ActionFits P x o → ActionFits P (flushing P I w a n x) o
  unfolding flushing
  fits_flushing a n x o h =
      fits_cond (nat_eq n 0) x (cond (are_valid P I w a n) x (Traps traps.Address)) o h
      (fits_cond (are_valid P I w a n) x (Traps traps.Address) o h (record { is = tt {0} }))

  fits_lines : (effect : LineEffect) (a n : ℕ) (o : Option Instr)
      → (effect ≡ effects.Flush → is_flush_call o ≡ true)
      → (effect ≡ effects.FlushAndFence → is_persist_call o ≡ true) → ActionFits P (line_action P I w effect a n) o
  fits_lines effects.Nothing a n o flush persist = record { is = tt {0} }
  fits_lines effects.Flush a n o flush persist = fits_flushing a n (Flushes a n) o (record { is = flush refl })
  fits_lines effects.Fence a n o flush persist = record { is = tt {0} }
  fits_lines effects.FlushAndFence a n o flush persist =
      fits_flushing a n (Persists a n) o (record { is = persist refl })

  fits_allocated : (dest : List ℕ) (size align : ℕ) (o : Option Instr) → ActionFits P (allocated w dest size align) o
  unfolding allocated
  fits_allocated dest size align o =
      fits_cond (nat_le (next_multiple_of w.mark align + size) stack_end)
      (Allocates dest (next_multiple_of w.mark align) size) (Traps traps.Stack) o (record { is = tt {0} })
      (record { is = tt {0} })

  fits_bound : (f : Option Function) (g : ℕ) (values : List ℕ) (dest : Option (List ℕ)) (o : Option Instr)
      → called_number P o ≡ Some g → ActionFits P (bound_call f g values dest) o
  fits_bound None g values dest o h = record { is = tt {0} }
  fits_bound (Some f) g values dest o h = record { is = h }

  fits_numbered : (n : Option ℕ) (values : List ℕ) (dest : Option (List ℕ)) (o : Option Instr)
      → called_number P o ≡ n
      → ActionFits P (numbered_call P n values dest) o
  fits_numbered None values dest o h = record { is = tt {0} }
  fits_numbered (Some g) values dest o h = fits_bound (slice_get P.functions g) g values dest o h

  fits_entered : (callee values : List ℕ) (dest : Option (List ℕ)) (o : Option Instr)
      → called_number P o ≡ function_number P callee → ActionFits P (entered P below callee values dest) o
  unfolding entered
  fits_entered callee values dest o h =
      fits_cond (nat_lt below 16383) (numbered_call P (function_number P callee) values dest) (Traps traps.Depth) o
      (fits_numbered (function_number P callee) values dest o h) (record { is = tt {0} })

  fits_calculated : (dest : List ℕ) (r : Result Bits NumTrap) (o : Option Instr) → ActionFits P (calculated dest r) o
  fits_calculated dest (Ok b) o = record { is = tt {0} }
  fits_calculated dest (Err t) o = record { is = tt {0} }

  fits_instr : (i : Instr) → ActionFits P (instr_action P I w below rs i) (Some i)
  unfolding instr_action
  fits_instr (Binary dest op flags width a b) =
      fits_calculated dest (binary_of op (bits width (value_of P.globals I.base rs a))
      (bits width (value_of P.globals I.base rs b))) _
  fits_instr (Compare dest pred ty a b) = record { is = tt {0} }
  fits_instr (Select dest test ty a b) = record { is = tt {0} }
  fits_instr (Cast dest op from a to) = record { is = tt {0} }
  fits_instr (Alloca dest ty align) = fits_allocated dest _ _ _
  fits_instr (Load dest ty addr align) = fits_accessed _ _ _ _ _ (record { is = tt {0} })
  fits_instr (Store ty value addr align) =
      fits_accessed _ _ _ _ _ (record { is = (refl, written (scalar_size ty) (value_of P.globals I.base rs value)) })
  fits_instr (Gep dest inbounds ty base indices) = record { is = tt {0} }
  fits_instr (Call dest ret callee args) = go (call_of callee) refl
    where
      read : (left : List ℤ) → ActionFits P (read_next dest left) (Some (Call dest ret callee args))
      read [] = record { is = tt {0} }
      read (z ∷ rest) = record { is = tt {0} }

      go : (c : Option ExternCall) → call_of callee ≡ c
          → ActionFits P (call_action P I w below c callee (values_of P.globals I.base rs args) dest)
          (Some (Call dest ret callee args))
      go None q = fits_entered callee (values_of P.globals I.base rs args) dest _ refl
      go (Some calls.ReadI64) q = read w.left
      go (Some calls.PrintI64) q = record { is = tt {0} }
      go (Some calls.PmAssert) q =
          let vs = values_of P.globals I.base rs args in
          fits_cond (in_region I (arg_value vs 0) (arg_value vs 1)) (Asserts (arg_value vs 0) (arg_value vs 1))
          (Traps traps.Address) _ (record { is = tt {0} }) (record { is = tt {0} })
      go (Some call) q =
          let vs = values_of P.globals I.base rs args in
          fits_lines (row_of call).effect (arg_value vs 0) (flushed_size (row_of call).params vs)
          (Some (Call dest ret callee args)) (λ e. ap only_flushes q ∙ flushes_alone call e)
          (λ e. ap persists q ∙ flushes_and_fences call e)

fits_jump : (P : Program) (I : Input) (f : Frame) (b : Option ℕ) (o : Option Instr) → ActionFits P (jump_to P I f b) o
fits_jump P I f None o = record { is = tt {0} }
fits_jump P I f (Some b) o = record { is = tt {0} }

fits_end : (P : Program) (I : Input) (f : Frame) (e : Option End) (o : Option Instr) → ActionFits P (end_action P I f e) o
unfolding end_action jump
fits_end P I f None o = record { is = tt {0} }
fits_end P I f (Some (ends.Br label)) o = fits_jump P I f _ o
fits_end P I f (Some (ends.CondBr test first second)) o = fits_jump P I f _ o
fits_end P I f (Some (ends.Switch width value other cases)) o = fits_jump P I f _ o
fits_end P I f (Some (ends.Ret arg)) o = record { is = tt {0} }
fits_end P I f (Some ends.Unreachable) o = record { is = tt {0} }

-- ---- events

-- A store is the event of a `store`, a flush that of a call that flushes and takes no fence, and a persist that of a
-- call that does both. All other events fit any instruction.
abbrev stated : Event → Option Instr → Type 0
stated (events.Store a v n) o = is_store o ≡ true
stated (events.Flush l n) o = is_flush_call o ≡ true
stated (events.Persist l n) o = is_persist_call o ≡ true
stated _ o = Unit {0}

-- The event fits the instruction.
pub record Stated (e : Event) (o : Option Instr) : Type 0 where
  pub is : stated e o

stated_cond : (b : Bool) (x y : Event) (o : Option Instr) → Stated x o → Stated y o → Stated (cond b x y) o
stated_cond true x y o p q = p
stated_cond false x y o p q = q

event_stated : (P : Program) (I : Input) (fs : List Frame) (x : Action) (o : Option Instr) → ActionFits P x o
    → Stated (event_of I fs x) o
event_stated P I fs (Traps kind) o h = record { is = tt {0} }
event_stated P I fs (Assigns to v) o h = record { is = tt {0} }
event_stated P I fs (Allocates to a n) o h = record { is = tt {0} }
event_stated P I fs (Stores a bytes) o h =
    stated_cond (in_region I a (length bytes)) (events.Store a (little_endian bytes) (length bytes)) events.Quiet o
    (record { is = h.is.0 }) (record { is = tt {0} })
event_stated P I fs (Flushes a n) o h =
    stated_cond (flushes_lines I a n) (events.Flush (first_line I a) (lines_size I a n)) events.Quiet o
    (record { is = h.is }) (record { is = tt {0} })
event_stated P I fs (Persists a n) o h =
    stated_cond (flushes_lines I a n) (events.Persist (first_line I a) (lines_size I a n)) events.Fence o
    (record { is = h.is }) (record { is = tt {0} })
event_stated P I fs Fences o h = record { is = tt {0} }
event_stated P I fs (Asserts a n) o h = record { is = tt {0} }
event_stated P I fs (Prints z) o h = record { is = tt {0} }
event_stated P I fs (Reads to z rest) o h = record { is = tt {0} }
event_stated P I fs (Calls g rs to) o h = record { is = tt {0} }
event_stated P I fs (Jumps b rs) o h = record { is = tt {0} }
event_stated P I fs (Returns v) o h =
    stated_cond (is_bottom fs) (events.End (Stop (signed W32 (bits W32 v).value))) events.Quiet o
    (record { is = tt {0} })
    (record { is = tt {0} })

at_stated : (P : Program) (I : Input) (w : World) (fs : List Frame) (d : Deed) (o : Option Instr) → ActionFits P d.action o
    → Stated (event_at I w fs d) o
at_stated P I w fs d o h =
    stated_cond (is_cut I w d) (events.End Cut) (event_of I fs d.action) o (record { is = tt {0} })
    (event_stated P I fs d.action o h)

-- What the top frame does next fits the instruction at its place.
pub deed_fits : (P : Program) (I : Input) (w : World) (f : Frame) (fs : List Frame)
    → ActionFits P (deed_at P I w f fs).action (instr_of P (site_of f))
deed_fits P I w f fs = by_code (code_at P f) refl
  where
    by_code : (code : List Instr) → code_at P f ≡ code
        → ActionFits P (deed_of P I w (length fs) f (end_at P f) code).action (instr_of P (site_of f))
    by_code [] q = fits_end P I f (end_at P f) _
    by_code (i ∷ rest) q =
        let at : instr_of P (site_of f) ≡ Some i =
        instr_at_place P f.function f.block f.place ∙ get_drop (body_at P f.function f.block) f.place i rest q in
        subst (ActionFits P (instr_action P I w (length fs) f.registers i)) (sym at)
        (fits_instr P I w (length fs) f.registers i)

-- The event of the next step fits the instruction at the top frame's place.
pub site_stated : (P : Program) (I : Input) (s : State) (t : Site) → top_site s.frames ≡ Some t
    → Stated (event P I s) (instr_of P t)
unfolding event
site_stated P I s t e = go s.world.ending
  where
    on_them : (fs : List Frame) → top_site fs ≡ Some t → Stated (event_on_frames P I s.world fs) (instr_of P t)
    on_them [] q = record { is = tt {0} }
    on_them (f ∷ fs) q =
        let same : site_of f ≡ t = cc in subst (λ u. Stated (event_at I s.world fs (deed_at P I s.world f fs))
        (instr_of P u)) same (at_stated P I s.world fs (deed_at P I s.world f fs) (instr_of P (site_of f))
        (deed_fits P I s.world f fs))

    go : (o : Option Ending) → Stated (event_on_ending P I s o) (instr_of P t)
    go (Some x) = record { is = tt {0} }
    go None = on_them s.frames e
