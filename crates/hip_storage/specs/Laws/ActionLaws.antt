-- Each call of a storage does an action of a run.
use Rattle.std.proofs.Common.{◌≡◌, ℕ, zero, suc, ◌+◌, ◌-◌, ◌*◌, ◌/◌, ◌%◌, ◌<◌, ◌≤◌, Bool, true, false, cond, ◌&&◌, nat_eq, nat_le, nat_lt, List, [], ◌∷◌, ◌++◌, length, Option, Some, None, option_map, refl, sym, ap, ap₂, ◌∙◌, subst, arith}
use Rattle.std.proofs.lemmas.Bool.Decides.{nat_tests}
use Rattle.std.specs.Int.{next_multiple_of}
use Rattle.hip_tree.specs.declared.program.Program.{Program}
use Rattle.hip_types.specs.declared.areas.TheConstants.{LINE_SIZE}
use Rattle.hip_mem.specs.Areas as areas
use Rattle.hip_mem.specs.Areas.{Areas, Holds, mark_of, block_address, pushed_mark, bytes_in}
use Rattle.hip_types.specs.Bytes.{bytes_of, little_endian, zeros}
use Rattle.hip_mem.specs.Laws.AreasLaws.{bytes_in-bytes_at, holds-push, holds-pop, laid_out-apart, laid_out-after_push, laid_out-after_pop, mark_of-after_push, mark_of-after_pop, mark-le-block}
use Rattle.hip_mem.specs.Laws.BytesLaws.{length-bytes_of}
use Rattle.hip_mem.specs.Memory.{Write, bytes_at}
use Rattle.hip_types.specs.Areas.{stack_start, stack_end}
use Rattle.hip_mem.specs.declared.refusal.MemTrap.{MemTrap}
use Rattle.hip_mem.specs.declared.refusal.MemTrap.TheVariants as mem_traps
use Rattle.hip_runs.specs.Actions.{Action, Traps, Assigns, Allocates, Stores, Flushes, Persists, Fences, Asserts, Returns, accessed, allocated, flushing, in_region, is_within, memory_of}
use Rattle.hip_runs.specs.Actions as actions
use Rattle.hip_runs.specs.Laws.Represented.ValidLaws.{accessed_is, memory_written, unless_trap, valid_is}
use Rattle.hip_runs.specs.Represented.{HoldsMemory}
use Rattle.hip_runs.specs.State.{Frame, World}
use Rattle.hip_runs.specs.Step.{event_of, leave, perform, with_turn}
use Rattle.hip_runs.specs.StoredParts.Persistence as persistence
use Rattle.hip_runs.specs.declared.event.Ending.TheVariants.{Trap}
use Rattle.hip_runs.specs.declared.event.Event.{Event}
use Rattle.hip_runs.specs.declared.event.Event.TheVariants as events
use Rattle.hip_runs.specs.declared.event.TrapKind.{TrapKind}
use Rattle.hip_runs.specs.declared.event.TrapKind.TheVariants as traps
use Rattle.hip_runs.specs.declared.input.Input.{Input}
use Rattle.hip_storage.specs.Calls.{HasLoaded, HasStored, HasPushed, ShowsFlush, ShowsPersist}
use Rattle.hip_storage.specs.Contents.{Contents, access_trap, after_pop, after_push, after_store, block_trap, flush_event, kind_of, lies_in_region, persist_event, range_trap, region_of, store_event}
use Rattle.hip_storage.specs.Represented.{HasDone, HoldsAt, HoldsRun, HoldsState, Point, performed}

-- ---- the region of the contents is that of the run

module _ {P : Program} {I : Input} {s : Contents} {ws : List Write} {mark : ℕ} (h : HoldsRun P I s ws mark) where
  base_is : s.areas.base ≡ I.base
  base_is = h.memory.holds.base

  size_is : length s.areas.region ≡ length I.image
  size_is = h.memory.holds.region

  region_is : (a n : ℕ) → lies_in_region s a n ≡ in_region I a n
  region_is a n = ap₂ (λ b k. is_within b (b + k) a n) base_is size_is

  flushes_is : (a n : ℕ) → persistence.flushes_lines (region_of s) a n ≡ persistence.flushes_lines I a n
  flushes_is a n = ap (λ t. nat_lt 0 n && t) (region_is a n)

  -- ---- the events

  store_seen : (a n value : ℕ) → store_event s a n value ≡ event_of I [] (Stores a (bytes_of n value))
  store_seen a n value =
      ap (λ t. cond t (events.Store a (little_endian (bytes_of n value)) n) events.Quiet) (region_is a n)
      ∙ ap (λ k. cond (in_region I a k) (events.Store a (little_endian (bytes_of n value)) k) events.Quiet)
      (sym (length-bytes_of n value))

  flush_seen : (a n : ℕ) → flush_event s a n ≡ event_of I [] (Flushes a n)
  flush_seen a n =
      ap₂ (λ t b. cond t (events.Flush (b + LINE_SIZE * ((a - b) / LINE_SIZE))
      (LINE_SIZE * (((a - b) + n - 1) / LINE_SIZE + 1) - LINE_SIZE * ((a - b) / LINE_SIZE))) events.Quiet)
      (flushes_is a n) base_is

  persist_seen : (a n : ℕ) → persist_event s a n ≡ event_of I [] (Persists a n)
  persist_seen a n =
      ap₂ (λ t b. cond t (events.Persist (b + LINE_SIZE * ((a - b) / LINE_SIZE))
      (LINE_SIZE * (((a - b) + n - 1) / LINE_SIZE + 1) - LINE_SIZE * ((a - b) / LINE_SIZE))) events.Fence)
      (flushes_is a n) base_is

  -- The contents hold the run after the stack's mark is set back.
  pub pop_holds : (to : ℕ) → stack_start ≤ to → to ≤ mark → HoldsRun P I (after_pop to s) ws to
  pop_holds to low high = record {
    volatile = h.volatile;
    memory = record {
      holds = holds-pop to s.areas _ (laid_out-apart s.areas h.memory.laid_out) low within h.memory.holds;
      mark_is = mark_of-after_pop to s.areas low within;
      laid_out = laid_out-after_pop to s.areas low within h.memory.laid_out;
    };
  }
    where
      within : to ≤ mark_of s.areas
      within = omega (arith, high, h.memory.mark_is)

  -- The contents hold the run after a new block on the stack.
  push_holds : (size align block : ℕ) → block ≡ block_address s.areas align → block_trap s size align ≡ None
      → HoldsRun P I (after_push size align s)
      (ws ++ record { addr = mark; bytes = zeros ((block + size) - mark) } ∷ []) (block + size)
  push_holds size align block address allowed = record {
    volatile = h.volatile;
    memory =
        subst (λ b. HoldsMemory P I (after_push size align s).areas
        (ws ++ record { addr = mark; bytes = zeros ((b + size) - mark) } ∷ []) (b + size)) (sym address)
        (subst (λ m. HoldsMemory P I (after_push size align s).areas
        (ws ++ record { addr = m; bytes = zeros ((block_address s.areas align + size) - m) } ∷ [])
        (block_address s.areas align + size)) h.memory.mark_is core);
  }
    where
      by_test : (m : ℕ) → cond (nat_le m stack_end) None (Some traps.Stack) ≡ None → m ≤ stack_end
      by_test m e = go (nat_le m stack_end) refl e
        where
          go : (b : Bool) → nat_le m stack_end ≡ b → cond b None (Some traps.Stack) ≡ None → m ≤ stack_end
          go true t e = grind (arith, nat_tests)
          go false t e = cc

      high : pushed_mark s.areas size align ≤ stack_end
      high = by_test (pushed_mark s.areas size align) allowed

      low : mark_of s.areas ≤ pushed_mark s.areas size align
      low = omega (arith, mark-le-block s.areas align)

      core : HoldsMemory P I (after_push size align s).areas
          (ws ++ record {
            addr = mark_of s.areas;
            bytes = zeros ((block_address s.areas align + size) - mark_of s.areas);
          } ∷ [])
          (block_address s.areas align + size)
      core = record {
        holds =
            holds-push (pushed_mark s.areas size align) s.areas _
            (laid_out-apart s.areas h.memory.laid_out) low high h.memory.holds;
        mark_is = mark_of-after_push (pushed_mark s.areas size align) s.areas low;
        laid_out = laid_out-after_push (pushed_mark s.areas size align) s.areas low high h.memory.laid_out;
      }

-- ---- traps

-- An action, unless it traps.
abbrev pub unless : Option TrapKind → Action → Action
unless None go = go
unless (Some kind) go = Traps kind

unless_is : (t : Option MemTrap) (go : Action) → unless_trap t go ≡ unless (option_map kind_of t) go
unless_is None go = refl
unless_is (Some mem_traps.Misaligned) go = refl
unless_is (Some mem_traps.BadAddress) go = refl

module _ {P : Program} {I : Input} {s : Contents} (p : Point) (h : HoldsAt P I s p) where
  -- An access, a flush and a new block trap in the storage exactly if they do in the run.
  pub access_is : (a n align : ℕ) (go : Action) → 0 < n
      → accessed P I p.world a n align go ≡ unless (access_trap s a n align) go
  access_is a n align go some =
      accessed_is P I p.world s.areas a n align go some h.volatile h.memory
      ∙ unless_is (areas.access_trap s.areas a n align) go

  pub range_is : (a n : ℕ) (go : Action) → flushing P I p.world a n go ≡ unless (range_trap s a n) go
  unfolding flushing
  range_is a zero go = refl
  range_is a (suc n) go =
      ap (λ b. cond b go (cond (actions.are_valid P I p.world a (suc n)) go (Traps traps.Address)))
      (let e : nat_eq (suc n) 0 ≡ false = grind (arith, nat_tests) in e)
      ∙ ap (λ t. cond t go (Traps traps.Address))
      (sym (valid_is P I p.world s.areas a (suc n) (omega arith) h.volatile h.memory))
      ∙ by_test (areas.are_valid s.areas a (suc n))
    where
      by_test : (b : Bool) → cond b go (Traps traps.Address) ≡ unless (cond b None (Some traps.Address)) go
      by_test true = refl
      by_test false = refl

  pub block_is : (dest : List ℕ) (size align : ℕ)
      → allocated p.world dest size align ≡ unless (block_trap s size align)
      (Allocates dest (block_address s.areas align) size)
  unfolding allocated
  block_is dest size align =
      ap (λ m. cond (nat_le (next_multiple_of m align + size) stack_end)
      (Allocates dest (next_multiple_of m align) size) (Traps traps.Stack)) (sym h.memory.mark_is)
      ∙ by_test (nat_le (pushed_mark s.areas size align) stack_end)
    where
      by_test : (b : Bool) → cond b (Allocates dest (block_address s.areas align) size) (Traps traps.Stack)
          ≡ unless (cond b None (Some traps.Stack)) (Allocates dest (block_address s.areas align) size)
      by_test true = refl
      by_test false = refl

-- ---- steps

-- A turn changes nothing that the contents hold.
kept : {P : Program} {I : Input} {s : Contents} (turn : Bool) (w : World) → HoldsRun P I s w.writes w.mark
    → HoldsRun P I s (cond turn (with_turn w) w).writes (cond turn (with_turn w) w).mark
kept true w h = h
kept false w h = h

module _ {P : Program} {I : Input} {old : Contents} (p : Point) (h : HoldsAt P I old p) where
  kept_by : {new : Contents} → new ≡ old → HoldsRun P I new (cond p.turn (with_turn p.world) p.world).writes
      (cond p.turn (with_turn p.world) p.world).mark
  kept_by {new} same =
      subst (λ (s : Contents). HoldsRun P I s (cond p.turn (with_turn p.world) p.world).writes
      (cond p.turn (with_turn p.world) p.world).mark) (sym same) (kept p.turn p.world h)

  traps_done : {new : Contents} {action : Action} (kind : TrapKind) → action ≡ Traps kind → new ≡ old
      → HasDone P I p new (events.End (Trap kind)) action (Traps kind)
  unfolding perform
  traps_done kind is same = record { is = is; holds = kept_by same; seen = refl }

  -- ---- refusals

  pub access_refused : {new : Contents} (a n align : ℕ) (kind : TrapKind) (go : Action) → 0 < n
      → access_trap old a n align ≡ Some kind → new ≡ old
      → HasDone P I p new (events.End (Trap kind)) (accessed P I p.world a n align go) (Traps kind)
  access_refused a n align kind go some trapped same =
      traps_done kind (access_is p h a n align go some ∙ ap (λ t. unless t go) trapped) same

  pub range_refused : {new : Contents} (a n : ℕ) (kind : TrapKind) (go : Action) → range_trap old a n ≡ Some kind
      → new ≡ old → HasDone P I p new (events.End (Trap kind)) (flushing P I p.world a n go) (Traps kind)
  range_refused a n kind go trapped same = traps_done kind (range_is p h a n go ∙ ap (λ t. unless t go) trapped) same

  pub block_refused : {new : Contents} (dest : List ℕ) (size align : ℕ) (kind : TrapKind)
      → block_trap old size align ≡ Some kind → new ≡ old
      → HasDone P I p new (events.End (Trap kind)) (allocated p.world dest size align) (Traps kind)
  block_refused dest size align kind trapped same =
      traps_done kind (block_is p h dest size align
      ∙ ap (λ t. unless t (Allocates dest (block_address old.areas align) size)) trapped) same

  assert_is : (a n : ℕ) (b : Bool) → lies_in_region old a n ≡ b
      → cond (in_region I a n) (Asserts a n) (Traps traps.Address) ≡ cond b (Asserts a n) (Traps traps.Address)
  assert_is a n b e = ap (λ t. cond t (Asserts a n) (Traps traps.Address)) (sym (region_is h a n) ∙ e)

  pub assert_refused : {new : Contents} (a n : ℕ) → lies_in_region old a n ≡ false → new ≡ old
      → HasDone P I p new (events.End (Trap traps.Address))
      (cond (in_region I a n) (Asserts a n) (Traps traps.Address))
      (Traps traps.Address)
  assert_refused a n outside same = traps_done traps.Address (assert_is a n false outside) same

  -- ---- what is done

  pub assert_done : {new : Contents} (a n : ℕ) → lies_in_region old a n ≡ true → new ≡ old
      → HasDone P I p new (events.Assert a n) (cond (in_region I a n) (Asserts a n) (Traps traps.Address))
      (Asserts a n)
  unfolding perform
  assert_done a n inside same = record { is = assert_is a n true inside; holds = kept_by same; seen = refl }

  pub load_done : {new : Contents} {a n align value : ℕ} {dest : Option (List ℕ)} (m : ℕ) → 0 < n
      → HasLoaded old a n align value → new ≡ old →
      HasDone P I p new events.Quiet (accessed P I p.world a n align
      (Assigns dest (little_endian (bytes_at (memory_of P I p.world) a n) % m))) (Assigns dest (value % m))
  unfolding perform
  load_done {new} {a} {n} {align} {value} {dest} m some x same = record {
    is =
        access_is p h a n align (Assigns dest (little_endian (bytes_at (memory_of P I p.world) a n) % m)) some
        ∙ ap (λ t. unless t (Assigns dest (little_endian (bytes_at (memory_of P I p.world) a n) % m))) x.allowed
        ∙ ap (λ v. Assigns dest (v % m)) (ap little_endian
        (sym (bytes_in-bytes_at old.areas (memory_of P I p.world) n a h.memory.holds valid)) ∙ sym x.loaded);
    holds = kept_by same;
    seen = refl;
  }
    where
      by_tests : (b c : Bool) → option_map kind_of
          (cond b (cond c None (Some mem_traps.BadAddress)) (Some mem_traps.Misaligned)) ≡ None → c ≡ true
      by_tests true true q = refl
      by_tests true false q = cc
      by_tests false c q = cc

      valid : areas.are_valid old.areas a n ≡ true
      valid = by_tests (nat_eq (a % align) 0) (areas.are_valid old.areas a n) x.allowed

  pub store_done : {new : Contents} {e : Event} {a n align value : ℕ} → 0 < n
      → HasStored old new e a n align value →
      HasDone P I p new e (accessed P I p.world a n align (Stores a (bytes_of n value))) (Stores a (bytes_of n value))
  unfolding perform
  store_done {new} {e} {a} {n} {align} {value} some x = record {
    is =
        access_is p h a n align (Stores a (bytes_of n value)) some
        ∙ ap (λ t. unless t (Stores a (bytes_of n value))) x.allowed;
    holds =
        subst (λ (s : Contents). HoldsRun P I s ((cond p.turn (with_turn p.world) p.world).writes
        ++ record { addr = a; bytes = bytes_of n value } ∷ []) (cond p.turn (with_turn p.world) p.world).mark)
        (sym x.contents) (go p.turn);
    seen = x.seen ∙ store_seen h a n value;
  }
    where
      done : HoldsRun P I (after_store a n value old)
          (p.world.writes ++ record { addr = a; bytes = bytes_of n value } ∷ []) p.world.mark
      done =
          record {
            volatile = h.volatile;
            memory = memory_written
                (record { addr = a; bytes = bytes_of n value }) h.memory;
          }

      go : (turn : Bool) → HoldsRun P I (after_store a n value old)
          ((cond turn (with_turn p.world) p.world).writes ++ record { addr = a; bytes = bytes_of n value } ∷ [])
          (cond turn (with_turn p.world) p.world).mark
      go true = done
      go false = done

  pub push_done : {new : Contents} {block size align : ℕ} {dest : List ℕ} → HasPushed old new block size align
      → HasDone P I p new events.Quiet (allocated p.world dest size align) (Allocates dest block size)
  unfolding perform
  push_done {new} {block} {size} {align} {dest} x = record {
    is =
        block_is p h dest size align ∙ ap (λ t. unless t (Allocates dest (block_address old.areas align) size))
        x.allowed
        ∙ ap (λ b. Allocates dest b size) (sym x.address);
    holds =
        subst (λ (s : Contents). HoldsState P I s (performed I p (Allocates dest block size))) (sym x.contents)
        (go p.turn);
    seen = refl;
  }
    where
      go : (turn : Bool) → HoldsRun P I (after_push size align old)
          ((cond turn (with_turn p.world) p.world).writes
          ++ record {
            addr = (cond turn (with_turn p.world) p.world).mark;
            bytes = zeros ((block + size) - (cond turn (with_turn p.world) p.world).mark);
          } ∷ []) (block + size)
      go true = push_holds h size align block x.address x.allowed
      go false = push_holds h size align block x.address x.allowed

  pub flush_done : {e : Event} {a n : ℕ} → ShowsFlush old e a n
      → HasDone P I p old e (flushing P I p.world a n (Flushes a n)) (Flushes a n)
  unfolding perform
  flush_done {e} {a} {n} x = record {
    is = range_is p h a n (Flushes a n) ∙ ap (λ t. unless t (Flushes a n)) x.allowed;
    holds = kept p.turn p.world h;
    seen = x.seen ∙ flush_seen h a n;
  }

  pub persist_done : {e : Event} {a n : ℕ} → ShowsPersist old e a n
      → HasDone P I p old e (flushing P I p.world a n (Persists a n)) (Persists a n)
  unfolding perform
  persist_done {e} {a} {n} x = record {
    is = range_is p h a n (Persists a n) ∙ ap (λ t. unless t (Persists a n)) x.allowed;
    holds = kept p.turn p.world h;
    seen = x.seen ∙ persist_seen h a n;
  }

  pub fence_done : HasDone P I p old events.Fence Fences Fences
  unfolding perform
  fence_done = record { is = refl; holds = kept p.turn p.world h; seen = refl }

  -- What a return from a frame that is not the bottom one does, by the mark at its call.
  pub return_done : {new : Contents} {value : ℕ} (g : Frame) (fs : List Frame) → p.frames ≡ g ∷ fs
      → stack_start ≤ p.frame.mark → p.frame.mark ≤ p.world.mark → new ≡ after_pop p.frame.mark old →
      HasDone P I p new events.Quiet (Returns value) (Returns value)
  unfolding perform leave
  return_done {new} {value} g fs above low high popped = record {
    is = refl;
    holds =
        subst (λ (below : List Frame). HoldsState P I new
        (leave value (cond p.turn (with_turn p.world) p.world) p.frame below p.lines p.after)) (sym above)
        (subst (λ (s : Contents). HoldsRun P I s (cond p.turn (with_turn p.world) p.world).writes p.frame.mark)
        (sym popped) (go p.turn));
    seen = ap (λ below. event_of I below (Returns value)) (sym above);
  }
    where
      go : (turn : Bool) → HoldsRun P I (after_pop p.frame.mark old)
          (cond turn (with_turn p.world) p.world).writes p.frame.mark
      go true = pop_holds h p.frame.mark low high
      go false = pop_holds h p.frame.mark low high
