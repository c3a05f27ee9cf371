-- The values of the entries of a trace fit the fields of their texts.
use Rattle.std.proofs.Common.{◌≡◌, ◌⊎◌, inl, inr, ℕ, ℤ, pos, negsuc, zero, suc, ◌+◌, ◌-◌, ◌*◌, ◌/◌, ◌%◌, ◌^◌, ◌≤◌, ◌<◌, Bool, true, false, cond, List, [], ◌∷◌, ◌++◌, map, length, take, drop, Option, Some, None, Result, Ok, Err, slice_get, nat_eq, nat_le, nat_lt, refl, sym, ap, ◌∙◌, subst, arith, rules, FitsSigned, w32}
use Rattle.std.specs.Prelude.{if◌then◌else◌, All, is_some}
use Rattle.std.specs.Int.{next_multiple_of}
use Rattle.std.proofs.lemmas.List.{length-drop, length-take-le}
use Rattle.std.proofs.lemmas.List.Elements.{All-nil, All-cons, All-append, All-take, All-drop, All-map}
use Rattle.hip_externs.specs.Externs.{call_of}
use Rattle.hip_externs.specs.declared.call.ExternCall.{ExternCall}
use Rattle.hip_externs.specs.declared.call.ExternCall.TheVariants as calls
use Rattle.hip_globals.specs.Addresses.{end_of, region_size}
use Rattle.hip_tree.specs.declared.block.End.{End}
use Rattle.hip_tree.specs.declared.block.End.TheVariants as ends
use Rattle.hip_tree.specs.declared.instr.Instr.{Instr}
use Rattle.hip_tree.specs.declared.instr.Instr.TheVariants.{Binary, Compare, Select, Cast, Alloca, Load, Store, Gep, Call}
use Rattle.hip_tree.specs.declared.program.Function.{Function}
use Rattle.hip_tree.specs.declared.program.Program.{Program}
use Rattle.hip_types.specs.Bytes.{little_endian, bytes_of}
use Rattle.hip_mem.specs.Laws.BytesLaws.{bytes_of-below, length-bytes_of, little_endian-below}
use Rattle.hip_types.specs.Areas.{stack_end}
use Rattle.hip_num.specs.Arithmetic.{binary_of}
use Rattle.hip_num.specs.declared.arithmetic.NumTrap.{NumTrap}
use Rattle.hip_types.specs.Numbers.{bits, signed, signed-low, signed-high}
use Rattle.hip_types.specs.declared.number.Bits.{Bits}
use Rattle.hip_types.specs.declared.number.Scalar.{Scalar}
use Rattle.hip_types.specs.declared.number.Scalar.TheVariants.{Int, Ptr}
use Rattle.hip_types.specs.declared.number.Width.TheVariants.{W1, W8, W16, W32, W64}
use Rattle.hip_sound.specs.NumberedNames.{function_number}
use Rattle.hip_sound.specs.Sound.{IsSound}
use Rattle.hip_runs.specs.Actions.{Action, Traps, Assigns, Allocates, Stores, Flushes, Persists, Fences, Asserts, Prints, Reads, Calls, Jumps, Returns, Deed, are_valid, arg_value, in_region, accessed, calculated, allocated, bound_call, numbered_call, entered, flushing, read_next, call_action, instr_action, jump_to, jump, end_action, deed_of}
use Rattle.hip_runs.specs.Laws.Members.{both_true, le_true, lt_true}
use Rattle.hip_runs.specs.Operands.{scalar_size, value_of, values_of}
use Rattle.hip_runs.specs.Places.{code_at, end_at}
use Rattle.hip_runs.specs.State.{Registers, Frame, World, State}
use Rattle.hip_runs.specs.Step.{deed_at, event, event_at, event_of, event_on_ending, event_on_frames, first_line, is_bottom, is_cut, lines_size, run, some_byte}
use Rattle.hip_runs.specs.StoredParts.Persistence.{flushes_lines}
use Rattle.hip_runs.specs.Validity.{IsInput, IsValid}
use Rattle.hip_runs.specs.declared.event.Ending.{Ending}
use Rattle.hip_runs.specs.declared.event.Ending.TheVariants as endings
use Rattle.hip_runs.specs.declared.event.Event.TheVariants as events
use Rattle.hip_runs.specs.declared.event.TrapKind.TheVariants as traps
use Rattle.hip_runs.specs.declared.input.Input.{Input}
use Rattle.hip_run_traces.specs.Laws.GivenLaws.{FitsIfThere}
use Rattle.hip_run_traces.specs.Laws.HeaderLaws.{whole_lines}
use Rattle.hip_run_traces.specs.Traces.{entry_of_event, entry_list, header_of, image_entries, next_entries, trace}
use Rattle.hip_trace.specs.Entries.{is_store_size}
use Rattle.hip_trace.specs.Fits.{AreLines, ValuesFit}
use Rattle.hip_trace.specs.declared.entry.Entry.{Entry}
use Rattle.hip_trace.specs.declared.entry.Entry.TheVariants as entries

-- ---- actions

-- The bytes of a value of 1, 2, 4 or 8 bytes.
record AreStored (bytes : List ℕ) : Type 0 where
  sized : is_store_size (length bytes) ≡ true
  below : little_endian bytes < 2 ^ (8 * length bytes)

-- A store is of a value of 1, 2, 4 or 8 bytes, and the range of an assert is in the region. There is no condition on
-- any other action.
abbrev ranged : Input → Action → Type 0
ranged I (Stores a bytes) = AreStored bytes
ranged I (Asserts a n) = in_region I a n ≡ true
ranged I _ = Unit {0}

-- A store is of the bytes of a scalar, and an assert is of a range of the region.
record IsRanged (I : Input) (x : Action) : Type 0 where
  is : ranged I x

free : {I : Input} (x : Action) → ranged I x → IsRanged I x
free x h = record { is = h }

ranged_cond : {I : Input} (b : Bool) (x y : Action) → IsRanged I x → IsRanged I y → IsRanged I (cond b x y)
ranged_cond true x y p q = p
ranged_cond false x y p q = q

size_is : (s : Scalar) → is_store_size (scalar_size s) ≡ true
size_is (Int W1) = refl
size_is (Int W8) = refl
size_is (Int W16) = refl
size_is (Int W32) = refl
size_is (Int W64) = refl
size_is Ptr = refl

power_is : (s : Scalar) → 256 ^ scalar_size s ≡ 2 ^ (8 * scalar_size s)
power_is (Int W1) = refl
power_is (Int W8) = refl
power_is (Int W16) = refl
power_is (Int W32) = refl
power_is (Int W64) = refl
power_is Ptr = refl

scalar_bytes : (s : Scalar) (v : ℕ) → AreStored (bytes_of (scalar_size s) v)
scalar_bytes s v =
    let len = length-bytes_of (scalar_size s) v in
    let below = little_endian-below (bytes_of (scalar_size s) v) (λ i. bytes_of-below (scalar_size s) v i) in
    record {
      sized = ap is_store_size len ∙ size_is s;
      below =
          subst (λ (m : ℕ). little_endian (bytes_of (scalar_size s) v) < m)
          (ap (λ (m : ℕ). 256 ^ m) len ∙ power_is s ∙ ap (λ (m : ℕ). 2 ^ (8 * m)) (sym len)) below;
    }

module _ (P : Program) (I : Input) (w : World) (below : ℕ) (rs : Registers) where
  ranged_accessed : (a n align : ℕ) (x : Action) → IsRanged I x → IsRanged I (accessed P I w a n align x)
  unfolding accessed
  ranged_accessed a n align x h =
      ranged_cond (nat_eq (a % align) 0) (cond (are_valid P I w a n) x (Traps traps.Address)) (Traps traps.Misaligned)
      (ranged_cond (are_valid P I w a n) x (Traps traps.Address) h (record { is = tt {0} })) (record { is = tt {0} })

  ranged_flushing : (a n : ℕ) (x : Action) → IsRanged I x → IsRanged I (flushing P I w a n x)
  unfolding flushing
  ranged_flushing a n x h =
      ranged_cond (nat_eq n 0) x (cond (are_valid P I w a n) x (Traps traps.Address)) h
      (ranged_cond (are_valid P I w a n) x (Traps traps.Address) h (record { is = tt {0} }))

  ranged_allocated : (dest : List ℕ) (size align : ℕ) → IsRanged I (allocated w dest size align)
  unfolding allocated
  ranged_allocated dest size align =
      ranged_cond (nat_le (next_multiple_of w.mark align + size) stack_end)
      (Allocates dest (next_multiple_of w.mark align) size) (Traps traps.Stack) (record { is = tt {0} })
      (record { is = tt {0} })

  ranged_bound : (f : Option Function) (g : ℕ) (values : List ℕ) (dest : Option (List ℕ))
      → IsRanged I (bound_call f g values dest)
  ranged_bound None g values dest = record { is = tt {0} }
  ranged_bound (Some f) g values dest = record { is = tt {0} }

  ranged_numbered : (n : Option ℕ) (values : List ℕ) (dest : Option (List ℕ))
      → IsRanged I (numbered_call P n values dest)
  ranged_numbered None values dest = record { is = tt {0} }
  ranged_numbered (Some g) values dest = ranged_bound (slice_get P.functions g) g values dest

  ranged_entered : (callee values : List ℕ) (dest : Option (List ℕ))
      → IsRanged I (entered P below callee values dest)
  unfolding entered
  ranged_entered callee values dest =
      ranged_cond (nat_lt below 16383) (numbered_call P (function_number P callee) values dest) (Traps traps.Depth)
      (ranged_numbered (function_number P callee) values dest) (record { is = tt {0} })

  ranged_calculated : (dest : List ℕ) (r : Result Bits NumTrap) → IsRanged I (calculated dest r)
  ranged_calculated dest (Ok b) = record { is = tt {0} }
  ranged_calculated dest (Err t) = record { is = tt {0} }

  ranged_read : (dest : Option (List ℕ)) (left : List ℤ) → IsRanged I (read_next dest left)
  ranged_read dest [] = record { is = tt {0} }
  ranged_read dest (z ∷ rest) = record { is = tt {0} }

  ranged_assert : (a n : ℕ) → IsRanged I (cond (in_region I a n) (Asserts a n) (Traps traps.Address))
  ranged_assert a n = go (in_region I a n) refl
    where
      go : (b : Bool) → in_region I a n ≡ b → IsRanged I (cond b (Asserts a n) (Traps traps.Address))
      go true q = record { is = q }
      go false q = record { is = tt {0} }

  ranged_call : (c : Option ExternCall) (callee values : List ℕ) (dest : Option (List ℕ))
      → IsRanged I (call_action P I w below c callee values dest)
  ranged_call None callee values dest = ranged_entered callee values dest
  ranged_call (Some calls.ReadI64) callee values dest = ranged_read dest w.left
  ranged_call (Some calls.PrintI64) callee values dest = record { is = tt {0} }
  ranged_call (Some calls.PmAssert) callee values dest = ranged_assert (arg_value values 0) (arg_value values 1)
  ranged_call (Some calls.Clwb) callee values dest = ranged_flushing _ _ _ (record { is = tt {0} })
  ranged_call (Some calls.Clflushopt) callee values dest = ranged_flushing _ _ _ (record { is = tt {0} })
  ranged_call (Some calls.Clflush) callee values dest = ranged_flushing _ _ _ (record { is = tt {0} })
  ranged_call (Some calls.Sfence) callee values dest = record { is = tt {0} }
  ranged_call (Some calls.Mfence) callee values dest = record { is = tt {0} }
  ranged_call (Some calls.PmemFlush) callee values dest = ranged_flushing _ _ _ (record { is = tt {0} })
  ranged_call (Some calls.PmemPersist) callee values dest = ranged_flushing _ _ _ (record { is = tt {0} })
  ranged_call (Some calls.PmemDrain) callee values dest = record { is = tt {0} }

  ranged_instr : (i : Instr) → IsRanged I (instr_action P I w below rs i)
  unfolding instr_action
  ranged_instr (Binary dest op flags width a b) =
      ranged_calculated dest (binary_of op (bits width (value_of P.globals I.base rs a))
      (bits width (value_of P.globals I.base rs b)))
  ranged_instr (Compare dest pred ty a b) = record { is = tt {0} }
  ranged_instr (Select dest test ty a b) = record { is = tt {0} }
  ranged_instr (Cast dest op from a to) = record { is = tt {0} }
  ranged_instr (Alloca dest ty align) = ranged_allocated dest _ _
  ranged_instr (Load dest ty addr align) = ranged_accessed _ _ _ _ (record { is = tt {0} })
  ranged_instr (Store ty value addr align) =
      ranged_accessed _ _ _ _ (record { is = scalar_bytes ty (value_of P.globals I.base rs value) })
  ranged_instr (Gep dest inbounds ty base indices) = record { is = tt {0} }
  ranged_instr (Call dest ret callee args) =
      ranged_call (call_of callee) callee (values_of P.globals I.base rs args) dest

ranged_jump : (P : Program) (I : Input) (f : Frame) (b : Option ℕ) → IsRanged I (jump_to P I f b)
ranged_jump P I f None = record { is = tt {0} }
ranged_jump P I f (Some b) = record { is = tt {0} }

ranged_end : (P : Program) (I : Input) (f : Frame) (e : Option End) → IsRanged I (end_action P I f e)
unfolding end_action jump
ranged_end P I f None = record { is = tt {0} }
ranged_end P I f (Some (ends.Br label)) = ranged_jump P I f _
ranged_end P I f (Some (ends.CondBr test first second)) = ranged_jump P I f _
ranged_end P I f (Some (ends.Switch width value other cases)) = ranged_jump P I f _
ranged_end P I f (Some (ends.Ret arg)) = record { is = tt {0} }
ranged_end P I f (Some ends.Unreachable) = record { is = tt {0} }

ranged_deed : (P : Program) (I : Input) (w : World) (below : ℕ) (f : Frame) (e : Option End) (code : List Instr)
    → IsRanged I (deed_of P I w below f e code).action
ranged_deed P I w below f e [] = ranged_end P I f e
ranged_deed P I w below f e (i ∷ rest) = ranged_instr P I w below f.registers i

-- ---- events

signed_fits : (n : ℕ) → n < 2 ^ 32 → FitsSigned w32 (signed W32 n)
signed_fits n h = go (split n (2 ^ 31))
  where
    split : (a b : ℕ) → (a < b) ⊎ (b ≤ a)
    split a b = grind arith

    low : (m : ℕ) → m < 2 ^ 31 → FitsSigned w32 (pos m)
    low m k = search (rules, k)

    high : (m : ℕ) → m < 2 ^ 31 → FitsSigned w32 (negsuc m)
    high m k = search (rules, k)

    go : (n < 2 ^ 31) ⊎ (2 ^ 31 ≤ n) → FitsSigned w32 (signed W32 n)
    go (inl k) = subst (FitsSigned w32) (sym (signed-low W32 n k)) (low n k)
    go (inr k) = subst (FitsSigned w32) (sym (signed-high W32 n k h)) (high (2 ^ 32 - 1 - n) (omega (arith, k, h)))

-- The lines of a range.
lines_fit : (base d n size : ℕ) → base % 4096 ≡ 0 → base ≤ 2 ^ 46 → size ≤ 2 ^ 26 → 0 < n
    → d + n ≤ size
    → AreLines (base + 64 * (d / 64)) (64 * ((d + n - 1) / 64 + 1) - 64 * (d / 64))
lines_fit base d n size page high few some within =
    go (d / 64) ((d + n - 1) / 64) (omega arith) (omega arith) (omega arith)
  where
    go : (q r : ℕ) → q ≤ r → 64 * q ≤ d → 64 * r ≤ d + n - 1
        → AreLines (base + 64 * q) (64 * (r + 1) - 64 * q)
    go q r le first last =
        let size_is : 64 * (r + 1) - 64 * q ≡ 64 * (r + 1 - q) = omega arith in
        record {
          aligned = omega (arith, page);
          whole = omega (arith, size_is);
          some = omega (arith, le);
          fits = omega (arith, last, within, few);
          within = omega (arith, le, last, within, few, high);
        }

module _ (P : Program) (I : Input) (sound : IsSound P) (valid : IsValid P I) where
  region_end : I.base + length I.image ≤ 2 ^ 46 + 2 ^ 26
  region_end = omega (arith, valid.base.high, valid.image, sound.sizes.region)

  in_parts : (a n : ℕ) → in_region I a n ≡ true → (I.base ≤ a) × (a + n ≤ I.base + length I.image)
  in_parts a n h =
      let both = both_true (nat_le I.base a) (nat_le (a + n) (I.base + length I.image)) h in
      (le_true I.base a both.0, le_true (a + n) (I.base + length I.image) both.1)

  flushed_fit : (a n : ℕ) → flushes_lines I a n ≡ true → AreLines (first_line I a) (lines_size I a n)
  flushed_fit a n h =
      let both = both_true (nat_lt 0 n) (in_region I a n) h in
      let some : 0 < n = lt_true 0 n both.0 in
      let range = in_parts a n both.1 in
      lines_fit I.base (a - I.base) n (length I.image) valid.base.page valid.base.high
      (omega (arith, valid.image, sound.sizes.region)) some (omega (arith, range))

  fits_event_of : (fs : List Frame) (x : Action) → IsRanged I x → FitsIfThere (entry_of_event (event_of I fs x))
  fits_event_of fs (Traps kind) h = tt
  fits_event_of fs (Assigns to v) h = tt
  fits_event_of fs (Allocates to a n) h = tt
  fits_event_of fs (Stores a bytes) h = go (in_region I a (length bytes)) refl
    where
      go : (b : Bool) → in_region I a (length bytes) ≡ b
          → FitsIfThere (entry_of_event (cond b (events.Store a (little_endian bytes) (length bytes)) events.Quiet))
      go true q =
          let range = in_parts a (length bytes) q in
          record { fits = omega (arith, range, region_end); sized = h.is.sized; within = h.is.below }
      go false q = tt
  fits_event_of fs (Flushes a n) h = go (flushes_lines I a n) refl
    where
      go : (b : Bool) → flushes_lines I a n ≡ b
          → FitsIfThere (entry_of_event (cond b (events.Flush (first_line I a) (lines_size I a n)) events.Quiet))
      go true q = flushed_fit a n q
      go false q = tt
  fits_event_of fs (Persists a n) h = go (flushes_lines I a n) refl
    where
      go : (b : Bool) → flushes_lines I a n ≡ b
          → FitsIfThere (entry_of_event (cond b (events.Persist (first_line I a) (lines_size I a n)) events.Fence))
      go true q = flushed_fit a n q
      go false q = tt
  fits_event_of fs Fences h = tt
  fits_event_of fs (Asserts a n) h =
      let range = in_parts a n h.is in (omega (arith, range, region_end), omega (arith, range, region_end))
  fits_event_of fs (Prints z) h = tt
  fits_event_of fs (Reads to z rest) h = tt
  fits_event_of fs (Calls g registers to) h = tt
  fits_event_of fs (Jumps b registers) h = tt
  fits_event_of fs (Returns v) h = go (is_bottom fs)
    where
      go : (b : Bool) → FitsIfThere (entry_of_event
          (cond b (events.End (endings.Stop (signed W32 (bits W32 v).value))) events.Quiet))
      go true = signed_fits (bits W32 v).value (bits W32 v).in_range
      go false = tt

  fits_event_at : (w : World) (fs : List Frame) (d : Deed) → IsRanged I d.action
      → FitsIfThere (entry_of_event (event_at I w fs d))
  fits_event_at w fs d h = go (is_cut I w d)
    where
      go : (b : Bool) → FitsIfThere (entry_of_event (cond b (events.End endings.Cut) (event_of I fs d.action)))
      go true = tt
      go false = fits_event_of fs d.action h

  fits_on_frames : (w : World) (fs : List Frame) → FitsIfThere (entry_of_event (event_on_frames P I w fs))
  fits_on_frames w [] = tt
  fits_on_frames w (f ∷ fs) =
      fits_event_at w fs (deed_at P I w f fs) (ranged_deed P I w (length fs) f (end_at P f) (code_at P f))

  list_fits : (o : Option Entry) → FitsIfThere o → All ValuesFit (entry_list o)
  list_fits None h = All-nil ValuesFit
  list_fits (Some e) h = All-cons ValuesFit e [] h (All-nil ValuesFit)

  next_fit : (s : State) → All ValuesFit (next_entries P I s)
  unfolding event
  next_fit s = go s.world.ending
    where
      go : (o : Option Ending) → All ValuesFit
          (if is_some o then [] else entry_list (entry_of_event (event_on_ending P I s o)))
      go None = list_fits (entry_of_event (event_on_frames P I s.world s.frames)) (fits_on_frames s.world s.frames)
      go (Some x) = All-nil ValuesFit

  -- ---- before the first step

  images_fit : (n addr : ℕ) (bytes : List ℕ) → addr % 64 ≡ 0 → addr + 64 * n < 2 ^ 64
      → length bytes ≡ 64 * n
      → All (λ b. b < 256) bytes → All ValuesFit (image_entries n addr bytes)
  images_fit zero addr bytes aligned most len h = All-nil ValuesFit
  images_fit (suc n) addr bytes aligned most len h =
      let dropped = length-drop 64 bytes in
      All-append ValuesFit (if some_byte (take 64 bytes) then entries.Image addr (take 64 bytes) ∷ [] else [])
      (image_entries n (addr + 64) (drop 64 bytes))
      (one (some_byte (take 64 bytes)) (All-take (λ b. b < 256) 64 bytes h))
      (images_fit n (addr + 64) (drop 64 bytes) (omega (arith, aligned)) (omega (arith, most))
      (omega (arith, len, dropped)) (All-drop (λ b. b < 256) 64 bytes h))
    where
      one : (b : Bool) → All (λ c. c < 256) (take 64 bytes)
          → All ValuesFit (if b then entries.Image addr (take 64 bytes) ∷ [] else [])
      one true k =
          All-cons ValuesFit (entries.Image addr (take 64 bytes)) []
          (record {
            fits = omega (arith, most);
            aligned = aligned;
            whole = length-take-le 64 bytes (omega (arith, len));
            bytes = k;
          }) (All-nil ValuesFit)
      one false k = All-nil ValuesFit

  header_fits : IsInput I → All ValuesFit (header_of I)
  unfolding header_of
  header_fits input =
      let image : length I.image ≡ region_size P = valid.image in
      let whole : length I.image % 64 ≡ 0 = ap (λ n. n % 64) valid.image ∙ whole_lines (end_of true 0 P.globals) in
      let len : length I.image ≡ 64 * (length I.image / 64) = omega (arith, whole) in
      let page : I.base % 4096 ≡ 0 = valid.base.page in
      All-cons ValuesFit (entries.Start I.limit)
      (entries.Register I.base (length I.image)
      ∷ (map (λ z. entries.Input z) I.numbers ++ image_entries (length I.image / 64) I.base I.image))
      (omega (arith, valid.limit))
      (All-cons ValuesFit (entries.Register I.base (length I.image))
      (map (λ z. entries.Input z) I.numbers ++ image_entries (length I.image / 64) I.base I.image)
      (omega (arith, region_end), omega (arith, region_end))
      (All-append ValuesFit (map (λ z. entries.Input z) I.numbers) (image_entries (length I.image / 64) I.base I.image)
      (All-map ValuesFit (λ z. entries.Input z) I.numbers input.numbers)
      (images_fit (length I.image / 64) I.base I.image (omega (arith, page))
      (omega (arith, len, region_end)) len input.bytes)))

  pub trace_fits : IsInput I → (n : ℕ) → All ValuesFit (trace P I n)
  unfolding trace
  trace_fits input zero = header_fits input
  trace_fits input (suc n) =
      All-append ValuesFit (trace P I n) (next_entries P I (run P I n)) (trace_fits input n) (next_fit (run P I n))
