-- The header of a run's trace reads back as the run's input.
use Rattle.std.proofs.Common.{◌≡◌, ℕ, ℤ, zero, suc, ◌+◌, ◌-◌, ◌*◌, ◌/◌, ◌%◌, ◌^◌, ◌≤◌, Bool, true, false, cond, List, [], ◌∷◌, ◌++◌, map, length, take, drop, Some, None, nat_lt, refl, sym, ap, ◌∙◌, arith, append_assoc, length-append}
use Rattle.std.specs.Prelude.{if◌then◌else◌}
use Rattle.std.specs.Int.{next_multiple_of}
use Rattle.std.proofs.lemmas.Bool.{eq-eqb}
use Rattle.std.proofs.lemmas.List.{append-nil, length-drop, length-take-le, take-append-drop}
use Rattle.hip_globals.specs.Addresses.{end_of, region_size, is_base}
use Rattle.hip_tree.specs.declared.program.Program.{Program}
use Rattle.hip_types.specs.Bytes.{zeros}
use Rattle.hip_mem.specs.Laws.BytesLaws.{length-zeros}
use Rattle.hip_runs.specs.Laws.Members.{true_both, true_le, true_lt}
use Rattle.hip_runs.specs.Step.{event, has_ended, header_entries, image_lines, run, some_byte}
use Rattle.hip_runs.specs.Validity.{IsValid}
use Rattle.hip_runs.specs.declared.event.Ending.{Ending}
use Rattle.hip_runs.specs.declared.event.Ending.TheVariants as endings
use Rattle.hip_runs.specs.declared.event.Event.{Event}
use Rattle.hip_runs.specs.declared.event.Event.TheVariants as events
use Rattle.hip_runs.specs.declared.input.Input.{Input}
use Rattle.hip_runs.specs.declared.limits.TheConstants.{MOST_NUMBERS, MOST_TURNS}
use Rattle.hip_run_traces.specs.Headers.{Gives, valid_limit, valid_base, is_next_line, with_number, with_line, with_entry, filled, go_on, header_from, past_register, past_start, header}
use Rattle.hip_run_traces.specs.Laws.LineLaws.{no_byte, zeros-add}
use Rattle.hip_run_traces.specs.Traces.{entry_of_ending, entry_of_event, entry_list, header_of, image_entries, next_entries, trace, stated}
use Rattle.hip_trace.specs.declared.entry.Entry.{Entry}
use Rattle.hip_trace.specs.declared.entry.Entry.TheVariants.{Start, Register, Input as Number, Image}

-- ---- the entries of steps belong to no header

-- No header continues with the first of these entries; true if there is no entry.
abbrev StopsIt : Program → List Entry → Type 0
StopsIt P [] = Unit {0}
StopsIt P (e ∷ es) = (J : Input) → with_entry P J (Some e) ≡ None

-- No header continues with these entries.
record EndsHeader (P : Program) (es : List Entry) : Type 0 where
  is : StopsIt P es

ends_ending : (P : Program) (x : Ending) (J : Input) → with_entry P J (Some (entry_of_ending x)) ≡ None
ends_ending P (endings.Stop code) J = refl
ends_ending P (endings.Trap kind) J = refl
ends_ending P endings.Cut J = refl

ends_event : (P : Program) (e : Event) → EndsHeader P (entry_list (entry_of_event e))
ends_event P events.Quiet = record { is = tt {0} }
ends_event P (events.Print z) = record { is = tt {0} }
ends_event P (events.Store a v s) = record { is = λ J. refl }
ends_event P (events.Flush l s) = record { is = λ J. refl }
ends_event P (events.Persist l s) = record { is = λ J. refl }
ends_event P events.Fence = record { is = λ J. refl }
ends_event P (events.Assert a s) = record { is = λ J. refl }
ends_event P (events.End x) = record { is = ends_ending P x }

ends_append : (P : Program) (es fs : List Entry) → EndsHeader P es → EndsHeader P fs → EndsHeader P (es ++ fs)
ends_append P [] fs h k = k
ends_append P (e ∷ es) fs h k = record { is = h.is }

ends_there : (P : Program) (J : Input) (c : ℕ) (es : List Entry) → EndsHeader P es
    → header_from P J c (stated es) ≡ Gives c (filled P J)
ends_there P J c [] h = refl
ends_there P J c (e ∷ es) h = ap (go_on P J c (λ more. header_from P more (suc c) (stated es))) (h.is J)

-- The entries of a run's steps, after its header.
record StepsOf (P : Program) (I : Input) (n : ℕ) : Type 0 where
  steps : List Entry
  ends : EndsHeader P steps
  split : trace P I n ≡ header_of I ++ steps

steps_of : (P : Program) (I : Input) (n : ℕ) → StepsOf P I n
unfolding trace
steps_of P I zero = record { steps = []; ends = record { is = tt {0} }; split = sym (append-nil (header_of I)) }
steps_of P I (suc n) =
    let before = steps_of P I n in
    record {
      steps = before.steps ++ next_entries P I (run P I n);
      ends = ends_append P before.steps (next_entries P I (run P I n)) before.ends (next (has_ended (run P I n)));
      split =
          ap (λ (es : List Entry). es ++ next_entries P I (run P I n)) before.split
          ∙ append_assoc (header_of I) before.steps (next_entries P I (run P I n));
    }
  where
    next : (b : Bool) → EndsHeader P (if b then [] else entry_list (entry_of_event (event P I (run P I n))))
    next true = record { is = tt {0} }
    next false = ends_event P (event P I (run P I n))

-- ---- IMAGE entries

no_zeros : zeros 0 ≡ []
unfolding zeros
no_zeros = refl

pub whole_lines : (n : ℕ) → next_multiple_of n 64 % 64 ≡ 0
whole_lines n = omega arith

module _ (P : Program) (base limit : ℕ) (numbers : List ℤ) where
  abbrev front : List ℕ → Input
  front image = record { base = base; image = image; numbers = numbers; limit = limit }

  lines_read : (n addr g c : ℕ) (A bytes : List ℕ) (rest : List Entry) → EndsHeader P rest
      → length bytes ≡ 64 * n
      → base + region_size P ≡ addr + 64 * n → addr ≡ base + length A + g
      → header_from P (front A) c (stated (image_entries n addr bytes ++ rest))
      ≡ Gives (c + image_lines n bytes) (front (A ++ (zeros g ++ bytes)))
  lines_read zero addr g c A [] rest ends len fits at =
      let m : region_size P - length A ≡ g = omega (arith, fits, at) in
      let same : c ≡ c + 0 = omega arith in
      ends_there P (front A) c rest ends
      ∙ ap (λ (j : ℕ). Gives c (front (A ++ zeros j))) m
      ∙ ap (λ (zs : List ℕ). Gives c (front (A ++ zs))) (sym (append-nil (zeros g)))
      ∙ ap (λ (j : ℕ). Gives j (front (A ++ (zeros g ++ [])))) same
  lines_read zero addr g c A (b ∷ bytes) rest ends len fits at = absurd (omega (arith, len))
  lines_read (suc n) addr g c A bytes rest ends len fits at = go (some_byte (take 64 bytes)) refl
      (let d = length-drop 64 bytes in λ more count image. lines_read n (addr + 64) more count image
      (drop 64 bytes) rest ends (omega (arith, d, len)) (omega (arith, fits)))
    where
      go : (b : Bool) → some_byte (take 64 bytes) ≡ b
          → ((more count : ℕ) (image : List ℕ) → addr + 64 ≡ base + length image + more
          → header_from P (front image) count (stated (image_entries n (addr + 64) (drop 64 bytes) ++ rest))
          ≡ Gives (count + image_lines n (drop 64 bytes)) (front (image ++ (zeros more ++ drop 64 bytes))))
          → header_from P (front A) c (stated (((if b then Image addr (take 64 bytes) ∷ [] else [])
          ++ image_entries n (addr + 64) (drop 64 bytes)) ++ rest))
          ≡ Gives (c + (cond b 1 0 + image_lines n (drop 64 bytes))) (front (A ++ (zeros g ++ bytes)))
      go false q ih =
          let none : take 64 bytes ≡ zeros 64 =
          no_byte (take 64 bytes) q ∙ ap zeros (length-take-le 64 bytes (omega (arith, len))) in
          let image : zeros (g + 64) ++ drop 64 bytes ≡ zeros g ++ bytes =
          ap (λ (zs : List ℕ). zs ++ drop 64 bytes) (zeros-add g 64)
          ∙ append_assoc (zeros g) (zeros 64) (drop 64 bytes)
          ∙ ap (λ (zs : List ℕ). zeros g ++ (zs ++ drop 64 bytes)) (sym none)
          ∙ ap (λ (zs : List ℕ). zeros g ++ zs) (take-append-drop 64 bytes) in
          let count : c + image_lines n (drop 64 bytes) ≡ c + (0 + image_lines n (drop 64 bytes)) = omega arith in
          ih (g + 64) c A (omega (arith, at))
          ∙ ap (λ (zs : List ℕ). Gives (c + image_lines n (drop 64 bytes)) (front (A ++ zs))) image
          ∙ ap (λ (j : ℕ). Gives j (front (A ++ (zeros g ++ bytes)))) count
      go true q ih =
          let next : is_next_line P (front A) addr (take 64 bytes) ≡ true =
          true_both (true_le (base + length A) addr (omega (arith, at)))
          (true_both (true_le (addr + 64) (base + region_size P) (omega (arith, fits))) q) in
          let gap : addr - (base + length A) ≡ g = omega (arith, at) in
          let long = length-append A (zeros g ++ take 64 bytes) in
          let longer = length-append (zeros g) (take 64 bytes) in
          let zeroed = length-zeros g in
          let taken = length-take-le 64 bytes (omega (arith, len)) in
          let read : with_line P (front A) addr (take 64 bytes) ≡ Some (front (A ++ (zeros g ++ take 64 bytes))) =
          ap (λ (t : Bool). if t then Some (front
          (A ++ (zeros (addr - (base + length A)) ++ take 64 bytes))) else None)
          next
          ∙ ap (λ (j : ℕ). Some (front (A ++ (zeros j ++ take 64 bytes)))) gap in
          let image : (A ++ (zeros g ++ take 64 bytes)) ++ (zeros 0 ++ drop 64 bytes) ≡ A ++ (zeros g ++ bytes) =
          append_assoc A (zeros g ++ take 64 bytes) (zeros 0 ++ drop 64 bytes)
          ∙ ap (λ (zs : List ℕ). A ++ ((zeros g ++ take 64 bytes) ++ (zs ++ drop 64 bytes))) no_zeros
          ∙ ap (λ (zs : List ℕ). A ++ zs) (append_assoc (zeros g) (take 64 bytes) (drop 64 bytes))
          ∙ ap (λ (zs : List ℕ). A ++ (zeros g ++ zs)) (take-append-drop 64 bytes) in
          let count : suc c + image_lines n (drop 64 bytes) ≡ c + (1 + image_lines n (drop 64 bytes)) = omega arith in
          ap (go_on P (front A) c (λ more. header_from P more (suc c)
          (stated (image_entries n (addr + 64) (drop 64 bytes) ++ rest)))) read
          ∙ ih 0 (suc c) (A ++ (zeros g ++ take 64 bytes)) (omega (arith, at, long, longer, zeroed, taken))
          ∙ ap (λ (zs : List ℕ). Gives (suc c + image_lines n (drop 64 bytes)) (front zs)) image
          ∙ ap (λ (j : ℕ). Gives j (front (A ++ (zeros g ++ bytes)))) count

-- ---- INPUT entries

module _ (P : Program) (base limit : ℕ) where
  abbrev numbered : List ℤ → Input
  numbered ns = record { base = base; image = []; numbers = ns; limit = limit }

  numbers_read : (zs ns : List ℤ) (c : ℕ) (es : List Entry) → length ns + length zs ≤ MOST_NUMBERS
      → header_from P (numbered ns) c (stated (map (λ z. Number z) zs ++ es))
      ≡ header_from P (numbered (ns ++ zs)) (c + length zs) (stated es)
  numbers_read [] ns c es few =
      let same : c ≡ c + 0 = omega arith in
      ap (λ (ms : List ℤ). header_from P (numbered ms) c (stated es)) (sym (append-nil ns))
      ∙ ap (λ (j : ℕ). header_from P (numbered (ns ++ [])) j (stated es)) same
  numbers_read (z ∷ zs) ns c es few =
      let room : nat_lt (length ns) MOST_NUMBERS ≡ true = true_lt (length ns) MOST_NUMBERS (omega (arith, few)) in
      let read : with_number (numbered ns) z ≡ Some (numbered (ns ++ z ∷ [])) =
      ap (λ (t : Bool). if t then Some (numbered (ns ++ z ∷ [])) else None) room in
      let long = length-append ns (z ∷ []) in
      let count : suc c + length zs ≡ c + length (z ∷ zs) = omega arith in
      ap (go_on P (numbered ns) c (λ more. header_from P more (suc c) (stated (map (λ y. Number y) zs ++ es)))) read
      ∙ numbers_read zs (ns ++ z ∷ []) (suc c) es (omega (arith, long, few))
      ∙ ap (λ (ms : List ℤ). header_from P (numbered ms) (suc c + length zs) (stated es))
      (append_assoc ns (z ∷ []) zs)
      ∙ ap (λ (j : ℕ). header_from P (numbered (ns ++ z ∷ zs)) j (stated es)) count

-- ---- the whole header

module _ (P : Program) (I : Input) (valid : IsValid P I) where
  base_passes : is_base I.base ≡ true
  base_passes =
      true_both (eq-eqb (I.base % 4096) 0 valid.base.page)
      (true_both (true_le (2 ^ 32) I.base valid.base.low) (true_le I.base (2 ^ 46) valid.base.high))

  limit_read : valid_limit (Some (Start I.limit)) ≡ Some I.limit
  limit_read = ap (λ (t : Bool). if t then Some I.limit else None) (true_le I.limit MOST_TURNS valid.limit)

  base_read : valid_base P (Some (Register I.base (length I.image))) ≡ Some I.base
  base_read =
      ap (λ (t : Bool). if t then Some I.base else None)
      (true_both base_passes (eq-eqb (length I.image) (region_size P) valid.image))

  read_back : (rest : List Entry) → EndsHeader P rest
      → header P (stated (header_of I ++ rest)) ≡ Gives (header_entries I) I
  unfolding header header_of
  read_back rest ends =
      let whole : length I.image % 64 ≡ 0 = ap (λ n. n % 64) valid.image ∙ whole_lines (end_of true 0 P.globals) in
      let len : length I.image ≡ 64 * (length I.image / 64) = omega (arith, whole) in
      ap (past_start P (stated (Register I.base (length I.image)
      ∷ ((map (λ z. Number z) I.numbers ++ image_entries (length I.image / 64) I.base I.image) ++ rest))))
      limit_read
      ∙ ap (past_register P I.limit (stated ((map (λ z. Number z) I.numbers
      ++ image_entries (length I.image / 64) I.base I.image) ++ rest))) base_read
      ∙ ap (λ (es : List Entry). header_from P (numbered P I.base I.limit []) 2 (stated es))
      (append_assoc (map (λ z. Number z) I.numbers) (image_entries (length I.image / 64) I.base I.image) rest)
      ∙ numbers_read P I.base I.limit I.numbers [] 2 (image_entries (length I.image / 64) I.base I.image ++ rest)
      (omega (arith, valid.numbers))
      ∙ lines_read P I.base I.limit I.numbers (length I.image / 64) I.base 0
      (2 + length I.numbers) [] I.image rest ends len (let same = valid.image in omega (arith, same, len))
      (omega arith)
      ∙ ap (λ (zs : List ℕ). Gives (header_entries I) (front P I.base I.limit I.numbers (zs ++ I.image))) no_zeros

  pub header-trace : (n : ℕ) → header P (stated (trace P I n)) ≡ Gives (header_entries I) I
  header-trace n =
      let h = steps_of P I n in ap (λ (es : List Entry). header P (stated es)) h.split ∙ read_back h.steps h.ends
