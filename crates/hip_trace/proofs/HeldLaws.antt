-- The bytes of a buffer from one place to another, and what is ahead of them in a file.
use Rattle.std.proofs.Common.{◌≡◌, ℕ, ◌+◌, ◌-◌, ◌≤◌, List, ◌++◌, length, take, drop, slice_range, sym, ap, ◌∙◌, arith, length-append}
use Rattle.std.proofs.lemmas.List.{drop-take, drop-drop, length-take-le}
use Rattle.hip_io.specs.Cabinets.{CabinetState, HasGot}
use Rattle.hip_trace.specs.Fronts.{HasTakenSome}
use lib.Seq.{take-add}

pub skipped : (xs : List ℕ) (start end count : ℕ) → start + count ≤ end → slice_range xs (start + count) end ≡ drop count (slice_range xs start end)
skipped xs start end count inside =
    let parts : end - start ≡ count + (end - (start + count)) = omega arith in
    sym (ap (λ j. drop count (take j (drop start xs))) parts ∙ drop-take count _ (drop start xs) ∙ ap (take (end - (start + count))) (drop-drop count start xs))

pub after_front : (front n : ℕ) (held xs : List ℕ) → take front xs ≡ held → slice_range xs 0 (front + n) ≡ held ++ take n (drop front xs)
after_front front n held xs e =
    let all : front + n - 0 ≡ front + n = omega arith in
    ap (λ (j : ℕ). take j xs) all ∙ take-add front n xs ∙ ap (λ (h : List ℕ). h ++ take n (drop front xs)) e

-- Bytes that are read to the place after the held ones are held too.
pub got_more : (held held' buffer : List ℕ) (n : ℕ) (s s' : CabinetState) → HasGot s s' buffer n → held' ≡ held ++ take n buffer → HasTakenSome held held' s s'
got_more held held' buffer n s s' got e =
    let len = length-append held (take n buffer) in
    let taken : length (take n buffer) ≡ n = length-take-le n buffer got.fits in
    record {
      reading = record { stays = got.stays; faults = got.faults };
      taken = take n buffer;
      bytes = got.bytes;
      held_is = e;
      longer = rw e (omega (arith, len, taken, got.some));
    }
