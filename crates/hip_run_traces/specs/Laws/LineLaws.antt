-- Cache lines of zeros have no IMAGE entry, and the entries of several lines are those of each line in order.
use Rattle.std.proofs.Common.{◌≡◌, ℕ, zero, suc, ◌+◌, ◌*◌, Bool, false, List, [], ◌∷◌, ◌++◌, length, take, drop, refl, sym, ap, ◌∙◌, subst, arith, append_assoc}
use Rattle.std.specs.Prelude.{if◌then◌else◌}
use Rattle.std.proofs.lemmas.List.{length-drop, length-take-le, take-append-drop}
use Rattle.std.proofs.Math.Seq.{take-append_seam, drop-append_seam}
use Rattle.hip_types.specs.Bytes.{zeros}
use Rattle.hip_mem.specs.Laws.BytesLaws.{length-zeros}
use Rattle.hip_runs.specs.Step.{some_byte}
use Rattle.hip_run_traces.specs.Traces.{image_entries}
use Rattle.hip_trace.specs.declared.entry.Entry.{Entry}
use Rattle.hip_trace.specs.declared.entry.Entry.TheVariants.{Image}

pub front_of : {A : Type 0} (n : ℕ) (xs ys : List A) → length xs ≡ n → (take n (xs ++ ys) ≡ xs)
    × (drop n (xs ++ ys) ≡ ys)
front_of n xs ys e = (
  subst (λ m. take m (xs ++ ys) ≡ xs) e (take-append_seam xs ys),
  subst (λ m. drop m (xs ++ ys) ≡ ys) e (drop-append_seam xs ys),
)

-- ---- zeros

pub no_byte : (bs : List ℕ) → some_byte bs ≡ false → bs ≡ zeros (length bs)
unfolding zeros
no_byte [] e = refl
no_byte (zero ∷ bs) e = ap (λ (xs : List ℕ). 0 ∷ xs) (no_byte bs e)
no_byte (suc b ∷ bs) e = absurd (let z : ⊥ = cc in z)

byte_of_zeros : (n : ℕ) → some_byte (zeros n) ≡ false
unfolding zeros
byte_of_zeros zero = refl
byte_of_zeros (suc n) = byte_of_zeros n

pub zeros-add : (a b : ℕ) → zeros (a + b) ≡ zeros a ++ zeros b
unfolding zeros
zeros-add zero b = ap zeros (let e : 0 + b ≡ b = omega arith in e)
zeros-add (suc a) b =
    ap zeros (let e : suc a + b ≡ suc (a + b) = omega arith in e)
    ∙ ap (λ (xs : List ℕ). 0 ∷ xs) (zeros-add a b)

-- ---- entries of lines

-- The IMAGE entry of one cache line at an address, as a list; empty if the line has no byte other than 0.
abbrev pub line_entries : ℕ → List ℕ → List Entry
line_entries addr line = if some_byte line then Image addr line ∷ [] else []

pub line_then : (n addr : ℕ) (line rest : List ℕ) → length line ≡ 64
    → image_entries (suc n) addr (line ++ rest) ≡ line_entries addr line ++ image_entries n (addr + 64) rest
line_then n addr line rest e =
    let split = front_of 64 line rest e in
    ap (λ (t : List ℕ). line_entries addr t ++ image_entries n (addr + 64) (drop 64 (line ++ rest))) split.0
    ∙ ap (λ (d : List ℕ). line_entries addr line ++ image_entries n (addr + 64) d) split.1

pub no_lines : (n addr : ℕ) → image_entries n addr (zeros (64 * n)) ≡ []
no_lines zero addr = refl
no_lines (suc n) addr =
    let more : 64 * suc n ≡ 64 + 64 * n = omega arith in
    ap (λ (m : ℕ). image_entries (suc n) addr (zeros m)) more
    ∙ ap (image_entries (suc n) addr) (zeros-add 64 (64 * n))
    ∙ line_then n addr (zeros 64) (zeros (64 * n)) (length-zeros 64)
    ∙ ap (λ (b : Bool). (if b then Image addr (zeros 64) ∷ [] else [])
    ++ image_entries n (addr + 64) (zeros (64 * n)))
    (byte_of_zeros 64)
    ∙ no_lines n (addr + 64)

pub lines_append : (k m addr : ℕ) (xs ys : List ℕ) → length xs ≡ 64 * k
    → image_entries (k + m) addr (xs ++ ys) ≡ image_entries k addr xs ++ image_entries m (addr + 64 * k) ys
lines_append zero m addr [] ys e =
    let a : 0 + m ≡ m = omega arith in
    let b : addr ≡ addr + 64 * 0 = omega arith in
    ap (λ (j : ℕ). image_entries j addr ys) a ∙ ap (λ (j : ℕ). image_entries m j ys) b
lines_append zero m addr (x ∷ xs) ys e = absurd (omega (arith, e))
lines_append (suc k) m addr xs ys e =
    go (take 64 xs) (drop 64 xs) (sym (take-append-drop 64 xs)) (length-take-le 64 xs (omega (arith, e)))
    (lines_append k m (addr + 64) (drop 64 xs) ys (let d = length-drop 64 xs in omega (arith, d, e)))
  where
    go : (t d : List ℕ) → xs ≡ t ++ d → length t ≡ 64
        → image_entries (k + m) (addr + 64) (d ++ ys) ≡ image_entries k (addr + 64) d
        ++ image_entries m (addr + 64 + 64 * k) ys
        → image_entries (suc k + m) addr (xs ++ ys) ≡ image_entries (suc k) addr xs
        ++ image_entries m (addr + 64 * suc k) ys
    go t d split len ih =
        let a : suc k + m ≡ suc (k + m) = omega arith in
        let b : addr + 64 + 64 * k ≡ addr + 64 * suc k = omega arith in
        ap (λ (j : ℕ). image_entries j addr (xs ++ ys)) a
        ∙ ap (λ (zs : List ℕ). image_entries (suc (k + m)) addr (zs ++ ys)) split
        ∙ ap (image_entries (suc (k + m)) addr) (append_assoc t d ys)
        ∙ line_then (k + m) addr t (d ++ ys) len
        ∙ ap (λ (es : List Entry). line_entries addr t ++ es)
        (ih ∙ ap (λ (j : ℕ). image_entries k (addr + 64) d ++ image_entries m j ys) b)
        ∙ sym (append_assoc (line_entries addr t) (image_entries k (addr + 64) d)
        (image_entries m (addr + 64 * suc k) ys))
        ∙ ap (λ (es : List Entry). es ++ image_entries m (addr + 64 * suc k) ys)
        (sym (line_then k addr t d len) ∙ ap (image_entries (suc k) addr) (sym split))
