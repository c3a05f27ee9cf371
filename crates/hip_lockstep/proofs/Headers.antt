-- The lines that a trace has before the first step of its run.
use Rattle.std.proofs.Common.{◌≡◌, ℕ, ℤ, zero, suc, ◌+◌, ◌*◌, ◌-◌, ◌/◌, ◌<◌, ◌≤◌, Bool, true, false, List, [], ◌∷◌, ◌++◌, length, map, take, drop, get_or, refl, sym, ap, ◌∙◌, subst, arith, append-nil, append_assoc, length-append, drop-cons}
use Rattle.std.specs.Prelude.{Result, Ok, Err, if◌then◌else◌}
use Rattle.std.proofs.lemmas.Grind.{flat_map-append}
use Rattle.std.proofs.lemmas.List.{length-map, take_all, take-append-drop}
use Rattle.hip_io.specs.Laws.SinkLaws.{and_then, prefix_of_more, writes_nothing}
use Rattle.hip_io.specs.Sinks.{SinkState, AppendsAll, AppendsPrefix, Writes, Wrote}
use Rattle.hip_io.specs.declared.sink.Put.TheVariants.{Done, Failed}
use Rattle.hip_trace.specs.Texts.{line_of, lines_of}
use Rattle.hip_trace.specs.declared.entry.Entry.{Entry}
use Rattle.hip_trace.specs.declared.entry.Entry.TheVariants.{Image, Input, Register, Start}
use Rattle.hip_run_traces.specs.Traces.{header_of, image_entries}
use Rattle.hip_runs.specs.Step.{some_byte}
use Rattle.hip_runs.specs.declared.input.Input.{Input as Run}

pub one_line : {old new : SinkState} (e : Entry) → AppendsAll old new (line_of e) → AppendsAll old new (lines_of (e ∷ []))
one_line {old} {new} e p = subst (λ text. AppendsAll old new text) (sym (append-nil (line_of e))) p

pub part_line : {old new : SinkState} (e : Entry) → AppendsPrefix old new (line_of e) → AppendsPrefix old new (lines_of (e ∷ []))
part_line {old} {new} e p = subst (λ text. AppendsPrefix old new text) (sym (append-nil (line_of e))) p

-- ---- one line

pub no_image : (addr : ℕ) (line : List ℕ) → length line ≡ 64 → some_byte line ≡ false → image_entries 1 addr line ≡ []
no_image addr line len q =
    ap (λ (l : List ℕ). (if some_byte l then Image addr l ∷ [] else []) ++ []) (take_all 64 line (omega (arith, len)))
    ∙ ap (λ (b : Bool). (if b then Image addr line ∷ [] else []) ++ []) q

pub one_image : (addr : ℕ) (line : List ℕ) → length line ≡ 64 → some_byte line ≡ true → image_entries 1 addr line ≡ Image addr line ∷ []
one_image addr line len q =
    ap (λ (l : List ℕ). (if some_byte l then Image addr l ∷ [] else []) ++ []) (take_all 64 line (omega (arith, len)))
    ∙ ap (λ (b : Bool). (if b then Image addr line ∷ [] else []) ++ []) q

-- There is at most one IMAGE entry for each cache line.
images_few : (n addr : ℕ) (bytes : List ℕ) → length (image_entries n addr bytes) ≤ n
images_few zero addr bytes = omega arith
images_few (suc n) addr bytes = go (some_byte (take 64 bytes)) (images_few n (addr + 64) (drop 64 bytes))
  where
    go : (b : Bool) → length (image_entries n (addr + 64) (drop 64 bytes)) ≤ n → length ((if b then Image addr (take 64 bytes) ∷ [] else []) ++ image_entries n (addr + 64) (drop 64 bytes)) ≤ suc n
    go true h = omega (arith, h)
    go false h = omega (arith, h)

-- ---- line by line

both_lines : (es fs : List Entry) → lines_of (es ++ fs) ≡ lines_of es ++ lines_of fs
both_lines es fs = flat_map-append line_of es fs

written_all : {old new : SinkState} {text : List ℕ} → AppendsAll old new text → Writes Done Done old new text
written_all p = record { how = p }

written_part : {old new : SinkState} {text : List ℕ} → AppendsPrefix old new text → Writes Done Failed old new text
written_part p = record { how = p }

pub then_all : {old mid new : SinkState} (es fs : List Entry) → AppendsAll old mid (lines_of es) → AppendsAll mid new (lines_of fs) → AppendsAll old new (lines_of (es ++ fs))
then_all {old} {mid} {new} es fs p q =
    let both : Writes Done Done old new (lines_of es ++ lines_of fs) = and_then (written_all p) (written_all q) in
    subst (λ text. AppendsAll old new text) (sym (both_lines es fs)) both.how

pub then_part : {old mid new : SinkState} (es fs : List Entry) → AppendsAll old mid (lines_of es) → AppendsPrefix mid new (lines_of fs) → AppendsPrefix old new (lines_of (es ++ fs))
then_part {old} {mid} {new} es fs p q =
    let both : Writes Done Failed old new (lines_of es ++ lines_of fs) = and_then (written_all p) (written_part q) in
    subst (λ text. AppendsPrefix old new text) (sym (both_lines es fs)) both.how

pub part_of_more : {old new : SinkState} (es fs : List Entry) → AppendsPrefix old new (lines_of es) → AppendsPrefix old new (lines_of (es ++ fs))
part_of_more {old} {new} es fs p = subst (λ text. AppendsPrefix old new text) (sym (both_lines es fs)) (prefix_of_more old new (lines_of es) (lines_of fs) p)

-- The lines of the first cache lines were written.
pub record IsWriting (base : ℕ) (image : List ℕ) (line count : ℕ) (old new : SinkState) : Type 0 where
  pub front : List Entry
  pub split : image_entries (length image / 64) base image ≡ front ++ image_entries (length image / 64 - line) (base + 64 * line) (drop (64 * line) image)
  pub written : AppendsAll old new (lines_of front)
  pub counted : count ≡ length front

first_lines : (n addr : ℕ) (bytes : List ℕ) → image_entries n addr bytes ≡ image_entries (n - 0) (addr + 64 * 0) (drop (64 * 0) bytes)
first_lines n addr bytes =
    let count : n ≡ n - 0 = omega arith in
    let at : addr ≡ addr + 64 * 0 = omega arith in
    ap (λ k. image_entries k addr bytes) count ∙ ap (λ a. image_entries (n - 0) a bytes) at

pub begin_writing : (base : ℕ) (image : List ℕ) (old : SinkState) → IsWriting base image 0 0 old old
begin_writing base image old = record {
  front = [];
  split = first_lines (length image / 64) base image;
  written = (writes_nothing Done old).how;
  counted = refl;
}

drop_none : (k : ℕ) → drop {A = ℕ} k [] ≡ []
drop_none zero = refl
drop_none (suc k) = refl

drop_drop : (k n : ℕ) (xs : List ℕ) → drop k (drop n xs) ≡ drop (n + k) xs
drop_drop k zero xs = let e : k ≡ 0 + k = omega arith in ap (λ m. drop m xs) e
drop_drop k (suc n) [] = drop_none k ∙ sym (drop_none (suc n + k))
drop_drop k (suc n) (x ∷ xs) = let e : suc (n + k) ≡ suc n + k = omega arith in drop_drop k n xs ∙ ap (λ m. drop m (x ∷ xs)) e

take_twice : (n : ℕ) (xs : List ℕ) → take n (take n xs) ≡ take n xs
take_twice zero xs = refl
take_twice (suc n) [] = refl
take_twice (suc n) (x ∷ xs) = ap (λ ys. x ∷ ys) (take_twice n xs)

abbrev entry_here : ℕ → List ℕ → List Entry
entry_here addr bytes = if some_byte bytes then Image addr bytes ∷ [] else []

-- The entries from a cache line on are that of the line, if it has one, and those from the next line on.
next_lines : (base : ℕ) (image : List ℕ) (line : ℕ) → line < length image / 64 → image_entries (length image / 64 - line) (base + 64 * line) (drop (64 * line) image) ≡ image_entries 1 (base + 64 * line) (take 64 (drop (64 * line) image)) ++ image_entries (length image / 64 - (line + 1)) (base + 64 * (line + 1)) (drop (64 * (line + 1)) image)
next_lines base image line lt =
    let count : length image / 64 - line ≡ suc (length image / 64 - (line + 1)) = omega (arith, lt) in
    let addr : base + 64 * line + 64 ≡ base + 64 * (line + 1) = omega arith in
    let at : 64 * line + 64 ≡ 64 * (line + 1) = omega arith in
    let bytes : drop 64 (drop (64 * line) image) ≡ drop (64 * (line + 1)) image = drop_drop 64 (64 * line) image ∙ ap (λ n. drop n image) at in
    let first : take 64 (take 64 (drop (64 * line) image)) ≡ take 64 (drop (64 * line) image) = take_twice 64 (drop (64 * line) image) in
    ap (λ n. image_entries n (base + 64 * line) (drop (64 * line) image)) count
    ∙ ap (λ n. entry_here (base + 64 * line) (take 64 (drop (64 * line) image)) ++ image_entries (length image / 64 - (line + 1)) n (drop 64 (drop (64 * line) image))) addr
    ∙ ap (λ bs. entry_here (base + 64 * line) (take 64 (drop (64 * line) image)) ++ image_entries (length image / 64 - (line + 1)) (base + 64 * (line + 1)) bs) bytes
    ∙ ap (λ es. es ++ image_entries (length image / 64 - (line + 1)) (base + 64 * (line + 1)) (drop (64 * (line + 1)) image))
    (ap (λ bs. entry_here (base + 64 * line) bs) (sym first) ∙ sym (append-nil (entry_here (base + 64 * line) (take 64 (take 64 (drop (64 * line) image))))))

-- One more cache line, whose bytes are a list.
module _ {base line count : ℕ} {image : List ℕ} {old mid : SinkState} (is : IsWriting base image line count old mid) (lt : line < length image / 64) (cut : List ℕ) (same : cut ≡ take 64 (drop (64 * line) image)) where
  grown : image_entries (length image / 64) base image ≡ (is.front ++ image_entries 1 (base + 64 * line) cut) ++ image_entries (length image / 64 - (line + 1)) (base + 64 * (line + 1)) (drop (64 * (line + 1)) image)
  grown =
      is.split ∙ ap (λ es. is.front ++ es) (next_lines base image line lt ∙ ap (λ bs. image_entries 1 (base + 64 * line) bs ++ image_entries (length image / 64 - (line + 1)) (base + 64 * (line + 1)) (drop (64 * (line + 1)) image)) (sym same))
      ∙ sym (append_assoc is.front (image_entries 1 (base + 64 * line) cut) (image_entries (length image / 64 - (line + 1)) (base + 64 * (line + 1)) (drop (64 * (line + 1)) image)))

  pub image_more : (new : SinkState) (more : ℕ) → AppendsAll mid new (lines_of (image_entries 1 (base + 64 * line) cut)) → more ≡ length (image_entries 1 (base + 64 * line) cut) → IsWriting base image (line + 1) (count + more) old new
  image_more new more put one = record {
    front = is.front ++ image_entries 1 (base + 64 * line) cut;
    split = grown;
    written = then_all is.front (image_entries 1 (base + 64 * line) cut) is.written put;
    counted = let both = length-append is.front (image_entries 1 (base + 64 * line) cut) in let c = is.counted in omega (arith, both, one, c);
  }

  pub image_failed : (new : SinkState) → AppendsPrefix mid new (lines_of (image_entries 1 (base + 64 * line) cut)) → AppendsPrefix old new (lines_of (image_entries (length image / 64) base image))
  image_failed new put =
      subst (λ es. AppendsPrefix old new (lines_of es)) (sym grown)
      (part_of_more (is.front ++ image_entries 1 (base + 64 * line) cut) (image_entries (length image / 64 - (line + 1)) (base + 64 * (line + 1)) (drop (64 * (line + 1)) image))
      (then_part is.front (image_entries 1 (base + 64 * line) cut) is.written put))

  pub image_few : (more : ℕ) → more ≡ length (image_entries 1 (base + 64 * line) cut) → count + more ≤ length image / 64
  image_few more one =
      let all = ap (λ es. length es) grown ∙ length-append (is.front ++ image_entries 1 (base + 64 * line) cut) (image_entries (length image / 64 - (line + 1)) (base + 64 * (line + 1)) (drop (64 * (line + 1)) image)) in
      let both = length-append is.front (image_entries 1 (base + 64 * line) cut) in
      let c = is.counted in
      let few = images_few (length image / 64) base image in
      omega (arith, all, both, one, c, few)

pub image_done : {base line count : ℕ} {image : List ℕ} {old new : SinkState} (is : IsWriting base image line count old new) → line ≡ length image / 64 → image_entries (length image / 64) base image ≡ is.front
image_done {base} {line} {count} {image} is end =
    let none : length image / 64 - line ≡ 0 = omega (arith, end) in
    is.split ∙ ap (λ n. is.front ++ image_entries n (base + 64 * line) (drop (64 * line) image)) none ∙ append-nil is.front

-- ---- numbers

abbrev pub inputs : List ℤ → List Entry
inputs zs = map (λ z. Input z) zs

inputs_append : (xs ys : List ℤ) → inputs (xs ++ ys) ≡ inputs xs ++ inputs ys
inputs_append [] ys = refl
inputs_append (x ∷ xs) ys = ap (λ es. Input x ∷ es) (inputs_append xs ys)

pub numbers_failed : {old mid new : SinkState} (zs : List ℤ) (i : ℕ) (d : ℤ) → i < length zs → AppendsAll old mid (lines_of (inputs (take i zs))) → AppendsPrefix mid new (line_of (Input (get_or zs i d))) → AppendsPrefix old new (lines_of (inputs zs))
numbers_failed {old} {mid} {new} zs i d lt p q =
    let split : zs ≡ take i zs ++ (get_or zs i d ∷ drop (suc i) zs) = sym (take-append-drop i zs) ∙ ap (λ ys. take i zs ++ ys) (drop-cons zs i d lt) in
    let entries : inputs zs ≡ (inputs (take i zs) ++ Input (get_or zs i d) ∷ []) ++ inputs (drop (suc i) zs) =
    ap inputs split ∙ inputs_append (take i zs) (get_or zs i d ∷ drop (suc i) zs) ∙ sym (append_assoc (inputs (take i zs)) (Input (get_or zs i d) ∷ []) (inputs (drop (suc i) zs))) in
    subst (λ es. AppendsPrefix old new (lines_of es)) (sym entries)
    (part_of_more (inputs (take i zs) ++ Input (get_or zs i d) ∷ []) (inputs (drop (suc i) zs)) (then_part (inputs (take i zs)) (Input (get_or zs i d) ∷ []) p (part_line (Input (get_or zs i d)) q)))

take_next : (zs : List ℤ) (i : ℕ) (d : ℤ) → i < length zs → take (i + 1) zs ≡ take i zs ++ get_or zs i d ∷ []
take_next [] i d lt = absurd (omega (arith, lt))
take_next (z ∷ zs) zero d lt = refl
take_next (z ∷ zs) (suc i) d lt = let e : suc i + 1 ≡ suc (i + 1) = omega arith in ap (λ n. take n (z ∷ zs)) e ∙ ap (λ ys. z ∷ ys) (take_next zs i d (omega (arith, lt)))

pub number_more : {old mid new : SinkState} (zs : List ℤ) (i : ℕ) (d : ℤ) → i < length zs → AppendsAll old mid (lines_of (inputs (take i zs))) → AppendsAll mid new (line_of (Input (get_or zs i d))) → AppendsAll old new (lines_of (inputs (take (i + 1) zs)))
number_more {old} {mid} {new} zs i d lt p q =
    let entries : inputs (take (i + 1) zs) ≡ inputs (take i zs) ++ Input (get_or zs i d) ∷ [] = ap inputs (take_next zs i d lt) ∙ inputs_append (take i zs) (get_or zs i d ∷ []) in
    subst (λ es. AppendsAll old new (lines_of es)) (sym entries) (then_all (inputs (take i zs)) (Input (get_or zs i d) ∷ []) p (one_line (Input (get_or zs i d)) q))

-- ---- the header

pub header_is : (I : Run) → header_of I ≡ (Start I.limit ∷ Register I.base (length I.image) ∷ []) ++ (inputs I.numbers ++ image_entries (length I.image / 64) I.base I.image)
unfolding header_of
header_is I = refl

pub header_count : (I : Run) (lines : ℕ) → lines ≡ length (image_entries (length I.image / 64) I.base I.image) → 2 + length I.numbers + lines ≡ length (header_of I)
header_count I lines e =
    let all = ap (λ es. length es) (header_is I) in
    let both = length-append (inputs I.numbers) (image_entries (length I.image / 64) I.base I.image) in
    let numbers = length-map I.numbers (λ (z : ℤ). Input z) in
    omega (arith, all, both, numbers, e)

both_starts : {old mid new : SinkState} (I : Run) → AppendsAll old mid (line_of (Start I.limit)) → AppendsPrefix mid new (line_of (Register I.base (length I.image))) → AppendsPrefix old new (lines_of (Start I.limit ∷ Register I.base (length I.image) ∷ []))
both_starts I p q = then_part (Start I.limit ∷ []) (Register I.base (length I.image) ∷ []) (one_line (Start I.limit) p) (part_line (Register I.base (length I.image)) q)

both_started : {old mid new : SinkState} (I : Run) → AppendsAll old mid (line_of (Start I.limit)) → AppendsAll mid new (line_of (Register I.base (length I.image))) → AppendsAll old new (lines_of (Start I.limit ∷ Register I.base (length I.image) ∷ []))
both_started I p q = then_all (Start I.limit ∷ []) (Register I.base (length I.image) ∷ []) (one_line (Start I.limit) p) (one_line (Register I.base (length I.image)) q)

pub both_wrote : {T E : Type 0} {old mid : SinkState} (new : SinkState) (I : Run) (r : Result T E) → AppendsAll old mid (line_of (Start I.limit)) → Wrote mid new (line_of (Register I.base (length I.image))) r → Wrote old new (lines_of (Start I.limit ∷ Register I.base (length I.image) ∷ [])) r
both_wrote new I (Ok _) p q = both_started I p q
both_wrote new I (Err _) p q = both_starts I p q

abbrev starts : Run → List Entry
starts I = Start I.limit ∷ Register I.base (length I.image) ∷ []

abbrev images : Run → List Entry
images I = image_entries (length I.image / 64) I.base I.image

module _ {old : SinkState} (I : Run) where
  pub start_failed : (new : SinkState) → AppendsPrefix old new (lines_of (starts I)) → AppendsPrefix old new (lines_of (header_of I))
  start_failed new p = subst (λ es. AppendsPrefix old new (lines_of es)) (sym (header_is I)) (part_of_more (starts I) (inputs I.numbers ++ images I) p)

  pub inputs_failed : (mid new : SinkState) → AppendsAll old mid (lines_of (starts I)) → AppendsPrefix mid new (lines_of (inputs I.numbers)) → AppendsPrefix old new (lines_of (header_of I))
  inputs_failed mid new p q =
      subst (λ es. AppendsPrefix old new (lines_of es)) (sym (header_is I)) (then_part (starts I) (inputs I.numbers ++ images I) p (part_of_more (inputs I.numbers) (images I) q))

  pub images_failed : (mid more new : SinkState) → AppendsAll old mid (lines_of (starts I)) → AppendsAll mid more (lines_of (inputs I.numbers)) → AppendsPrefix more new (lines_of (images I)) → AppendsPrefix old new (lines_of (header_of I))
  images_failed mid more new p q r =
      subst (λ es. AppendsPrefix old new (lines_of es)) (sym (header_is I)) (then_part (starts I) (inputs I.numbers ++ images I) p (then_part (inputs I.numbers) (images I) q r))

  pub header_written : (mid more new : SinkState) → AppendsAll old mid (lines_of (starts I)) → AppendsAll mid more (lines_of (inputs I.numbers)) → AppendsAll more new (lines_of (images I)) → AppendsAll old new (lines_of (header_of I))
  header_written mid more new p q r =
      subst (λ es. AppendsAll old new (lines_of es)) (sym (header_is I)) (then_all (starts I) (inputs I.numbers ++ images I) p (then_all (inputs I.numbers) (images I) q r))

pub start_part : {old new : SinkState} (I : Run) → AppendsPrefix old new (line_of (Start I.limit)) → AppendsPrefix old new (lines_of (starts I))
start_part I p = part_of_more (Start I.limit ∷ []) (Register I.base (length I.image) ∷ []) (part_line (Start I.limit) p)
