-- The entries of a header are those before the first step of the run on the input that the header gives, and that input
-- is valid.
use Rattle.std.proofs.Common.{◌≡◌, ℕ, ℤ, suc, ◌+◌, ◌-◌, ◌*◌, ◌/◌, ◌%◌, ◌≤◌, ◌<◌, Bool, true, false, ◌&&◌, List, [], ◌∷◌, ◌++◌, map, length, Option, Some, None, nat_le, nat_lt, refl, sym, ap, ◌∙◌, subst, arith, append_assoc, length-append, FitsSigned, w64}
use Rattle.std.specs.Prelude.{if◌then◌else◌, ◌==◌, All}
use Rattle.std.proofs.lemmas.Bool.{eqb-true, and_parts}
use Rattle.std.proofs.lemmas.List.{append-nil, take_all}
use Rattle.std.proofs.lemmas.List.Elements.{All-nil, All-append, All-push, All-replicate}
use Rattle.hip_globals.specs.Addresses.{IsBase, end_of, region_size, is_base}
use Rattle.hip_globals.specs.Laws.BaseLaws.{base_valid}
use Rattle.hip_tree.specs.declared.program.Program.{Program}
use Rattle.hip_types.specs.Bytes.{zeros}
use Rattle.hip_mem.specs.Laws.BytesLaws.{length-zeros}
use Rattle.hip_runs.specs.Laws.Members.{le_true, lt_true}
use Rattle.hip_runs.specs.Step.{header_entries, some_byte}
use Rattle.hip_runs.specs.Validity.{IsInput, IsValid}
use Rattle.hip_runs.specs.declared.input.Input.{Input}
use Rattle.hip_runs.specs.declared.limits.TheConstants.{MOST_NUMBERS, MOST_TURNS}
use Rattle.hip_run_traces.specs.Headers.{Gives, valid_limit, is_empty, valid_base, is_next_line, with_number, with_line, with_entry, filled, go_on, header_from, past_register, past_start, header}
use Rattle.hip_run_traces.specs.Laws.HeaderLaws.{whole_lines}
use Rattle.hip_run_traces.specs.Laws.LineLaws.{lines_append, no_lines}
use Rattle.hip_run_traces.specs.Laws.TraceLaws.{length-header_of}
use Rattle.hip_run_traces.specs.Traces.{header_of, image_entries, stated}
use Rattle.hip_trace.specs.Laws.FitLaws.{spelled_fits}
use Rattle.hip_trace.specs.Entries.{entry_of}
use Rattle.hip_trace.specs.Fits.{IsLine, ValuesFit}
use Rattle.hip_trace.specs.Pieces.{pieces, spelled}
use Rattle.hip_trace.specs.declared.entry.Entry.{Entry}
use Rattle.hip_trace.specs.declared.entry.Entry.TheVariants.{Start, Register, Input as Number, Image, Store, Flush, Fence, Persist, Assert, Stop, Trap, Cut}

-- ---- what is spelled fits

-- The values of the entry that a piece spells fit the fields of its text; no condition if it spells none.
abbrev pub FitsIfThere : Option Entry → Type 0
FitsIfThere None = Unit {0}
FitsIfThere (Some e) = ValuesFit e

-- The values of each entry that the pieces spell fit the fields of its text.
abbrev pub FitAll : List (Option Entry) → Type 0
FitAll [] = Unit {0}
FitAll (e ∷ es) = FitsIfThere e × FitAll es

fits_spelled : (text : List ℕ) (o : Option Entry) → entry_of text ≡ o → FitsIfThere o
fits_spelled text None e = tt
fits_spelled text (Some x) e = spelled_fits text x e

fit_texts : (texts : List (List ℕ)) → FitAll (map entry_of texts)
fit_texts [] = tt
fit_texts (t ∷ ts) = (fits_spelled t (entry_of t) refl, fit_texts ts)

pub fit_pieces : (whole : Bool) (bytes : List ℕ) → FitAll (spelled whole bytes)
fit_pieces whole bytes = fit_texts (pieces whole bytes)

-- ---- what a header has given so far

-- The entries after START and REGISTER that give the input so far.
abbrev so_far : Input → List Entry
so_far J = map (λ z. Number z) J.numbers ++ image_entries (length J.image / 64) J.base J.image

-- What a header has given so far is within the bounds of a valid input, and its initial bytes are whole cache lines,
-- at most as many bytes as the region has.
record IsGood (P : Program) (J : Input) : Type 0 where
  base : IsBase J.base
  limit : J.limit ≤ MOST_TURNS
  few : length J.numbers ≤ MOST_NUMBERS
  fit : All (FitsSigned w64) J.numbers
  lines : length J.image % 64 ≡ 0
  within : length J.image ≤ region_size P
  bytes : All (λ b. b < 256) J.image

-- One more entry was taken.
record TakesEntry (P : Program) (J K : Input) (e : Entry) : Type 0 where
  good : IsGood P K
  base : K.base ≡ J.base
  limit : K.limit ≡ J.limit
  more : so_far K ≡ so_far J ++ e ∷ []

push_number : (zs : List ℤ) (z : ℤ) → map (λ y. Number y) (zs ++ z ∷ []) ≡ map (λ y. Number y) zs
    ++ Number z ∷ []
push_number [] z = refl
push_number (y ∷ ys) z = ap (λ (es : List Entry). Number y ∷ es) (push_number ys z)

taken : {K J : Input} (P : Program) (e : Entry) (t : Bool) (there : Input)
    → (if t then Some there else None) ≡ Some K
    → (t ≡ true → TakesEntry P J there e) → TakesEntry P J K e
taken {K = K} {J = J} P e true there q h =
    let same : there ≡ K = cc in subst (λ (X : Input). TakesEntry P J X e) same (h refl)
taken P e false there q h = absurd (let z : ⊥ = cc in z)

takes_number : (P : Program) (J K : Input) (z : ℤ) → IsGood P J → FitsSigned w64 z → with_number J z ≡ Some K
    → TakesEntry P J K (Number z)
takes_number P J K z good fits q =
    taken P (Number z) (is_empty J.image && nat_lt (length J.numbers) MOST_NUMBERS)
    (record J { numbers = J.numbers ++ z ∷ [] }) q make
  where
    none : (bs : List ℕ) → is_empty bs ≡ true → bs ≡ []
    none [] e = refl
    none (b ∷ bs) e = absurd (let y : ⊥ = cc in y)

    make : is_empty J.image && nat_lt (length J.numbers) MOST_NUMBERS ≡ true
        → TakesEntry P J (record J { numbers = J.numbers ++ z ∷ [] }) (Number z)
    make t =
        let both = and_parts (is_empty J.image) (nat_lt (length J.numbers) MOST_NUMBERS) t in
        let empty : J.image ≡ [] = none J.image both.0 in
        let room = lt_true (length J.numbers) MOST_NUMBERS both.1 in
        let long = length-append J.numbers (z ∷ []) in
        let lines : List ℕ → List Entry = λ bs. image_entries (length bs / 64) J.base bs in
        let nothing : image_entries (length J.image / 64) J.base J.image ≡ [] = ap lines empty in
        record {
          good = record {
            base = good.base;
            limit = good.limit;
            few = omega (arith, long, room);
            fit = All-push (FitsSigned w64) J.numbers z good.fit fits;
            lines = good.lines;
            within = good.within;
            bytes = good.bytes;
          };
          base = refl;
          limit = refl;
          more =
              ap (λ (es : List Entry). map (λ y. Number y) (J.numbers ++ z ∷ []) ++ es) nothing
              ∙ append-nil (map (λ y. Number y) (J.numbers ++ z ∷ []))
              ∙ push_number J.numbers z
              ∙ ap (λ (es : List Entry). es ++ Number z ∷ [])
              (sym (append-nil (map (λ y. Number y) J.numbers))
              ∙ ap (λ (es : List Entry). map (λ y. Number y) J.numbers ++ es) (sym nothing));
        }

-- The entries of some lines, of a gap of zeros, and of one more line.
line_more : (addr k m : ℕ) (A line : List ℕ) → length A ≡ 64 * k → length line ≡ 64
    → some_byte line ≡ true
    → image_entries (k + (m + 1)) addr (A ++ (zeros (64 * m) ++ line)) ≡ image_entries k addr A
    ++ Image (addr + 64 * k + 64 * m) line ∷ []
line_more addr k m A line len one some =
    lines_append k (m + 1) addr A (zeros (64 * m) ++ line) len
    ∙ ap (λ (es : List Entry). image_entries k addr A ++ es)
    (lines_append m 1 (addr + 64 * k) (zeros (64 * m)) line (length-zeros (64 * m))
    ∙ ap (λ (es : List Entry). es ++ image_entries 1 (addr + 64 * k + 64 * m) line) (no_lines m (addr + 64 * k))
    ∙ ap (λ (l : List ℕ). (if some_byte l then Image (addr + 64 * k + 64 * m) l ∷ [] else []) ++ [])
    (take_all 64 line (omega (arith, one)))
    ∙ ap (λ (b : Bool). (if b then Image (addr + 64 * k + 64 * m) line ∷ [] else []) ++ []) some)

all_zeros : (n : ℕ) → All (λ b. b < 256) (zeros n)
unfolding zeros
all_zeros n = All-replicate (λ b. b < 256) n 0 (omega arith)

takes_line : (P : Program) (J K : Input) (addr : ℕ) (line : List ℕ) → IsGood P J → IsLine addr line
    → with_line P J addr line ≡ Some K → TakesEntry P J K (Image addr line)
takes_line P J K addr line good fits q =
    taken P (Image addr line) (is_next_line P J addr line)
    (record J { image = J.image ++ (zeros (addr - (J.base + length J.image)) ++ line) }) q
    (λ t. make (addr - (J.base + length J.image)) refl t)
  where
    make : (g : ℕ) → addr - (J.base + length J.image) ≡ g → is_next_line P J addr line ≡ true
        → TakesEntry P J (record J { image = J.image ++ (zeros g ++ line) }) (Image addr line)
    make g gap t =
        let a =
        and_parts (nat_le (J.base + length J.image) addr)
        (nat_le (addr + 64) (J.base + region_size P) && some_byte line) t in
        let b = and_parts (nat_le (addr + 64) (J.base + region_size P)) (some_byte line) a.1 in
        let from : J.base + length J.image ≤ addr = le_true (J.base + length J.image) addr a.0 in
        let to : addr + 64 ≤ J.base + region_size P = le_true (addr + 64) (J.base + region_size P) b.0 in
        let page : J.base % 4096 ≡ 0 = good.base.page in
        let lines : length J.image % 64 ≡ 0 = good.lines in
        let aligned : addr % 64 ≡ 0 = fits.aligned in
        let one : length line ≡ 64 = fits.whole in
        let len : length J.image ≡ 64 * (length J.image / 64) = omega (arith, lines) in
        let gaps : g ≡ 64 * (g / 64) = omega (arith, gap, from, page, lines, aligned) in
        let long : length (J.image ++ (zeros g ++ line)) ≡ length J.image + g + 64 =
        length-append J.image (zeros g ++ line) ∙ ap (λ (j : ℕ). length J.image + j)
        (length-append (zeros g) line ∙ ap (λ (j : ℕ). j + length line) (length-zeros g)) ∙ omega (arith, one) in
        let count : length (J.image ++ (zeros g ++ line)) / 64 ≡ length J.image / 64 + (g / 64 + 1) =
        omega (arith, long, len, gaps) in
        let at : J.base + 64 * (length J.image / 64) + 64 * (g / 64) ≡ addr = omega (arith, from, gap, len, gaps) in
        record {
          good = record {
            base = good.base;
            limit = good.limit;
            few = good.few;
            fit = good.fit;
            lines = omega (arith, long, len, gaps);
            within = omega (arith, long, from, to, gap);
            bytes =
                All-append (λ x. x < 256) J.image (zeros g ++ line) good.bytes
                (All-append (λ x. x < 256) (zeros g) line (all_zeros g) fits.bytes);
          };
          base = refl;
          limit = refl;
          more =
              ap (λ (es : List Entry). map (λ y. Number y) J.numbers ++ es)
              (ap (λ (j : ℕ). image_entries j J.base (J.image ++ (zeros g ++ line))) count
              ∙ ap (λ (j : ℕ). image_entries (length J.image / 64 + (g / 64 + 1)) J.base
              (J.image ++ (zeros j ++ line)))
              gaps
              ∙ line_more J.base (length J.image / 64) (g / 64) J.image line len one b.1
              ∙ ap (λ (j : ℕ). image_entries (length J.image / 64) J.base J.image ++ Image j line ∷ []) at)
              ∙ sym (append_assoc (map (λ y. Number y) J.numbers)
              (image_entries (length J.image / 64) J.base J.image)
              (Image addr line ∷ []));
        }

takes : (P : Program) (J K : Input) (e : Entry) → IsGood P J → ValuesFit e → with_entry P J (Some e) ≡ Some K
    → TakesEntry P J K e
takes P J K (Number z) good fits q = takes_number P J K z good fits q
takes P J K (Image addr line) good fits q = takes_line P J K addr line good fits q
takes P J K (Start limit) good fits q = absurd (let z : ⊥ = cc in z)
takes P J K (Register base size) good fits q = absurd (let z : ⊥ = cc in z)
takes P J K (Store addr value size) good fits q = absurd (let z : ⊥ = cc in z)
takes P J K (Flush addr size) good fits q = absurd (let z : ⊥ = cc in z)
takes P J K Fence good fits q = absurd (let z : ⊥ = cc in z)
takes P J K (Persist addr size) good fits q = absurd (let z : ⊥ = cc in z)
takes P J K (Assert addr size) good fits q = absurd (let z : ⊥ = cc in z)
takes P J K (Stop code) good fits q = absurd (let z : ⊥ = cc in z)
takes P J K (Trap kind) good fits q = absurd (let z : ⊥ = cc in z)
takes P J K Cut good fits q = absurd (let z : ⊥ = cc in z)

-- ---- what a header gives

-- The pieces begin with these entries, which give the input.
record IsGiven (P : Program) (J F : Input) (c h : ℕ) (es : List (Option Entry)) : Type 0 where
  input : IsInput F
  valid : IsValid P F
  base : F.base ≡ J.base
  limit : F.limit ≡ J.limit
  entries : List Entry
  rest : List (Option Entry)
  split : es ≡ stated entries ++ rest
  all : so_far F ≡ so_far J ++ entries
  count : h ≡ c + length entries

end_given : (P : Program) (J F : Input) (c h : ℕ) (es : List (Option Entry)) → IsGood P J
    → Gives c (filled P J) ≡ Gives h F → IsGiven P J F c h es
end_given P J F c h es good q =
    subst (λ (X : Input). IsGiven P J X c h es) input (go (region_size P - length J.image) refl)
  where
    input : filled P J ≡ F
    input = cc

    number : c ≡ h
    number = cc

    go : (g : ℕ) → region_size P - length J.image ≡ g
        → IsGiven P J (record J { image = J.image ++ zeros g }) c h es
    go g gap =
        let lines : length J.image % 64 ≡ 0 = good.lines in
        let region : region_size P % 64 ≡ 0 = whole_lines (end_of true 0 P.globals) in
        let within : length J.image ≤ region_size P = good.within in
        let len : length J.image ≡ 64 * (length J.image / 64) = omega (arith, lines) in
        let gaps : g ≡ 64 * (g / 64) = omega (arith, gap, region, lines, within) in
        let long : length (J.image ++ zeros g) ≡ length J.image + g =
        length-append J.image (zeros g) ∙ ap (λ (j : ℕ). length J.image + j) (length-zeros g) in
        let count : length (J.image ++ zeros g) / 64 ≡ length J.image / 64 + g / 64 =
        omega (arith, long, len, gaps) in
        record {
          input =
              record {
                bytes = All-append (λ x. x < 256) J.image (zeros g) good.bytes (all_zeros g);
                numbers = good.fit;
              };
          valid =
              record {
                base = good.base;
                image = omega (arith, long, gap, within);
                numbers = good.few;
                limit = good.limit;
              };
          base = refl;
          limit = refl;
          entries = [];
          rest = es;
          split = refl;
          all =
              ap (λ (xs : List Entry). map (λ y. Number y) J.numbers ++ xs)
              (ap (λ (j : ℕ). image_entries j J.base (J.image ++ zeros g)) count
              ∙ ap (λ (j : ℕ). image_entries (length J.image / 64 + g / 64) J.base (J.image ++ zeros j)) gaps
              ∙ lines_append (length J.image / 64) (g / 64) J.base J.image (zeros (64 * (g / 64))) len
              ∙ ap (λ (xs : List Entry). image_entries (length J.image / 64) J.base J.image ++ xs)
              (no_lines (g / 64) (J.base + 64 * (length J.image / 64)))
              ∙ append-nil (image_entries (length J.image / 64) J.base J.image))
              ∙ sym (append-nil (so_far J));
          count = omega (arith, number);
        }

given_from : (P : Program) (es : List (Option Entry)) (J F : Input) (c h : ℕ) → FitAll es → IsGood P J
    → header_from P J c es ≡ Gives h F → IsGiven P J F c h es
given_from P [] J F c h fits good q = end_given P J F c h [] good q
given_from P (None ∷ es) J F c h fits good q = end_given P J F c h (None ∷ es) good q
given_from P (Some e ∷ es) J F c h fits good q =
    go (with_entry P J (Some e)) refl q (λ K k. given_from P es K F (suc c) h fits.1 k)
  where
    go : (o : Option Input) → with_entry P J (Some e) ≡ o
        → go_on P J c (λ more. header_from P more (suc c) es) o ≡ Gives h F
        → ((K : Input) → IsGood P K → header_from P K (suc c) es ≡ Gives h F → IsGiven P K F (suc c) h es)
        → IsGiven P J F c h (Some e ∷ es)
    go None o q ih = end_given P J F c h (Some e ∷ es) good q
    go (Some K) o q ih =
        let t = takes P J K e good fits.0 o in
        let r = ih K t.good q in
        let number = r.count in
        record {
          input = r.input;
          valid = r.valid;
          base = r.base ∙ t.base;
          limit = r.limit ∙ t.limit;
          entries = e ∷ r.entries;
          rest = r.rest;
          split = ap (λ (xs : List (Option Entry)). Some e ∷ xs) r.split;
          all = r.all ∙ ap (λ (xs : List Entry). xs ++ r.entries) t.more
              ∙ append_assoc (so_far J) (e ∷ []) r.entries;
          count = omega (arith, number);
        }

-- ---- START and REGISTER

limit_of : (o : Option Entry) (l : ℕ) → valid_limit o ≡ Some l → (o ≡ Some (Start l)) × (l ≤ MOST_TURNS)
limit_of None l q = absurd (let z : ⊥ = cc in z)
limit_of (Some (Start limit)) l q = go (nat_le limit MOST_TURNS) refl q
  where
    go : (t : Bool) → nat_le limit MOST_TURNS ≡ t → (if t then Some limit else None) ≡ Some l
        → (Some (Start limit) ≡ Some (Start l)) × (l ≤ MOST_TURNS)
    go true k r =
        let same : limit ≡ l = cc in let le = le_true limit MOST_TURNS k in
        (ap (λ (x : ℕ). Some (Start x)) same, omega (arith, same, le))
    go false k r = absurd (let z : ⊥ = cc in z)
limit_of (Some e) l q = absurd (let z : ⊥ = cc in z)

base_of : (P : Program) (o : Option Entry) (b : ℕ) → valid_base P o ≡ Some b
    → (o ≡ Some (Register b (region_size P)))
    × IsBase b
base_of P None b q = absurd (let z : ⊥ = cc in z)
base_of P (Some (Register base size)) b q = go (is_base base && (size == region_size P)) refl q
  where
    go : (t : Bool) → is_base base && (size == region_size P) ≡ t → (if t then Some base else None) ≡ Some b
        → (Some (Register base size) ≡ Some (Register b (region_size P))) × IsBase b
    go true k r =
        let same : base ≡ b = cc in
        let both = and_parts (is_base base) (size == region_size P) k in
        let sized = eqb-true size (region_size P) both.1 in (
          ap (λ (x : ℕ). Some (Register x size)) same ∙ ap (λ (x : ℕ). Some (Register b x)) sized,
          subst IsBase same (base_valid base both.0),
        )
    go false k r = absurd (let z : ⊥ = cc in z)
base_of P (Some e) b q = absurd (let z : ⊥ = cc in z)

-- ---- the whole header

-- The pieces begin with the entries before the first step of the run on the input, which is valid.
pub record IsHeader (P : Program) (es : List (Option Entry)) (h : ℕ) (F : Input) : Type 0 where
  pub input : IsInput F
  pub valid : IsValid P F
  pub count : h ≡ header_entries F
  pub rest : List (Option Entry)
  pub split : es ≡ stated (header_of F) ++ rest

past : (P : Program) (limit base : ℕ) (es : List (Option Entry)) (h : ℕ) (F : Input) → limit ≤ MOST_TURNS
    → IsBase base
    → FitAll es → header_from P (record { base = base; image = []; numbers = []; limit = limit }) 2 es ≡ Gives h F
    → IsHeader P (Some (Start limit) ∷ Some (Register base (region_size P)) ∷ es) h F
unfolding header_of
past P limit base es h F few good fits q =
    let J : Input = record { base = base; image = []; numbers = []; limit = limit } in
    let r =
    given_from P es J F 2 h fits (record {
      base = good;
      limit = few;
      few = omega arith;
      fit = All-nil (FitsSigned w64);
      lines = refl;
      within = omega arith;
      bytes = All-nil (λ b. b < 256);
    }) q in
    let top : Start F.limit ∷ Register F.base (length F.image) ∷ so_far F ≡ Start limit
    ∷ Register base (region_size P)
    ∷ r.entries =
    ap (λ (x : ℕ). Start x ∷ Register F.base (length F.image) ∷ so_far F) r.limit
    ∙ ap (λ (x : ℕ). Start limit ∷ Register x (length F.image) ∷ so_far F) r.base
    ∙ ap (λ (x : ℕ). Start limit ∷ Register base x ∷ so_far F) r.valid.image
    ∙ ap (λ (xs : List Entry). Start limit ∷ Register base (region_size P) ∷ xs) r.all in
    let len = sym (length-header_of F) ∙ ap (λ (xs : List Entry). length xs) top in
    let number = r.count in
    record {
      input = r.input;
      valid = r.valid;
      count = omega (arith, len, number);
      rest = r.rest;
      split =
          ap (λ (xs : List (Option Entry)). Some (Start limit) ∷ Some (Register base (region_size P)) ∷ xs) r.split
          ∙ ap (λ (xs : List Entry). stated xs ++ r.rest) (sym top);
    }

pub header-given : (P : Program) (es : List (Option Entry)) (h : ℕ) (F : Input) → FitAll es
    → header P es ≡ Gives h F
    → IsHeader P es h F
unfolding header
header-given P [] h F fits q = absurd (let z : ⊥ = cc in z)
header-given P (e ∷ es) h F fits q = first (valid_limit e) refl q
  where
    second : (limit : ℕ) (d : Option Entry) (ds : List (Option Entry)) → limit ≤ MOST_TURNS → FitAll ds
        → (o : Option ℕ)
        → valid_base P d ≡ o → past_register P limit ds o ≡ Gives h F
        → IsHeader P (Some (Start limit) ∷ d ∷ ds) h F
    second limit d ds few fit None k q = absurd (let z : ⊥ = cc in z)
    second limit d ds few fit (Some base) k q =
        let b = base_of P d base k in
        subst (λ (x : Option Entry). IsHeader P (Some (Start limit) ∷ x ∷ ds) h F) (sym b.0)
        (past P limit base ds h F few b.1 fit q)

    after : (limit : ℕ) (ds : List (Option Entry)) → limit ≤ MOST_TURNS → FitAll ds
        → past_start P ds (Some limit) ≡ Gives h F → IsHeader P (Some (Start limit) ∷ ds) h F
    after limit [] few fit q = absurd (let z : ⊥ = cc in z)
    after limit (d ∷ ds) few fit q = second limit d ds few fit.1 (valid_base P d) refl q

    first : (o : Option ℕ) → valid_limit e ≡ o → past_start P es o ≡ Gives h F → IsHeader P (e ∷ es) h F
    first None k q = absurd (none es q)
      where
        none : (ds : List (Option Entry)) → past_start P ds None ≡ Gives h F → ⊥
        none [] r = let z : ⊥ = cc in z
        none (d ∷ ds) r = let z : ⊥ = cc in z
    first (Some limit) k q =
        let l = limit_of e limit k in
        subst (λ (x : Option Entry). IsHeader P (x ∷ es) h F) (sym l.0) (after limit es l.1 fits.1 q)
