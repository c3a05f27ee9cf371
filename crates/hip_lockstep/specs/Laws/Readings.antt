-- The entries that a reader has read of a file, one after another.
use Rattle.std.proofs.Common.{◌≡◌, ◌⊎◌, inl, inr, ℕ, ◌+◌, ◌^◌, ◌<◌, ◌≤◌, Bool, true, false, List, [], ◌∷◌, ◌++◌, length, map, Option, Some, None, IfSome, nat_lt, refl, sym, ap, ◌∙◌, subst, arith, append-nil, append_assoc, length-append}
use Rattle.std.specs.Prelude.{if◌then◌else◌, option_map}
use Rattle.std.specs.List.{list_any}
use Rattle.std.proofs.lemmas.Bool.{ltb-false}
use Rattle.hip_io.specs.Cabinets.{CabinetState, StaysOpen}
use Rattle.hip_run_traces.specs.Laws.GivenLaws.{FitAll}
use Rattle.hip_run_traces.specs.Traces.{stated}
use Rattle.hip_trace.specs.Laws.FitLaws.{spelled_fits}
use Rattle.hip_trace.specs.Laws.PieceLaws.{no_piece, spelled_first, spelled_last}
use Rattle.hip_trace.specs.Entries.{entry_by, entry_of, fields}
use Rattle.hip_num.specs.Texts.{is_nonempty}
use Rattle.hip_trace.specs.Pieces.{is_separator, pieces, spelled}
use Rattle.hip_trace.specs.Reads.{ReaderState, IsReading, TakesPiece, HasNext, ahead, one_more}
use Rattle.hip_trace.specs.declared.entry.Entry.{Entry}
use Rattle.hip_trace.specs.declared.refusal.Progress.TheVariants.{Reading}
use Rattle.hip_lockstep.specs.ReadEntries.{StopsAtSeparator, StopsAtEnd, EntriesAreRead, HasReadEntries}

-- ---- what is known

pub stated_map : {A : Type 0} (P Q : A → Type 0) (o : Option A) → IfSome o P
    → ((x : A) → o ≡ Some x → P x → Q x) → IfSome o Q
stated_map P Q None h f = tt
stated_map P Q (Some x) h f = f x refl h

pub stated_at : {A : Type 0} (P : A → Type 0) (o : Option A) (x : A) → o ≡ Some x → IfSome o P → P x
stated_at P None x e h = absurd (let z : ⊥ = cc in z)
stated_at P (Some y) x e h = let same : y ≡ x = cc in subst P same h

pub stays_more : (a b c : CabinetState) → StaysOpen a b → StaysOpen b c → StaysOpen a c
stays_more a b c x y = record {
  files = y.files ∙ x.files;
  fetches = y.fetches ∙ x.fetches;
  misses = y.misses ∙ x.misses;
  current = y.current;
  named = y.named ∙ x.named;
}

pub reads_more : (start mid new : CabinetState) → IsReading start mid → IsReading mid new → IsReading start new
reads_more start mid new p q = record {
  stays = stays_more start mid new p.stays q.stays;
  faults = q.faults ∙ p.faults;
}

-- ---- lists

pub stated_append : (es fs : List Entry) → stated (es ++ fs) ≡ stated es ++ stated fs
stated_append [] fs = refl
stated_append (e ∷ es) fs = ap (λ (ps : List (Option Entry)). Some e ∷ ps) (stated_append es fs)

fit_append : (xs ys : List (Option Entry)) → FitAll xs → FitAll ys → FitAll (xs ++ ys)
fit_append [] ys h k = k
fit_append (x ∷ xs) ys h k = (h.0, fit_append xs ys h.1 k)

short_text : (text : List ℕ) (e : Entry) → entry_of text ≡ Some e → length text ≤ 256
unfolding entry_of
short_text text e h = go (nat_lt 256 (length text)) refl h
  where
    go : (b : Bool) → nat_lt 256 (length text) ≡ b → (if b then None else entry_by (fields text)) ≡ Some e
        → length text ≤ 256
    go true q k = absurd (let z : ⊥ = cc in z)
    go false q k = ltb-false 256 (length text) q

not_empty : (piece : List ℕ) (x : ℕ) (left : List ℕ) → [] ≡ piece ++ x ∷ left → ⊥
not_empty [] x left e = cc
not_empty (b ∷ bs) x left e = cc

some_not_empty : (piece left : List ℕ) → is_nonempty piece ≡ true → [] ≡ piece ++ left → ⊥
some_not_empty [] left n e = cc
some_not_empty (b ∷ bs) left n e = cc

-- ---- one piece more

module _ (bytes : List ℕ) (es : List Entry) (e : Entry) (piece : List ℕ) (spells : entry_of piece ≡ Some e) where
  stated_one : stated (es ++ e ∷ []) ≡ stated es ++ Some e ∷ []
  stated_one = stated_append es (e ∷ [])

  after : (more : List (Option Entry)) → stated es ++ (entry_of piece ∷ more) ≡ stated (es ++ e ∷ []) ++ more
  after more =
      ap (λ (o : Option Entry). stated es ++ (o ∷ more)) spells
      ∙ sym (append_assoc (stated es) (Some e ∷ []) more)
      ∙ ap (λ (ps : List (Option Entry)). ps ++ more) (sym stated_one)

  at_separator : (text left : List ℕ) (separator : ℕ) → list_any is_separator piece ≡ false
      → is_separator separator ≡ true → StopsAtSeparator text es
      → StopsAtSeparator (text ++ (piece ++ separator ∷ [])) (es ++ e ∷ [])
  at_separator text left separator whole separates h = record {
    spells = λ w more.
        ap (spelled w) (append_assoc text (piece ++ separator ∷ []) more
        ∙ ap (λ (xs : List ℕ). text ++ xs) (append_assoc piece (separator ∷ []) more))
        ∙ h.spells w (piece ++ separator ∷ more)
        ∙ ap (λ (ps : List (Option Entry)). stated es ++ ps) (spelled_first w piece separator more whole separates)
        ∙ after (spelled w more);
  }

  at_end : (text left : List ℕ) → list_any is_separator piece ≡ false → is_nonempty piece ≡ true
      → left ≡ [] → StopsAtSeparator text es → StopsAtEnd (text ++ piece) (es ++ e ∷ []) left
  at_end text left whole some none h = record {
    none = none;
    spells =
        h.spells true piece ∙ ap (λ (ps : List (Option Entry)). stated es ++ ps) (spelled_last piece whole some)
        ∙ after [] ∙ append-nil (stated (es ++ e ∷ []));
    last = Some e ∷ [];
    front =
        stated_one
        ∙ ap (λ (ps : List (Option Entry)). ps ++ Some e ∷ [])
        (sym (h.spells false piece ∙ ap (λ (ps : List (Option Entry)). stated es ++ ps)
        (ap (λ (ts : List (List ℕ)). map entry_of ts) (no_piece piece whole (short_text piece e spells)))
        ∙ append-nil (stated es)));
  }

  next_piece : (old new : Option (List ℕ)) → EntriesAreRead bytes es old → TakesPiece piece old new
      → EntriesAreRead bytes (es ++ e ∷ []) new
  next_piece old new h (inl s) = go new s.bytes h.spells
    where
      go : (o : Option (List ℕ)) → old ≡ option_map (λ rest. piece ++ s.separator ∷ rest) o
          → StopsAtSeparator h.text es ⊎ StopsAtEnd h.text es h.left → EntriesAreRead bytes (es ++ e ∷ []) o
      go None q k = absurd (let is = h.ahead_is in let z : ⊥ = cc in z)
      go (Some left) q (inl k) =
          let is = h.ahead_is in
          let same : h.left ≡ piece ++ s.separator ∷ left = cc in
          record {
            text = h.text ++ (piece ++ s.separator ∷ []);
            left = left;
            ahead_is = refl;
            bytes_are =
                h.bytes_are ∙ ap (λ (xs : List ℕ). h.text ++ xs)
                (same ∙ sym (append_assoc piece (s.separator ∷ []) left))
                ∙ sym (append_assoc h.text (piece ++ s.separator ∷ []) left);
            spells = inl (at_separator h.text left s.separator s.whole s.separates k);
          }
      go (Some left) q (inr k) =
          let is = h.ahead_is in
          let same : h.left ≡ piece ++ s.separator ∷ left = cc in
          absurd (not_empty piece s.separator left (sym k.none ∙ same))
  next_piece old new h (inr s) = go new s.bytes s.left h.spells
    where
      go : (o : Option (List ℕ)) → old ≡ option_map (λ rest. piece ++ rest) o → IfSome o (λ rest. rest ≡ [])
          → StopsAtSeparator h.text es ⊎ StopsAtEnd h.text es h.left → EntriesAreRead bytes (es ++ e ∷ []) o
      go None q end k = absurd (let is = h.ahead_is in let z : ⊥ = cc in z)
      go (Some left) q end (inl k) =
          let is = h.ahead_is in
          let same : h.left ≡ piece ++ left = cc in
          record {
            text = h.text ++ piece;
            left = left;
            ahead_is = refl;
            bytes_are = h.bytes_are ∙ ap (λ (xs : List ℕ). h.text ++ xs) same
                ∙ sym (append_assoc h.text piece left);
            spells = inr (at_end h.text left s.whole s.some end k);
          }
      go (Some left) q end (inr k) =
          let is = h.ahead_is in
          let same : h.left ≡ piece ++ left = cc in
          absurd (some_not_empty piece left s.some (sym k.none ∙ same))

-- ---- one entry more

fits_more : (n : ℕ) → n + 1 < 2 ^ 128 → one_more n ≡ n + 1
fits_more n lt = omega arith

pub next_read : (start s s' : CabinetState) (r r' : ReaderState) (es : List Entry) (e : Entry)
    → length es + 1 < 2 ^ 128 → HasReadEntries start r s es → HasNext r r' s s' e
    → HasReadEntries start r' s' (es ++ e ∷ [])
next_read start s s' r r' es e few h n = record {
  reading = reads_more start s s' h.reading n.reading;
  progress = n.progress;
  count = n.count ∙ ap one_more h.count ∙ fits_more (length es) few ∙ sym (length-append es (e ∷ []));
  fit = subst FitAll (sym (stated_append es (e ∷ [])))
      (fit_append (stated es) (Some e ∷ []) h.fit (spelled_fits n.piece e n.spells, tt));
  stated = stated_map (λ bytes. EntriesAreRead bytes es (ahead r s))
      (λ bytes. EntriesAreRead bytes (es ++ e ∷ []) (ahead r' s')) start.rest h.stated
      (λ bytes at read. next_piece bytes es e n.piece n.spells (ahead r s) (ahead r' s') read n.taken);
}

-- A new reader has read no entries.
pub nothing_read : (start : CabinetState) (r : ReaderState)
    → r ≡ record { held = []; count = 0; progress = Reading } → start.is_current ≡ true
    → HasReadEntries start r start []
nothing_read start r new current = subst (λ (x : ReaderState). HasReadEntries start x start []) (sym new) (record {
  reading = record {
    stays = record { files = refl; fetches = refl; misses = refl; current = current; named = refl };
    faults = refl;
  };
  progress = refl;
  count = refl;
  fit = tt;
  stated = go start.rest;
})
  where
    go : (o : Option (List ℕ)) → IfSome o (λ bytes. EntriesAreRead bytes [] (option_map (λ rest. [] ++ rest) o))
    go None = tt
    go (Some b) = record {
      text = [];
      left = b;
      ahead_is = refl;
      bytes_are = refl;
      spells =
          inl (record { spells = λ w more. refl });
    }

-- ---- what the whole file spells, and its front

pub read_whole : (bytes : List ℕ) (es : List Entry) (o : Option (List ℕ)) (h : EntriesAreRead bytes es o)
    → spelled true bytes ≡ stated es ++ spelled true h.left
read_whole bytes es o h = go h.spells
  where
    go : StopsAtSeparator h.text es ⊎ StopsAtEnd h.text es h.left
        → spelled true bytes ≡ stated es ++ spelled true h.left
    go (inl k) = ap (spelled true) h.bytes_are ∙ k.spells true h.left
    go (inr k) =
        ap (spelled true) (h.bytes_are ∙ ap (λ (xs : List ℕ). h.text ++ xs) k.none ∙ append-nil h.text)
        ∙ k.spells
        ∙ sym (append-nil (stated es)) ∙ ap (λ (xs : List ℕ). stated es ++ spelled true xs) (sym k.none)

nothing_spelled : (held : List ℕ) → pieces false held ≡ [] → spelled false held ≡ []
nothing_spelled held none = ap (λ (ts : List (List ℕ)). map entry_of ts) none

empty_front : (held rest : List ℕ) → [] ≡ held ++ rest → held ≡ []
empty_front [] rest e = refl
empty_front (b ∷ bs) rest e = absurd (let z : ⊥ = cc in z)

-- The bytes that were taken, the last of which are not a whole piece yet, spell a front of the entries.
pub read_front : (bytes : List ℕ) (es : List Entry) (o : Option (List ℕ)) (h : EntriesAreRead bytes es o)
    (held rest : List ℕ) → h.left ≡ held ++ rest → pieces false held ≡ [] → (last : List (Option Entry))
    × (stated es ≡ spelled false (h.text ++ held) ++ last)
read_front bytes es o h held rest split none = go h.spells
  where
    go : StopsAtSeparator h.text es ⊎ StopsAtEnd h.text es h.left → (last : List (Option Entry))
        × (stated es ≡ spelled false (h.text ++ held) ++ last)
    go (inl k) = (
      [],
      sym (append-nil (spelled false (h.text ++ held)) ∙ k.spells false held
          ∙ ap (λ (ps : List (Option Entry)). stated es ++ ps) (nothing_spelled held none)
          ∙ append-nil (stated es)),
    )
    go (inr k) =
        let empty : held ≡ [] = empty_front held rest (sym k.none ∙ split) in (
          k.last,
          k.front ∙ ap (λ (xs : List ℕ). spelled false xs ++ k.last)
              (sym (ap (λ (xs : List ℕ). h.text ++ xs) empty ∙ append-nil h.text)),
        )
