-- The pieces of a front of a file are the first ones of the file.
use Rattle.std.proofs.Common.{◌≡◌, ℕ, ◌<◌, Bool, true, false, cond, List, [], ◌∷◌, ◌++◌, map, length, Option, None, nat_lt, refl, sym, ap, ◌∙◌, arith, length-append, append_assoc, lt-ltb, ltb-true}
use Rattle.std.specs.Prelude.{if◌then◌else◌}
use Rattle.std.specs.List.{onto_first}
use Rattle.hip_trace.specs.Entries.{entry_of}
use Rattle.hip_trace.specs.Pieces.{counts_last, counted, is_separator, parts, spelled}
use Rattle.hip_trace.specs.declared.entry.Entry.{Entry}

-- The parts of a front and of the whole. The first parts are the same. Then comes the last part of the front, which may
-- be the start of a longer part of the whole.
record SplitsAlike (front whole : List (List ℕ)) : Type 0 where
  same : List (List ℕ)
  last : List ℕ
  more : List ℕ
  rest : List (List ℕ)
  front_is : front ≡ same ++ last ∷ []
  whole_is : whole ≡ same ++ (last ++ more) ∷ rest

some_part : (bytes : List ℕ) → (p : List ℕ) × (ps : List (List ℕ)) × (parts bytes ≡ p ∷ ps)
some_part [] = ([], [], refl)
some_part (b ∷ bs) = go (is_separator b) (some_part bs)
  where
    go : (t : Bool) → (p : List ℕ) × (ps : List (List ℕ)) × (parts bs ≡ p ∷ ps) → (p : List ℕ)
        × (ps : List (List ℕ))
        × (cond t ([] ∷ parts bs) (onto_first b (parts bs)) ≡ p ∷ ps)
    go true h = ([], parts bs, refl)
    go false h = (b ∷ h.0, h.1, ap (onto_first b) h.2)

splits_alike : (front rest : List ℕ) → SplitsAlike (parts front) (parts (front ++ rest))
splits_alike [] rest =
    let h = some_part rest in record { same = []; last = []; more = h.0; rest = h.1; front_is = refl; whole_is = h.2 }
splits_alike (b ∷ bs) rest = go (is_separator b) (splits_alike bs rest)
  where
    onto : (same : List (List ℕ)) (last more : List ℕ) (others fronts wholes : List (List ℕ))
        → fronts ≡ same ++ last ∷ [] → wholes ≡ same ++ (last ++ more) ∷ others
        → SplitsAlike (onto_first b fronts) (onto_first b wholes)
    onto [] last more others fronts wholes f w =
        record {
          same = [];
          last = b ∷ last;
          more = more;
          rest = others;
          front_is = ap (onto_first b) f;
          whole_is = ap (onto_first b) w;
        }
    onto (s ∷ ss) last more others fronts wholes f w =
        record {
          same = (b ∷ s) ∷ ss;
          last = last;
          more = more;
          rest = others;
          front_is = ap (onto_first b) f;
          whole_is = ap (onto_first b) w;
        }

    go : (t : Bool) → SplitsAlike (parts bs) (parts (bs ++ rest))
        → SplitsAlike (cond t ([] ∷ parts bs) (onto_first b (parts bs)))
        (cond t ([] ∷ parts (bs ++ rest)) (onto_first b (parts (bs ++ rest))))
    go true h =
        record {
          same = [] ∷ h.same;
          last = h.last;
          more = h.more;
          rest = h.rest;
          front_is = ap (λ (ps : List (List ℕ)). [] ∷ ps) h.front_is;
          whole_is =
              ap (λ (ps : List (List ℕ)). [] ∷ ps) h.whole_is;
        }
    go false h = onto h.same h.last h.more h.rest (parts bs) (parts (bs ++ rest)) h.front_is h.whole_is

counted_past : (whole : Bool) (same : List (List ℕ)) (p : List ℕ) (ps : List (List ℕ))
    → counted whole (same ++ p ∷ ps) ≡ same ++ counted whole (p ∷ ps)
counted_past whole [] p ps = refl
counted_past whole (s ∷ []) p ps = refl
counted_past whole (s ∷ t ∷ ss) p ps =
    ap (λ (qs : List (List ℕ)). s ∷ qs) (counted_past whole (t ∷ ss) p ps)

map_append : (xs ys : List (List ℕ)) → map entry_of (xs ++ ys) ≡ map entry_of xs ++ map entry_of ys
map_append [] ys = refl
map_append (x ∷ xs) ys = ap (λ (es : List (Option Entry)). entry_of x ∷ es) (map_append xs ys)

too_long : (text : List ℕ) → 256 < length text → entry_of text ≡ None
unfolding entry_of
too_long text lt = rw (lt-ltb 256 (length text) lt) refl

counts_long : (whole : Bool) (part : List ℕ) → 256 < length part → counts_last whole part ≡ true
counts_long true [] lt = absurd (omega (arith, lt))
counts_long true (b ∷ bs) lt = refl
counts_long false part lt = lt-ltb 256 (length part) lt

-- A last part that is too long spells nothing, whatever follows it.
long_last : (whole : Bool) (last more : List ℕ) (rest : List (List ℕ)) → 256 < length last
    → (es : List (Option Entry))
    × (map entry_of (counted whole ((last ++ more) ∷ rest)) ≡ None ∷ es)
long_last whole last more [] lt =
    let longer : 256 < length (last ++ more) = let len = length-append last more in omega (arith, len, lt) in (
      [],
      ap (λ (b : Bool). map entry_of (if b then (last ++ more) ∷ [] else []))
          (counts_long whole (last ++ more) longer)
          ∙ ap (λ (o : Option Entry). o ∷ []) (too_long (last ++ more) longer),
    )
long_last whole last more (r ∷ rs) lt =
    let longer : 256 < length (last ++ more) = let len = length-append last more in omega (arith, len, lt) in (
      map entry_of (counted whole (r ∷ rs)),
      ap (λ (o : Option Entry). o ∷ map entry_of (counted whole (r ∷ rs)))
          (too_long (last ++ more) longer),
    )

pub front_spelled : (whole : Bool) (front rest : List ℕ) → (more : List (Option Entry))
    × (spelled whole (front ++ rest) ≡ spelled false front ++ more)
front_spelled whole front rest = go (splits_alike front rest)
  where
    go : SplitsAlike (parts front) (parts (front ++ rest)) → (more : List (Option Entry))
        × (spelled whole (front ++ rest) ≡ spelled false front ++ more)
    go h = by (nat_lt 256 (length h.last)) refl
      where
        wholes : spelled whole (front ++ rest) ≡ map entry_of h.same
            ++ map entry_of (counted whole ((h.last ++ h.more) ∷ h.rest))
        wholes =
            ap (λ (ps : List (List ℕ)). map entry_of (counted whole ps)) h.whole_is
            ∙ ap (map entry_of) (counted_past whole h.same (h.last ++ h.more) h.rest)
            ∙ map_append h.same (counted whole ((h.last ++ h.more) ∷ h.rest))

        fronts : (b : Bool) → nat_lt 256 (length h.last) ≡ b
            → spelled false front ≡ map entry_of h.same ++ map entry_of (if b then h.last ∷ [] else [])
        fronts b q =
            ap (λ (ps : List (List ℕ)). map entry_of (counted false ps)) h.front_is
            ∙ ap (map entry_of) (counted_past false h.same h.last [])
            ∙ map_append h.same (counted false (h.last ∷ []))
            ∙ ap (λ (t : Bool). map entry_of h.same ++ map entry_of (if t then h.last ∷ [] else [])) q

        by : (b : Bool) → nat_lt 256 (length h.last) ≡ b → (more : List (Option Entry))
            × (spelled whole (front ++ rest) ≡ spelled false front ++ more)
        by true q =
            let lt = ltb-true 256 (length h.last) q in
            let tail = long_last whole h.last h.more h.rest lt in
            let first : spelled false front ≡ map entry_of h.same ++ None ∷ [] =
            fronts true q ∙ ap (λ (o : Option Entry). map entry_of h.same ++ o ∷ []) (too_long h.last lt) in (
              tail.0,
              wholes ∙ ap (λ (es : List (Option Entry)). map entry_of h.same ++ es) tail.1
                  ∙ sym (append_assoc (map entry_of h.same) (None ∷ []) tail.0)
                  ∙ ap (λ (es : List (Option Entry)). es ++ tail.0) (sym first),
            )
        by false q = (
          map entry_of (counted whole ((h.last ++ h.more) ∷ h.rest)),
          wholes ∙ sym (append_assoc (map entry_of h.same) []
              (map entry_of (counted whole ((h.last ++ h.more) ∷ h.rest))))
              ∙ ap (λ (es : List (Option Entry)). es ++ map entry_of (counted whole ((h.last ++ h.more) ∷ h.rest)))
              (sym (fronts false q)),
        )
