-- The loose parts of a store are those of the loose bytes of its step.
use Rattle.std.proofs.Common.{◌≡◌, ◌⊎◌, inl, inr, ℕ, zero, suc, ◌+◌, ◌-◌, ◌/◌, ◌<◌, ◌≤◌, Bool, true, false, cond, not, ◌&&◌, ◌||◌, nat_eq, nat_le, nat_lt, List, [], ◌∷◌, length, drop, Option, Some, None, option_map, slice_get, refl, sym, ap, ap₂, ◌∙◌, subst, arith}
use Rattle.std.specs.Prelude.{option_and_then, option_to_list}
use Rattle.std.specs.List.{list_any}
use Rattle.std.proofs.lemmas.Bool.Decides.{nat_tests}
use Rattle.hip_lines.specs.Line.{Line, map_line}
use Rattle.hip_lines.specs.Loose.{IsLastOver, IsLooseBy, last_over}
use Rattle.hip_lines.specs.Laws.LooseLaws.{get-drop, get-of_map, get-map, last_over-finds, Finds, last_over-place, last_over-part, loose-drop, drop-loose, loose-map_line, map_line-loose}
use Rattle.hip_lines.specs.Pending.{Pending}
use Rattle.hip_lines.specs.declared.part.Part.{Part}
use Rattle.hip_lines.specs.declared.part.LooseByte.{LooseByte}
use Rattle.hip_runs.specs.Crash.{covers}
use Rattle.hip_runs.specs.StoredParts.Parts.{In, PartOf}
use Rattle.hip_runs.specs.Laws.PartLaws.{in-append, append-left, append-right}
use Rattle.hip_runs.specs.Found.Reports.{LoosePart, shows, is_last, loose_from, loose_in, loose_parts}
use Rattle.hip_runs.specs.State.{StorePart}
use Rattle.hip_runs.specs.Found.Tags.{AreAlike, IsLoosePart}
use Rattle.hip_runs.specs.StoredParts.Shown.{shown_part, shown_line, shown}
use Rattle.hip_runs.specs.Laws.Members.{at_none, equal_true, in_at, le_true, lt_true, none_at, of_flat, to_flat, true_equal, true_le, true_lt}
use Rattle.hip_types.specs.Laws.DistinctLaws.{or_second}
use Rattle.hip_lines.specs.Parts as bytes

-- Every byte that a part covers lies in the part's line.
abbrev pub AreInLines : List (Line StorePart) → Type 0
AreInLines ls =
    (m : ℕ) (l : Line StorePart) (k : ℕ) (x : StorePart) → slice_get ls m ≡ Some l
    → slice_get l.parts k ≡ Some x
    → (b : ℕ) → covers x b ≡ true → b / 64 ≡ m

-- ---- a byte that a part shows

-- Byte c is one of `count` bytes from b, and in the range of n bytes from o, and no later part covers it.
record ByteIsShown (o n count b : ℕ) (later : List StorePart) (c : ℕ) : Type 0 where
  from : b ≤ c
  to : c < b + count
  low : o ≤ c
  high : c < o + n
  bare : list_any (λ q. covers q c) later ≡ false

shown_byte : (o n count b : ℕ) (later : List StorePart) → shows o n count b later ≡ true
    → (c : ℕ) × ByteIsShown o n count b later c
shown_byte o n zero b later h = absurd (let z : ⊥ = cc in z)
shown_byte o n (suc count) b later h =
    go (λ g. next (shown_byte o n count (suc b) later g)) (nat_le o b) refl (nat_lt b (o + n)) refl
    (list_any (λ q. covers q b) later) refl h
  where
    next : (c : ℕ) × ByteIsShown o n count (suc b) later c → (c : ℕ) × ByteIsShown o n (suc count) b later c
    next r =
        let s = r.1 in (
          r.0,
          record {
            from = omega (arith, s.from);
            to = omega (arith, s.to);
            low = s.low;
            high = s.high;
            bare = s.bare;
          },
        )

    go : (shows o n count (suc b) later ≡ true → (c : ℕ) × ByteIsShown o n (suc count) b later c) → (x : Bool)
        → nat_le o b ≡ x → (y : Bool) → nat_lt b (o + n) ≡ y → (z : Bool)
        → list_any (λ q. covers q b) later ≡ z
        → (x && (y && not z)) || shows o n count (suc b) later ≡ true → (c : ℕ)
        × ByteIsShown o n (suc count) b later c
    go after true p true q false r g =
        (b, record { from = omega arith; to = omega arith; low = le_true _ _ p; high = lt_true _ _ q; bare = r })
    go after true p true q true r g = after g
    go after true p false q z r g = after g
    go after false p y q z r g = after g

split : (b c : ℕ) → b ≤ c → (b ≡ c) ⊎ (suc b ≤ c)
split b c h = grind arith

byte_shown : (o n count b : ℕ) (later : List StorePart) (c : ℕ) → ByteIsShown o n count b later c
    → shows o n count b later ≡ true
byte_shown o n zero b later c s = absurd (omega (arith, s.from, s.to))
byte_shown o n (suc count) b later c s = go (λ t. byte_shown o n count (suc b) later c t) (split b c s.from)
  where
    here : nat_le o c && (nat_lt c (o + n) && not (list_any (λ q. covers q c) later)) ≡ true
    here = let p = true_le o c s.low in let q = true_lt c (o + n) s.high in rw (p, q, s.bare) refl

    first : (x y : Bool) → x ≡ true → x || y ≡ true
    first x y e = rw e refl

    go : (ByteIsShown o n count (suc b) later c → shows o n count (suc b) later ≡ true) → (b ≡ c) ⊎ (suc b ≤ c)
        → shows o n (suc count) b later ≡ true
    go next (inl e) =
        first _ _ (subst (λ a. nat_le o a && (nat_lt a (o + n) && not (list_any (λ q. covers q a) later)) ≡ true)
        (sym e) here)
    go next (inr lt) =
        or_second (nat_le o b && (nat_lt b (o + n) && not (list_any (λ q. covers q b) later))) _
        (next (record { from = lt; to = omega (arith, s.to); low = s.low; high = s.high; bare = s.bare }))

-- ---- the loose parts of a line, by their places

-- Loose part y is the part p, at place i of these parts and place k + i of its line. It is a part of the store of step
-- `made`, is not one of the first d parts, which are durable, and is the last part over a byte of the range. It is
-- flushed if it is one of the first f parts.
pub record IsOfPart (o n made d f k : ℕ) (ps : List StorePart) (y : LoosePart) (i : ℕ) (p : StorePart)
    : Type 0 where
  pub at : slice_get ps i ≡ Some p
  pub step : p.step ≡ made
  pub loose : d ≤ k + i
  pub last : is_last o n p (drop (suc i) ps) ≡ true
  pub is : y ≡ record { part = p; flushed = nat_lt (k + i) f }

pub found_part : (o n made d f k : ℕ) (ps : List StorePart) (y : LoosePart) → In y (loose_from o n made d f k ps)
    → (i : ℕ) × (p : StorePart) × IsOfPart o n made d f k ps y i p
found_part o n made d f k [] y h = absurd h
found_part o n made d f k (x ∷ ps) y h =
    go (λ g. next (found_part o n made d f (suc k) ps y g)) (nat_eq x.step made) refl (nat_le d k) refl
    (is_last o n x ps) refl h
  where
    next : (i : ℕ) × (p : StorePart) × IsOfPart o n made d f (suc k) ps y i p
        → (i : ℕ) × (p : StorePart) × IsOfPart o n made d f k (x ∷ ps) y i p
    next r =
        let s = r.2 in
        let e : suc k + r.0 ≡ k + suc r.0 = omega arith in (
          suc r.0,
          r.1,
          record {
            at = s.at;
            step = s.step;
            loose = omega (arith, s.loose);
            last = s.last;
            is = s.is
                ∙ ap (λ j. record { part = r.1; flushed = nat_lt j f }) e;
          },
        )

    go : (In y (loose_from o n made d f (suc k) ps) → (i : ℕ) × (p : StorePart)
        × IsOfPart o n made d f k (x ∷ ps) y i p)
        → (a : Bool) → nat_eq x.step made ≡ a → (b : Bool) → nat_le d k ≡ b → (c : Bool)
        → is_last o n x ps ≡ c →
        In y (cond (a && (b && c)) (record { part = x; flushed = nat_lt k f } ∷ loose_from o n made d f (suc k) ps)
        (loose_from o n made d f (suc k) ps)) → (i : ℕ) × (p : StorePart)
        × IsOfPart o n made d f k (x ∷ ps) y i p
    go after true p true q true r (inl e) =
        let z : k ≡ k + 0 = omega arith in (
          0,
          x,
          record {
            at = refl;
            step = equal_true _ _ p;
            loose = omega (arith, le_true _ _ q);
            last = r;
            is = e
                ∙ ap (λ j. record { part = x; flushed = nat_lt j f }) z;
          },
        )
    go after true p true q true r (inr g) = after g
    go after true p true q false r g = after g
    go after true p false q c r g = after g
    go after false p b q c r g = after g

part_found : (o n made d f k : ℕ) (ps : List StorePart) (y : LoosePart) (i : ℕ) (p : StorePart)
    → IsOfPart o n made d f k ps y i p → In y (loose_from o n made d f k ps)
part_found o n made d f k [] y i p s = absurd (let e = s.at in let z : ⊥ = cc in z)
part_found o n made d f k (x ∷ ps) y zero p s =
    let same : x ≡ p = (let e = s.at in let z : x ≡ p = cc in z) in
    let t : x.step ≡ made = ap (λ (w : StorePart). w.step) same ∙ s.step in
    let a : nat_eq x.step made ≡ true = true_equal x.step made t in
    let b : nat_le d k ≡ true = true_le d k (omega (arith, s.loose)) in
    let c : is_last o n x ps ≡ true = subst (λ (w : StorePart). is_last o n w ps ≡ true) (sym same) s.last in
    let z : k + 0 ≡ k = omega arith in
    let q : y ≡ record { part = x; flushed = nat_lt k f } =
    s.is ∙ ap₂ (λ (w : StorePart) (j : ℕ). record { part = w; flushed = nat_lt j f }) (sym same) z in
    go _ _ _ a b c q
  where
    go : (a b c : Bool) → a ≡ true → b ≡ true → c ≡ true → y ≡ record { part = x; flushed = nat_lt k f }
        → In y (cond (a && (b && c)) (record { part = x; flushed = nat_lt k f }
        ∷ loose_from o n made d f (suc k) ps)
        (loose_from o n made d f (suc k) ps))
    go true true true p q r e = inl e
    go true true false p q r e = absurd (let z : ⊥ = cc in z)
    go true false c p q r e = absurd (let z : ⊥ = cc in z)
    go false b c p q r e = absurd (let z : ⊥ = cc in z)
part_found o n made d f k (x ∷ ps) y (suc i) p s =
    let e : k + suc i ≡ suc k + i = omega arith in
    past _ (part_found o n made d f (suc k) ps y i p
    (record {
      at = s.at;
      step = s.step;
      loose = omega (arith, s.loose);
      last = s.last;
      is = s.is
          ∙ ap (λ j. record { part = p; flushed = nat_lt j f }) e;
    }))
  where
    past : (b : Bool) → In y (loose_from o n made d f (suc k) ps)
        → In y (cond b (record { part = x; flushed = nat_lt k f } ∷ loose_from o n made d f (suc k) ps)
        (loose_from o n made d f (suc k) ps))
    past true h = inr h
    past false h = h

-- ---- the loose bytes of a range, by their places

in_bytes : (ws : List (Pending Part)) (o n : ℕ) (x : LooseByte) → In x (bytes.loose_from ws o n)
    → (b : ℕ) × (o ≤ b) × (b < o + n) × (bytes.loose_at ws b ≡ Some x)
in_bytes ws o zero x i = absurd i
in_bytes ws o (suc n) x i =
    go (λ j. in_bytes ws (suc o) n x j) (bytes.loose_at ws o) refl
    (in-append (option_to_list (bytes.loose_at ws o)) (bytes.loose_from ws (suc o) n) x i)
  where
    go : (In x (bytes.loose_from ws (suc o) n) → (b : ℕ) × (suc o ≤ b) × (b < suc o + n)
        × (bytes.loose_at ws b
        ≡ Some x)) → (a : Option LooseByte) → bytes.loose_at ws o ≡ a → In x (option_to_list a) ⊎ In x
        (bytes.loose_from ws (suc o) n) → (b : ℕ) × (o ≤ b) × (b < o + suc n)
        × (bytes.loose_at ws b ≡ Some x)
    go next a e (inr j) = let r = next j in (r.0, omega (arith, r.1), omega (arith, r.2), r.3)
    go next None e (inl j) = absurd j
    go next (Some z) e (inl (inl q)) = (o, omega arith, omega arith, e ∙ ap Some (sym q))
    go next (Some z) e (inl (inr j)) = absurd j

bytes_in : (ws : List (Pending Part)) (o n : ℕ) (x : LooseByte) (b : ℕ) → o ≤ b → b < o + n
    → bytes.loose_at ws b ≡ Some x → In x (bytes.loose_from ws o n)
bytes_in ws o zero x b le lt e = absurd (omega (arith, le, lt))
bytes_in ws o (suc n) x b le lt e = go (λ low. bytes_in ws (suc o) n x b low (omega (arith, lt)) e) (split o b le)
  where
    go : (suc o ≤ b → In x (bytes.loose_from ws (suc o) n)) → (o ≡ b) ⊎ (suc o ≤ b)
        → In x (bytes.loose_from ws o (suc n))
    go next (inl q) =
        append-left (option_to_list (bytes.loose_at ws o)) (bytes.loose_from ws (suc o) n) x
        (subst (λ (a : Option LooseByte). In x (option_to_list a)) (sym e ∙ ap (bytes.loose_at ws) (sym q))
        (inl refl))
    go next (inr low) = append-right (option_to_list (bytes.loose_at ws o)) (bytes.loose_from ws (suc o) n) x (next low)

-- ---- the loose byte of a line

-- Byte b is loose by the part p at place k, and x is that loose byte.
record LooseByteIsStated (l : Line StorePart) (b : ℕ) (x : LooseByte) (k : ℕ) (p : StorePart) : Type 0 where
  by : IsLooseBy covers l b k p
  is : x ≡ record { offset = b; tag = p.step; flushed = nat_lt k l.flushed }

shift : (k d f : ℕ) → d ≤ k → nat_lt (k - d) (f - d) ≡ nat_lt k f
shift k d f h = grind (arith, nat_tests)

stated_byte : (l : Line StorePart) (b : ℕ) (x : LooseByte) → bytes.loose_in (shown_line l) b ≡ Some x
    → (k : ℕ) × (p : StorePart) × LooseByteIsStated l b x k p
stated_byte l b x e =
    go (last_over bytes.part_covers b (shown_line l).parts) (last_over-finds bytes.part_covers b (shown_line l).parts) e
  where
    go : (o : Option (ℕ × Part)) → Finds bytes.part_covers (shown_line l).parts b o
        → option_map (bytes.loose_by (shown_line l) b) o ≡ Some x → (k : ℕ) × (p : StorePart)
        × LooseByteIsStated l b x k p
    go None h e = absurd (let z : ⊥ = cc in z)
    go (Some (i, q)) h e =
        let a = loose-drop bytes.part_covers (map_line shown_part l) b i q h in
        let r = map_line-loose shown_part bytes.part_covers l b (l.durable + i) q a in
        let y : x ≡ record { offset = b; tag = q.tag; flushed = nat_lt i (l.flushed - l.durable) } = cc in
        let z : l.durable + i - l.durable ≡ i = omega arith in
        let s : nat_lt i (l.flushed - l.durable) ≡ nat_lt (l.durable + i) l.flushed =
        ap (λ j. nat_lt j (l.flushed - l.durable)) (sym z)
        ∙ shift (l.durable + i) l.durable l.flushed (omega arith) in (
          l.durable + i,
          r.0,
          record {
            by = r.1;
            is = y
                ∙ ap₂ (λ (t : ℕ) (u : Bool). record { offset = b; tag = t; flushed = u })
                (sym (ap (λ (w : Part). w.tag) r.2)) s;
          },
        )

byte_stated : (l : Line StorePart) (b : ℕ) (k : ℕ) (p : StorePart) → IsLooseBy covers l b k p
    → bytes.loose_in (shown_line l) b ≡ Some (record { offset = b; tag = p.step; flushed = nat_lt k l.flushed })
byte_stated l b k p h =
    go (last_over bytes.part_covers b (shown_line l).parts) (last_over-finds bytes.part_covers b (shown_line l).parts)
  where
    there : IsLastOver bytes.part_covers (shown_line l).parts b (k - l.durable) (shown_part p)
    there =
        drop-loose bytes.part_covers (map_line shown_part l) b k (shown_part p)
        (loose-map_line shown_part bytes.part_covers l b k p h)

    go : (o : Option (ℕ × Part)) → Finds bytes.part_covers (shown_line l).parts b o
        → option_map (bytes.loose_by (shown_line l) b) o
        ≡ Some (record { offset = b; tag = p.step; flushed = nat_lt k l.flushed })
    go None f =
        absurd (let g : false ≡ true = sym (f (k - l.durable) (shown_part p) there.at) ∙ there.over in
        let z : ⊥ = cc in
        z)
    go (Some (i, q)) f =
        let e : i ≡ k - l.durable =
        last_over-place bytes.part_covers (shown_line l).parts b i (k - l.durable) q (shown_part p) f there in
        let g : q ≡ shown_part p =
        last_over-part bytes.part_covers (shown_line l).parts b i (k - l.durable) q (shown_part p) f there in
        let s : nat_lt i (l.flushed - l.durable) ≡ nat_lt k l.flushed =
        ap (λ j. nat_lt j (l.flushed - l.durable)) e ∙ shift k l.durable l.flushed h.not_durable in
        ap₂ (λ (t : ℕ) (u : Bool). Some (record { offset = b; tag = t; flushed = u }))
        (ap (λ (w : Part). w.tag) g) s

-- ---- both ways

over_true : (p : StorePart) (c : ℕ) → p.offset ≤ c → c < p.offset + length p.bytes → covers p c ≡ true
over_true p c le lt =
    let a = true_le p.offset c le in let b = true_lt c (p.offset + length p.bytes) lt in rw (a, b) refl

pub true_over : (p : StorePart) (c : ℕ) → covers p c ≡ true → (p.offset ≤ c)
    × (c < p.offset + length p.bytes)
true_over p c h = go (nat_le p.offset c) refl (nat_lt c (p.offset + length p.bytes)) refl h
  where
    go : (a : Bool) → nat_le p.offset c ≡ a → (b : Bool) → nat_lt c (p.offset + length p.bytes) ≡ b
        → a && b ≡ true
        → (p.offset ≤ c) × (c < p.offset + length p.bytes)
    go true p true q h = (le_true _ _ p, lt_true _ _ q)
    go true p false q h = absurd (let z : ⊥ = cc in z)
    go false p b q h = absurd (let z : ⊥ = cc in z)

-- ---- a part is loose if a byte of its line is loose by it

module _ (o n made : ℕ) (ls : List (Line StorePart)) where
  pub part_loose : (p : LoosePart) → In p (loose_parts o n ls made) → IsLoosePart o n made ls p
  part_loose y i =
      let a = of_flat (loose_in o n made) ls y i in
      let l = a.1 in
      let f = found_part o n made l.durable l.flushed 0 l.parts y a.3 in
      let k = f.0 in
      let p = f.1 in
      let h = f.2 in
      let same : p ≡ y.part = sym (ap (λ (w : LoosePart). w.part) h.is) in
      let s = shown_byte o n (length p.bytes) p.offset (drop (suc k) l.parts) h.last in
      let c = s.0 in
      let over : covers p c ≡ true = over_true p c s.1.from s.1.to in
      let loose : IsLooseBy covers l c k p =
      record {
        last_over = record {
          at = h.at;
          over = over;
          last = λ j z lt e. none_at (λ q. covers q c) (drop (suc k) l.parts) s.1.bare (j - suc k) z
              (get-drop (suc k) l.parts (j - suc k) ∙ ap (slice_get l.parts)
              (let q : suc k + (j - suc k) ≡ j = omega (arith, lt) in q) ∙ e);
        };
        not_durable = omega (arith, h.loose);
      } in
      let z : 0 + k ≡ k = omega arith in
      record {
        line = a.0;
        of = l;
        place = k;
        byte = c;
        line_at = a.2;
        loose = subst (IsLooseBy covers l c k) same loose;
        low = s.1.low;
        high = s.1.high;
        step = sym (ap (λ (w : StorePart). w.step) same) ∙ h.step;
        flushed = ap (λ (w : LoosePart). w.flushed) h.is ∙ ap (λ j. nat_lt j l.flushed) z;
      }

  pub loose_part : (p : LoosePart) → IsLoosePart o n made ls p → In p (loose_parts o n ls made)
  loose_part y r =
      let l = r.of in
      let k = r.place in
      let c = r.byte in
      let p = y.part in
      let h = r.loose.last_over in
      let v = true_over p c h.over in
      let bare : list_any (λ q. covers q c) (drop (suc k) l.parts) ≡ false =
      at_none (λ q. covers q c) (drop (suc k) l.parts)
      (λ j y e. h.last (suc k + j) y (omega arith) (sym (get-drop (suc k) l.parts j) ∙ e)) in
      let last : is_last o n p (drop (suc k) l.parts) ≡ true =
      byte_shown o n (length p.bytes) p.offset (drop (suc k) l.parts) c
      (record { from = v.0; to = v.1; low = r.low; high = r.high; bare = bare }) in
      let z : k ≡ 0 + k = omega arith in
      let is : y ≡ record { part = p; flushed = nat_lt (0 + k) l.flushed } =
      ap (λ (t : Bool). record { part = y.part; flushed = t }) (r.flushed ∙ ap (λ j. nat_lt j l.flushed) z) in
      to_flat (loose_in o n made) ls y r.line l r.line_at
      (part_found o n made l.durable l.flushed 0 l.parts y k p
      (record { at = h.at; step = r.step; loose = omega (arith, r.loose.not_durable); last = last; is = is }))

module _ (ls : List (Line StorePart)) (inside : AreInLines ls) (o n made : ℕ) where
  byte_for : (p : LoosePart) → In p (loose_parts o n ls made)
      → (b : LooseByte) × In b (bytes.loose_from (shown ls) o n) × (b.tag ≡ made) × (b.flushed ≡ p.flushed)
  byte_for y i =
      let r = part_loose o n made ls y i in
      let l = r.of in
      let k = r.place in
      let c = r.byte in
      let line : slice_get ls (c / 64) ≡ Some l =
      ap (slice_get ls) (inside r.line l k y.part r.line_at r.loose.last_over.at c r.loose.last_over.over)
      ∙ r.line_at in
      let there : bytes.loose_at (shown ls) c ≡ Some
      (record { offset = c; tag = y.part.step; flushed = nat_lt k l.flushed }) =
      ap (λ (w : Option (Pending Part)). option_and_then (λ x. bytes.loose_in x c) w)
      (get-map shown_line ls (c / 64) l line) ∙ byte_stated l c k y.part r.loose in (
        record { offset = c; tag = y.part.step; flushed = nat_lt k l.flushed },
        bytes_in (shown ls) o n _ c r.low r.high there,
        r.step,
        sym r.flushed,
      )

  part_for : (b : LooseByte) → In b (bytes.loose_from (shown ls) o n) → b.tag ≡ made
      → (p : LoosePart) × In p (loose_parts o n ls made) × (p.flushed ≡ b.flushed)
  part_for x i tag = let a = in_bytes (shown ls) o n x i in go a.0 a.1 a.2 (slice_get (shown ls) (a.0 / 64)) refl a.3
    where
      go : (c : ℕ) → o ≤ c → c < o + n → (w : Option (Pending Part)) → slice_get (shown ls) (c / 64) ≡ w
          → option_and_then (λ x. bytes.loose_in x c) w ≡ Some x
          → (p : LoosePart) × In p (loose_parts o n ls made) × (p.flushed ≡ x.flushed)
      go c le lt None e q = absurd (let z : ⊥ = cc in z)
      go c le lt (Some w) e q =
          let m = get-of_map shown_line ls (c / 64) w e in
          let l = m.0 in
          let t = stated_byte l c x (subst (λ v. bytes.loose_in v c ≡ Some x) (sym m.2) q) in
          let k = t.0 in
          let p = t.1 in
          let step : p.step ≡ made = sym (ap (λ (u : LooseByte). u.tag) t.2.is) ∙ tag in (
            record { part = p; flushed = nat_lt k l.flushed },
            loose_part o n made ls (record { part = p; flushed = nat_lt k l.flushed })
                (record {
                  line = c / 64;
                  of = l;
                  place = k;
                  byte = c;
                  line_at = m.1;
                  loose = t.2.by;
                  low = le;
                  high = lt;
                  step = step;
                  flushed = refl;
                }),
            sym (ap (λ (u : LooseByte). u.flushed) t.2.is),
          )

  pub are_alike : AreAlike (loose_parts o n ls made) (bytes.loose_from (shown ls) o n) made
  are_alike = record { byte_of = byte_for; part_of = part_for }

-- ---- parts and items at their places

pub part_at : (ls : List (Line StorePart)) (m : ℕ) (l : Line StorePart) (x : StorePart) → slice_get ls m ≡ Some l
    → In x l.parts → PartOf ls x
part_at [] m l x e i = absurd (let z : ⊥ = cc in z)
part_at (y ∷ ls) zero l x e i = inl (let z : l ≡ y = cc in subst (λ (w : Line StorePart). In x w.parts) z i)
part_at (y ∷ ls) (suc m) l x e i = inr (part_at ls m l x e i)

-- Each loose part is a part of one of the lines.
pub loose_there : (o n made : ℕ) (ls : List (Line StorePart)) (p : LoosePart) → IsLoosePart o n made ls p
    → PartOf ls p.part
loose_there o n made ls p r =
    part_at ls r.line r.of p.part r.line_at (in_at r.of.parts r.place p.part r.loose.last_over.at)
