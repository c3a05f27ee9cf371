-- The lines of the repaired program's run have the same parts, and at least as many of them flushed and durable. So
-- each of its crash images was possible before.
use Rattle.std.proofs.Common.{◌≡◌, ℕ, zero, suc, ◌+◌, ◌-◌, Bool, true, false, cond, ◌&&◌, nat_le, nat_lt, List, [], ◌∷◌, map, length, take, Option, Some, None, slice_get, slice_index, option_map, refl, sym, ap, ◌∙◌, subst, arith}
use Rattle.std.proofs.lemmas.List.{length-map}
use Rattle.hip_tree.specs.declared.site.Site.{Site}
use Rattle.hip_lines.specs.Image.{byte_after, IsLineImage, IsImage}
use Rattle.hip_lines.specs.Laws.ImageLaws.{AreAhead, ahead-stored, ahead-flushed, ahead-more_flushed, ahead-fenced, ahead-more_fenced, are_ahead_refl, image-ahead}
use Rattle.hip_lines.specs.Line.{Line, map_line, flushed_line, fenced_line, stored, flushed, fenced, change_range, fresh_lines}
use Rattle.hip_lines.specs.Laws.LineLaws.{map-change_from, map-stored, ordered-fresh_lines}
use Rattle.hip_runs.specs.declared.input.Input.{Input}
use Rattle.hip_runs.specs.Actions.{in_region}
use Rattle.hip_runs.specs.Crash.{covers, byte_of, IsCrashImage}
use Rattle.hip_runs.specs.StoredParts.Persistence.{part_of_store, stored_lines, noted_flush, noted_fence, flush_line, fence_line, flushes_lines, flushed_lines, fenced_lines}
use Rattle.hip_runs.specs.State.{Level, Flush, StorePart, Counts, State}
use Rattle.hip_repairs.specs.Harmless.{Content, contents}
use Rattle.hip_repairs.proofs.simulation.Facts.{Lines}

abbrev content_of : StorePart → Content
content_of p = record { offset = p.offset; bytes = p.bytes }

abbrev seen_line : Line StorePart → Line Content
seen_line l = map_line content_of l

abbrev seen : Lines → List (Line Content)
seen ls = map seen_line ls

abbrev pub Ahead : Lines → Lines → Type 0
Ahead ls ls' = AreAhead (seen ls) (seen ls')

-- ---- what is seen of a change

contents_of_flushed : (flush : Flush) (ps : List StorePart) → map content_of (map (noted_flush flush) ps) ≡ map content_of ps
contents_of_flushed flush [] = refl
contents_of_flushed flush (p ∷ ps) = ap (λ xs. content_of p ∷ xs) (contents_of_flushed flush ps)

contents_of_fenced : (ps : List StorePart) → map content_of (map noted_fence ps) ≡ map content_of ps
contents_of_fenced [] = refl
contents_of_fenced (p ∷ ps) = ap (λ xs. content_of p ∷ xs) (contents_of_fenced ps)

seen-flush_line : (flush : Flush) (l : Line StorePart) → seen_line (flush_line flush l) ≡ flushed_line (seen_line l)
seen-flush_line flush l =
    ap (λ ps. record { parts = ps; flushed = length (map (noted_flush flush) l.parts); durable = l.durable }) (contents_of_flushed flush l.parts)
    ∙ ap (λ n. record { parts = map content_of l.parts; flushed = n; durable = l.durable }) (length-map l.parts (noted_flush flush) ∙ sym (length-map l.parts content_of))

seen-fence_line : (l : Line StorePart) → seen_line (fence_line l) ≡ fenced_line (seen_line l)
seen-fence_line l = ap (λ ps. record { parts = ps; flushed = l.flushed; durable = l.flushed }) (contents_of_fenced l.parts)

seen-flushed : (flush : Flush) (o n : ℕ) (ls : Lines) → seen (change_range (λ _ l. flush_line flush l) o n ls) ≡ flushed o n (seen ls)
seen-flushed flush o n ls = map-change_from seen_line (λ _ l. flush_line flush l) (λ _ l. flushed_line l) o n (λ _ l. seen-flush_line flush l) 0 ls

seen-fenced : (ls : Lines) → seen (fenced_lines ls) ≡ fenced (seen ls)
seen-fenced [] = refl
seen-fenced (l ∷ ls) = ap (λ x. x ∷ seen (fenced_lines ls)) (seen-fence_line l) ∙ ap (λ xs. fenced_line (seen_line l) ∷ xs) (seen-fenced ls)

-- ---- both sides, or the repaired program's alone

pub ahead_stored : (I : Input) (counts counts' : Counts) (s s' : Site) (up up' : List Level) (a : ℕ) (bytes : List ℕ) (ls ls' : Lines) → Ahead ls ls' → Ahead (stored_lines I counts s up a bytes ls) (stored_lines I counts' s' up' a bytes ls')
ahead_stored I counts counts' s s' up up' a bytes ls ls' h = go (in_region I a (length bytes))
  where
    o : ℕ
    o = a - I.base

    here : Ahead (stored (part_of_store counts s up (a - I.base) bytes) (a - I.base) (length bytes) ls) (stored (part_of_store counts' s' up' (a - I.base) bytes) (a - I.base) (length bytes) ls')
    here =
        subst (λ x. AreAhead x (seen (stored (part_of_store counts' s' up' (a - I.base) bytes) (a - I.base) (length bytes) ls'))) (sym (map-stored content_of (part_of_store counts s up (a - I.base) bytes) (a - I.base) (length bytes) ls))
        (subst (λ x. AreAhead (stored (λ j. content_of (part_of_store counts s up (a - I.base) bytes j)) (a - I.base) (length bytes) (seen ls)) x) (sym (map-stored content_of (part_of_store counts' s' up' (a - I.base) bytes) (a - I.base) (length bytes) ls'))
        (ahead-stored (λ j. content_of (part_of_store counts s up (a - I.base) bytes j)) (a - I.base) (length bytes) (seen ls) (seen ls') h))

    go : (b : Bool) → Ahead (cond b (stored (part_of_store counts s up (a - I.base) bytes) (a - I.base) (length bytes) ls) ls) (cond b (stored (part_of_store counts' s' up' (a - I.base) bytes) (a - I.base) (length bytes) ls') ls')
    go true = here
    go false = h

pub ahead_flushed : (I : Input) (flush flush' : Flush) (a n : ℕ) (ls ls' : Lines) → Ahead ls ls' → Ahead (flushed_lines I flush a n ls) (flushed_lines I flush' a n ls')
ahead_flushed I flush flush' a n ls ls' h = go (flushes_lines I a n)
  where
    go : (b : Bool) → Ahead (cond b (change_range (λ _ l. flush_line flush l) (a - I.base) n ls) ls) (cond b (change_range (λ _ l. flush_line flush' l) (a - I.base) n ls') ls')
    go true =
        subst (λ x. AreAhead x (seen (change_range (λ _ l. flush_line flush' l) (a - I.base) n ls'))) (sym (seen-flushed flush (a - I.base) n ls))
        (subst (λ x. AreAhead (flushed (a - I.base) n (seen ls)) x) (sym (seen-flushed flush' (a - I.base) n ls')) (ahead-flushed (a - I.base) n (seen ls) (seen ls') h))
    go false = h

pub ahead_more_flushed : (I : Input) (flush' : Flush) (a n : ℕ) (ls ls' : Lines) → Ahead ls ls' → Ahead ls (flushed_lines I flush' a n ls')
ahead_more_flushed I flush' a n ls ls' h = go (flushes_lines I a n)
  where
    go : (b : Bool) → Ahead ls (cond b (change_range (λ _ l. flush_line flush' l) (a - I.base) n ls') ls')
    go true = subst (λ x. AreAhead (seen ls) x) (sym (seen-flushed flush' (a - I.base) n ls')) (ahead-more_flushed (a - I.base) n (seen ls) (seen ls') h)
    go false = h

pub ahead_fenced : (ls ls' : Lines) → Ahead ls ls' → Ahead (fenced_lines ls) (fenced_lines ls')
ahead_fenced ls ls' h = subst (λ x. AreAhead x (seen (fenced_lines ls'))) (sym (seen-fenced ls)) (subst (λ x. AreAhead (fenced (seen ls)) x) (sym (seen-fenced ls')) (ahead-fenced (seen ls) (seen ls') h))

pub ahead_more_fenced : (ls ls' : Lines) → Ahead ls ls' → Ahead ls (fenced_lines ls')
ahead_more_fenced ls ls' h = subst (λ x. AreAhead (seen ls) x) (sym (seen-fenced ls')) (ahead-more_fenced (seen ls) (seen ls') h)

seen-fresh : (n : ℕ) → seen (fresh_lines n) ≡ fresh_lines n
unfolding fresh_lines
seen-fresh zero = refl
seen-fresh (suc n) = ap (λ xs. record { parts = []; flushed = 0; durable = 0 } ∷ xs) (seen-fresh n)

pub ahead_start : (n : ℕ) → Ahead (fresh_lines n) (fresh_lines n)
ahead_start n = subst (λ x. AreAhead x x) (sym (seen-fresh n)) (are_ahead_refl (fresh_lines n) (ordered-fresh_lines Content n))

-- ---- what is seen of both

lines_ahead : (xs ys : List (Line Content)) → AreAhead xs ys → map (λ l. l.parts) ys ≡ map (λ l. l.parts) xs
lines_ahead [] [] h = refl
lines_ahead (x ∷ xs) (y ∷ ys) h = let e = h.0.parts in let r = lines_ahead xs ys h.1 in cc
lines_ahead [] (y ∷ ys) h = absurd h
lines_ahead (x ∷ xs) [] h = absurd h

contents_seen : (ls : Lines) → map contents ls ≡ map (λ l. l.parts) (seen ls)
contents_seen [] = refl
contents_seen (l ∷ ls) = ap (λ xs. contents l ∷ xs) (contents_seen ls)

pub ahead_contents : (ls ls' : Lines) → Ahead ls ls' → map contents ls' ≡ map contents ls
ahead_contents ls ls' h = contents_seen ls' ∙ lines_ahead (seen ls) (seen ls') h ∙ sym (contents_seen ls)

-- ---- crash images

abbrev content_covers : Content → ℕ → Bool
content_covers c b = nat_le c.offset b && nat_lt b (c.offset + length c.bytes)

abbrev content_byte : Content → ℕ → ℕ
content_byte c b = slice_index c.bytes (b - c.offset)

byte_seen : (ps : List StorePart) (b first : ℕ) → byte_after covers byte_of ps b first ≡ byte_after content_covers content_byte (map content_of ps) b first
byte_seen [] b first = refl
byte_seen (p ∷ ps) b first = byte_seen ps b (cond (covers p b) (byte_of p b) first)

take_seen : (n : ℕ) (ps : List StorePart) → map content_of (take n ps) ≡ take n (map content_of ps)
take_seen zero ps = refl
take_seen (suc n) [] = refl
take_seen (suc n) (p ∷ ps) = ap (λ xs. content_of p ∷ xs) (take_seen n ps)

get_seen : (ls : Lines) (j : ℕ) → slice_get (seen ls) j ≡ option_map seen_line (slice_get ls j)
get_seen [] j = refl
get_seen (l ∷ ls) zero = refl
get_seen (l ∷ ls) (suc j) = get_seen ls j

to_seen : (first r : List ℕ) (j : ℕ) (l : Line StorePart) → IsLineImage covers byte_of first r j l → IsLineImage content_covers content_byte first r j (seen_line l)
to_seen first r j l h = (h.0, record { least = h.1.least; most = omega (arith, h.1.most, length-map l.parts content_of); bytes = λ b from to. h.1.bytes b from to ∙ byte_seen (take h.0 l.parts) b (slice_index first b) ∙ ap (λ ps. byte_after content_covers content_byte ps b (slice_index first b)) (take_seen h.0 l.parts) })

from_seen : (first r : List ℕ) (j : ℕ) (l : Line StorePart) → IsLineImage content_covers content_byte first r j (seen_line l) → IsLineImage covers byte_of first r j l
from_seen first r j l h = (h.0, record { least = h.1.least; most = omega (arith, h.1.most, length-map l.parts content_of); bytes = λ b from to. h.1.bytes b from to ∙ ap (λ ps. byte_after content_covers content_byte ps b (slice_index first b)) (sym (take_seen h.0 l.parts)) ∙ sym (byte_seen (take h.0 l.parts) b (slice_index first b)) })

seen_at : (o : Option (Line StorePart)) (x : Line Content) → option_map seen_line o ≡ Some x → (l : Line StorePart) × (o ≡ Some l) × (x ≡ seen_line l)
seen_at None x e = absurd (let h : ⊥ = cc in h)
seen_at (Some l) x e = (l, refl, let h : x ≡ seen_line l = cc in h)

image_to_seen : (first r : List ℕ) (ls : Lines) → IsImage covers byte_of first ls r → IsImage content_covers content_byte first (seen ls) r
image_to_seen first r ls h = record {
  whole = h.whole;
  lines = λ j x e. let at = seen_at (slice_get ls j) x (sym (get_seen ls j) ∙ e) in subst (IsLineImage content_covers content_byte first r j) (sym at.2) (to_seen first r j at.0 (h.lines j at.0 at.1));
}

image_from_seen : (first r : List ℕ) (ls : Lines) → IsImage content_covers content_byte first (seen ls) r → IsImage covers byte_of first ls r
image_from_seen first r ls h = record {
  whole = h.whole;
  lines = λ j l e. from_seen first r j l (h.lines j (seen_line l) (get_seen ls j ∙ ap (option_map seen_line) e));
}

pub ahead_images : (I : Input) (s s' : State) (r : List ℕ) → Ahead s.lines s'.lines → IsCrashImage I s' r → IsCrashImage I s r
ahead_images I s s' r a h = image_from_seen I.image r s.lines (image-ahead content_covers content_byte I.image r (seen s.lines) (seen s'.lines) a (image_to_seen I.image r s'.lines h))
