-- Which parts cache lines have after a store, a flush and a fence.
use Rattle.std.proofs.Common.{◌≡◌, ◌⊎◌, inl, inr, ℕ, suc, ◌-◌, Bool, true, false, cond, List, [], ◌∷◌, ◌++◌, map, refl}
use Rattle.hip_lines.specs.Line.{Line, with_part, has_bytes, change_from, change_range, stored}
use Rattle.hip_runs.specs.declared.input.Input.{Input}
use Rattle.hip_runs.specs.StoredParts.Parts.{In, PartOf}
use Rattle.hip_runs.specs.StoredParts.Persistence.{noted_flush, noted_fence, flush_line, flushes_lines, flushed_lines, fenced_lines}
use Rattle.hip_runs.specs.State.{Flush, StorePart}

pub in-map : {A B : Type 0} (f : A → B) (xs : List A) (y : B) → In y (map f xs) → (x : A) × In x xs
    × (y ≡ f x)
in-map f [] y i = absurd i
in-map f (x ∷ xs) y (inl e) = (x, inl refl, e)
in-map f (x ∷ xs) y (inr i) = let r = in-map f xs y i in (r.0, inr r.1, r.2)

pub in-append : {A : Type 0} (xs ys : List A) (x : A) → In x (xs ++ ys) → In x xs ⊎ In x ys
in-append [] ys x i = inr i
in-append (y ∷ xs) ys x (inl e) = inl (inl e)
in-append (y ∷ xs) ys x (inr i) = go (in-append xs ys x i)
  where
    go : In x xs ⊎ In x ys → In x (y ∷ xs) ⊎ In x ys
    go (inl j) = inl (inr j)
    go (inr j) = inr j

pub append-left : {A : Type 0} (xs ys : List A) (x : A) → In x xs → In x (xs ++ ys)
append-left [] ys x i = absurd i
append-left (y ∷ xs) ys x (inl e) = inl e
append-left (y ∷ xs) ys x (inr i) = inr (append-left xs ys x i)

pub append-right : {A : Type 0} (xs ys : List A) (x : A) → In x ys → In x (xs ++ ys)
append-right [] ys x i = i
append-right (y ∷ xs) ys x i = inr (append-right xs ys x i)

pub part-fenced : (ls : List (Line StorePart)) (y : StorePart) → PartOf (fenced_lines ls) y
    → (x : StorePart) × PartOf ls x × (y ≡ noted_fence x)
part-fenced [] y i = absurd i
part-fenced (l ∷ ls) y (inl i) = let r = in-map noted_fence l.parts y i in (r.0, inl r.1, r.2)
part-fenced (l ∷ ls) y (inr i) = let r = part-fenced ls y i in (r.0, inr r.1, r.2)

-- A part is unchanged, or it is changed by the flush of its line.
abbrev pub IsFlushedFrom : Flush → StorePart → StorePart → Type 0
IsFlushedFrom flush y x = (y ≡ x) ⊎ (y ≡ noted_flush flush x)

pub part-flushed_from : (flush : Flush) (o n j : ℕ) (ls : List (Line StorePart)) (y : StorePart)
    → PartOf (change_from (λ _ l. flush_line flush l) o n j ls) y
    → (x : StorePart) × PartOf ls x × IsFlushedFrom flush y x
part-flushed_from flush o n j [] y i = absurd i
part-flushed_from flush o n j (l ∷ ls) y (inl i) = here (has_bytes j o n) i
  where
    here : (b : Bool) → In y (cond b (flush_line flush l) l).parts
        → (x : StorePart) × PartOf (l ∷ ls) x × IsFlushedFrom flush y x
    here true i = let r = in-map (noted_flush flush) l.parts y i in (r.0, inl r.1, inr r.2)
    here false i = (y, inl i, inl refl)
part-flushed_from flush o n j (l ∷ ls) y (inr i) =
    let r = part-flushed_from flush o n (suc j) ls y i in (r.0, inr r.1, r.2)

pub part-flushed : (I : Input) (flush : Flush) (a n : ℕ) (ls : List (Line StorePart)) (y : StorePart)
    → PartOf (flushed_lines I flush a n ls) y → (x : StorePart) × PartOf ls x × IsFlushedFrom flush y x
part-flushed I flush a n ls y i = go (flushes_lines I a n) i
  where
    go : (b : Bool) → PartOf (cond b (change_range (λ _ l. flush_line flush l) (a - I.base) n ls) ls) y
        → (x : StorePart) × PartOf ls x × IsFlushedFrom flush y x
    go true i = part-flushed_from flush (a - I.base) n 0 ls y i
    go false i = (y, i, inl refl)

pub part-stored_from : (part : ℕ → StorePart) (o n j : ℕ) (ls : List (Line StorePart)) (y : StorePart)
    → PartOf (change_from (λ j l. with_part (part j) l) o n j ls) y → PartOf ls y ⊎ ((k : ℕ) × (y ≡ part k))
part-stored_from part o n j [] y i = absurd i
part-stored_from part o n j (l ∷ ls) y (inl i) = here (has_bytes j o n) i
  where
    last : In y l.parts ⊎ In y (part j ∷ []) → PartOf (l ∷ ls) y ⊎ ((k : ℕ) × (y ≡ part k))
    last (inl k) = inl (inl k)
    last (inr (inl e)) = inr (j, e)
    last (inr (inr k)) = absurd k

    here : (b : Bool) → In y (cond b (with_part (part j) l) l).parts → PartOf (l ∷ ls) y
        ⊎ ((k : ℕ) × (y ≡ part k))
    here true i = last (in-append l.parts (part j ∷ []) y i)
    here false i = inl (inl i)
part-stored_from part o n j (l ∷ ls) y (inr i) = go (part-stored_from part o n (suc j) ls y i)
  where
    go : PartOf ls y ⊎ ((k : ℕ) × (y ≡ part k)) → PartOf (l ∷ ls) y ⊎ ((k : ℕ) × (y ≡ part k))
    go (inl k) = inl (inr k)
    go (inr k) = inr k

pub part-stored : (part : ℕ → StorePart) (o n : ℕ) (ls : List (Line StorePart)) (y : StorePart)
    → PartOf (stored part o n ls) y → PartOf ls y ⊎ ((k : ℕ) × (y ≡ part k))
part-stored part o n ls y i = part-stored_from part o n 0 ls y i
