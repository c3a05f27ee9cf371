-- What a walk over loose bytes has met, and the flushes that it keeps.
use Rattle.std.proofs.Common.{◌≡◌, ◌⊎◌, inl, inr, ℕ, ◌+◌, ◌*◌, ◌<◌, Bool, true, List, [], ◌∷◌, ◌++◌, Some, drop, get_or, length, refl, sym, ap, ◌∙◌, subst}
use Rattle.std.proofs.lemmas.List.{drop_more}
use Rattle.std.specs.List.{flat_map}
use Rattle.std.specs.Prelude.{IfOk, Result, Ok, Err}
use Rattle.hip_lines.specs.Parts.{loose_from}
use Rattle.hip_lines.specs.Pending.{Pending as Waiting}
use Rattle.hip_lines.specs.declared.part.LooseByte.{LooseByte}
use Rattle.hip_lines.specs.declared.part.Part.{Part}
use Rattle.hip_types.specs.declared.areas.TheConstants.{LINE_SIZE}
use Rattle.hip_runs.specs.StoredParts.Parts.{In}
use Rattle.hip_ledger.specs.Noted.{flush_among, IsThinned, loose_of_line}
use Rattle.hip_ledger.specs.Pending.{first_after, FlushesAscend}
use Rattle.hip_ledger.specs.declared.pending.FlushNote.{FlushNote}
use Rattle.hip_ledger.proofs.NoteLists.{fewer_flushes, first_stays}

-- After one more item of a list, each item is still left or was met.
pub met_next : {A : Type 0} (x y : A) (s t : List A) (Q R : Type 0) → s ≡ y ∷ t → (Q → R) → (x ≡ y → R) → In x s ⊎ Q → In x t ⊎ R
met_next x y s t Q R e more here (inr q) = inr (more q)
met_next x y s t Q R e more here (inl i) = go (subst (λ l. In x l) e i)
  where
    go : (x ≡ y) ⊎ In x t → In x t ⊎ R
    go (inl p) = inr (here p)
    go (inr j) = inl j

-- If nothing of a list is left, each of its items was met.
pub met_all : {A : Type 0} (x : A) (s : List A) (R : Type 0) → s ≡ [] → In x s ⊎ R → R
met_all x s R e (inr r) = r
met_all x s R e (inl i) = absurd (subst (λ l. In x l) e i)

pub ok_map : {A B : Type 0} (Q R : A → Type 0) (r : Result A B) → IfOk r Q → ((x : A) → Q x → R x) → IfOk r R
ok_map Q R (Ok x) h f = f x h
ok_map Q R (Err e) h f = h

grouped : (a b c : List FlushNote) → (a ++ b) ++ c ≡ a ++ (b ++ c)
grouped [] b c = refl
grouped (x ∷ a) b c = ap (λ l. x ∷ l) (grouped a b c)

-- The flushes of some steps, after one more flush.
pub among_next : (steps : ℕ → Bool) (old new fs : List FlushNote) (i : ℕ) (none : FlushNote) → i < length fs → new ≡ old ++ flush_among steps (get_or fs i none)
    → (all : List FlushNote) → old ++ flat_map (flush_among steps) (drop i fs) ≡ all → new ++ flat_map (flush_among steps) (drop (i + 1) fs) ≡ all
among_next steps old new fs i none lt e all h =
    ap (λ l. l ++ flat_map (flush_among steps) (drop (i + 1) fs)) e
    ∙ grouped old (flush_among steps (get_or fs i none)) (flat_map (flush_among steps) (drop (i + 1) fs))
    ∙ sym (ap (λ l. old ++ flat_map (flush_among steps) l) (drop_more fs i none lt))
    ∙ h

-- The flushes that are kept include each first flush after the store of a loose byte of the line.
pub thin : (ws : List (Waiting Part)) (j : ℕ) (fs kept : List FlushNote) (steps : ℕ → Bool) → kept ≡ flat_map (flush_among steps) fs
    → ((x : LooseByte) → In x (loose_from ws (LINE_SIZE * j) LINE_SIZE) → (f : FlushNote) → first_after x.tag fs ≡ Some f → steps f.step ≡ true) → IsThinned ws j fs kept
unfolding loose_of_line
thin ws j fs kept steps e h = record {
  ascend = λ a b k. subst (λ (l : List FlushNote). FlushesAscend a b l) (sym e) (fewer_flushes steps a b fs k);
  first = λ x i. ap (first_after x.tag) e ∙ first_stays steps x.tag fs (λ f q. h x i f q);
}
