-- The recent marks were met, and remain so.
use Rattle.std.proofs.Common.{◌≡◌, ◌⊎◌, inl, inr, ℕ, Bool, true, cond, nat_eq, List, [], ◌∷◌, ◌++◌, Option, Some, slice_get, refl, sym, ap, ◌∙◌}
use Rattle.std.specs.List.{list_any}
use Rattle.hip_types.specs.Distinct.{met}
use Rattle.hip_types.specs.Laws.DistinctLaws.{met-first, met-second, or_first}
use Rattle.hip_runs.specs.Found.Marks.{same_mark, unless_ended}
use Rattle.hip_runs.specs.Laws.Found.FoundLaws.{mark_same, met-append, same_mark-equivalence}
use Rattle.hip_runs.specs.declared.event.Event.{Event}
use Rattle.hip_runs.specs.declared.event.Event.TheVariants as events
use Rattle.hip_runs.specs.declared.report.Mark.{Mark}
use Rattle.hip_ledger.specs.MetMarks.{AreMet}
use Rattle.hip_ledger.specs.Sights.{AddAlike}

-- An item that was met adds nothing.
pub met_known : {A : Type 0} (same : A → A → Bool) (xs : List A) (y : A) → list_any (same y) xs ≡ true → met same xs (y ∷ []) ≡ xs
met_known same xs y e = ap (λ t. cond t xs (xs ++ y ∷ [])) e

-- ---- marks

-- A mark that was met adds nothing to any marks after those that were met.
pub known_adds : (before ms : List Mark) (m : Mark) → list_any (same_mark m) before ≡ true → AddAlike before ms (ms ++ m ∷ [])
known_adds before ms m e =
    sym (met-append same_mark before ms (m ∷ []) ∙ met_known same_mark (met same_mark before ms) m (met-first same_mark-equivalence m before ms e))

pub more_alike : (before xs ys zs : List Mark) → AddAlike before xs ys → AddAlike before (xs ++ zs) (ys ++ zs)
more_alike before xs ys zs e =
    met-append same_mark before xs zs ∙ ap (λ (ms : List Mark). met same_mark ms zs) e ∙ sym (met-append same_mark before ys zs)

pub unless_alike : (e : Event) (before xs ys : List Mark) → AddAlike before xs ys → AddAlike before (unless_ended e xs) (unless_ended e ys)
unless_alike (events.End x) before xs ys h = refl
unless_alike events.Quiet before xs ys h = h
unless_alike (events.Print z) before xs ys h = h
unless_alike (events.Store a v m) before xs ys h = h
unless_alike (events.Flush l s) before xs ys h = h
unless_alike (events.Persist l s) before xs ys h = h
unless_alike events.Fence before xs ys h = h
unless_alike (events.Assert a m) before xs ys h = h

-- ---- what is at hand after a mark was met

pub met_at_hand : (before after : List Mark) (recent recent' : List (Option Mark)) (mark : Mark) → AreMet before recent
    → after ≡ met same_mark before (mark ∷ [])
    → ((i : ℕ) → (m : Mark) → slice_get recent' i ≡ Some (Some m) → (m ≡ mark) ⊎ (slice_get recent i ≡ Some (Some m)))
    → AreMet after recent'
met_at_hand before after recent recent' mark known is h i m e = by (h i m e)
  where
    all : list_any (same_mark m) (met same_mark before (mark ∷ [])) ≡ true → list_any (same_mark m) after ≡ true
    all q = ap (list_any (same_mark m)) is ∙ q

    by : (m ≡ mark) ⊎ (slice_get recent i ≡ Some (Some m)) → list_any (same_mark m) after ≡ true
    by (inl same) = all (met-second same_mark-equivalence m before (mark ∷ []) (or_first _ _ (mark_same m mark same)))
    by (inr q) = all (met-first same_mark-equivalence m before (mark ∷ []) (known i m q))

pub at_hand_adds : (before ms : List Mark) (recent : List (Option Mark)) (m : Mark) → AreMet before recent
    → (i : ℕ) × (slice_get recent i ≡ Some (Some m)) → AddAlike before ms (ms ++ m ∷ [])
at_hand_adds before ms recent m known h = known_adds before ms m (known h.0 m h.1)

-- ---- globals

pub hit_known : (hs : List ℕ) (g : ℕ) → list_any (nat_eq g) hs ≡ true → met nat_eq hs (g ∷ []) ≡ hs
hit_known hs g e = met_known nat_eq hs g e
