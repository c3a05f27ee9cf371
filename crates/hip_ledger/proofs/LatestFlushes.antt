-- The latest of some flushes.
use Rattle.std.proofs.Common.{◌≡◌, ◌⊎◌, inl, inr, ◌<◌, ◌≤◌, Bool, true, false, cond, nat_lt, List, [], ◌∷◌, Option, Some, None, option_map, refl, sym, ap, ◌∙◌, subst, arith}
use Rattle.std.proofs.lemmas.Bool.Decides.{nat_tests}
use Rattle.hip_runs.specs.Found.Reports.{LoosePart, later_flush, latest_flush}
use Rattle.hip_runs.specs.State.{Flush}
use Rattle.hip_runs.specs.StoredParts.Parts.{In}

-- Of the flushes that meet M, each of which may be none, this is a latest one.
pub record IsLatest (M : Option Flush → Type 0) (o : Option Flush) : Type 0 where
  pub is : (f : Flush) → o ≡ Some f → M (Some f)
  pub most : (f : Flush) → M (Some f) → (g : Flush) × (o ≡ Some g) × (f.step ≤ g.step)

same_some : (f g : Flush) → Some f ≡ Some g → f ≡ g
same_some f g e = cc

pub alone : (o : Option Flush) → IsLatest (λ z. o ≡ z) o
alone o = record { is = λ f e. e; most = λ f e. (f, e, omega arith) }

pub none_latest : IsLatest (λ z. ⊥) None
none_latest = record { is = λ f e. (let z : ⊥ = cc in z); most = λ f h. absurd h }

pub widened : (M N : Option Flush → Type 0) (o : Option Flush) → ((z : Option Flush) → M z → N z) → ((z : Option Flush) → N z → M z)
    → IsLatest M o → IsLatest N o
widened M N o to from h = record { is = λ f e. to (Some f) (h.is f e); most = λ f m. h.most f (from (Some f) m) }

pub joined : (M N : Option Flush → Type 0) (a b : Option Flush) → IsLatest M a → IsLatest N b
    → IsLatest (λ z. M z ⊎ N z) (later_flush a b)
joined M N None b h k = record { is = λ f e. inr (k.is f e); most = λ f m. go f m }
  where
    go : (f : Flush) → M (Some f) ⊎ N (Some f) → (g : Flush) × (b ≡ Some g) × (f.step ≤ g.step)
    go f (inl m) = absurd (let r = h.most f m in let q = r.1 in let z : ⊥ = cc in z)
    go f (inr m) = k.most f m
joined M N (Some a) None h k = record { is = λ f e. inl (h.is f e); most = λ f m. go f m }
  where
    go : (f : Flush) → M (Some f) ⊎ N (Some f) → (g : Flush) × (Some a ≡ Some g) × (f.step ≤ g.step)
    go f (inl m) = h.most f m
    go f (inr m) = absurd (let r = k.most f m in let q = r.1 in let z : ⊥ = cc in z)
joined M N (Some a) (Some b) h k = by (nat_lt a.step b.step) refl
  where
    first : (f : Flush) → M (Some f) → f.step ≤ a.step
    first f m = let r = h.most f m in let q : r.0 ≡ a = sym (same_some a r.0 r.1) in let le = r.2 in subst (λ (g : Flush). f.step ≤ g.step) q le

    second : (f : Flush) → N (Some f) → f.step ≤ b.step
    second f m = let r = k.most f m in let q : r.0 ≡ b = sym (same_some b r.0 r.1) in let le = r.2 in subst (λ (g : Flush). f.step ≤ g.step) q le

    by : (t : Bool) → nat_lt a.step b.step ≡ t → IsLatest (λ z. M z ⊎ N z) (cond t (Some b) (Some a))
    by true e = record { is = λ f q. inr (k.is f q); most = λ f m. (b, refl, go f m) }
      where
        go : (f : Flush) → M (Some f) ⊎ N (Some f) → f.step ≤ b.step
        go f (inl m) = let le = first f m in let lt : a.step < b.step = grind (arith, nat_tests) in omega (arith, le, lt)
        go f (inr m) = second f m
    by false e = record { is = λ f q. inl (h.is f q); most = λ f m. (a, refl, go f m) }
      where
        go : (f : Flush) → M (Some f) ⊎ N (Some f) → f.step ≤ a.step
        go f (inl m) = first f m
        go f (inr m) = let le = second f m in let lt : b.step ≤ a.step = grind (arith, nat_tests) in omega (arith, le, lt)

-- Two latest flushes of the same set are at one site, if flushes of one step always are.
pub one_site : (M : Option Flush → Type 0) (o o' : Option Flush)
    → ((f g : Flush) → M (Some f) → M (Some g) → f.step ≡ g.step → f.site ≡ g.site)
    → IsLatest M o → IsLatest M o' → option_map (λ f. f.site) o ≡ option_map (λ f. f.site) o'
one_site M None None one h k = refl
one_site M None (Some g) one h k = absurd (let r = h.most g (k.is g refl) in let q = r.1 in let z : ⊥ = cc in z)
one_site M (Some f) None one h k = absurd (let r = k.most f (h.is f refl) in let q = r.1 in let z : ⊥ = cc in z)
one_site M (Some f) (Some g) one h k =
    let r = k.most f (h.is f refl) in
    let s = h.most g (k.is g refl) in
    let le : f.step ≤ g.step = subst (λ (x : Flush). f.step ≤ x.step) (sym (same_some g r.0 r.1)) r.2 in
    let ge : g.step ≤ f.step = subst (λ (x : Flush). g.step ≤ x.step) (sym (same_some f s.0 s.1)) s.2 in
    ap Some (one f g (h.is f refl) (k.is g refl) (omega (arith, le, ge)))

-- The first flush of one of the parts.
abbrev pub OfParts : List LoosePart → Option Flush → Type 0
OfParts ps z = (p : LoosePart) × In p ps × (p.part.first_flush ≡ z)

pub of_parts : (ps : List LoosePart) → IsLatest (OfParts ps) (latest_flush ps)
of_parts [] = record { is = λ f e. absurd (let z : ⊥ = cc in z); most = λ f m. absurd m.1 }
of_parts (p ∷ ps) = widened _ _ _ to from (joined (λ z. p.part.first_flush ≡ z) (OfParts ps) p.part.first_flush (latest_flush ps) (alone p.part.first_flush) (of_parts ps))
  where
    to : (z : Option Flush) → (p.part.first_flush ≡ z) ⊎ OfParts ps z → OfParts (p ∷ ps) z
    to z (inl e) = (p, inl refl, e)
    to z (inr r) = (r.0, inr r.1, r.2)

    from : (z : Option Flush) → OfParts (p ∷ ps) z → (p.part.first_flush ≡ z) ⊎ OfParts ps z
    from z r = go r.0 r.1 r.2
      where
        go : (q : LoosePart) → In q (p ∷ ps) → q.part.first_flush ≡ z → (p.part.first_flush ≡ z) ⊎ OfParts ps z
        go q (inl e) h = inl (ap (λ (x : LoosePart). x.part.first_flush) (sym e) ∙ h)
        go q (inr i) h = inr (q, i, h)
