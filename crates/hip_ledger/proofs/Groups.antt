-- What the loose bytes of a store show together.
use Rattle.std.proofs.Common.{◌≡◌, ◌⊎◌, inl, inr, ℕ, Bool, true, false, cond, not, ◌&&◌, ◌||◌, nat_eq, nat_lt, List, [], ◌∷◌, Option, Some, None, option_map, refl, sym, ap, ◌∙◌, subst, arith}
use Rattle.std.proofs.lemmas.Bool.Decides.{nat_tests}
use Rattle.hip_lines.specs.declared.part.LooseByte.{LooseByte}
use Rattle.hip_runs.specs.Found.Reports.{later_flush}
use Rattle.hip_runs.specs.Found.Tags.{tag_flushed}
use Rattle.hip_runs.specs.State.{Flush}
use Rattle.hip_runs.specs.StoredParts.Parts.{In}
use Rattle.hip_ledger.specs.CheckGroups.{flush_stated, group_from, joined, later_note}
use Rattle.hip_ledger.specs.Sufficiency.{flush_of}
use Rattle.hip_ledger.specs.declared.checks.Group.{Group}
use Rattle.hip_ledger.specs.declared.pending.FlushNote.{FlushNote}
use Rattle.hip_ledger.specs.declared.pending.LineNote.{LineNote}
use Rattle.hip_ledger.proofs.LatestFlushes as latest
use Rattle.hip_ledger.proofs.LatestFlushes.{IsLatest, alone, none_latest, widened}

later_is : (a b : Option FlushNote) → option_map flush_of (later_note a b) ≡ later_flush (option_map flush_of a) (option_map flush_of b)
later_is None b = refl
later_is (Some a) None = refl
later_is (Some a) (Some b) = go (nat_lt a.step b.step)
  where
    go : (t : Bool) → option_map flush_of (cond t (Some b) (Some a)) ≡ cond t (Some (flush_of b)) (Some (flush_of a))
    go true = refl
    go false = refl

module _ (lines : ℕ → Option LineNote) (tag : ℕ) where
  -- ---- whether all are flushed

  assoc : (x y z : Bool) → (x && y) && z ≡ x && (y && z)
  assoc true y z = refl
  assoc false y z = refl

  abbrev pub all_flushed_in : Option Group → Bool
  all_flushed_in None = true
  all_flushed_in (Some g) = g.flushed

  joined_flushed : (o : Option Group) (f : Bool) (l : Option FlushNote) → (joined f l o).flushed ≡ all_flushed_in o && f
  joined_flushed None f l = refl
  joined_flushed (Some g) f l = refl

  pub group_flushed : (bs : List LooseByte) (o : Option Group) (g : Group) → group_from lines tag o bs ≡ Some g
      → g.flushed ≡ all_flushed_in o && tag_flushed tag bs
  group_flushed [] None g e = absurd (let z : ⊥ = cc in z)
  group_flushed [] (Some h) g e = let q : h ≡ g = cc in sym (ap (λ (x : Group). x.flushed) q) ∙ sym (and_true h.flushed)
    where
      and_true : (t : Bool) → t && true ≡ t
      and_true true = refl
      and_true false = refl
  group_flushed (b ∷ bs) o g e = go (nat_eq b.tag tag) (λ q. group_flushed bs o g q) (λ q. group_flushed bs (Some (joined b.flushed (flush_stated lines b) o)) g q) e
    where
      go : (t : Bool) → (group_from lines tag o bs ≡ Some g → g.flushed ≡ all_flushed_in o && tag_flushed tag bs)
          → (group_from lines tag (Some (joined b.flushed (flush_stated lines b) o)) bs ≡ Some g → g.flushed ≡ (joined b.flushed (flush_stated lines b) o).flushed && tag_flushed tag bs)
          → group_from lines tag (cond t (Some (joined b.flushed (flush_stated lines b) o)) o) bs ≡ Some g
          → g.flushed ≡ all_flushed_in o && ((not t || b.flushed) && tag_flushed tag bs)
      go false skip take e = skip e
      go true skip take e = take e ∙ ap (λ t. t && tag_flushed tag bs) (joined_flushed o b.flushed (flush_stated lines b)) ∙ assoc (all_flushed_in o) b.flushed (tag_flushed tag bs)

  -- ---- the latest of the first flushes

  -- The first flush of one of the bytes of the store.
  abbrev pub OfBytes : List LooseByte → Option Flush → Type 0
  OfBytes bs z = (b : LooseByte) × In b bs × (b.tag ≡ tag) × (option_map flush_of (flush_stated lines b) ≡ z)

  abbrev latest_in : Option Group → Option FlushNote
  latest_in None = None
  latest_in (Some g) = g.latest

  joined_latest : (o : Option Group) (f : Bool) (l : Option FlushNote) → (joined f l o).latest ≡ later_note (latest_in o) l
  joined_latest None f l = refl
  joined_latest (Some g) f l = refl

  pub group_latest : (bs : List LooseByte) (o : Option Group) (g : Group) (M : Option Flush → Type 0) → IsLatest M (option_map flush_of (latest_in o))
      → group_from lines tag o bs ≡ Some g → IsLatest (λ z. M z ⊎ OfBytes bs z) (option_map flush_of g.latest)
  group_latest [] None g M h e = absurd (let z : ⊥ = cc in z)
  group_latest [] (Some x) g M h e = let q : x ≡ g = cc in subst (λ (y : Group). IsLatest (λ z. M z ⊎ OfBytes [] z) (option_map flush_of y.latest)) q (widened M (λ z. M z ⊎ OfBytes [] z) (option_map flush_of x.latest) (λ z m. inl m) from h)
    where
      from : (z : Option Flush) → M z ⊎ OfBytes [] z → M z
      from z (inl m) = m
      from z (inr r) = absurd r.1
  group_latest (b ∷ bs) o g M h e = go (nat_eq b.tag tag) refl (λ q. group_latest bs o g M h q)
      (λ q. group_latest bs (Some (joined b.flushed (flush_stated lines b) o)) g (λ z. M z ⊎ (option_map flush_of (flush_stated lines b) ≡ z)) with_it q) e
    where
      with_it : IsLatest (λ z. M z ⊎ (option_map flush_of (flush_stated lines b) ≡ z)) (option_map flush_of (joined b.flushed (flush_stated lines b) o).latest)
      with_it = subst (λ (y : Option Flush). IsLatest (λ z. M z ⊎ (option_map flush_of (flush_stated lines b) ≡ z)) y)
          (sym (later_is (latest_in o) (flush_stated lines b)) ∙ ap (option_map flush_of) (sym (joined_latest o b.flushed (flush_stated lines b))))
          (latest.joined M (λ z. option_map flush_of (flush_stated lines b) ≡ z) (option_map flush_of (latest_in o)) (option_map flush_of (flush_stated lines b)) h (alone (option_map flush_of (flush_stated lines b))))

      go : (t : Bool) → nat_eq b.tag tag ≡ t
          → (group_from lines tag o bs ≡ Some g → IsLatest (λ z. M z ⊎ OfBytes bs z) (option_map flush_of g.latest))
          → (group_from lines tag (Some (joined b.flushed (flush_stated lines b) o)) bs ≡ Some g → IsLatest (λ z. (M z ⊎ (option_map flush_of (flush_stated lines b) ≡ z)) ⊎ OfBytes bs z) (option_map flush_of g.latest))
          → group_from lines tag (cond t (Some (joined b.flushed (flush_stated lines b) o)) o) bs ≡ Some g
          → IsLatest (λ z. M z ⊎ OfBytes (b ∷ bs) z) (option_map flush_of g.latest)
      go false n skip take e = widened (λ z. M z ⊎ OfBytes bs z) (λ z. M z ⊎ OfBytes (b ∷ bs) z) (option_map flush_of g.latest) to from (skip e)
        where
          to : (z : Option Flush) → M z ⊎ OfBytes bs z → M z ⊎ OfBytes (b ∷ bs) z
          to z (inl m) = inl m
          to z (inr r) = inr (r.0, inr r.1, r.2, r.3)

          of_one : (z : Option Flush) (c : LooseByte) → In c (b ∷ bs) → c.tag ≡ tag → option_map flush_of (flush_stated lines c) ≡ z → OfBytes bs z
          of_one z c (inl q) k f = absurd (let w : b.tag ≡ tag = sym (ap (λ (x : LooseByte). x.tag) q) ∙ k in let y : nat_eq b.tag tag ≡ true = grind (arith, nat_tests) in let x : ⊥ = cc in x)
          of_one z c (inr i) k f = (c, i, k, f)

          from : (z : Option Flush) → M z ⊎ OfBytes (b ∷ bs) z → M z ⊎ OfBytes bs z
          from z (inl m) = inl m
          from z (inr r) = inr (of_one z r.0 r.1 r.2 r.3)
      go true n skip take e = widened (λ z. (M z ⊎ (option_map flush_of (flush_stated lines b) ≡ z)) ⊎ OfBytes bs z) (λ z. M z ⊎ OfBytes (b ∷ bs) z) (option_map flush_of g.latest) to from (take e)
        where
          is_tag : b.tag ≡ tag
          is_tag = grind (arith, nat_tests)

          to : (z : Option Flush) → (M z ⊎ (option_map flush_of (flush_stated lines b) ≡ z)) ⊎ OfBytes bs z → M z ⊎ OfBytes (b ∷ bs) z
          to z (inl (inl m)) = inl m
          to z (inl (inr q)) = inr (b, inl refl, is_tag, q)
          to z (inr r) = inr (r.0, inr r.1, r.2, r.3)

          of_one : (z : Option Flush) (c : LooseByte) → In c (b ∷ bs) → c.tag ≡ tag → option_map flush_of (flush_stated lines c) ≡ z → (M z ⊎ (option_map flush_of (flush_stated lines b) ≡ z)) ⊎ OfBytes bs z
          of_one z c (inl q) k f = inl (inr (ap (λ (x : LooseByte). option_map flush_of (flush_stated lines x)) (sym q) ∙ f))
          of_one z c (inr i) k f = inr (c, i, k, f)

          from : (z : Option Flush) → M z ⊎ OfBytes (b ∷ bs) z → (M z ⊎ (option_map flush_of (flush_stated lines b) ≡ z)) ⊎ OfBytes bs z
          from z (inl m) = inl (inl m)
          from z (inr r) = of_one z r.0 r.1 r.2 r.3

  -- The latest flush of a group is the latest of its bytes' first flushes.
  pub latest_of_bytes : (bs : List LooseByte) (g : Group) → group_from lines tag None bs ≡ Some g → IsLatest (OfBytes bs) (option_map flush_of g.latest)
  latest_of_bytes bs g e = widened (λ z. ⊥ ⊎ OfBytes bs z) (OfBytes bs) (option_map flush_of g.latest) to (λ z r. inr r) (group_latest bs None g (λ z. ⊥) none_latest e)
    where
      to : (z : Option Flush) → ⊥ ⊎ OfBytes bs z → OfBytes bs z
      to z (inl m) = absurd m
      to z (inr r) = r

  -- ---- whether there is a byte

  pub none_stated : (bs : List LooseByte) (o : Option Group) → ((b : LooseByte) → In b bs → b.tag ≡ tag → ⊥) → group_from lines tag o bs ≡ o
  none_stated [] o h = refl
  none_stated (b ∷ bs) o h = go (none_stated bs o (λ c i. h c (inr i))) (nat_eq b.tag tag) refl
    where
      go : group_from lines tag o bs ≡ o → (t : Bool) → nat_eq b.tag tag ≡ t → group_from lines tag (cond t (Some (joined b.flushed (flush_stated lines b) o)) o) bs ≡ o
      go rest false e = rest
      go rest true e = absurd (h b (inl refl) (grind (arith, nat_tests)))

  stays_some : (bs : List LooseByte) (g : Group) → (h : Group) × (group_from lines tag (Some g) bs ≡ Some h)
  stays_some [] g = (g, refl)
  stays_some (b ∷ bs) g = go (λ x. stays_some bs x) (nat_eq b.tag tag)
    where
      go : ((x : Group) → (h : Group) × (group_from lines tag (Some x) bs ≡ Some h)) → (t : Bool) → (h : Group) × (group_from lines tag (cond t (Some (joined b.flushed (flush_stated lines b) (Some g))) (Some g)) bs ≡ Some h)
      go rest true = rest (joined b.flushed (flush_stated lines b) (Some g))
      go rest false = rest g

  pub some_stated : (bs : List LooseByte) (o : Option Group) (b : LooseByte) → In b bs → b.tag ≡ tag → (h : Group) × (group_from lines tag o bs ≡ Some h)
  some_stated [] o b i e = absurd i
  some_stated (c ∷ bs) o b (inl q) e =
      let y : nat_eq c.tag tag ≡ true = (let w : c.tag ≡ tag = sym (ap (λ (x : LooseByte). x.tag) q) ∙ e in grind (arith, nat_tests)) in
      let r = stays_some bs (joined c.flushed (flush_stated lines c) o) in
      (r.0, ap (λ t. group_from lines tag (cond t (Some (joined c.flushed (flush_stated lines c) o)) o) bs) y ∙ r.1)
  some_stated (c ∷ bs) o b (inr i) e = some_stated bs (cond (nat_eq c.tag tag) (Some (joined c.flushed (flush_stated lines c) o)) o) b i e
