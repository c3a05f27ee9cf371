-- A loose byte that is like the one before it does not change the group of its store.
use Rattle.std.proofs.Common.{◌≡◌, ℕ, Bool, true, false, cond, nat_eq, nat_lt, ◌&&◌, Option, Some, None, refl, sym, ap, ap₂, ◌∙◌, arith}
use Rattle.std.proofs.lemmas.Bool.Decides.{nat_tests}
use Rattle.std.specs.BTreeMap as tree
use Rattle.std.specs.BTreeMap.{BTreeMap}
use Rattle.std.specs.Ordering.{nat_cmp}
use Rattle.hip_lines.specs.declared.part.LooseByte.{LooseByte}
use Rattle.hip_ledger.specs.CheckGroups.{AddsByte, ChangeAlike, RepeatsLast, StaysWith, StaysWithLast, flush_stated, joined, later_note}
use Rattle.hip_ledger.specs.Pending.{first_after, flushes_in}
use Rattle.hip_ledger.specs.declared.checks.Group.{Group}
use Rattle.hip_ledger.specs.declared.pending.FlushNote.{FlushNote}
use Rattle.hip_ledger.specs.declared.pending.LineNote.{LineNote}

-- ---- a byte that is added twice

and_same : (a b : Bool) → (a && b) && b ≡ a && b
and_same true true = refl
and_same true false = refl
and_same false b = refl

one_same : (a : Bool) → a && a ≡ a
one_same true = refl
one_same false = refl

either : (t : Bool) (x : Option FlushNote) → cond t x x ≡ x
either true x = refl
either false x = refl

later_one : (l : Option FlushNote) → later_note l l ≡ l
later_one None = refl
later_one (Some a) = either (nat_lt a.step a.step) (Some a)

later_same : (o l : Option FlushNote) → later_note (later_note o l) l ≡ later_note o l
later_same None l = later_one l
later_same (Some a) None = refl
later_same (Some a) (Some b) = go (nat_lt a.step b.step) refl
  where
    go : (t : Bool) → nat_lt a.step b.step ≡ t → later_note (cond t (Some b) (Some a)) (Some b) ≡ cond t (Some b) (Some a)
    go true e = later_one (Some b)
    go false e = ap (λ t. cond t (Some b) (Some a)) e

group_is : Bool → Option FlushNote → Group
group_is f l = record { flushed = f; latest = l }

joined_twice : (f : Bool) (l : Option FlushNote) (o : Option Group) → joined f l (Some (joined f l o)) ≡ joined f l o
unfolding group_is
joined_twice f l None = ap₂ group_is (one_same f) (later_one l)
joined_twice f l (Some g) = ap₂ group_is (and_same g.flushed f) (later_same g.latest l)

-- ---- bytes that are alike

module _ (lines : ℕ → Option LineNote) where
  alike_flush : (a b : LooseByte) → ChangeAlike a b → flush_stated lines a ≡ flush_stated lines b
  alike_flush a b h = ap₂ (λ (t k : ℕ). first_after t (flushes_in (lines k))) h.tag h.line

  stays_alike : (groups : BTreeMap ℕ Group) (a b : LooseByte) → ChangeAlike a b → StaysWith lines groups a → StaysWith lines groups b
  stays_alike groups a b h s = record {
    group = s.group;
    there = ap (λ (t : ℕ). tree.get nat_cmp groups t) (sym h.tag) ∙ s.there;
    same = ap₂ (λ (f : Bool) (l : Option FlushNote). joined f l (Some s.group)) (sym h.flushed) (sym (alike_flush a b h)) ∙ s.same;
  }

  -- The last byte stays, so one that is like it stays too.
  pub repeated : (groups : BTreeMap ℕ Group) (last : Option LooseByte) (b : LooseByte) → RepeatsLast last b → StaysWithLast lines groups last → StaysWith lines groups b
  repeated groups None b h s = absurd h
  repeated groups (Some a) b h s = stays_alike groups a b h s

  -- The groups are as after one more byte.
  pub stays_added : (groups : BTreeMap ℕ Group) (b : LooseByte) → StaysWith lines groups b → AddsByte lines groups groups b
  stays_added groups b s tag = go (nat_eq b.tag tag) refl
    where
      go : (t : Bool) → nat_eq b.tag tag ≡ t → tree.get nat_cmp groups tag ≡ cond t (Some (joined b.flushed (flush_stated lines b) (tree.get nat_cmp groups tag))) (tree.get nat_cmp groups tag)
      go false e = refl
      go true e =
          let q : b.tag ≡ tag = grind (arith, nat_tests) in
          let at : tree.get nat_cmp groups tag ≡ Some s.group = ap (λ (t : ℕ). tree.get nat_cmp groups t) (sym q) ∙ s.there in
          at ∙ sym (ap (λ (o : Option Group). Some (joined b.flushed (flush_stated lines b) o)) at ∙ ap (λ (x : Group). Some x) s.same)

  -- ---- a byte that is joined

  module _ (old new : BTreeMap ℕ Group) (b : LooseByte) (flush : Option FlushNote) (is : flush ≡ flush_stated lines b)
      (here : tree.get nat_cmp new b.tag ≡ Some (joined b.flushed flush (tree.get nat_cmp old b.tag)))
      (others : (t : ℕ) → (t ≡ b.tag → ⊥) → tree.get nat_cmp new t ≡ tree.get nat_cmp old t) where
    pub joined_added : AddsByte lines old new b
    joined_added tag = go (nat_eq b.tag tag) refl
      where
        go : (t : Bool) → nat_eq b.tag tag ≡ t → tree.get nat_cmp new tag ≡ cond t (Some (joined b.flushed (flush_stated lines b) (tree.get nat_cmp old tag))) (tree.get nat_cmp old tag)
        go false e = others tag (λ q. let y : nat_eq b.tag tag ≡ true = (let w : b.tag ≡ tag = sym q in grind (arith, nat_tests)) in let z : ⊥ = cc in z)
        go true e =
            let q : b.tag ≡ tag = grind (arith, nat_tests) in
            ap (λ (t : ℕ). tree.get nat_cmp new t) (sym q) ∙ here
            ∙ ap₂ (λ (l : Option FlushNote) (t : ℕ). Some (joined b.flushed l (tree.get nat_cmp old t))) is q

    pub joined_stays : StaysWith lines new b
    joined_stays = record {
      group = joined b.flushed flush (tree.get nat_cmp old b.tag);
      there = here;
      same = ap (λ (l : Option FlushNote). joined b.flushed l (Some (joined b.flushed flush (tree.get nat_cmp old b.tag)))) (sym is) ∙ joined_twice b.flushed flush (tree.get nat_cmp old b.tag);
    }
