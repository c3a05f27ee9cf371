use Rattle.std.proofs.Common.{◌≡◌, ◌/◌, ◌<◌, ◌^◌, ◌∙◌, inl, inr, arith, refl, rules, subst, sym, true}
use Rattle.std.specs.Prelude.{IsSome}
use Rattle.std.specs.BTreeSet as bag
use Rattle.std.specs.Ordering.{nat_cmp}
use Rattle.hip_lines.specs.declared.part.LooseByte.{LooseByte}
use Rattle.hip_types.specs.declared.areas.TheConstants.{LINE_SIZE}
use Rattle.hip_runs.specs.StoredParts.Parts.{In}
use Rattle.hip_ledger.specs.Noted.{MayThin}
use Rattle.hip_ledger.specs.Pending.{lines_of}
use Rattle.hip_ledger.proofs.LoosePlaces.{byte_at, in_bytes}
use Rattle.hip_ledger.proofs.Thinning.{met_next}
use Rattle.hip_ledger.proofs.forget.needed_in.Goals as goal

pub bytes-init : goal.bytes-init
bytes-init c =
    let ws = c.args.lines.now.lines in
    let is = c.into_iter-byte-iterator.ensures.into_iter_gives ∙ c.not_durable-byte-items.ensures in
    record {
      low = λ x i.
          let r = in_bytes ws 0 c.args.region x (subst (λ s. In x s) is i) in
          let off = byte_at ws r.0 x r.3 in
          omega (arith, off, r.2);
      last_tag = λ t e. absurd (let z : ⊥ = cc in z);
      last_line = λ j e. absurd (let z : ⊥ = cc in z);
      tags = λ x i. inl (subst (λ s. In x s) (sym is) i);
      there = λ x i. inl (subst (λ s. In x s) (sym is) i);
      lines = λ j. subst (λ o. MayThin ws j (lines_of c.args.notes.now j) o) (sym (c.no_lines.ensures j)) tt;
    }

pub meet_line-requires-clause-line : goal.meet_line-requires-clause-line
meet_line-requires-clause-line c =
    let byte = c.in-Some.byte in
    let lt = c.bytes.invariant.low byte (subst (λ s. In byte s) (sym c.in-Some.ensures.steps) (inl refl)) in
    let r = c.requires.region in
    let small : c.args.region < 2 ^ 64 = search rules in
    (omega (arith, lt, r), omega (arith, small, r))

pub bytes-preserved : goal.bytes-preserved
bytes-preserved c =
    let byte = c.in-Some.byte in
    let steps = c.in-Some.ensures.steps in
    let before = c.bytes.invariant in
    record {
      last_tag = λ t e. (let same : byte.tag ≡ t = cc in subst (λ i. bag.contains nat_cmp c.meet_tag.new.tags i ≡ true) same c.in_ok-meet_tag.ensures.here);
      last_line = λ j e. (let same : byte.offset / 64 ≡ j = cc in subst (λ i. IsSome (lines_of c.args.notes.now i) → IsSome (lines_of c.meet_line.new.kept i)) same c.in_ok-meet_line.ensures.kept.here);
      low = λ x i. before.low x (subst (λ s. In x s) (sym steps) (inr i));
      tags = λ x i. met_next x byte _ _ _ _ steps (c.in_ok-meet_tag.ensures.others x.tag)
          (λ p. subst (λ (y : LooseByte). bag.contains nat_cmp c.meet_tag.new.tags y.tag ≡ true) (sym p) c.in_ok-meet_tag.ensures.here) (before.tags x i);
      there = λ x i. met_next x byte _ _ _ _ steps (λ f some. c.in_ok-meet_line.ensures.kept.others (x.offset / LINE_SIZE) (f some))
          (λ p. subst (λ (y : LooseByte). IsSome (lines_of c.args.notes.now (y.offset / LINE_SIZE)) → IsSome (lines_of c.meet_line.new.kept (y.offset / LINE_SIZE))) (sym p) c.in_ok-meet_line.ensures.kept.here)
          (before.there x i);
      lines = c.in_ok-meet_line.ensures.new;
    }
