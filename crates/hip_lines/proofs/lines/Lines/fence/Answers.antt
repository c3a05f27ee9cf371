use Rattle.std.proofs.Common.{◌≡◌, ◌<◌, arith, refl, sym, ap, ◌∙◌, length, subst, List, ℕ, [], ◌∷◌, Bool, true, false, ◌==◌, suc}
use Rattle.std.proofs.lemmas.Bool.Decides.{nat_tests}
use Rattle.hip_lines.specs.Parts.{Held, pending_fenced_all}
use Rattle.hip_lines.specs.Kept.{ListsFlushed}
use Rattle.hip_lines.proofs.Helds.{held-same_length, lines-fenced, listed-fenced, fence-changes, none_listed}
use Rattle.hip_lines.proofs.lines.Lines.fence.Goals as goal

not_empty : (xs : List ℕ) (n : ℕ) (b : Bool) → n ≡ length xs → b ≡ (n == 0) → b ≡ false → 0 < length xs
not_empty xs n b e f g = grind (arith, nat_tests)

is_nil : (xs : List ℕ) (n : ℕ) (b : Bool) → n ≡ length xs → b ≡ (n == 0) → b ≡ true → xs ≡ []
is_nil [] n b e f g = refl
is_nil (x ∷ xs) n b e f g = absurd (zero_not (suc (length xs)) (grind (arith, nat_tests)) (omega arith))
  where
    zero_not : (k : ℕ) → k ≡ 0 → 0 < k → ⊥
    zero_not k z p = omega arith

pub invariant_of-self : goal.invariant_of-self
invariant_of-self c = record {
  small = c.self.invariant.small;
  below = c.fence_in.ensures.below c.self.inside.count c.self.invariant.below;
  flushed = listed-fenced _ c.self.inside.queues c.fence_in.new.queues c.clear.ensures.items c.fence_in.ensures.pending;
  spare = omega (arith, c.fence_in.ensures.count, c.self.invariant.spare, c.clear.ensures.capacity);
  room = tt;
}

pub returns-then-not-is_empty-clause-lines : goal.returns-then-not-is_empty-clause-lines
returns-then-not-is_empty-clause-lines c = lines-fenced c.self.inside.count c.self.inside.queues c.fence_in.new.queues c.fence_in.ensures.pending ∙ ap pending_fenced_all (ap (λ (h : Held). h.lines) c.self.view_is)

pub returns-then-not-is_empty-clause-room : goal.returns-then-not-is_empty-clause-room
returns-then-not-is_empty-clause-room c = record {
  unchanged = λ e. absurd (fence-changes c.self.inside.count c.self.inside.flushed.items c.self.inside.queues c.fence_in.new.queues c.self.invariant.flushed c.self.invariant.below (omega (arith, not_empty c.self.inside.flushed.items c.self.inside.flushed.len c.is_empty.result c.self.inside.flushed.ok.0 c.is_empty.ensures c.if-not-is_empty.true)) c.fence_in.ensures.pending (e ∙ sym (ap (λ (h : Held). h.lines) c.self.view_is)));
  changed = λ _. refl;
}

pub returns-else-not-is_empty-clause-lines : goal.returns-else-not-is_empty-clause-lines
returns-else-not-is_empty-clause-lines c =
    sym (ap (λ (h : Held). h.lines) c.self.view_is)
    ∙ lines-fenced c.self.inside.count c.self.inside.queues c.self.inside.queues (none_listed c.self.inside.queues (subst (λ (xs : List ℕ). ListsFlushed xs c.self.inside.queues) (is_nil c.self.inside.flushed.items c.self.inside.flushed.len c.is_empty.result c.self.inside.flushed.ok.0 c.is_empty.ensures c.if-not-is_empty.false) c.self.invariant.flushed))
    ∙ ap pending_fenced_all (ap (λ (h : Held). h.lines) c.self.view_is)

pub returns-then-not-is_empty-clause-length : goal.returns-then-not-is_empty-clause-length
returns-then-not-is_empty-clause-length c = held-same_length c.self.inside.count c.self.inside.queues c.fence_in.new.queues _ (ap (λ (h : Held). h.lines) c.self.view_is)
