use Rattle.std.proofs.Common.{◌≡◌, Some, subst, sym, true}
use Rattle.std.specs.BTreeSet as bag
use Rattle.std.specs.Ordering.{nat_cmp}
use Rattle.hip_lines.specs.declared.part.LooseByte.{LooseByte}
use Rattle.hip_ledger.specs.Pending.{first_after}
use Rattle.hip_ledger.specs.declared.pending.FlushNote.{FlushNote}
use Rattle.hip_ledger.proofs.Thinning.{met_all, met_next}
use Rattle.hip_ledger.proofs.forget.steps_in.Goals as goal

pub bytes-preserved : goal.bytes-preserved
bytes-preserved c = record {
  met = λ x i. met_next x c.in-Some.byte _ _ _ _ c.in-Some.ensures.steps (λ h f e. c.in_ok-meet_flush.ensures.others f.step (h f e))
      (λ p. subst (λ (y : LooseByte). (f : FlushNote) → first_after y.tag c.args.flushes.now ≡ Some f → bag.contains nat_cmp c.meet_flush.new.steps f.step ≡ true) (sym p) c.in_ok-meet_flush.ensures.here)
      (c.bytes.invariant.met x i);
}

pub returns : goal.returns
returns c x i f e = met_all x c.bytes.byte-iterator ((f : FlushNote) → first_after x.tag c.args.flushes.now ≡ Some f → bag.contains nat_cmp c.bytes.steps f.step ≡ true) c.in-None.ensures.steps.0 (c.bytes.invariant.met x i) f e
