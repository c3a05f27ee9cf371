-- No check needs what is dropped.
use Rattle.std.proofs.Common.{◌≡◌, ℕ, ◌*◌, ◌/◌, ◌<◌, true, List, length, Option, Some, None, option_map, refl, sym, ap, ◌∙◌, subst, arith}
use Rattle.std.specs.Prelude.{IsSome, is_some}
use Rattle.hip_tree.specs.declared.program.Program.{Program}
use Rattle.hip_lines.specs.Laws.LooseLaws.{get-below}
use Rattle.hip_lines.specs.declared.part.LooseByte.{LooseByte}
use Rattle.hip_types.specs.declared.areas.TheConstants.{LINE_SIZE}
use Rattle.hip_runs.specs.State.{StorePart}
use Rattle.hip_runs.specs.Step.{run}
use Rattle.hip_runs.specs.StoredParts.Parts.{In}
use Rattle.hip_runs.specs.StoredParts.Shown.{shown}
use Rattle.hip_runs.specs.declared.input.Input.{Input}
use Rattle.hip_ledger.specs.Noted.{IsLetGo, loose_of_line, MayThin}
use Rattle.hip_ledger.specs.Pending.{first_after, FlushesAscend, lines_of, note_of, StoresAscend}
use Rattle.hip_ledger.specs.Sufficiency.{flush_of, StoreIsKept, IsLooseAt, TellsLoose}
use Rattle.hip_ledger.specs.declared.pending.LineNote.{LineNote}
use Rattle.hip_ledger.specs.declared.pending.Pending.{Pending}
use Rattle.hip_ledger.specs.declared.pending.StoreNote.{StoreNote}
use Rattle.hip_ledger.proofs.LoosePlaces.{byte_of_part}
use Rattle.hip_ledger.proofs.NoteLists.{fewer_stores, stays_there}

module _ (P : Program) (I : Input) (n header region : ℕ) (whole : region ≡ 64 * length (run P I n).lines)
    (old new : Pending) (t : TellsLoose P I n header old.stores.items (lines_of old.lines)) (go : IsLetGo (shown (run P I n).lines) region old new) where
  thin_flushes : (j : ℕ) (l' : LineNote) (o : Option LineNote) → lines_of old.lines j ≡ o → MayThin (shown (run P I n).lines) j o (Some l') → FlushesAscend 0 n l'.flushes
  thin_flushes j l' None e h = absurd h
  thin_flushes j l' (Some l) e h = h.1.ascend 0 n (t.flushes j l e)

  flushes_kept : (j : ℕ) (l' : LineNote) → lines_of new.lines j ≡ Some l' → FlushesAscend 0 n l'.flushes
  flushes_kept j l' e = thin_flushes j l' (lines_of old.lines j) refl (subst (λ (o : Option LineNote). MayThin (shown (run P I n).lines) j (lines_of old.lines j) o) e (go.lines j))

  -- The note of a line that has a loose byte is kept, perhaps with fewer flushes.
  line_kept : (j : ℕ) (l : LineNote) → lines_of old.lines j ≡ Some l → IsSome (lines_of new.lines j)
      → (l' : LineNote) × (lines_of new.lines j ≡ Some l') × MayThin (shown (run P I n).lines) j (Some l) (Some l')
  line_kept j l e some = by (lines_of new.lines j) refl some
    where
      by : (o : Option LineNote) → lines_of new.lines j ≡ o → IsSome o → (l' : LineNote) × (lines_of new.lines j ≡ Some l') × MayThin (shown (run P I n).lines) j (Some l) (Some l')
      by None q s = absurd (let z : ⊥ = cc in z)
      by (Some l') q s = (
        l',
        q,
        subst (λ (o : Option LineNote). MayThin (shown (run P I n).lines) j o (Some l')) e
            (subst (λ (o : Option LineNote). MayThin (shown (run P I n).lines) j (lines_of old.lines j) o) q (go.lines j)),
      )

  -- If a byte is loose by a part, its line has a loose byte with the step of the part.
  in_its_line : (b k : ℕ) (x : StorePart) → IsLooseAt (run P I n).lines b k x
      → (y : LooseByte) × In y (loose_of_line (shown (run P I n).lines) (b / LINE_SIZE)) × (y.tag ≡ x.step)
  unfolding loose_of_line
  in_its_line b k x h = let r = byte_of_part P I n (64 * (b / 64)) 64 b k x h (omega arith) (omega arith) in (r.0, r.1, r.3)

  still_kept : (b k : ℕ) (x : StorePart) → IsLooseAt (run P I n).lines b k x → StoreIsKept I header old.stores.items (lines_of old.lines) b x
      → StoreIsKept I header new.stores.items (lines_of new.lines) b x
  still_kept b k x h kept =
      let lt : b / 64 < length (run P I n).lines = get-below (run P I n).lines (b / 64) h.line h.line_at in
      let r = byte_of_part P I n 0 region b k x h (omega arith) (omega (arith, lt, whole)) in
      let near = in_its_line b k x h in
      let tag : go.tags x.step ≡ true = sym (ap go.tags r.3) ∙ go.stated r.0 r.1 in
      let at : IsSome (lines_of old.lines (r.0.offset / LINE_SIZE)) = subst (λ i. IsSome (lines_of old.lines (i / LINE_SIZE))) (sym r.2) (ap is_some kept.line_there) in
      let now = line_kept (b / LINE_SIZE) kept.line kept.line_there (subst (λ i. IsSome (lines_of new.lines (i / LINE_SIZE))) r.2 (go.there r.0 r.1 at)) in
      let first : first_after x.step now.0.flushes ≡ first_after x.step kept.line.flushes =
      subst (λ i. first_after i now.0.flushes ≡ first_after i kept.line.flushes) near.2 (now.2.1.first near.0 near.1) in
      record {
        note = kept.note;
        there = ap (λ (ns : List StoreNote). note_of ns x.step) go.stores ∙ stays_there go.tags x.step tag old.stores.items ∙ kept.there;
        tag = kept.tag;
        site = kept.site;
        calls = kept.calls;
        entry = kept.entry;
        line = now.0;
        line_there = now.1;
        flush = ap (option_map flush_of) first ∙ kept.flush;
        flushed = λ z. subst (λ o. IsSome o) (sym first) (kept.flushed (sym now.2.0 ∙ z));
      }

  pub let_go : TellsLoose P I n header new.stores.items (lines_of new.lines)
  let_go = record {
    stores = subst (λ (ns : List StoreNote). StoresAscend 0 n ns) (sym go.stores) (fewer_stores go.tags 0 n old.stores.items t.stores);
    flushes = flushes_kept;
    kept = λ b k x h. still_kept b k x h (t.kept b k x h);
  }
