-- The instructions at the sites that a state names.
use Rattle.std.proofs.Common.{◌≡◌, ◌⊎◌, inl, inr, ℕ, ◌<◌, ◌≤◌, Bool, true, false, ◌||◌, ◌/◌, Option, Some, slice_get, refl, sym, ap, ◌∙◌, subst, arith}
use Rattle.hip_tree.specs.Sites.{instr_of}
use Rattle.hip_tree.specs.declared.instr.Instr.{Instr}
use Rattle.hip_tree.specs.declared.program.Program.{Program}
use Rattle.hip_lines.specs.Line.{Line}
use Rattle.hip_runs.specs.declared.event.Event.{Event}
use Rattle.hip_runs.specs.declared.input.Input.{Input}
use Rattle.hip_runs.specs.Laws.OrderLaws.{stated_durable}
use Rattle.hip_runs.specs.StoredParts.Parts.{In, PartOf}
use Rattle.hip_runs.specs.StoredParts.Since.{fences, flushes, IsFirst, IsFirstFlush, IsPartIn, IsDurableIn}
use Rattle.hip_runs.specs.Laws.SinceLaws.{flush_stated}
use Rattle.hip_runs.specs.Sites.{is_flush_call, is_persist_call, HasSites}
use Rattle.hip_runs.specs.State.{Flush, StorePart}
use Rattle.hip_runs.specs.Step.{event, run}
use Rattle.hip_runs.specs.Laws.StoreLaws.{part-of_store}
use Rattle.hip_runs.specs.Laws.CallLaws.{calls_defined}
use Rattle.hip_runs.specs.Laws.Fits.{Stated, site_stated}
use Rattle.hip_runs.specs.Laws.LineOrder.{lines_well}
use Rattle.hip_runs.specs.Laws.Found.LooseBytes.{part_at}
use Rattle.hip_runs.specs.Laws.Members.{in_at}
use Rattle.hip_runs.specs.declared.event.Event.TheVariants as events

flush_of : (base j : ℕ) (e : Event) (o : Option Instr) → Stated e o → flushes base j e ≡ true
    → (is_flush_call o ≡ true) ⊎ ((is_persist_call o ≡ true) × (fences e ≡ true))
flush_of base j events.Quiet o t h = absurd (let z : ⊥ = cc in z)
flush_of base j (events.Print z) o t h = absurd (let z : ⊥ = cc in z)
flush_of base j (events.Store a v n) o t h = absurd (let z : ⊥ = cc in z)
flush_of base j (events.Flush l n) o t h = inl t.is
flush_of base j (events.Persist l n) o t h = inr (t.is, refl)
flush_of base j events.Fence o t h = absurd (let z : ⊥ = cc in z)
flush_of base j (events.Assert a n) o t h = absurd (let z : ⊥ = cc in z)
flush_of base j (events.End e) o t h = absurd (let z : ⊥ = cc in z)

module _ (P : Program) (I : Input) (n : ℕ) where
  first_of_part : (x : StorePart) (f : Flush) → PartOf (run P I n).lines x → x.first_flush ≡ Some f
      → IsFirst P I (x.offset / 64) x.step n f
  first_of_part x f i e = subst (IsFirstFlush P I (x.offset / 64) x.step n) e (flush_stated P I n x i)

  by_site : (x : StorePart) (f : Flush) → IsFirst P I (x.offset / 64) x.step n f
      → (is_flush_call (instr_of P f.site) ≡ true)
      ⊎ ((is_persist_call (instr_of P f.site) ≡ true) × (fences (event P I (run P I f.step)) ≡ true))
  by_site x f h =
      flush_of I.base (x.offset / 64) (event P I (run P I f.step)) (instr_of P f.site)
      (site_stated P I (run P I f.step) f.site h.site) h.flushed

  pub has_sites : HasSites P (run P I n)
  has_sites = record {
    store = λ x i.
        let o = part-of_store P I n x i in
        (subst (λ e. Stated e (instr_of P x.site)) o.stored (site_stated P I (run P I x.step) x.site o.site)).is;
    flush = λ x f i e. either _ _ (by_site x f (first_of_part x f i e));
    unfenced = λ m l k x f q g le e.
        let i = part_at (run P I n).lines m l x q (in_at l.parts k x g) in
        let h = first_of_part x f i e in
        alone m l k x f q g le h (by_site x f h);
    standing = calls_defined P I n;
    call = λ x v i j. calls_defined P I x.step v (subst (In v) (part-of_store P I n x i).levels j);
  }
    where
      either : (a b : Bool) {C : Type 0} → (a ≡ true) ⊎ ((b ≡ true) × C) → a || b ≡ true
      either true b h = refl
      either false b (inl e) = absurd (let z : ⊥ = cc in z)
      either false b (inr e) = e.0

      alone : (m : ℕ) (l : Line StorePart) (k : ℕ) (x : StorePart) (f : Flush)
          → slice_get (run P I n).lines m ≡ Some l
          → slice_get l.parts k ≡ Some x → l.durable ≤ k → IsFirst P I (x.offset / 64) x.step n f →
          (is_flush_call (instr_of P f.site) ≡ true)
          ⊎ ((is_persist_call (instr_of P f.site) ≡ true) × (fences (event P I (run P I f.step)) ≡ true))
          → is_flush_call (instr_of P f.site) ≡ true
      alone m l k x f q g le h (inl e) = e
      alone m l k x f q g le h (inr e) =
          let line : x.offset / 64 ≡ m = (lines_well P I n m l q).line k x g in
          let at : slice_get (run P I n).lines (x.offset / 64) ≡ Some l = ap (slice_get (run P I n).lines) line
          ∙ q in
          let d =
          stated_durable P I n (x.offset / 64) k x (subst (λ o. IsPartIn o k x) (sym at) g)
          (record {
            flush = f.step;
            fence = f.step;
            after = h.after;
            ordered = omega arith;
            before = h.before;
            flushed = h.flushed;
            fenced = e.1;
          }) in
          let lt : k < l.durable = (subst (λ o. IsDurableIn o k x) at d).1 in
          absurd (omega (arith, le, lt))
