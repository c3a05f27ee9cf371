-- Notes of no steps.
use Rattle.std.proofs.Common.{◌≡◌, ℕ, ◌/◌, ◌≤◌, ◌^◌, Bool, true, List, [], Option, Some, None, slice_get, refl, sym, ap, ◌∙◌, subst, arith}
use Rattle.hip_tree.specs.declared.program.Program.{Program}
use Rattle.hip_lines.specs.Line.{Line}
use Rattle.hip_runs.specs.Found.Marks.{hit, pointed}
use Rattle.hip_runs.specs.Found.Reports.{reports}
use Rattle.hip_runs.specs.Laws.Members.{in_at}
use Rattle.hip_runs.specs.Laws.SinceLaws.{InLine, no_part}
use Rattle.hip_runs.specs.State.{StorePart}
use Rattle.hip_runs.specs.Step.{run}
use Rattle.hip_runs.specs.StoredParts.Order.{last_fence}
use Rattle.hip_runs.specs.declared.input.Input.{Input}
use Rattle.hip_ledger.specs.MetMarks.{AreMet, WereHit}
use Rattle.hip_ledger.specs.Noted.{IsLedger}
use Rattle.hip_ledger.specs.Pending.{lines_of, StoresAscend}
use Rattle.hip_ledger.specs.Sufficiency.{IsLooseAt, TellsLoose}
use Rattle.hip_ledger.specs.declared.ledger.Ledger.{Ledger}
use Rattle.hip_ledger.specs.declared.pending.LineNote.{LineNote}
use Rattle.hip_ledger.specs.declared.pending.StoreNote.{StoreNote}

none_loose : (P : Program) (I : Input) (b k : ℕ) (x : StorePart) → IsLooseAt (run P I 0).lines b k x → ⊥
unfolding run
none_loose P I b k x h = no_part _ (b / 64) x (subst (λ (o : Option (Line StorePart)). InLine o x) (sym h.line_at) (in_at h.line.parts k x h.loose.last_over.at))

tells_none : (P : Program) (I : Input) (header : ℕ) (notes : List StoreNote) (lines : ℕ → Option LineNote) → notes ≡ [] → ((j : ℕ) → lines j ≡ None) → TellsLoose P I 0 header notes lines
tells_none P I header notes lines e h = record {
  stores = subst (λ (ns : List StoreNote). StoresAscend 0 0 ns) (sym e) tt;
  flushes = λ j l q. absurd (let z : None ≡ Some l = sym (h j) ∙ q in let w : ⊥ = cc in w);
  kept = λ b k x l. absurd (none_loose P I b k x l);
}

-- An empty table flags no global.
pub none_hit : (hits : List ℕ) (flags : List Bool) → flags ≡ [] → WereHit hits flags
none_hit hits flags e = λ g is.
    let h : slice_get [] g ≡ Some true = sym (ap (λ (fs : List Bool). slice_get fs g) e) ∙ is in
    absurd (let z : ⊥ = cc in z)

pub blank : (c : Ledger) → c.header ≤ 2 ^ 64 → c.steps ≡ 0 → c.entries ≡ c.header → c.fence ≡ None → c.calls ≡ [] → c.pending.stores.items ≡ []
    → ((j : ℕ) → lines_of c.pending.lines j ≡ None) → c.marks.keys ≡ [] → AreMet [] c.recent.items → c.hit.keys ≡ [] → WereHit [] c.flags.items → c.reports ≡ [] → (P : Program) (I : Input) → IsLedger P I 0 c
unfolding run last_fence pointed hit reports
blank c h steps entries fence calls stores lines marks recent hits flags rs P I = record {
  steps = steps;
  counted = refl;
  entries = λ e. entries ∙ e;
  few = omega (arith, entries);
  header = h;
  fence = fence;
  calls = record { steps = 0; few = omega arith; are = calls };
  pending = tells_none P I c.header c.pending.stores.items (lines_of c.pending.lines) stores lines;
  marks = λ k. marks;
  recent = subst (λ ms. AreMet ms c.recent.items) (sym marks) recent;
  hit = λ k. hits;
  flags = subst (λ hs. WereHit hs c.flags.items) (sym hits) flags;
  reports = λ e. rs;
}
