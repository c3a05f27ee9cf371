-- After a repair at least as much is flushed and durable. So no byte becomes loose, and each byte that survived a crash
-- still survives one.
use Rattle.std.proofs.Common.{◌≡◌, ◌⊎◌, inl, inr, ℕ, zero, suc, ◌+◌, ◌≤◌, Bool, true, false, cond, List, [], ◌∷◌, map, Some, slice_get, refl, sym, ap, ◌∙◌, subst}
use Rattle.hip_tree.specs.declared.program.Program.{Program}
use Rattle.hip_tree.specs.declared.site.Site.{Site}
use Rattle.hip_lines.specs.Line.{Line, map_line}
use Rattle.hip_lines.specs.Laws.ImageLaws.{IsAhead, AreAhead}
use Rattle.hip_lines.specs.Laws.LooseLaws.{get-map}
use Rattle.hip_mem.specs.Memory.{byte_at}
use Rattle.hip_sound.specs.Laws.SoundExact.{sound-passes}
use Rattle.hip_sound.specs.Sound.{IsSound}
use Rattle.hip_runs.specs.Actions.{memory_of}
use Rattle.hip_runs.specs.State.{StorePart, State}
use Rattle.hip_runs.specs.Step.{run}
use Rattle.hip_runs.specs.Validity.{IsValid}
use Rattle.hip_runs.specs.declared.input.Input.{Input}
use Rattle.hip_repairs.specs.Harmless.{matched, stands_inserted}
use Rattle.hip_repairs.specs.Repaired.{repaired}
use Rattle.hip_repairs.specs.declared.plan.Plan.{Plan}
use Rattle.hip_repairs.proofs.Theorems.{repairs_do_no_harm}
use Rattle.hip_repairs.proofs.functions.Lookup.{sound_callable}
use Rattle.hip_repairs.proofs.simulation.Ahead.{Ahead}
use Rattle.hip_repairs.proofs.simulation.Facts.{Lines}
use Rattle.hip_repairs.proofs.simulation.Harm.{nothing_held, nothing_kept}
use Rattle.hip_repairs.proofs.simulation.Pairs.{Related, related}
use Rattle.hip_repairs.proofs.simulation.Sim.{follows}
use Rattle.hip_survival.specs.Kept.{IsAsDurable, LoosensNothing}
use Rattle.hip_survival.specs.Laws.SameStores.{loose_there}
use Rattle.hip_survival.specs.Laws.SeenLines.{content_of}

-- ---- lines that are ahead

module _ {P : Type 0} where
  ahead_at : (ls ls' : List (Line P)) (j : ℕ) (l l' : Line P) → AreAhead ls ls' → slice_get ls j ≡ Some l
      → slice_get ls' j ≡ Some l' → IsAhead l l'
  ahead_at [] [] j l l' a e e' = absurd (let h : ⊥ = cc in h)
  ahead_at (x ∷ ls) (x' ∷ ls') zero l l' a e e' =
      let p : x ≡ l = cc in
      let q : x' ≡ l' = cc in
      subst (λ z. IsAhead z l') p (subst (λ z. IsAhead x z) q a.0)
  ahead_at (x ∷ ls) (x' ∷ ls') (suc j) l l' a e e' = ahead_at ls ls' j l l' a.1 e e'
  ahead_at [] (x' ∷ ls') j l l' a e e' = absurd a
  ahead_at (x ∷ ls) [] j l l' a e e' = absurd a

lines_durable : (ls ls' : Lines) → Ahead ls ls' → (j : ℕ) (l l' : Line StorePart) → slice_get ls j ≡ Some l
    → slice_get ls' j ≡ Some l' → (l.flushed ≤ l'.flushed) × (l.durable ≤ l'.durable)
lines_durable ls ls' a j l l' e e' =
    let h = ahead_at (map (map_line content_of) ls) (map (map_line content_of) ls') j (map_line content_of l)
    (map_line content_of l') a (get-map (map_line content_of) ls j l e) (get-map (map_line content_of) ls' j l' e') in
    (h.flushed, h.durable)

-- ---- at corresponding states

module _ (P : Program) (plan : Plan) (skip : Site → Bool) where
  pair_durable : (I : Input) (size : ℕ) (s s' : State) → Related P plan skip I nothing_held size s s'
      → IsAsDurable s s'
  pair_durable I size s s' (related {ls = ls} {ls' = ls'} t r below a kept le) = lines_durable ls ls' a

pub as_durable : (P : Program) (plan : Plan) (skip : Site → Bool) → IsSound P → (I : Input) → IsValid P I
    → (n : ℕ) → IsAsDurable (run P I (matched P plan skip I n)) (run (repaired P plan skip) I n)
as_durable P plan skip s I v n =
    let f = follows P plan skip I (sound_callable P (sound-passes P s)) v nothing_held (nothing_kept P plan skip I) n in
    pair_durable P plan skip I f.size (run P I (matched P plan skip I n)) (run (repaired P plan skip) I n) f.pair

-- The number of the corresponding step begins with 0, and stays or grows by 1 at each step.
pub matched_onward : (P : Program) (plan : Plan) (skip : Site → Bool) (I : Input) (n : ℕ)
    → (matched P plan skip I (suc n) ≡ matched P plan skip I n)
    ⊎ (matched P plan skip I (suc n) ≡ suc (matched P plan skip I n))
unfolding matched
matched_onward P plan skip I n =
    by (stands_inserted P plan skip (run (repaired P plan skip) I n)) (matched P plan skip I n)
  where
    by : (b : Bool) (k : ℕ) → (cond b k (suc k) ≡ k) ⊎ (cond b k (suc k) ≡ suc k)
    by true k = inl refl
    by false k = inr refl

pub matched_first : (P : Program) (plan : Plan) (skip : Site → Bool) (I : Input) → matched P plan skip I 0 ≡ 0
unfolding matched
matched_first P plan skip I = refl

pub loosens_nothing : (P : Program) (plan : Plan) (skip : Site → Bool) → IsSound P → LoosensNothing P plan skip
loosens_nothing P plan skip s =
    let harmless = repairs_do_no_harm P plan skip s in
    record {
      durable = as_durable P plan skip s;
      loose = λ I v n b h.
          loose_there P (repaired P plan skip) I (matched P plan skip I) (matched_onward P plan skip I)
          (λ k. (harmless.matches I v k).lines) (as_durable P plan skip s I v) n b h;
      survives = λ I v n b h content image.
          let m = harmless.matches I v n in
          h content (m.images content image)
          ∙ ap (λ w. byte_at (memory_of P I w) (I.base + b)) (sym m.world);
    }
