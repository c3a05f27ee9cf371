-- A hoisted call has become a call of a clone of its callee with a fence directly after it.
use Rattle.std.proofs.Common.{◌≡◌, ℕ, zero, suc, ◌+◌, ◌<◌, Bool, true, false, List, [], ◌∷◌, ◌++◌, length, take, drop, Option, Some, slice_get, refl, sym, ap, ◌∙◌, subst, arith}
use Rattle.std.specs.List.{drop-map}
use Rattle.std.proofs.lemmas.Option.{slice_get_within}
use Rattle.hip_types.specs.declared.number.Scalar.{Scalar}
use Rattle.hip_tree.specs.Sites.{instr_of, has_site}
use Rattle.hip_tree.specs.declared.instr.Arg.{Arg}
use Rattle.hip_tree.specs.declared.instr.Instr.{Instr}
use Rattle.hip_tree.specs.declared.instr.Instr.TheVariants.{Call}
use Rattle.hip_tree.specs.declared.program.Program.{Program}
use Rattle.hip_tree.specs.declared.site.Site.{Site}
use Rattle.hip_sound.specs.NumberedNames.{function_number}
use Rattle.hip_sound.specs.Rules.{PassesVerifier}
use Rattle.hip_runs.specs.Places.{body_at}
use Rattle.hip_repairs.specs.declared.plan.Plan.{Plan}
use Rattle.hip_repairs.specs.Covered.{IsFenceCall, IsCallOf, repaired_place, IsFenced, IsHoisted, AreHoistsFenced}
use Rattle.hip_repairs.specs.Clones.{IsClone}
use Rattle.hip_repairs.specs.Harmless.{marked_body}
use Rattle.hip_repairs.specs.Repaired.{Marked, Clone, Wanted, the_fence, clone_name, inserted_after, wanted_by, clones_of, repaired, instrs_of, repaired_body}
use Rattle.hip_runs.specs.Laws.EndLaws.{drop_next}
use Rattle.hip_runs.specs.Laws.Members.{get_drop}
use Rattle.hip_repairs.proofs.functions.Blocks.{body_twin}
use Rattle.hip_repairs.specs.Laws.Callable.{instr_place, IsCallable}
use Rattle.hip_repairs.proofs.functions.Clones.{twin_of_clone}
use Rattle.hip_repairs.proofs.covered.Copies.{twin_is_clone}
use Rattle.hip_repairs.proofs.functions.Lookup.{sound_callable, number_there, plain_twin, calls_clone, hoisted_cloned}
use Rattle.hip_runs.specs.Laws.HistoryLaws.{instr_at_place}
use Rattle.hip_repairs.proofs.simulation.Sim.{or_right}
use Rattle.hip_repairs.proofs.functions.Twins.{Twin}

drop_over : {A : Type 0} (front xs ys : List A) → drop (length (front ++ xs)) (front ++ ys) ≡ drop (length xs) ys
drop_over [] xs ys = refl
drop_over (x ∷ front) xs ys = drop_over front xs ys

module _ (clones : List Clone) (w : Wanted) (clone : Bool) (f b : ℕ) where
  -- What the repaired body has for the instruction at a place, and after it.
  abbrev repaired_from : ℕ → Instr → List Instr → List Marked
  repaired_from k i is = repaired_body clones w clone f b k (i ∷ is)

  repaired_at : (k index at : ℕ) (is : List Instr) (i : Instr) → k + index ≡ at → slice_get is index ≡ Some i →
      (rest : List Instr) × (drop (length (repaired_body clones w clone f b k (take index is))) (repaired_body clones w clone f b k is) ≡ repaired_from at i rest)
  repaired_at k index at [] i e h = cc
  repaired_at k zero at (x ∷ is) i e h =
      let place : k ≡ at = omega arith in
      let same : x ≡ i = cc in
      (is, ap (λ n. repaired_from n x is) place ∙ ap (λ y. repaired_from at y is) same)
  repaired_at k (suc index) at (x ∷ is) i e h =
      let r = repaired_at (suc k) index at is i (omega arith) h in
      (r.0, drop_over (inserted_after w clone (record { function = f; block = b; index = k }) x) (repaired_body clones w clone f b (suc k) (take index is)) (repaired_body clones w clone f b (suc k) is) ∙ r.1)

module _ (P : Program) (plan : Plan) (skip : Site → Bool) (good : IsCallable P) (s : Site) (dest : Option (List ℕ)) (ret : Option Scalar) (callee : List ℕ) (args : List Arg) (g : ℕ)
    (hoisted : has_site plan.hoist s ≡ true) (here : slice_get (body_at P s.function s.block) s.index ≡ Some (Call dest ret callee args)) (number : function_number P callee ≡ Some g) where
  abbrev Q : Program
  Q = repaired P plan skip

  abbrev w : Wanted
  w = wanted_by plan skip

  abbrev the_call : Instr
  the_call = Call dest ret (clone_name (clones_of P plan) callee) args

  -- The function that the call names.
  clone_of_callee : instr_of P s ≡ Some (Call dest ret callee args) → (h : ℕ) × IsClone P Q g h × IsCallOf Q h (Some the_call)
  clone_of_callee i =
      let there = number_there P callee g number in
      let twin = calls_clone P plan skip good callee g there.0 number there.1 (hoisted_cloned P plan skip good s dest ret callee args g hoisted i number) in
      let high = twin.twin.high refl in
      (twin.number, twin_is_clone P plan skip true (clone_name (clones_of P plan) callee) g there.0 there.1 twin (omega (arith, high.1)), twin.found)

  -- The body from the call's place on.
  call_then : (clone : Bool) (rest : List Instr) → instrs_of (repaired_body (clones_of P plan) w clone s.function s.block s.index (Call dest ret callee args ∷ rest))
      ≡ the_call ∷ the_fence ∷ instrs_of (repaired_body (clones_of P plan) w clone s.function s.block (suc s.index) rest)
  call_then clone rest = rw (or_right clone (has_site plan.hoist s) hoisted, or_right (has_site plan.fence_after s) (has_site plan.hoist s) hoisted) refl

  fenced_in : (h : ℕ) → IsCallOf Q h (Some the_call) → (clone : Bool) (f' : ℕ) → Twin P plan skip clone s.function f' → IsFenced Q h f' s.block (repaired_place P plan skip clone s)
  fenced_in h called clone f' tw =
      let k = repaired_place P plan skip clone s in
      let r = repaired_at (clones_of P plan) w clone s.function s.block 0 s.index s.index (body_at P s.function s.block) (Call dest ret callee args) (omega arith) here in
      let more = instrs_of (repaired_body (clones_of P plan) w clone s.function s.block (suc s.index) r.0) in
      let code : drop k (body_at Q f' s.block) ≡ the_call ∷ the_fence ∷ more =
      ap (drop k) (body_twin P plan skip clone s.function f' tw s.block) ∙ drop-map (λ (x : Marked). x.0) k (marked_body P (clones_of P plan) w clone s.function s.block) ∙ ap instrs_of r.1 ∙ call_then clone r.0 in
      record {
        call = subst (IsCallOf Q h) (sym (get_drop (body_at Q f' s.block) k the_call (the_fence ∷ more) code)) called;
        fence = subst IsFenceCall (sym (get_drop (body_at Q f' s.block) (suc k) the_fence more (drop_next (body_at Q f' s.block) k the_call (the_fence ∷ more) code))) tt;
      }

  is_hoisted : instr_of P s ≡ Some (Call dest ret callee args) → s.function < length P.functions → IsHoisted P plan skip s g
  is_hoisted i there =
      let clone = clone_of_callee i in
      record {
        clone = clone.0;
        is_clone = clone.1;
        plain = fenced_in clone.0 clone.2 false s.function (plain_twin P plan skip good s.function there);
        cloned = λ c e. fenced_in clone.0 clone.2 true (length P.functions + c) (twin_of_clone P plan skip c s.function e);
      }

pub hoists_fenced : (P : Program) (plan : Plan) (skip : Site → Bool) → PassesVerifier P → AreHoistsFenced P plan skip
hoists_fenced P plan skip sound s dest ret callee args g hoisted i number =
    let good = sound_callable P sound in
    let here = sym (instr_at_place P s.function s.block s.index) ∙ i in
    let at = instr_place P s.function s.block s.index (Call dest ret callee args) here in
    is_hoisted P plan skip good s dest ret callee args g hoisted here number i
    (slice_get_within P.functions s.function at.0 at.2)
