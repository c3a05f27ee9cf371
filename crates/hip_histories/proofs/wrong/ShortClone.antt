-- A clone that leaves out a store is no clone of the function.
use Rattle.std.proofs.Common.{◌≡◌, ℕ, zero, suc, ◌≤◌, true, List, [], ◌∷◌, ◌++◌, codes, length, None, Some, slice_get, refl, sym, ap, ◌∙◌, subst, arith}
use Rattle.std.proofs.lemmas.Option.{same_Some}
use Rattle.hip_types.specs.Laws.LayoutLaws.{shape-Int}
use Rattle.hip_tree.specs.declared.instr.Instr.{Instr}
use Rattle.hip_tree.specs.declared.program.Function.{Function}
use Rattle.hip_runs.specs.Actions.{Assigns, Calls, Deed, Returns}
use Rattle.hip_runs.specs.Laws.Opened.{run_opened}
use Rattle.hip_runs.specs.State.{State}
use Rattle.hip_runs.specs.Step.{run, start}
use Rattle.hip_repairs.specs.Clones.{AreCopies, HasInserted, IsClone, done, inserted, kept}
use Rattle.hip_repairs.specs.Covered.{IsAfterCloneCall, IsCovered}
use Rattle.hip_repairs.specs.examples.CopyHoisted.{copy_function, copy_hoisted}
use Rattle.hip_repairs.proofs.worked.Runs.{Follows, address_value, after_all, done_opened, int_value, run_is}
use Rattle.hip_histories.specs.examples.WrongRepairs.{clone_without_store, short_clone}
use Rattle.hip_histories.proofs.wrong.EarlyClone.{first_call, input, valid}

-- A body with inserted instructions is not shorter.
no_shorter : (is is' : List Instr) → HasInserted is is' → length is ≤ length is'
no_shorter _ _ done = omega arith
no_shorter _ _ (kept {is = is} {is' = is'} i i' same more) = let r = no_shorter is is' more in omega arith
no_shorter _ _ (inserted {is = is} {is' = is'} i' still more) = let r = no_shorter is is' more in omega arith

-- No function of the wrong program is a clone of one of the program.
module _ (callee clone : ℕ) (c : IsClone copy_hoisted clone_without_store callee clone) where
  the_copy : (n : ℕ) → 2 ≤ n → slice_get clone_without_store.functions n ≡ Some c.copy → c.copy ≡ short_clone
  the_copy zero h e = absurd (omega arith)
  the_copy (suc zero) h e = absurd (omega arith)
  the_copy (suc (suc zero)) h e = sym (same_Some short_clone c.copy e)
  the_copy (suc (suc (suc n))) h e = cc

  is_short : c.copy ≡ short_clone
  is_short = the_copy clone c.further c.copy_at

  by_original : (n : ℕ) → slice_get copy_hoisted.functions n ≡ Some c.original → ⊥
  by_original zero e =
      let o : c.original ≡ copy_function = sym (same_Some copy_function c.original e) in
      let copies : AreCopies copy_function.blocks short_clone.blocks =
      subst (λ (f : Function). AreCopies f.blocks short_clone.blocks) o
      (subst (λ (f : Function). AreCopies c.original.blocks f.blocks) is_short c.blocks) in
      let longer = no_shorter _ _ copies.0.body in
      omega (arith, longer)
  by_original (suc zero) e =
      let o = same_Some _ c.original e in
      let none : [] ≡ c.original.params = ap (λ (f : Function). f.params) o in
      let two : short_clone.params ≡ c.original.params = ap (λ (f : Function). f.params) (sym is_short) ∙ c.params in
      let z : ⊥ = cc in z
  by_original (suc (suc n)) e = cc

  no_clone : ⊥
  no_clone = by_original callee c.original_at

-- What the run does up to the fence after the call of the clone.
abbrev before_fence : List Deed
before_fence =
    first_call
    ++ record { turn = true; action = Calls 2 ((codes "dst", 4294967296) ∷ (codes "src", 268435464) ∷ []) None }
    ∷ record { turn = true; action = Assigns (Some (codes "v")) 9 }
    ∷ record { turn = true; action = Returns 0 }
    ∷ []

follows : Follows clone_without_store input (start clone_without_store input) before_fence
unfolding run_opened
follows = (refl, simp shape-Int refl, (refl, simp shape-Int refl, (refl, simp int_value refl, (refl, refl, (refl, refl, (refl, refl, (refl, refl, (refl, simp (address_value, shape-Int) refl, (refl, refl, (refl, refl, tt))))))))))

abbrev at_fence : State
at_fence = after_all input (start clone_without_store input) before_fence

fence_is : run clone_without_store input 10 ≡ at_fence
fence_is = run_is clone_without_store input before_fence follows

after : IsAfterCloneCall clone_without_store 2 at_fence
unfolding run_opened done_opened
after = record {
  going = refl;
  frame = _;
  others = [];
  frames = refl;
  at = 4;
  after = refl;
  call = omega arith;
  fence = tt;
}

pub short_clone_refused : IsCovered copy_hoisted clone_without_store → ⊥
short_clone_refused covered =
    let stands : IsAfterCloneCall clone_without_store 2 (run clone_without_store input 10) =
    subst (IsAfterCloneCall clone_without_store 2) (sym fence_is) after in
    let call = covered.call input valid 10 stands in
    let called = covered.clone input valid call.0 10 stands call.1 in
    no_clone called.1.callee called.1.clone called.1.is_clone
