-- Under a hoisted call whose clone fences before its last store that store is not durable after the fence.
use Rattle.std.proofs.Common.{◌≡◌, ◌≢◌, ◌⊎◌, inl, inr, ℕ, ◌<◌, ◌≤◌, true, false, List, [], ◌∷◌, ◌++◌, codes, length, Some, None, slice_get, refl, sym, ap, ◌∙◌, subst, arith}
use Rattle.hip_types.specs.Laws.LayoutLaws.{shape-Int}
use Rattle.hip_globals.specs.Addresses.{region_size}
use Rattle.hip_lines.specs.Line.{Line}
use Rattle.hip_runs.specs.Actions.{Allocates, Assigns, Calls, Deed, Fences, Flushes, Returns, Stores}
use Rattle.hip_runs.specs.Laws.Opened.{run_opened}
use Rattle.hip_runs.specs.State.{State, StorePart}
use Rattle.hip_runs.specs.Step.{run, start}
use Rattle.hip_runs.specs.Validity.{IsValid}
use Rattle.hip_runs.specs.declared.input.Input.{Input}
use Rattle.hip_repairs.specs.Covered.{IsAfterCloneCall, IsCovered}
use Rattle.hip_repairs.specs.examples.CopyHoisted.{copy_hoisted}
use Rattle.hip_repairs.specs.examples.Words.{zeroed}
use Rattle.hip_repairs.proofs.worked.Runs.{Follows, address_value, after_all, done_opened, int_value, run_is, run_next}
use Rattle.hip_histories.specs.examples.WrongRepairs.{clone_fences_early}

abbrev pub input : Input
input = zeroed 1

-- What the run does up to the second call.
abbrev pub first_call : List Deed
first_call =
    record { turn = true; action = Allocates (codes "a") 268435456 8 }
    ∷ record { turn = true; action = Allocates (codes "b") 268435464 8 }
    ∷ record { turn = true; action = Stores 268435456 (9 ∷ 0 ∷ 0 ∷ 0 ∷ 0 ∷ 0 ∷ 0 ∷ 0 ∷ []) }
    ∷ record { turn = true; action = Calls 0 ((codes "dst", 268435464) ∷ (codes "src", 268435456) ∷ []) None }
    ∷ record { turn = true; action = Assigns (Some (codes "v")) 9 }
    ∷ record { turn = true; action = Stores 268435464 (9 ∷ 0 ∷ 0 ∷ 0 ∷ 0 ∷ 0 ∷ 0 ∷ 0 ∷ []) }
    ∷ record { turn = true; action = Returns 0 }
    ∷ []

-- What the run does up to the return of the clone.
abbrev before_return : List Deed
before_return =
    first_call
    ++ record { turn = true; action = Calls 2 ((codes "dst", 4294967296) ∷ (codes "src", 268435464) ∷ []) None }
    ∷ record { turn = true; action = Assigns (Some (codes "v")) 9 }
    ∷ record { turn = false; action = Flushes 4294967296 1 }
    ∷ record { turn = false; action = Fences }
    ∷ record { turn = true; action = Stores 4294967296 (9 ∷ 0 ∷ 0 ∷ 0 ∷ 0 ∷ 0 ∷ 0 ∷ 0 ∷ []) }
    ∷ []

follows : Follows clone_fences_early input (start clone_fences_early input) before_return
unfolding run_opened
follows = (refl, simp shape-Int refl, (refl, simp shape-Int refl, (refl, simp int_value refl, (refl, refl, (refl, refl, (refl, refl, (refl, refl, (refl, simp (address_value, shape-Int) refl, (refl, refl, (refl, refl, (refl, refl, (refl, refl, tt))))))))))))

-- The state before the clone returns, the one at the fence after the call, and the one after it.
abbrev at_return : State
at_return = after_all input (start clone_fences_early input) before_return

abbrev returned : Deed
returned = record { turn = true; action = Returns 0 }

abbrev fenced : Deed
fenced = record { turn = false; action = Fences }

abbrev at_fence : State
at_fence = after_all input at_return (returned ∷ [])

abbrev at_end : State
at_end = after_all input at_return (returned ∷ fenced ∷ [])

return_is : run clone_fences_early input 12 ≡ at_return
return_is = run_is clone_fences_early input before_return follows

follows_on : Follows clone_fences_early input at_return (returned ∷ fenced ∷ [])
unfolding run_opened
follows_on = (refl, refl, (refl, refl, tt))

fence_is : run clone_fences_early input 13 ≡ at_fence
fence_is = run_next clone_fences_early input 12 at_return returned return_is follows_on.0 follows_on.1

end_is : run clone_fences_early input 14 ≡ at_end
end_is = run_next clone_fences_early input 13 at_fence fenced fence_is follows_on.2.0 follows_on.2.1

pub valid : IsValid copy_hoisted input
valid = record {
  base = record { page = refl; low = omega arith; high = omega arith };
  image = size;
  numbers = omega arith;
  limit = omega arith;
}
  where
    size : length input.image ≡ region_size copy_hoisted
    size = simp shape-Int refl

after : IsAfterCloneCall clone_fences_early 2 at_fence
unfolding run_opened done_opened
after = record {
  going = refl;
  frame = _;
  others = [];
  frames = refl;
  at = 4;
  after = refl;
  call = omega arith;
  fence = tt;
}

two_frames : length at_return.frames ≡ length at_fence.frames → ⊥
unfolding done_opened
two_frames e = omega (arith, e)

below : (j step : ℕ) → j < 13 → j ≢ 12 → step ≡ 11 → j ≤ step
below j step lt apart made = go (three j)
  where
    three : (j : ℕ) → (j ≤ 11) ⊎ ((j ≡ 12) ⊎ (13 ≤ j))
    three j = grind arith

    go : (j ≤ 11) ⊎ ((j ≡ 12) ⊎ (13 ≤ j)) → j ≤ step
    go (inl le) = omega (arith, le, made)
    go (inr (inl e)) = absurd (apart e)
    go (inr (inr le)) = absurd (omega (arith, le, lt))

-- The last store's part is not durable after the fence.
record IsLoosePart (s : State) : Type 0 where
  line : Line StorePart
  at : slice_get s.lines 0 ≡ Some line
  part : StorePart
  there : slice_get line.parts 0 ≡ Some part
  made : part.step ≡ 11
  none : line.durable ≡ 0

loose : IsLoosePart at_end
unfolding done_opened
loose = record { line = _; at = refl; part = _; there = refl; made = refl; none = refl }

pub early_clone_refused : IsCovered copy_hoisted clone_fences_early → ⊥
early_clone_refused covered =
    let stands : IsAfterCloneCall clone_fences_early 2 (run clone_fences_early input 13) =
    subst (IsAfterCloneCall clone_fences_early 2) (sym fence_is) after in
    let call = covered.call input valid 13 stands in
    let x : IsLoosePart (run clone_fences_early input 14) = subst IsLoosePart (sym end_is) loose in
    let early : call.0 ≢ 12 = (λ e. two_frames
    (ap (λ (s : State). length s.frames) (sym return_is)
    ∙ (ap (λ n. length (run clone_fences_early input n).frames) (sym e)
    ∙ (call.1.same ∙ ap (λ (s : State). length s.frames) fence_is)))) in
    let since : call.0 ≤ x.part.step = below call.0 x.part.step call.1.before early x.made in
    let durable : 0 < x.line.durable =
    covered.durable input valid call.0 13 stands call.1 0 x.line x.at 0 x.part x.there since in
    omega (arith, durable, x.none)
