-- The program without one of its flushes has a crash history that the program with the flush does not have.
use Rattle.std.proofs.Common.{◌≡◌, ℕ, zero, suc, ◌≤◌, true, false, List, [], ◌∷◌, length, take, Option, Some, slice_get, slice_index, refl, sym, ap, ◌∙◌, subst, arith}
use Rattle.std.specs.Prelude.{is_some}
use Rattle.hip_types.specs.Laws.LayoutLaws.{shape-Int}
use Rattle.hip_globals.specs.Addresses.{region_size}
use Rattle.hip_lines.specs.Image.{byte_after}
use Rattle.hip_lines.specs.Line.{Line}
use Rattle.hip_runs.specs.Actions.{Deed, Fences, Flushes, Returns, Stores}
use Rattle.hip_runs.specs.Crash.{IsCrashImage, byte_of, covers}
use Rattle.hip_runs.specs.Laws.Opened.{run_opened}
use Rattle.hip_runs.specs.State.{State, StorePart}
use Rattle.hip_runs.specs.Step.{has_ended, run, start}
use Rattle.hip_runs.specs.Validity.{IsValid}
use Rattle.hip_runs.specs.declared.event.Ending.{Ending}
use Rattle.hip_runs.specs.declared.input.Input.{Input}
use Rattle.hip_repairs.specs.examples.FenceWithoutFlush.{fence_without_flush, fence_without_flush_repaired}
use Rattle.hip_repairs.specs.examples.Words.{zeroed}
use Rattle.hip_repairs.proofs.worked.Runs.{Follows, address_value, after_all, done_opened, int_value, run_is}
use Rattle.hip_histories.specs.Histories.{AddsNoHistory, AreSameRounds, HasHistoryOf, IsHistory, Round, endings, input_of}
use Rattle.hip_runs.specs.Laws.OneEndLaws.{one_end}

abbrev input : Input
input = zeroed 1

abbrev stored : Deed
stored = record { turn = true; action = Stores 4294967296 (5 ∷ 0 ∷ 0 ∷ 0 ∷ 0 ∷ 0 ∷ 0 ∷ 0 ∷ []) }

abbrev fenced : Deed
fenced = record { turn = false; action = Fences }

abbrev returned : Deed
returned = record { turn = true; action = Returns 0 }

-- ---- without the flush the crash may lose the store

abbrev bare_deeds : List Deed
bare_deeds = stored ∷ fenced ∷ returned ∷ []

bare_follows : Follows fence_without_flush input (start fence_without_flush input) bare_deeds
unfolding run_opened
bare_follows = (refl, simp (int_value, address_value, shape-Int) refl, (refl, refl, (refl, simp int_value refl, tt)))

bare_valid : IsValid fence_without_flush input
bare_valid = record {
  base = record { page = refl; low = omega arith; high = omega arith };
  image = size;
  numbers = omega arith;
  limit = omega arith;
}
  where
    size : length input.image ≡ region_size fence_without_flush
    size = simp shape-Int refl

-- No part is durable.
abbrev NothingDurable : List (Line StorePart) → Type 0
NothingDurable ls = (j : ℕ) (l : Line StorePart) → slice_get ls j ≡ Some l → l.durable ≡ 0

bare_durable : NothingDurable (after_all input (start fence_without_flush input) bare_deeds).lines
unfolding done_opened
bare_durable zero l e = let z : 0 ≡ l.durable = cc in sym z
bare_durable (suc j) l e = absurd (let z : ⊥ = cc in z)

first_image : (s : State) → NothingDurable s.lines → IsCrashImage input s input.image
first_image s none = record {
  whole = refl;
  lines = λ j l e. (
    0,
    record { least = let z = none j l e in omega (arith, z); most = omega arith; bytes = λ b from to. refl },
  );
}

bare_image : IsCrashImage input (run fence_without_flush input 3) input.image
bare_image =
    first_image (run fence_without_flush input 3)
    (subst (λ (s : State). NothingDurable s.lines) (sym (run_is fence_without_flush input bare_deeds bare_follows))
    bare_durable)

bare_ended : (e : Ending) × ((run fence_without_flush input 3).world.ending ≡ Some e)
unfolding done_opened
bare_ended = (_, ap (λ (s : State). s.world.ending) (run_is fence_without_flush input bare_deeds bare_follows))

-- ---- with the flush it may not

abbrev kept_deeds : List Deed
kept_deeds = stored ∷ record { turn = false; action = Flushes 4294967296 1 } ∷ fenced ∷ returned ∷ []

kept_follows : Follows fence_without_flush_repaired input (start fence_without_flush_repaired input) kept_deeds
unfolding run_opened
kept_follows = (
  refl,
  simp (int_value, address_value, shape-Int) refl,
  (refl, simp (address_value, shape-Int) refl, (refl, refl, (refl, simp int_value refl, tt))),
)

kept_ended : has_ended (run fence_without_flush_repaired input 4) ≡ true
unfolding done_opened
kept_ended = ap has_ended (run_is fence_without_flush_repaired input kept_deeds kept_follows)

-- The byte after at least one part of a list that has a single part.
one_part : (x : StorePart) (q first : ℕ) → 1 ≤ q → covers x 0 ≡ true
    → byte_after covers byte_of (take q (x ∷ [])) 0 first ≡ byte_of x 0
one_part x zero first le over = absurd (omega (arith, le))
one_part x (suc zero) first le over = rw over refl
one_part x (suc (suc q)) first le over = rw over refl

kept_byte : (content : List ℕ) → IsCrashImage input (after_all input (start fence_without_flush_repaired input) kept_deeds) content
    → slice_index content 0 ≡ 5
unfolding done_opened
kept_byte content image =
    let i = image.lines 0 _ refl in
    i.1.bytes 0 (omega arith) (omega arith) ∙ one_part _ i.0 0 i.1.least refl

kept_image : (content : List ℕ) → IsCrashImage input (run fence_without_flush_repaired input 4) content
    → slice_index content 0 ≡ 5
kept_image content image =
    kept_byte content
    (subst (λ (s : State). IsCrashImage input s content)
    (run_is fence_without_flush_repaired input kept_deeds kept_follows) image)

-- ---- so it has no such history

abbrev round : Round
round =
    record { base = 4294967296; numbers = []; limit = 1000000000; steps = 3; image = input.image }

refuted : (e : Ending) (rounds : List Round) → IsHistory fence_without_flush_repaired input.image rounds
    → AreSameRounds rounds (round ∷ [])
    → endings fence_without_flush_repaired input.image rounds ≡ Some e ∷ [] → ⊥
refuted e [] history same ended = absurd same
refuted e (r ∷ s ∷ rest) history same ended = absurd same.1
refuted e (r ∷ []) history same ended =
    let input_is : input_of input.image r ≡ input =
    ap (λ (x : Input). x) (λ i. record {
      base = sym same.0.base i;
      image = input.image;
      numbers = sym same.0.numbers i;
      limit = sym same.0.limit i;
    }) in
    let there : (run fence_without_flush_repaired (input_of input.image r) r.steps).world.ending ≡ Some e = cc in
    let at : (run fence_without_flush_repaired input r.steps).world.ending ≡ Some e =
    ap (λ (x : Input). (run fence_without_flush_repaired x r.steps).world.ending) (sym input_is) ∙ there in
    let same_state : run fence_without_flush_repaired input r.steps ≡ run fence_without_flush_repaired input 4 =
    one_end fence_without_flush_repaired input r.steps 4 (ap is_some at) kept_ended in
    let left : IsCrashImage input (run fence_without_flush_repaired input 4) input.image =
    subst (λ (s : State). IsCrashImage input s input.image) same_state
    (subst (λ (c : List ℕ). IsCrashImage input (run fence_without_flush_repaired input r.steps) c) (sym same.0.image)
    (subst (λ (x : Input). IsCrashImage x (run fence_without_flush_repaired x r.steps) r.image) input_is
    history.0.left)) in
    let five : 0 ≡ 5 = kept_image input.image left in
    omega (arith, five)

pub dropped_flush_refused : AddsNoHistory fence_without_flush_repaired fence_without_flush → ⊥
dropped_flush_refused h =
    let has : HasHistoryOf fence_without_flush_repaired fence_without_flush input.image (round ∷ []) =
    h input.image (round ∷ []) (record { valid = bare_valid; left = bare_image }, tt) in
    refuted bare_ended.0 has.rounds has.history has.same
    (has.ended ∙ ap (λ (e : Option Ending). e ∷ []) bare_ended.1)
