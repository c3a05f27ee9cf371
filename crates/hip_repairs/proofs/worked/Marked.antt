-- The marks of closed runs, step by step by what is done.
use Rattle.std.proofs.Common.{◌≡◌, ℕ, suc, cond, nat_eq, List, [], ◌∷◌, Option, None, is_some, refl, sym, ap, ◌∙◌}
use Rattle.hip_types.specs.declared.number.Bits.{Bits}
use Rattle.hip_types.specs.Bytes.{bytes_of}
use Rattle.hip_globals.specs.Values.{Written, written}
use Rattle.hip_tree.specs.declared.constant.Const.TheFolds.{fold-roll-Const}
use Rattle.hip_tree.specs.declared.constant.Const.TheVariants as consts
use Rattle.hip_types.specs.Distinct.{met}
use Rattle.hip_tree.specs.declared.program.Program.{Program}
use Rattle.hip_runs.specs.declared.event.Ending.{Ending}
use Rattle.hip_runs.specs.declared.event.Event.{Event}
use Rattle.hip_runs.specs.declared.input.Input.{Input}
use Rattle.hip_runs.specs.declared.report.Mark.{Mark}
use Rattle.hip_runs.specs.Actions.{Deed}
use Rattle.hip_runs.specs.Found.Marks.{same_mark, frame_marks, unless_ended, event_hits, pointed, hit}
use Rattle.hip_runs.specs.State.{State}
use Rattle.hip_runs.specs.Step.{event, run, start}
use Rattle.hip_repairs.proofs.worked.Runs.{next_deed, done, shown, Follows, steps, run_next, event_shown}

-- ---- the bytes of an integer that a global begins with

pub written_int : (address_of : List ℕ → ℕ) (b : Bits) → (written address_of (consts.Int b)).bytes ≡ bytes_of 8 b.value
written_int address_of b = ap (λ c. (written address_of c).bytes) (sym (consts.rolls-Int b)) ∙ ap (λ (x : Written). x.bytes) (fold-roll-Const _ _ _ _ _ _ _)

-- ---- what the marks of a step are, where its event is known

-- What a step marks, and which global it stores into.
pub record Seen : Type 0 where
  pub marks : List Mark
  pub hits : List ℕ

abbrev pub seen_at : Program → Input → State → Deed → Seen
seen_at P I s d = record { marks = unless_ended (shown I s d) (frame_marks P I s.frames); hits = event_hits P I (shown I s d) }

-- ---- runs

abbrev pub Sees : Program → Input → State → List Deed → List Seen → Type 0
Sees P I s [] [] = Unit {0}
Sees P I s (d ∷ ds) (x ∷ xs) = (seen_at P I s d ≡ x) × Sees P I (done I s d) ds xs
Sees P I s _ _ = ⊥

abbrev pub all_marks : List Mark → List Seen → List Mark
all_marks old [] = old
all_marks old (x ∷ xs) = all_marks (met same_mark old x.marks) xs

abbrev pub all_hits : List ℕ → List Seen → List ℕ
all_hits old [] = old
all_hits old (x ∷ xs) = all_hits (met nat_eq old x.hits) xs

abbrev step_marks_of : Program → Input → State → Option Ending → List Mark
step_marks_of P I s o = cond (is_some o) [] (unless_ended (event P I s) (frame_marks P I s.frames))

pointed_next : (P : Program) (I : Input) (n : ℕ) (s : State) (d : Deed) (x : Seen) → run P I n ≡ s → s.world.ending ≡ None → next_deed P I s ≡ d → seen_at P I s d ≡ x →
    pointed P I (suc n) ≡ met same_mark (pointed P I n) x.marks
unfolding pointed
pointed_next P I n s d x r e h m =
    ap (λ (t : State). met same_mark (pointed P I n) (step_marks_of P I t t.world.ending)) r
    ∙ ap (λ (o : Option Ending). met same_mark (pointed P I n) (step_marks_of P I s o)) e
    ∙ ap (λ (v : Event). met same_mark (pointed P I n) (unless_ended v (frame_marks P I s.frames))) (event_shown P I s d e h)
    ∙ ap (λ (y : Seen). met same_mark (pointed P I n) y.marks) m

hit_next : (P : Program) (I : Input) (n : ℕ) (s : State) (d : Deed) (x : Seen) → run P I n ≡ s → s.world.ending ≡ None → next_deed P I s ≡ d → seen_at P I s d ≡ x →
    hit P I (suc n) ≡ met nat_eq (hit P I n) x.hits
unfolding hit
hit_next P I n s d x r e h m =
    ap (λ (t : State). met nat_eq (hit P I n) (event_hits P I (event P I t))) r
    ∙ ap (λ (v : Event). met nat_eq (hit P I n) (event_hits P I v)) (event_shown P I s d e h)
    ∙ ap (λ (y : Seen). met nat_eq (hit P I n) y.hits) m

pointed_all : (P : Program) (I : Input) (n : ℕ) (s : State) (ds : List Deed) (xs : List Seen) (old : List Mark) → run P I n ≡ s → pointed P I n ≡ old → Follows P I s ds → Sees P I s ds xs →
    pointed P I (steps n ds) ≡ all_marks old xs
pointed_all P I n s [] [] old r o h k = o
pointed_all P I n s [] (x ∷ xs) old r o h k = absurd k
pointed_all P I n s (d ∷ ds) [] old r o h k = absurd k
pointed_all P I n s (d ∷ ds) (x ∷ xs) old r o h k =
    pointed_all P I (suc n) (done I s d) ds xs (met same_mark old x.marks) (run_next P I n s d r h.0 h.1)
    (pointed_next P I n s d x r h.0 h.1 k.0 ∙ ap (λ (y : List Mark). met same_mark y x.marks) o) h.2 k.1

hit_all : (P : Program) (I : Input) (n : ℕ) (s : State) (ds : List Deed) (xs : List Seen) (old : List ℕ) → run P I n ≡ s → hit P I n ≡ old → Follows P I s ds → Sees P I s ds xs →
    hit P I (steps n ds) ≡ all_hits old xs
hit_all P I n s [] [] old r o h k = o
hit_all P I n s [] (x ∷ xs) old r o h k = absurd k
hit_all P I n s (d ∷ ds) [] old r o h k = absurd k
hit_all P I n s (d ∷ ds) (x ∷ xs) old r o h k =
    hit_all P I (suc n) (done I s d) ds xs (met nat_eq old x.hits) (run_next P I n s d r h.0 h.1)
    (hit_next P I n s d x r h.0 h.1 k.0 ∙ ap (λ (y : List ℕ). met nat_eq y x.hits) o) h.2 k.1

-- A whole run from the start on.
pub pointed_is : (P : Program) (I : Input) (ds : List Deed) (xs : List Seen) → Follows P I (start P I) ds → Sees P I (start P I) ds xs → pointed P I (steps 0 ds) ≡ all_marks [] xs
unfolding run pointed
pointed_is P I ds xs h k = pointed_all P I 0 (start P I) ds xs [] refl refl h k

pub hit_is : (P : Program) (I : Input) (ds : List Deed) (xs : List Seen) → Follows P I (start P I) ds → Sees P I (start P I) ds xs → hit P I (steps 0 ds) ≡ all_hits [] xs
unfolding run hit
hit_is P I ds xs h k = hit_all P I 0 (start P I) ds xs [] refl refl h k
