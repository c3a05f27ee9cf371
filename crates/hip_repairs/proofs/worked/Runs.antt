-- Runs of closed programs, step by step by what they do.
use Rattle.std.proofs.Common.{◌≡◌, ℕ, suc, map, false, cond, List, [], ◌∷◌, ◌++◌, Option, None, is_some, refl, sym, ap, ◌∙◌, append_assoc}
use Rattle.std.proofs.lemmas.List.{append-nil}
use Rattle.hip_tree.specs.declared.constant.Const.TheFolds.{fold-roll-Const, fold_out-ConstGep}
use Rattle.hip_tree.specs.declared.constant.Const.TheVariants as consts
use Rattle.hip_tree.specs.declared.constant.ConstGep.{ConstGep}
use Rattle.hip_tree.specs.declared.program.GlobalVar.{GlobalVar}
use Rattle.hip_tree.specs.declared.program.Program.{Program}
use Rattle.hip_types.specs.declared.number.Bits.{Bits}
use Rattle.hip_globals.specs.Constants.{index_of}
use Rattle.hip_globals.specs.Values.{Written, const_value, element_address, global_address}
use Rattle.hip_types.specs.Bytes.{zeros}
use Rattle.hip_lines.specs.Line.{Line, fresh_lines}
use Rattle.hip_runs.specs.declared.event.Ending.{Ending}
use Rattle.hip_runs.specs.declared.event.Event.{Event}
use Rattle.hip_runs.specs.declared.event.Event.TheVariants as events
use Rattle.hip_runs.specs.declared.input.Input.{Input}
use Rattle.hip_runs.specs.declared.report.Report.{Report}
use Rattle.hip_runs.specs.Actions.{Fences, Deed}
use Rattle.hip_runs.specs.Found.Reports.{reports, check_reports, checked_by, next_check}
use Rattle.hip_runs.specs.State.{Frame, StorePart, World, Counts, State}
use Rattle.hip_runs.specs.Step.{state, leave, perform, step, on_ending, on_frames, carry_out, counted, event, event_at, event_on_frames, event_on_ending, deed_at, run, start}

-- What the states of a closed run compute by, where it is known what is done.
unfoldable pub done_opened : Unit {0}
unfolding zeros fresh_lines leave perform carry_out
done_opened = tt

-- ---- constants

pub int_value : (globals : List GlobalVar) (base : ℕ) (b : Bits) → const_value globals base (consts.Int b) ≡ b.value
int_value globals base b = ap (const_value globals base) (sym (consts.rolls-Int b)) ∙ ap (λ (x : Written). x.value) (fold-roll-Const _ _ _ _ _ _ _)

pub address_value : (globals : List GlobalVar) (base : ℕ) (name : List ℕ) → const_value globals base (consts.Address name) ≡ global_address globals base name
address_value globals base name = ap (const_value globals base) (sym (consts.rolls-Address name)) ∙ ap (λ (x : Written). x.value) (fold-roll-Const _ _ _ _ _ _ _)

pub element_value : (globals : List GlobalVar) (base : ℕ) (gep : ConstGep) →
    const_value globals base (consts.Gep gep) ≡ element_address (const_value globals base gep.base) gep.ty (map index_of gep.indices)
element_value globals base gep = ap (const_value globals base) (sym (consts.rolls-Gep gep)) ∙ ap (λ (x : Written). x.value) (fold-roll-Const _ _ _ _ _ _ _) ∙ fold_out-ConstGep _ _ _ _ _ _ gep

-- ---- a step by what is done

-- What the top frame does next.
abbrev pub deed_on : Program → Input → World → List Frame → Deed
deed_on P I w [] = record { turn = false; action = Fences }
deed_on P I w (f ∷ fs) = deed_at P I w f fs

abbrev pub next_deed : Program → Input → State → Deed
next_deed P I s = deed_on P I s.world s.frames

-- The state after something was done, and its event.
abbrev pub done_on : Input → World → List (Line StorePart) → Counts → Deed → List Frame → State
done_on I w ls c d [] = state w [] ls c
done_on I w ls c d (f ∷ fs) = carry_out I w f fs ls c (counted (event_at I w fs d) c) d

abbrev pub done : Input → State → Deed → State
done I s d = done_on I s.world s.lines s.counts d s.frames

abbrev pub shown_on : Input → World → Deed → List Frame → Event
shown_on I w d [] = events.Quiet
shown_on I w d (f ∷ fs) = event_at I w fs d

abbrev pub shown : Input → State → Deed → Event
shown I s d = shown_on I s.world d s.frames

step_done : (P : Program) (I : Input) (s : State) (d : Deed) → s.world.ending ≡ None → next_deed P I s ≡ d → step P I s ≡ done I s d
unfolding step on_ending on_frames
step_done P I s d e n = ap (on_ending P I s) e ∙ framed s.frames n
  where
    framed : (fs : List Frame) → deed_on P I s.world fs ≡ d → on_frames P I s.world s.lines s.counts fs ≡ done_on I s.world s.lines s.counts d fs
    framed [] h = refl
    framed (f ∷ fs) h = ap (λ (x : Deed). carry_out I s.world f fs s.lines s.counts (counted (event_at I s.world fs x) s.counts) x) h

pub event_shown : (P : Program) (I : Input) (s : State) (d : Deed) → s.world.ending ≡ None → next_deed P I s ≡ d → event P I s ≡ shown I s d
unfolding event
event_shown P I s d e n = ap (event_on_ending P I s) e ∙ framed s.frames n
  where
    framed : (fs : List Frame) → deed_on P I s.world fs ≡ d → event_on_frames P I s.world fs ≡ shown_on I s.world d fs
    framed [] h = refl
    framed (f ∷ fs) h = ap (event_at I s.world fs) h

-- ---- runs

-- From a state on these things are done, one after another.
abbrev pub Follows : Program → Input → State → List Deed → Type 0
Follows P I s [] = Unit {0}
Follows P I s (d ∷ ds) = (s.world.ending ≡ None) × (next_deed P I s ≡ d) × Follows P I (done I s d) ds

abbrev pub after_all : Input → State → List Deed → State
after_all I s [] = s
after_all I s (d ∷ ds) = after_all I (done I s d) ds

-- The number of steps after n earlier ones.
abbrev pub steps : ℕ → List Deed → ℕ
steps n [] = n
steps n (d ∷ ds) = steps (suc n) ds

abbrev pub stated : Input → State → List Deed → List Report
stated I s [] = []
stated I s (d ∷ ds) = check_reports s (checked_by I (shown I s d)) ++ stated I (done I s d) ds

pub run_next : (P : Program) (I : Input) (n : ℕ) (s : State) (d : Deed) → run P I n ≡ s → s.world.ending ≡ None → next_deed P I s ≡ d → run P I (suc n) ≡ done I s d
unfolding run
run_next P I n s d r e h = ap (step P I) r ∙ step_done P I s d e h

run_all : (P : Program) (I : Input) (n : ℕ) (s : State) (ds : List Deed) → run P I n ≡ s → Follows P I s ds → run P I (steps n ds) ≡ after_all I s ds
run_all P I n s [] r h = r
run_all P I n s (d ∷ ds) r h = run_all P I (suc n) (done I s d) ds (run_next P I n s d r h.0 h.1) h.2

check_next : (P : Program) (I : Input) (s : State) (d : Deed) → s.world.ending ≡ None → next_deed P I s ≡ d → next_check P I s ≡ checked_by I (shown I s d)
check_next P I s d e h = ap (λ (o : Option Ending). cond (is_some o) None (checked_by I (event P I s))) e ∙ ap (checked_by I) (event_shown P I s d e h)

reports_next : (P : Program) (I : Input) (n : ℕ) (s : State) (d : Deed) → run P I n ≡ s → s.world.ending ≡ None → next_deed P I s ≡ d →
    reports P I (suc n) ≡ reports P I n ++ check_reports s (checked_by I (shown I s d))
unfolding reports
reports_next P I n s d r e h =
    ap (λ (x : State). reports P I n ++ check_reports x (next_check P I x)) r ∙ ap (λ x. reports P I n ++ check_reports s x) (check_next P I s d e h)

reports_all : (P : Program) (I : Input) (n : ℕ) (s : State) (ds : List Deed) → run P I n ≡ s → Follows P I s ds → reports P I (steps n ds) ≡ reports P I n ++ stated I s ds
reports_all P I n s [] r h = sym (append-nil _)
reports_all P I n s (d ∷ ds) r h =
    reports_all P I (suc n) (done I s d) ds (run_next P I n s d r h.0 h.1) h.2
    ∙ ap (λ x. x ++ stated I (done I s d) ds) (reports_next P I n s d r h.0 h.1)
    ∙ append_assoc (reports P I n) (check_reports s (checked_by I (shown I s d))) (stated I (done I s d) ds)

-- A whole run from the start on.
pub run_is : (P : Program) (I : Input) (ds : List Deed) → Follows P I (start P I) ds → run P I (steps 0 ds) ≡ after_all I (start P I) ds
unfolding run
run_is P I ds h = run_all P I 0 (start P I) ds refl h

pub reports_are : (P : Program) (I : Input) (ds : List Deed) → Follows P I (start P I) ds → reports P I (steps 0 ds) ≡ stated I (start P I) ds
unfolding run reports
reports_are P I ds h = reports_all P I 0 (start P I) ds refl h
