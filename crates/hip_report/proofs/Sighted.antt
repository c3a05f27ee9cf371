-- The marks of the next instruction, by the values of its pointer operands.
use Rattle.std.proofs.Common.{◌≡◌, ℕ, ◌+◌, List, ◌++◌, None, Some, true, refl, sym, ap, ◌∙◌}
use Rattle.hip_tree.specs.declared.program.Program.{Program}
use Rattle.hip_tree.specs.declared.site.Site.{Site}
use Rattle.hip_types.specs.Distinct.{met}
use Rattle.hip_runs.specs.Found.Marks.{same_mark}
use Rattle.hip_runs.specs.Seen.{Seen, next_site, pointer_of, state_of}
use Rattle.hip_runs.specs.State.{State}
use Rattle.hip_runs.specs.declared.event.Event.{Event}
use Rattle.hip_runs.specs.declared.event.Event.TheVariants as events
use Rattle.hip_runs.specs.declared.input.Input.{Input}
use Rattle.hip_runs.specs.declared.report.Mark.{Mark}
use Rattle.hip_runner.specs.OpsAhead.{PointsTo, goes_on}
use Rattle.hip_runner.specs.Quiet.{next_event}
use Rattle.hip_ledger.specs.Sights.{AddAlike, AddUnlessEnded, mark_at, mark_by, marks_ahead, marks_to}
use Rattle.hip_ledger.proofs.MarksAhead.{all_before, next_is, next_to}
use Rattle.hip_ledger.proofs.MarksAtHand.{more_alike}

module _ (P : Program) (I : Input) (s : State) (site : Site) where
  -- Where no pointer is left, the marks are those of the next instruction.
  pub all_marked : (before new : List Mark) (k : ℕ) → next_site P s ≡ Some site → pointer_of P I s k ≡ None → AddAlike before new (marks_to P I s site k) → AddAlike before new (marks_ahead P I s)
  all_marked before new k there none so_far = so_far ∙ ap (met same_mark before) (all_before P I s site (next_is P s site there) k none)

  -- The marks with one more pointer operand.
  pub one_marked : (before old new : List Mark) (k a : ℕ) → pointer_of P I s k ≡ Some a → AddAlike before old (marks_to P I s site k) → AddAlike before new (old ++ mark_by P I s site k (Some a))
      → AddAlike before new (marks_to P I s site (k + 1))
  one_marked before old new k a is so_far added =
      added ∙ ap (λ o. met same_mark before (old ++ mark_by P I s site k o)) (sym is)
      ∙ more_alike before old (marks_to P I s site k) (mark_at P I s site k) so_far
      ∙ ap (λ (ms : List Mark). met same_mark before ms) (next_to P I s site k)

-- If two lists add the same marks where the run goes on, they add the same marks unless the step ends the run.
unless_going : (e : Event) (before these those : List Mark) → (goes_on e ≡ true → AddAlike before these those) → AddUnlessEnded e before these those
unless_going (events.End x) before these those h = refl
unless_going events.Quiet before these those h = h refl
unless_going (events.Print z) before these those h = h refl
unless_going (events.Store a v m) before these those h = h refl
unless_going (events.Flush l s) before these those h = h refl
unless_going (events.Persist l s) before these those h = h refl
unless_going events.Fence before these those h = h refl
unless_going (events.Assert a m) before these those h = h refl

-- A store has one mark.
pub store_marked : (m : Seen) (site : Site) (a : ℕ) (before new : List Mark) → next_site m.program (state_of m) ≡ Some site → PointsTo m a
    → AddAlike before new (mark_by m.program m.input (state_of m) site 0 (Some a)) → AddUnlessEnded (next_event m) before new (marks_ahead m.program m.input (state_of m))
store_marked m site a before new there points added = unless_going (next_event m) before new (marks_ahead m.program m.input (state_of m)) (λ on.
    all_marked m.program m.input (state_of m) site before new 1 there (points.pointers on 1)
    (added ∙ ap (λ o. met same_mark before (mark_by m.program m.input (state_of m) site 0 o)) (sym (points.pointers on 0))))
