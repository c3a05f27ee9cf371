-- What the pointers of a run pointed into. (This project's own.)
use Rattle.std.specs.Prelude.{◌≡◌, ℕ, zero, suc, Bool, true, false, cond, ◌&&◌, nat_eq, is_some, List, [], ◌∷◌, ◌++◌, Option, Some, None, option_to_list}
use Rattle.std.specs.List.{flat_map}
use Rattle.hip_types.specs.Distinct.{met}
use Rattle.hip_types.specs.declared.number.Scalar.{Scalar}
use Rattle.hip_types.specs.declared.number.Scalar.TheVariants.{Int, Ptr}
use Rattle.hip_tree.specs.declared.instr.Arg.{Arg}
use Rattle.hip_tree.specs.declared.instr.Instr.{Instr}
use Rattle.hip_tree.specs.declared.instr.Instr.TheVariants.{Store, Call}
use Rattle.hip_tree.specs.declared.instr.Operand.{Operand}
use Rattle.hip_tree.specs.declared.program.Program.{Program}
use Rattle.hip_tree.specs.declared.site.Site.{Site}
use Rattle.hip_tree.specs.Sites.{same_site}
use Rattle.hip_sound.specs.NumberedNames.{function_number}
use Rattle.hip_runs.specs.declared.event.Event.{Event}
use Rattle.hip_runs.specs.declared.event.Object.{Object}
use Rattle.hip_runs.specs.declared.input.Input.{Input}
use Rattle.hip_runs.specs.declared.report.Findings.{Findings}
use Rattle.hip_runs.specs.declared.report.Mark.{Mark}
use Rattle.hip_runs.specs.State.{Frame, State, site_of}
use Rattle.hip_runs.specs.Found.Objects.{global_at, object_at}
use Rattle.hip_runs.specs.Operands.{value_of}
use Rattle.hip_runs.specs.Places.{code_at}
use Rattle.hip_runs.specs.Found.Reports.{reports}
use Rattle.hip_runs.specs.Step.{event, run, has_ended}
use Rattle.hip_runs.specs.declared.event.Event.TheVariants as events
use Rattle.hip_runs.specs.declared.event.Object.TheVariants as objects

-- ---- pointer operands

-- The operand of an argument of type `ptr`, as a list of one; empty for an integer argument.
abbrev pub pointer_arg : Arg → List Operand
pointer_arg a = pointed_by a.ty a.value
  where
    pointed_by : Scalar → Operand → List Operand
    pointed_by Ptr value = value ∷ []
    pointed_by (Int w) value = []

-- The pointer operand of a store is its address; those of a call of a defined function are its arguments of type `ptr`.
abbrev pub pointer_operands : Program → Instr → List Operand
pointer_operands P (Store ty value addr align) = addr ∷ []
pointer_operands P (Call dest ret callee args) =
    cond (is_some (function_number P callee)) (flat_map pointer_arg args) []
pointer_operands P _ = []

-- ---- marks without repeats, in the order of first meeting

-- Whether both are the global of the same number, or both are blocks of the same `alloca`, which all count as one
-- object.
abbrev pub same_object : Object → Object → Bool
same_object (objects.Global a) (objects.Global b) = nat_eq a b
same_object (objects.Slot a) (objects.Slot b) = same_site a b
same_object _ _ = false

-- Whether two marks are of one site, of one operand there and of one object.
abbrev pub same_mark : Mark → Mark → Bool
same_mark a b = same_site a.site b.site && (nat_eq a.operand b.operand && same_object a.object b.object)

-- ---- the marks of a step

-- The mark of pointer operand k of a site, if it pointed into an object, as a list.
abbrev pub mark_of : Site → ℕ → Option Object → List Mark
mark_of site k None = []
mark_of site k (Some object) = record { site = site; operand = k; object = object } ∷ []

-- The marks of these pointer operands of the instruction at a frame's place, the first of which has number k. The
-- frames of the state are `fs`.
abbrev pub operand_marks : Program → Input → List Frame → Frame → ℕ → List Operand → List Mark
operand_marks P I fs f k [] = []
operand_marks P I fs f k (o ∷ os) =
    mark_of (site_of f) k (object_at P I.base fs (value_of P.globals I.base f.registers o))
    ++ operand_marks P I fs f (suc k) os

-- The marks of the first of these instructions, which is the one at the frame's place; none at the end of a block.
abbrev pub code_marks : Program → Input → List Frame → Frame → List Instr → List Mark
code_marks P I fs f [] = []
code_marks P I fs f (i ∷ rest) = operand_marks P I fs f 0 (pointer_operands P i)

-- The marks of the instruction at the top frame's place, whether or not it is executed; none if there is no frame.
abbrev pub frame_marks : Program → Input → List Frame → List Mark
frame_marks P I [] = []
frame_marks P I (f ∷ fs) = code_marks P I (f ∷ fs) f (code_at P f)

-- The list, or no items if the event ends the run, since that step does not execute its instruction.
abbrev pub unless_ended : {A : Type 0} → Event → List A → List A
unless_ended (events.End e) xs = []
unless_ended _ xs = xs

-- The marks of a state's next step; none if the run has ended, or ends with that step.
abbrev pub step_marks : Program → Input → State → List Mark
step_marks P I s = cond (has_ended s) [] (unless_ended (event P I s) (frame_marks P I s.frames))

-- The number of the global that a store's address is in, as a list. It is persistent, since the event of a store is of
-- the region.
abbrev pub event_hits : Program → Input → Event → List ℕ
event_hits P I (events.Store a value size) = option_to_list (global_at P I.base a)
event_hits P I _ = []

-- ---- the marks and the findings of a run

-- The marks of the first n steps, each once, in the order in which they first occur.
unfoldable pub pointed : Program → Input → ℕ → List Mark
pointed P I zero = []
pointed P I (suc n) = met same_mark (pointed P I n) (step_marks P I (run P I n))

-- The numbers of the persistent globals that the first n steps stored into, each once, in the order in which they first
-- occur.
unfoldable pub hit : Program → Input → ℕ → List ℕ
hit P I zero = []
hit P I (suc n) = met nat_eq (hit P I n) (event_hits P I (event P I (run P I n)))

-- What the first n steps found.
abbrev pub findings : Program → Input → ℕ → Findings
findings P I n = record { reports = reports P I n; marks = record { pointed = pointed P I n; hit = hit P I n } }

-- What a whole run found: what its steps had found when it ended.
pub record IsFound (P : Program) (I : Input) (found : Findings) : Type 0 where
  pub steps : ℕ
  pub ended : has_ended (run P I steps) ≡ true
  pub is : found ≡ findings P I steps
