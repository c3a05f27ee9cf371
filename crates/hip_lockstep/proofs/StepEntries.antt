-- The entry of a step, by whether the step ends the run.
use Rattle.std.proofs.Common.{◌≡◌, Some, None, refl, ap}
use Rattle.std.specs.Prelude.{option_map}
use Rattle.hip_lockstep.specs.Usuals.{usual_of}
use Rattle.hip_run_traces.specs.Traces.{entry_of_ending, entry_of_event}
use Rattle.hip_runs.specs.Outputs.{ending_by}
use Rattle.hip_runs.specs.declared.event.Ending.{Ending}
use Rattle.hip_runs.specs.declared.event.Event.{Event}
use Rattle.hip_runs.specs.declared.event.Event.TheVariants as events
use Rattle.hip_trace.specs.Usuals.{usual_entry}
use Rattle.hip_trace.specs.declared.usual.Usual.{Usual}

pub usual_is : (e : Event) (usual : Usual) → usual_of e ≡ Some usual → entry_of_event e ≡ Some (usual_entry usual)
usual_is events.Quiet usual q = cc
usual_is (events.Print number) usual q = cc
usual_is (events.Store addr value size) usual q = ap (option_map usual_entry) q
usual_is (events.Flush line size) usual q = ap (option_map usual_entry) q
usual_is (events.Persist line size) usual q = ap (option_map usual_entry) q
usual_is events.Fence usual q = ap (option_map usual_entry) q
usual_is (events.Assert addr size) usual q = ap (option_map usual_entry) q
usual_is (events.End ending) usual q = cc

pub usual_goes : (e : Event) (usual : Usual) → usual_of e ≡ Some usual → ending_by e ≡ None
usual_goes events.Quiet usual q = refl
usual_goes (events.Print number) usual q = refl
usual_goes (events.Store addr value size) usual q = refl
usual_goes (events.Flush line size) usual q = refl
usual_goes (events.Persist line size) usual q = refl
usual_goes events.Fence usual q = refl
usual_goes (events.Assert addr size) usual q = refl
usual_goes (events.End ending) usual q = cc

pub ending_is : (e : Event) (ending : Ending) → ending_by e ≡ Some ending → entry_of_event e ≡ Some (entry_of_ending ending)
ending_is events.Quiet ending q = cc
ending_is (events.Print number) ending q = cc
ending_is (events.Store addr value size) ending q = cc
ending_is (events.Flush line size) ending q = cc
ending_is (events.Persist line size) ending q = cc
ending_is events.Fence ending q = cc
ending_is (events.Assert addr size) ending q = cc
ending_is (events.End here) ending q = ap (option_map entry_of_ending) q

pub none_is : (e : Event) → usual_of e ≡ None → ending_by e ≡ None → entry_of_event e ≡ None
none_is events.Quiet p q = refl
none_is (events.Print number) p q = refl
none_is (events.Store addr value size) p q = cc
none_is (events.Flush line size) p q = cc
none_is (events.Persist line size) p q = cc
none_is events.Fence p q = cc
none_is (events.Assert addr size) p q = cc
none_is (events.End ending) p q = cc
