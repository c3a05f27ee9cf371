-- The run of a program that copies, and its repair by a clone.
use Rattle.std.proofs.Common.{◌≡◌, true, [], ◌∷◌, List, Some, None, codes, refl, ap}
use Rattle.hip_types.specs.Laws.LayoutLaws.{shape-Int}
use Rattle.hip_runs.specs.declared.event.Object.TheVariants.{Global, Slot}
use Rattle.hip_runs.specs.declared.report.Mark.{Mark}
use Rattle.hip_runs.specs.Actions.{Deed, Allocates, Assigns, Calls, Returns, Stores}
use Rattle.hip_runs.specs.Found.Marks.{pointed, hit}
use Rattle.hip_runs.specs.Found.Reports.{reports}
use Rattle.hip_runs.specs.Step.{start, run, has_ended}
use Rattle.hip_runs.specs.Laws.Opened.{run_opened}
use Rattle.hip_repairs.specs.examples.Words.{site, zeroed, ExampleIsHoisted}
use Rattle.hip_repairs.specs.examples.CopyHoisted.{copy_hoisted, copy_hoisted_report, copy_hoisted_repaired}
use Rattle.hip_repairs.proofs.worked.Runs.{Follows, done_opened, int_value, address_value, run_is, reports_are}
use Rattle.hip_repairs.proofs.worked.Marked.{Seen, Sees, pointed_is, hit_is}

-- What is done, step by step.
abbrev deeds : List Deed
deeds =
    record { turn = true; action = Allocates (codes "a") 268435456 8 }
    ∷ record { turn = true; action = Allocates (codes "b") 268435464 8 }
    ∷ record { turn = true; action = Stores 268435456 (9 ∷ 0 ∷ 0 ∷ 0 ∷ 0 ∷ 0 ∷ 0 ∷ 0 ∷ []) }
    ∷ record { turn = true; action = Calls 0 ((codes "dst", 268435464) ∷ (codes "src", 268435456) ∷ []) None }
    ∷ record { turn = true; action = Assigns (Some (codes "v")) 9 }
    ∷ record { turn = true; action = Stores 268435464 (9 ∷ 0 ∷ 0 ∷ 0 ∷ 0 ∷ 0 ∷ 0 ∷ 0 ∷ []) }
    ∷ record { turn = true; action = Returns 0 }
    ∷ record { turn = true; action = Calls 0 ((codes "dst", 4294967296) ∷ (codes "src", 268435464) ∷ []) None }
    ∷ record { turn = true; action = Assigns (Some (codes "v")) 9 }
    ∷ record { turn = true; action = Stores 4294967296 (9 ∷ 0 ∷ 0 ∷ 0 ∷ 0 ∷ 0 ∷ 0 ∷ 0 ∷ []) }
    ∷ record { turn = true; action = Returns 0 }
    ∷ record { turn = true; action = Returns 0 }
    ∷ []

follows : Follows copy_hoisted (zeroed 1) (start copy_hoisted (zeroed 1)) deeds
unfolding run_opened
follows = (refl, simp shape-Int refl, (refl, simp shape-Int refl, (refl, simp int_value refl, (refl, refl, (refl, refl, (refl, refl, (refl, refl, (refl, simp (address_value, shape-Int) refl, (refl, refl, (refl, refl, (refl, refl, (refl, simp int_value refl, tt))))))))))))

ended : has_ended (run copy_hoisted (zeroed 1) 12) ≡ true
unfolding done_opened
ended = ap has_ended (run_is copy_hoisted (zeroed 1) deeds follows)

found : reports copy_hoisted (zeroed 1) 12 ≡ copy_hoisted_report ∷ []
unfolding done_opened
found = reports_are copy_hoisted (zeroed 1) deeds follows

-- What the pointers of the stores and the calls pointed into.
abbrev nothing_seen : Seen
nothing_seen = record { marks = []; hits = [] }

abbrev all_seen : List Seen
all_seen =
    nothing_seen
    ∷ nothing_seen
    ∷ record { marks = record { site = site 1 2; operand = 0; object = Slot (site 1 0) } ∷ []; hits = [] }
    ∷ record { marks = record { site = site 1 3; operand = 0; object = Slot (site 1 1) } ∷ record { site = site 1 3; operand = 1; object = Slot (site 1 0) } ∷ []; hits = [] }
    ∷ nothing_seen
    ∷ record { marks = record { site = site 0 1; operand = 0; object = Slot (site 1 1) } ∷ []; hits = [] }
    ∷ nothing_seen
    ∷ record { marks = record { site = site 1 4; operand = 0; object = Global 0 } ∷ record { site = site 1 4; operand = 1; object = Slot (site 1 1) } ∷ []; hits = [] }
    ∷ nothing_seen
    ∷ record { marks = record { site = site 0 1; operand = 0; object = Global 0 } ∷ []; hits = 0 ∷ [] }
    ∷ nothing_seen
    ∷ nothing_seen
    ∷ []

sees : Sees copy_hoisted (zeroed 1) (start copy_hoisted (zeroed 1)) deeds all_seen
unfolding done_opened
sees = (refl, (refl, (simp shape-Int refl, (simp shape-Int refl, (refl, (simp shape-Int refl, (refl, (simp (address_value, shape-Int) refl, (refl, (simp shape-Int refl, (refl, (refl, tt))))))))))))

abbrev marks : List Mark
marks =
    record { site = site 1 2; operand = 0; object = Slot (site 1 0) }
    ∷ record { site = site 1 3; operand = 0; object = Slot (site 1 1) }
    ∷ record { site = site 1 3; operand = 1; object = Slot (site 1 0) }
    ∷ record { site = site 0 1; operand = 0; object = Slot (site 1 1) }
    ∷ record { site = site 1 4; operand = 0; object = Global 0 }
    ∷ record { site = site 1 4; operand = 1; object = Slot (site 1 1) }
    ∷ record { site = site 0 1; operand = 0; object = Global 0 }
    ∷ []

points : pointed copy_hoisted (zeroed 1) 12 ≡ marks
points = pointed_is copy_hoisted (zeroed 1) deeds all_seen follows sees

hits : hit copy_hoisted (zeroed 1) 12 ≡ 0 ∷ []
hits = hit_is copy_hoisted (zeroed 1) deeds all_seen follows sees

pub copy_hoisted_worked : ExampleIsHoisted copy_hoisted (zeroed 1) 12 (copy_hoisted_report ∷ []) copy_hoisted_repaired
copy_hoisted_worked = record { ended = ended; reports = found; repaired = rw (found, points, hits) refl }
