-- The run of a function that asserts what it stored, and its repair.
use Rattle.std.proofs.Common.{◌≡◌, true, ℕ, [], ◌∷◌, List, ◌++◌, ◌+◌, Some, None, codes, refl, ap, ◌∙◌}
use Rattle.std.specs.Int.{next_multiple_of}
use Rattle.hip_types.specs.Layout.{Shape}
use Rattle.hip_types.specs.Laws.LayoutLaws.{shape-Int}
use Rattle.hip_types.specs.Numbers.{bits}
use Rattle.hip_types.specs.declared.number.Width.TheVariants.{W64}
use Rattle.hip_types.specs.declared.ty.Ty.TheVariants as types
use Rattle.hip_tree.specs.declared.constant.Const.TheVariants as consts
use Rattle.hip_globals.specs.Addresses.{volatile_end}
use Rattle.hip_globals.specs.Initial.{volatile_bytes}
use Rattle.hip_globals.specs.Values.{aligned, constant_bytes, global_address, sized, written}
use Rattle.hip_runs.specs.declared.event.Object.TheVariants.{Global}
use Rattle.hip_runs.specs.declared.report.Mark.{Mark}
use Rattle.hip_runs.specs.Actions.{Deed, Assigns, Asserts, Calls, Returns, Stores}
use Rattle.hip_runs.specs.Found.Marks.{pointed, hit}
use Rattle.hip_runs.specs.Found.Reports.{reports}
use Rattle.hip_runs.specs.Step.{start, run, has_ended}
use Rattle.hip_runs.specs.Laws.Opened.{run_opened}
use Rattle.hip_repairs.specs.examples.Words.{site, zeroed, ExampleIsHoisted}
use Rattle.hip_repairs.specs.examples.AssertInsideCallee.{assert_inside_callee, assert_inside_callee_reports, assert_inside_callee_repaired}
use Rattle.hip_repairs.proofs.worked.Runs.{Follows, done_opened, int_value, address_value, run_is, reports_are}
use Rattle.hip_repairs.proofs.worked.Marked.{Seen, Sees, written_int, pointed_is, hit_is}

-- What is done, step by step.
abbrev deeds : List Deed
deeds =
    record { turn = true; action = Calls 0 ((codes "dst", 4294967296) ∷ (codes "src", 65536) ∷ []) None }
    ∷ record { turn = true; action = Assigns (Some (codes "v")) 9 }
    ∷ record { turn = true; action = Stores 4294967296 (9 ∷ 0 ∷ 0 ∷ 0 ∷ 0 ∷ 0 ∷ 0 ∷ 0 ∷ []) }
    ∷ record { turn = true; action = Asserts 4294967296 8 }
    ∷ record { turn = true; action = Returns 0 }
    ∷ record { turn = true; action = Returns 0 }
    ∷ []

-- Where the volatile globals end, and their bytes.
end_is : volatile_end assert_inside_callee ≡ 65544
end_is = ap (λ (x : Shape). next_multiple_of 65536 x.align + x.size) (shape-Int W64)

abbrev named : List ℕ → ℕ
named = global_address assert_inside_callee.globals 4294967296

nine_bytes : constant_bytes named (consts.Int (bits W64 9)) (types.Int W64) ≡ 9 ∷ 0 ∷ 0 ∷ 0 ∷ 0 ∷ 0 ∷ 0 ∷ 0 ∷ []
nine_bytes =
    ap (λ (x : Shape). sized x.size (written named (consts.Int (bits W64 9))).bytes) (shape-Int W64)
    ∙ ap (sized 8) (written_int named (bits W64 9))

volatile_is : volatile_bytes assert_inside_callee 4294967296 ≡ 9 ∷ 0 ∷ 0 ∷ 0 ∷ 0 ∷ 0 ∷ 0 ∷ 0 ∷ []
volatile_is =
    ap (λ (x : Shape). aligned 65536 x.align [] ++ constant_bytes named (consts.Int (bits W64 9)) (types.Int W64)) (shape-Int W64)
    ∙ ap (λ (bs : List ℕ). aligned 65536 8 [] ++ bs) nine_bytes

follows : Follows assert_inside_callee (zeroed 1) (start assert_inside_callee (zeroed 1)) deeds
unfolding run_opened
follows = (refl, simp (address_value, shape-Int) refl, (refl, rw (end_is, volatile_is) refl, (refl, simp shape-Int refl, (refl, simp int_value refl, (refl, refl, (refl, simp int_value refl, tt))))))

ended : has_ended (run assert_inside_callee (zeroed 1) 6) ≡ true
unfolding done_opened
ended = ap has_ended (run_is assert_inside_callee (zeroed 1) deeds follows)

found : reports assert_inside_callee (zeroed 1) 6 ≡ assert_inside_callee_reports
unfolding done_opened
found = reports_are assert_inside_callee (zeroed 1) deeds follows

-- What the pointers of the stores and the calls pointed into.
abbrev nothing_seen : Seen
nothing_seen = record { marks = []; hits = [] }

abbrev all_seen : List Seen
all_seen =
    record { marks = record { site = site 1 0; operand = 0; object = Global 0 } ∷ record { site = site 1 0; operand = 1; object = Global 1 } ∷ []; hits = [] }
    ∷ nothing_seen
    ∷ record { marks = record { site = site 0 1; operand = 0; object = Global 0 } ∷ []; hits = 0 ∷ [] }
    ∷ nothing_seen
    ∷ nothing_seen
    ∷ nothing_seen
    ∷ []

sees : Sees assert_inside_callee (zeroed 1) (start assert_inside_callee (zeroed 1)) deeds all_seen
unfolding done_opened
sees = (simp (address_value, shape-Int) refl, (refl, (simp shape-Int refl, (refl, (refl, (refl, tt))))))

abbrev marks : List Mark
marks =
    record { site = site 1 0; operand = 0; object = Global 0 }
    ∷ record { site = site 1 0; operand = 1; object = Global 1 }
    ∷ record { site = site 0 1; operand = 0; object = Global 0 }
    ∷ []

points : pointed assert_inside_callee (zeroed 1) 6 ≡ marks
points = pointed_is assert_inside_callee (zeroed 1) deeds all_seen follows sees

hits : hit assert_inside_callee (zeroed 1) 6 ≡ 0 ∷ []
hits = hit_is assert_inside_callee (zeroed 1) deeds all_seen follows sees

pub assert_inside_callee_worked : ExampleIsHoisted assert_inside_callee (zeroed 1) 6 assert_inside_callee_reports assert_inside_callee_repaired
assert_inside_callee_worked = record { ended = ended; reports = found; repaired = rw (found, points, hits) refl }
