-- The run of a store that spans two cache lines, and its repair.
use Rattle.std.proofs.Common.{◌≡◌, true, [], ◌∷◌, List, ℕ, Option, Some, codes, ◌+◌, ◌*◌, ◌%◌, ◌^◌, option_map, option_and_then, refl, ap, ◌∙◌}
use Rattle.hip_tree.specs.declared.constant.Const.TheVariants as consts
use Rattle.hip_tree.specs.Laws.Levels.{out-Ty-Array}
use Rattle.hip_types.specs.Laws.LayoutLaws.{shape-Int, shape-Array}
use Rattle.hip_types.specs.Layout.{Shape, TypePart, size_of, enter, enter_level, further, part_at, gep_of}
use Rattle.hip_types.specs.declared.number.Width.TheVariants.{W8, W64}
use Rattle.hip_types.specs.declared.ty.Ty.TheVariants as types
use Rattle.hip_globals.specs.Values.{const_value}
use Rattle.hip_runs.specs.Operands.{value_of}
use Rattle.hip_runs.specs.Actions.{Deed, Returns, Stores}
use Rattle.hip_runs.specs.Found.Reports.{reports}
use Rattle.hip_runs.specs.Step.{start, run, has_ended}
use Rattle.hip_runs.specs.Laws.Opened.{run_opened}
use Rattle.hip_repairs.specs.examples.Words.{zeroed, IsWorked}
use Rattle.hip_repairs.specs.examples.StoreInTwoLines.{sixteen_words, byte_sixty, store_in_two_lines, store_in_two_lines_report, store_in_two_lines_repaired}
use Rattle.hip_repairs.proofs.worked.Runs.{Follows, done_opened, element_value, int_value, address_value, run_is, reports_are}

-- The store's offset, and its address.
enters : enter (types.Array 128 (types.Int W8)) 60 ≡ Some (record { offset = 60; ty = types.Int W8 })
enters = ap (enter_level 60) (out-Ty-Array 128 (types.Int W8)) ∙ ap (λ (x : Shape). Some (record { offset = 60 * x.size; ty = types.Int W8 })) (shape-Int W8)

abbrev after_first : Option TypePart → Option ℕ
after_first o = option_map (λ p. (0 * size_of (types.Array 128 (types.Int W8)) + p.offset) % 2 ^ 64) (option_and_then (λ p. further p.offset (part_at [] p.ty)) o)

offset : gep_of (types.Array 128 (types.Int W8)) (0 ∷ 60 ∷ []) ≡ Some 60
offset = ap (λ (o : Option TypePart). after_first o) enters ∙ ap (λ (x : Shape). Some ((0 * x.size + 60) % 2 ^ 64)) (shape-Array 128 (types.Int W8)) ∙ ap (λ (x : Shape). Some ((0 * (128 * x.size) + 60) % 2 ^ 64)) (shape-Int W8)

a_at : const_value (sixteen_words ∷ []) 4294967296 (consts.Address (codes "a")) ≡ 4294967296
a_at = rw (address_value, shape-Array 16 (types.Int W64), shape-Int W64) refl

store_at : value_of (sixteen_words ∷ []) 4294967296 [] byte_sixty ≡ 4294967356
store_at = rw (element_value, a_at, offset) refl

-- What is done, step by step.
abbrev deeds : List Deed
deeds = record { turn = true; action = Stores 4294967356 (5 ∷ 0 ∷ 0 ∷ 0 ∷ 0 ∷ 0 ∷ 0 ∷ 0 ∷ []) } ∷ record { turn = true; action = Returns 0 } ∷ []

follows : Follows store_in_two_lines (zeroed 2) (start store_in_two_lines (zeroed 2)) deeds
unfolding run_opened
follows = (refl, simp (int_value, store_at) refl, (refl, simp (int_value) refl, tt))

ended : has_ended (run store_in_two_lines (zeroed 2) 2) ≡ true
unfolding done_opened
ended = ap has_ended (run_is store_in_two_lines (zeroed 2) deeds follows)

found : reports store_in_two_lines (zeroed 2) 2 ≡ store_in_two_lines_report ∷ []
unfolding done_opened
found = reports_are store_in_two_lines (zeroed 2) deeds follows

pub store_in_two_lines_worked : IsWorked store_in_two_lines (zeroed 2) 2 (store_in_two_lines_report ∷ []) store_in_two_lines_repaired
store_in_two_lines_worked = record { ended = ended; reports = found; repaired = λ skip. rw found refl }
