use Rattle.std.proofs.Common.{◌≡◌, length, Some, None}
use Rattle.hip_paths.specs.Graphs.{IsPathAround, IsPassedBefore}
use Rattle.hip_typing.specs.Seen.AssignedSeen.{to_pass}
use Rattle.hip_typing.specs.Seen.Inner.{inner_entries, graph_of}
use Rattle.hip_names.specs.Tables.{value_of}
use Rattle.hip_typing.proofs.AssignedLemmas.{assigned_here, assigned_when_passed, unassigned_around}
use Rattle.hip_typing.proofs.UseLists.{all_of_one, first_of_one}
use Rattle.hip_typing.proofs.assigned.verify_use.Goals as goal

pub returns-in_default : goal.returns-in_default
returns-in_default c =
    let fn = c.args.body.now.function.now in
    let nothing : to_pass (length fn.blocks) c.args.block c.args.point (value_of (inner_entries fn) c.args.name.now) ≡ None = cc (c.requires.body.stands.finds c.args.name.now) in
    all_of_one fn _ (assigned_here fn c.args.block c.args.point c.args.name.now nothing)

pub returns-in-Some-2 : goal.returns-in-Some-2
returns-in-Some-2 c =
    let fn = c.args.body.now.function.now in
    let passed : to_pass (length fn.blocks) c.args.block c.args.point (value_of (inner_entries fn) c.args.name.now) ≡ Some c.in-Some.passed = cc (c.requires.body.stands.finds c.args.name.now) in
    let way : IsPathAround (graph_of fn) c.in-Some.passed c.args.block c.in-Some-2.path = rw (← c.requires.body.graph_is) (rw c.in-Some-2.is at c.in_ok-path.ensures) in
    first_of_one fn c.args.place c.args.block c.args.point c.args.name.now c.in-Some-2.path
    (unassigned_around fn c.args.block c.in-Some.passed c.args.point c.args.name.now c.in-Some-2.path c.requires.body.differ passed way)

pub returns-in-None : goal.returns-in-None
returns-in-None c =
    let fn = c.args.body.now.function.now in
    let passed : to_pass (length fn.blocks) c.args.block c.args.point (value_of (inner_entries fn) c.args.name.now) ≡ Some c.in-Some.passed = cc (c.requires.body.stands.finds c.args.name.now) in
    let always : IsPassedBefore (graph_of fn) c.in-Some.passed c.args.block = rw (← c.requires.body.graph_is) (rw c.in-None.is at c.in_ok-path.ensures) in
    all_of_one fn _ (assigned_when_passed fn c.args.block c.in-Some.passed c.args.point c.args.name.now c.requires.body.differ passed c.requires.block always)
