use Rattle.std.proofs.Common.{◌≡◌, [], Some, sym, ap, ◌∙◌}
use Rattle.hip_typing.specs.Seen.Inner.{inner_entries, block_number}
use Rattle.hip_names.specs.Tables.{value_of}
use Rattle.hip_typing.specs.declared.tables.inner_table.Inner.TheVariants.{Label}
use Rattle.hip_typing.proofs.AssignedLemmas.{edge_used, edge_unused, label_within}
use Rattle.hip_typing.proofs.UseLists.{all_of_none}
use Rattle.hip_typing.proofs.assigned.functions.verify_edge.Goals as goal

pub verify_operand-requires-clause-block : goal.verify_operand-requires-clause-block
verify_operand-requires-clause-block c =
    let fn = c.args.body.now.function.now in
    let e : value_of (inner_entries fn) c.args.edge.now.label ≡ Some (Label c.in-Some.block) = sym (c.requires.stands.finds c.args.edge.now.label) ∙ c.in-Some.ensures in
    label_within fn c.args.edge.now.label c.in-Some.block e

pub returns-in-Some : goal.returns-in-Some
returns-in-Some c =
    let fn = c.args.body.now.function.now in
    let e : value_of (inner_entries fn) c.args.edge.now.label ≡ Some (Label c.in-Some.block) = sym (c.requires.stands.finds c.args.edge.now.label) ∙ c.in-Some.ensures in
    rw (edge_used fn c.args.place c.args.ty c.args.edge.now c.in-Some.block c.requires.differ e) c.verify_operand.ensures

pub returns-in-None : goal.returns-in-None
returns-in-None c =
    let fn = c.args.body.now.function.now in
    let e : block_number (value_of (inner_entries fn) c.args.edge.now.label) ≡ [] = ap block_number (sym (c.requires.stands.finds c.args.edge.now.label)) ∙ c.in-None.ensures in
    all_of_none fn _ (edge_unused fn c.args.place c.args.ty c.args.edge.now c.requires.differ e)
