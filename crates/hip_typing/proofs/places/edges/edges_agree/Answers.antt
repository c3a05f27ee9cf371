use Rattle.std.proofs.Common.{sym, subst, ◌∙◌, Option}
use Rattle.std.specs.Borrow.{Bor}
use Rattle.hip_tree.specs.declared.instr.Operand.{Operand}
use Rattle.hip_typing.specs.Seen.Carried.{CarriesWhere}
use Rattle.hip_names.specs.declared.table.NameTable.{NameTable}
use Rattle.hip_typing.proofs.CarriedLemmas.{edges_by_table}
use Rattle.hip_typing.proofs.places.edges.edges_agree.Goals as goal

pub returns-in-Some : goal.returns-in-Some
returns-in-Some c =
    let carried = subst (λ (o : Option (NameTable (Bor Operand))). CarriesWhere c.args.edges.now o) c.in-Some.is c.in_ok-table.ensures in
    c.is_within.ensures ∙ edges_by_table c.args.before.now c.args.edges.now carried (sym c.edge_labels_known.ensures ∙ c.if-not-edge_labels_known.false)
