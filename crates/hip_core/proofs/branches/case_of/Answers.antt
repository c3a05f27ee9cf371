use Rattle.std.proofs.Common.{◌∙◌, Option, ap, arith, ltb, option_to_list, refl, rules, sym}
use Rattle.std.proofs.lemmas.List.Sorted.{IsPartitionPoint-from_clause, IsPartitionedBy-ltb}
use Rattle.std.proofs.lemmas.Option.{slice_get_past, slice_get_read}
use Rattle.hip_code.specs.Ops.{case_edge}
use Rattle.hip_code.specs.declared.op.EdgeCase.{EdgeCase}
use Rattle.hip_core.proofs.BranchArms.{case_found}
use Rattle.hip_core.proofs.branches.case_of.Goals as goal

pub returns-in-Some : goal.returns-in-Some
returns-in-Some c =
    let cases = c.args.cases.now in
    let at = c.partition_point-at.result in
    let parted = IsPartitionedBy-ltb (λ (x : EdgeCase). x.value) cases c.args.value c.requires in
    let point = IsPartitionPoint-from_clause (λ (x : EdgeCase). ltb x.value c.args.value) cases at c.partition_point-at.ensures.partitioned parted (λ a r q k. search rules) in
    c.edge_for.ensures
    ∙ ap (λ (o : Option EdgeCase). case_edge c.args.value (option_to_list o) c.args.other) (sym (slice_get_read cases _ at c.in-Some.case.now refl c.in-Some.ensures.lookup.3.0 c.in-Some.ensures.lookup.1))
    ∙ sym (case_found c.args.value cases c.args.other at c.requires (λ k d lt w. point.0 k d (omega arith) lt) (λ k d le w. point.1 k d le w))

pub returns-in-None : goal.returns-in-None
returns-in-None c =
    let cases = c.args.cases.now in
    let at = c.partition_point-at.result in
    let parted = IsPartitionedBy-ltb (λ (x : EdgeCase). x.value) cases c.args.value c.requires in
    let point = IsPartitionPoint-from_clause (λ (x : EdgeCase). ltb x.value c.args.value) cases at c.partition_point-at.ensures.partitioned parted (λ a r q k. search rules) in
    ap (λ (o : Option EdgeCase). case_edge c.args.value (option_to_list o) c.args.other) (sym (slice_get_past cases at c.in-None.ensures.lookup.3))
    ∙ sym (case_found c.args.value cases c.args.other at c.requires (λ k d lt w. point.0 k d (omega arith) lt) (λ k d le w. point.1 k d le w))
