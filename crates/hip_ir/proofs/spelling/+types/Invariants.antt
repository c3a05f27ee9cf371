use Rattle.std.proofs.Common.{◌≡◌, drop}
use Rattle.std.specs.List.{list_all}
use Rattle.hip_grammar.specs.Spelling.{spelled_type_within}
use Rattle.hip_ir.proofs.spelling.+types.Given as goal

abbrev pub invariant-spelled_fields_within-fields : goal.invariant-spelled_fields_within-fields
invariant-spelled_fields_within-fields l = list_all (spelled_type_within l.depth) (drop l.field-index l.fields) ≡ list_all (spelled_type_within l.depth) l.fields
