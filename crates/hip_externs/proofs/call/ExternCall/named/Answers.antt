use Rattle.std.proofs.Common.{rules, tests, ◌∙◌}
use Rattle.std.proofs.lemmas.Iterator.{YieldsList-from_slice}
use Rattle.std.proofs.lemmas.Iterator.Search.{find_from_yields_List}
use Rattle.std.specs.Str.{bytes_eq}
use Rattle.hip_externs.specs.Externs.{row_of}
use Rattle.hip_externs.specs.declared.call.TheConstants.{CALLS}
use Rattle.hip_externs.proofs.call.ExternCall.named.Goals as goal

pub returns : goal.returns
returns c =
    c.copied.ensures
    ∙ find_from_yields_List (λ x. bytes_eq (row_of x).name c.args.name.now) _ _ _ c.find.ensures.ran (YieldsList-from_slice CALLS cc) (λ x b q k. search (rules, tests))
