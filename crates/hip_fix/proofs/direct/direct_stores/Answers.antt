use Rattle.std.proofs.Common.{◌≡◌, [], ◌++◌, ap, ◌∙◌}
use Rattle.std.specs.Str.{bytes_eq}
use Rattle.hip_types.specs.Distinct.{met}
use Rattle.hip_fix.specs.DirectWalk.{direct_in_functions, volatile_names}
use Rattle.hip_fix.proofs.DirectSites.{direct_filtered}
use Rattle.hip_fix.proofs.direct.direct_stores.Goals as goal

pub returns : goal.returns
returns c =
    let P = c.args.program.now in
    let volatile : c.in_ok-volatile.volatile ≡ met bytes_eq [] (volatile_names P.globals) = c.in_ok-volatile.ensures ∙ ap (λ gs. met bytes_eq [] (volatile_names gs)) c.as_slice.ensures in
    c.in_ok-add_functions.ensures
    ∙ (λ i. c.new-sites.ensures i ++ direct_in_functions (volatile i) 0 (c.as_slice-2.ensures i))
    ∙ direct_filtered P
