use Rattle.std.proofs.Common.{◌≡◌, sym, ap, ◌∙◌, subst}
use Rattle.std.proofs.lemmas.Option.{get_or_from_slice_get}
use Rattle.hip_code.specs.Ops.{OpWithin}
use Rattle.hip_code.specs.declared.op.Op.{Op}
use Rattle.hip_core.specs.Acts.{numbers_of}
use Rattle.hip_runner.specs.StoresAhead.{store_in}
use Rattle.hip_runner.proofs.ahead.store_here.Goals as goal

pub store_of-requires : goal.store_of-requires
store_of-requires c =
    let code = c.args.code.now in
    let core = c.args.core.now in
    let op = c.index-op.result.now in
    let same = c.index-op.ensures ∙ get_or_from_slice_get code.ops.items core.top.place c.requires.op op c.requires.here in
    subst (λ (x : Op). OpWithin (numbers_of code core) x) (sym same) c.requires.within

pub returns-clause-store : goal.returns-clause-store
returns-clause-store c = λ o here.
    let code = c.args.code.now in
    let core = c.args.core.now in
    let op = c.index-op.result.now in
    let same : op ≡ o = c.index-op.ensures ∙ get_or_from_slice_get code.ops.items core.top.place o op here in
    c.store_of.ensures.store ∙ ap (store_in (numbers_of code core)) same
