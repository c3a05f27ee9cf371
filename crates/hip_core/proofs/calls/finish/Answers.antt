use Rattle.std.proofs.Common.{◌≡◌, sym, ◌∙◌, length}
use Rattle.hip_core.specs.declared.core_parts.Core.{Core}
use Rattle.hip_core.proofs.Arms.{finishes_bottom, finishes_call, none_left}
use Rattle.hip_core.proofs.calls.finish.Goals as goal

pub returns-in-Some-clause-does : goal.returns-in-Some-clause-does
returns-in-Some-clause-does c =
    let mid : Core = record c.args.core.now { saved = c.pop.new.self } in
    finishes_call mid c.args.value c.in-Some.caller c.in-Some.caller.left c.in-Some.ensures.items c.leave.ensures.others c.leave.ensures.slots c.leave.ensures.blocks c.leave.ensures.storage

pub returns-in-None-clause-does : goal.returns-in-None-clause-does
returns-in-None-clause-does c =
    let mid : Core = record c.args.core.now { saved = c.pop.new.self } in
    let z : length c.args.core.now.saved.items ≡ 0 = sym c.args.core.now.saved.ok.0 ∙ c.in-None.ensures.cases.0 in
    let none = none_left c.args.core.now.saved.items c.pop.new.self.items c.in-None.ensures.items z in
    finishes_bottom mid c.args.value c.stop_with.result none.0 none.1 c.stop_with.ensures.event c.stop_with.ensures.core
