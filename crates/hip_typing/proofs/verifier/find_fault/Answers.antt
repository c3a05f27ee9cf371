use Rattle.std.proofs.Common.{sym, subst}
use Rattle.hip_typing.specs.Verified.{Refuses, refuses-unspelled, refuses-stopped, refuses-on_paths, inner_names-hold, is_spelled, sound-is}
use Rattle.hip_typing.proofs.verifier.find_fault.Goals as goal

pub returns-then-not-spelled : goal.returns-then-not-spelled
returns-then-not-spelled c = refuses-unspelled c.args.program.now c.spelled.result c.spelled.ensures.read_back c.if-not-spelled.true

pub returns-in-Err : goal.returns-in-Err
returns-in-Err c =
    let P = c.args.program.now in
    subst (Refuses P) (sym c.refusal_of.ensures) (refuses-stopped P c.in-Err.refused (is_spelled P c.spelled.result c.spelled.ensures.read_back c.if-not-spelled.false) c.in-Err.ensures)

pub verify_assigned-requires : goal.verify_assigned-requires
verify_assigned-requires c = inner_names-hold c.args.program.now c.in_default.ensures

pub returns-in-Ok : goal.returns-in-Ok
returns-in-Ok c =
    let P = c.args.program.now in
    (sound-is P (is_spelled P c.spelled.result c.spelled.ensures.read_back c.if-not-spelled.false) c.in_default.ensures c.in-Ok.ensures, tt)

pub returns-in-Err-verify_assigned : goal.returns-in-Err-verify_assigned
returns-in-Err-verify_assigned c =
    let P = c.args.program.now in
    subst (Refuses P) (sym c.refusal_on_paths.ensures)
    (refuses-on_paths P c.in-Err-verify_assigned.refused (is_spelled P c.spelled.result c.spelled.ensures.read_back c.if-not-spelled.false) c.in_default.ensures c.in-Err-verify_assigned.ensures)
