use Rattle.std.proofs.Common.{sym, ap, ◌∙◌}
use Rattle.hip_externs.specs.Externs.{call_of}
use Rattle.hip_instr_ops.proofs.CallOps.{calls_extern, calls_function}
use Rattle.hip_instr_ops.proofs.instrs.any_call.Goals as goal

pub extern_call-requires-clause-as_long : goal.extern_call-requires-clause-as_long
extern_call-requires-clause-as_long c =
    calls_extern _ c.requires.scope.sound c.args.callee.now c.requires.callee.0 _ _ c.requires.callee.1 (ap call_of (sym c.as_slice.ensures) ∙ sym c.named.ensures ∙ c.in-Some.is)

pub call-requires-clause-calls : goal.call-requires-clause-calls
call-requires-clause-calls c =
    calls_function _ c.requires.scope.sound c.args.callee.now c.requires.callee.0 _ c.requires.callee.1 (ap call_of (sym c.as_slice.ensures) ∙ sym c.named.ensures ∙ c.in-None.is)
