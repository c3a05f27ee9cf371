use Rattle.std.proofs.Common.{Some}
use Rattle.hip_typing.proofs.RegisterLemmas.{adds_one}
use Rattle.hip_typing.proofs.tables.registers.add_phis.Goals as goal

pub phis-preserved : goal.phis-preserved
phis-preserved c =
    adds_one (λ p. record { name = p.dest; ty = Some p.ty }) c.args.phis.now c.phis.phi-index c.phi-item.result c.phis-test.true c.phi-item.is c.phis.invariant c.in_ok-add_register.ensures
