use Rattle.std.proofs.Common.{Some}
use Rattle.hip_typing.proofs.RegisterLemmas.{adds_one}
use Rattle.hip_typing.proofs.tables.registers.add_params.Goals as goal

pub params-preserved : goal.params-preserved
params-preserved c =
    adds_one (λ p. record { name = p.name; ty = Some p.ty }) c.args.params.now c.params.param-index c.param-item.result c.params-test.true c.param-item.is c.params.invariant c.in_ok-add_register.ensures
