use Rattle.hip_typing.specs.Seen.NamesSeen.{seen}
use Rattle.hip_sound.specs.Declarations.{instr_declared}
use Rattle.hip_sound.specs.Rules.{named_in}
use Rattle.hip_typing.proofs.NameLists.{more_names}
use Rattle.hip_typing.proofs.rules.inner.push_body.Goals as goal

pub body-preserved : goal.body-preserved
body-preserved c =
    more_names (instr_declared ((named_in c.args.function).instr c.args.block)) (seen c.args.names.now) c.args.body.now c.body.index c.index-body-index.result c.body.names c.push_instr.new.names c.body-test.true c.index-body-index.is c.body.invariant c.in_ok-push_instr.ensures
