use Rattle.std.proofs.Common.{◌≡◌, ◌++◌, take}
use Rattle.hip_typing.specs.Seen.NamesSeen.{seen}
use Rattle.hip_sound.specs.Declarations.{body_declared}
use Rattle.hip_sound.specs.Rules.{named_in}
use Rattle.hip_typing.proofs.rules.inner.push_body.Given as goal

abbrev pub invariant-body : goal.invariant-body
invariant-body l = seen l.names ≡ seen l.initial.names ++ body_declared ((named_in l.function).instr l.block) (take l.index l.body)
