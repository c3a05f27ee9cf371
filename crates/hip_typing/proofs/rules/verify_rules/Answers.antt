use Rattle.hip_sound.specs.Laws.SoundExact.{globals-sound}
use Rattle.hip_sound.specs.Laws.SoundLaws.{globals-exact}
use Rattle.hip_globals.specs.Laws.AddressLaws.{globals-fit}
use Rattle.hip_typing.proofs.rules.verify_rules.Goals as goal

pub verify_sizes-requires : goal.verify_sizes-requires
verify_sizes-requires c =
    let P = c.args.program.now in
    globals-fit P.globals (globals-sound P ((globals-exact P).sound c.in_ok-verify_globals.ensures)).fit
