use Rattle.std.proofs.Common.{◌≡◌, ◌+◌, true, arith, sym, ap, ◌∙◌}
use Rattle.hip_globals.specs.Addresses.{end_of}
use Rattle.hip_globals.specs.Laws.AddressLaws.{globals-fit, end_of-from}
use Rattle.hip_sound.specs.Laws.SoundLaws.{persistent-end}
use Rattle.hip_sound.specs.Laws.SpelledLaws.{spelled-divide}
use Rattle.hip_resolve.proofs.name_sets.global_addresses.Goals as goal

pub new-requires-clause-fit : goal.new-requires-clause-fit
new-requires-clause-fit c = rw c.as_slice.ensures (globals-fit c.args.program.now.globals c.requires.sound.global_types_fit)

pub new-requires-clause-persistent : goal.new-requires-clause-persistent
new-requires-clause-persistent c =
    let P = c.args.program.now in
    let none : c.args.base + 0 ≡ c.args.base = omega arith in
    let moved = end_of-from true c.args.base 0 P.globals c.requires.base.page (spelled-divide P c.requires.sound.spelled) in
    let end : end_of true c.args.base P.globals ≡ c.args.base + end_of true 0 P.globals = sym (ap (λ n. end_of true n P.globals) none) ∙ moved in
    rw c.as_slice.ensures (omega (arith, end, persistent-end P c.requires.sound.sizes, c.requires.base.high))

pub new-requires-clause-volatile : goal.new-requires-clause-volatile
new-requires-clause-volatile c =
    let volatile = c.requires.sound.sizes.volatile in
    rw c.as_slice.ensures (omega (arith, volatile))
