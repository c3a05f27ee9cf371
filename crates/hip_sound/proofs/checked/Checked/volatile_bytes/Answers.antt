use Rattle.std.proofs.Common.{◌≡◌, ◌+◌, true, arith, sym, ap, ◌∙◌}
use Rattle.hip_globals.specs.Addresses.{end_of}
use Rattle.hip_globals.specs.Laws.AddressLaws.{end_of-from}
use Rattle.hip_sound.specs.Laws.SoundLaws.{persistent-end}
use Rattle.hip_sound.specs.Laws.SpelledLaws.{spelled-divide}
use Rattle.hip_sound.proofs.checked.Checked.volatile_bytes.Goals as goal

pub volatile_bytes-requires-clause-globals : goal.volatile_bytes-requires-clause-globals
volatile_bytes-requires-clause-globals c = c.self.invariant.global_types_fit

pub volatile_bytes-requires-clause-persistent : goal.volatile_bytes-requires-clause-persistent
volatile_bytes-requires-clause-persistent c =
    let P = c.self.inside.program in
    let none : c.args.base + 0 ≡ c.args.base = omega arith in
    let moved = end_of-from true c.args.base 0 P.globals c.requires.page (spelled-divide P c.self.invariant.spelled) in
    let end : end_of true c.args.base P.globals ≡ c.args.base + end_of true 0 P.globals = sym (ap (λ n. end_of true n P.globals) none) ∙ moved in
    omega (arith, end, persistent-end P c.self.invariant.sizes, c.requires.high)

pub volatile_bytes-requires-clause-volatile : goal.volatile_bytes-requires-clause-volatile
volatile_bytes-requires-clause-volatile c = let volatile = c.self.invariant.sizes.volatile in omega (arith, volatile)
