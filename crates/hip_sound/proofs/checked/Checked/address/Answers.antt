use Rattle.std.proofs.Common.{◌≡◌, ◌+◌, true, arith, sym, ap, ◌∙◌}
use Rattle.hip_globals.specs.Addresses.{end_of}
use Rattle.hip_globals.specs.Laws.AddressLaws.{globals-fit, end_of-from}
use Rattle.hip_sound.specs.Laws.SoundLaws.{persistent-end}
use Rattle.hip_sound.specs.Laws.SpelledLaws.{spelled-divide}
use Rattle.hip_sound.proofs.checked.Checked.address.Goals as goal

pub address-requires-clause-fit : goal.address-requires-clause-fit
address-requires-clause-fit c = globals-fit c.self.inside.program.globals c.self.invariant.global_types_fit

pub address-requires-clause-aligned : goal.address-requires-clause-aligned
address-requires-clause-aligned c = spelled-divide c.self.inside.program c.self.invariant.spelled

pub address-requires-clause-persistent : goal.address-requires-clause-persistent
address-requires-clause-persistent c =
    let P = c.self.inside.program in
    let none : c.args.base + 0 ≡ c.args.base = omega arith in
    let moved = end_of-from true c.args.base 0 P.globals c.requires.base.page (spelled-divide P c.self.invariant.spelled) in
    let end : end_of true c.args.base P.globals ≡ c.args.base + end_of true 0 P.globals = sym (ap (λ n. end_of true n P.globals) none) ∙ moved in
    omega (arith, end, persistent-end P c.self.invariant.sizes, c.requires.base.high)
