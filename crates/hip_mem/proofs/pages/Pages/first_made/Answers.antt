use Rattle.std.proofs.Common.{◌≡◌, ◌+◌, ◌-◌, ◌∙◌, ap, arith}
use Rattle.hip_directory.specs.Directories.{number_at}
use Rattle.hip_mem.proofs.PageKeys.{stack-place, zero-byte}
use Rattle.hip_mem.proofs.pages.Pages.first_made.Goals as goal

pub returns-in-Some : goal.returns-in-Some
returns-in-Some c =
    let e = c.in-Some.ensures in
    let place = stack-place c.args.self.now (c.in-Some.key + 65536) (omega arith) (omega (arith, e.1, c.requires.to)) in
    let key : c.in-Some.key + 65536 - 65536 ≡ c.in-Some.key = omega arith in (
      omega (arith, e.0, c.requires.from),
      omega (arith, e.1, c.requires.to),
      (let same = ap (number_at c.args.self.now.directory) key in omega (arith, place, same, e.2)),
      λ n i low high lt. zero-byte c.args.self.now n i (stack-place c.args.self.now n (omega (arith, low, c.requires.from)) (omega (arith, high, e.1, c.requires.to)) ∙ e.3 (n - 65536) (omega (arith, low)) (omega (arith, high, low, c.requires.from))) lt,
    )

pub returns-in-None : goal.returns-in-None
returns-in-None c = λ n i low high lt. zero-byte c.args.self.now n i (stack-place c.args.self.now n (omega (arith, low, c.requires.from)) (omega (arith, high, c.requires.to)) ∙ c.in-None.ensures (n - 65536) (omega (arith, low)) (omega (arith, high, low, c.requires.from))) lt
