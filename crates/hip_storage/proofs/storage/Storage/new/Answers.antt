use Rattle.std.proofs.Common.{◌≡◌, ◌+◌, length, sym, ap, ◌∙◌, subst, rules}
use Rattle.hip_types.specs.Areas.{volatile_start}
use Rattle.hip_runs.specs.Step.{start}
use Rattle.hip_storage.specs.Contents.{Contents, initial}
use Rattle.hip_storage.specs.Represented.{HoldsState}
use Rattle.hip_storage.specs.Laws.StartLaws.{starts}
use Rattle.hip_storage.proofs.storage.Storage.new.Goals as goal

pub returns-clause-starts : goal.returns-clause-starts
returns-clause-starts c =
    let same : record { areas = c.in_ok-ram.ram } ≡ initial c.args.checked.now c.args.input.now = search rules in
    subst (λ (s : Contents). HoldsState c.args.checked.now c.args.input.now s (start c.args.checked.now c.args.input.now)) (sym same)
    (starts c.args.checked.now c.args.input.now c.program-program.ensures.sound c.requires
    (ap (λ bytes. volatile_start + length bytes) (sym c.in_ok-volatile.ensures.bytes) ∙ c.in_ok-volatile.ensures.length))
