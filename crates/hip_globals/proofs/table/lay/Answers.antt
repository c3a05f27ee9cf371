use Rattle.std.proofs.Common.{◌≡◌, ap, ◌∙◌}
use Rattle.std.specs.Int.{next_multiple_of}
use Rattle.hip_globals.specs.Addresses.{global_start}
use Rattle.hip_globals.proofs.table.lay.Goals as goal

pub returns-clause-table : goal.returns-clause-table
returns-clause-table c =
    let start : c.in-Some.start ≡ global_start c.args.at c.args.global.now = c.in-Some.ensures.1 ∙ ap (λ n. next_multiple_of c.args.at n) c.alignment.ensures.value in
    record { gains = λ before stands. rw (← start, ← c.as_slice.ensures) (c.in_ok-add.ensures.ok before stands) }
