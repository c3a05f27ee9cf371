use Rattle.std.proofs.Common.{◌/◌, ◌∙◌, refl, arith}
use Rattle.hip_directory.proofs.TableLemmas.{number-same, table-same, number-grown}
use Rattle.hip_directory.proofs.Counts.{count-same}
use Rattle.hip_directory.proofs.directory.add_group.Goals as goal

pub returns-in_err-append_group-clause-same : goal.returns-in_err-append_group-clause-same
returns-in_err-append_group-clause-same c = number-same c.args.groups.now.items c.extend_to.new.numbers.items c.args.entries.now.items c.append_group.new.entries.items c.extend_to.ensures.same c.append_group.ensures.same

pub returns-clause-same : goal.returns-clause-same
returns-clause-same c = λ k.
    number-grown c.extend_to.new.numbers.items c.args.entries.now.items c.append_group.new.entries.items c.args.at (c.len.result / 64)
    (table-same c.args.groups.now.items c.extend_to.new.numbers.items c.args.entries.now.items c.requires.table c.extend_to.ensures.same)
    (omega (arith, c.in_ok-extend_to.ensures.ok))
    (c.extend_to.ensures.same c.args.at ∙ c.requires.none)
    (omega arith)
    c.append_group.ensures.same
    k
    ∙ number-same c.args.groups.now.items c.extend_to.new.numbers.items c.args.entries.now.items c.args.entries.now.items c.extend_to.ensures.same (λ _. refl) k

pub returns-in_err-append_group-clause-counted : goal.returns-in_err-append_group-clause-counted
returns-in_err-append_group-clause-counted c = count-same c.args.entries.now.items c.append_group.new.entries.items c.append_group.ensures.same

pub returns-clause-counted : goal.returns-clause-counted
returns-clause-counted c = count-same c.args.entries.now.items c.append_group.new.entries.items c.append_group.ensures.same
