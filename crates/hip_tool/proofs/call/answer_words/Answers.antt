use Rattle.std.proofs.Common.{refl}
use Rattle.hip_command_io.specs.ResultLaws.{gives_no_memory}
use Rattle.hip_tool.proofs.Misused.{no_order, no_order_fetched}
use Rattle.hip_tool.proofs.SentOut.{none_fetched}
use Rattle.hip_tool.proofs.call.answer_words.Goals as goal

pub returns-in-Err-Usage-clause-gives : goal.returns-in-Err-Usage-clause-gives
returns-in-Err-Usage-clause-gives g c =
    no_order _ (rw c.in-Err-Usage.field-0-is at c.in-Err-Usage.ensures) (g.C.Cabinet.state c.args.cabinet.now)

pub returns-in-Err-NoMemory-clause-gives : goal.returns-in-Err-NoMemory-clause-gives
returns-in-Err-NoMemory-clause-gives g c =
    gives_no_memory (record { files = refl; misses = refl; faults = refl }) refl

pub returns-in-Err-Usage-clause-fetches : goal.returns-in-Err-Usage-clause-fetches
returns-in-Err-Usage-clause-fetches g c =
    no_order_fetched _ (rw c.in-Err-Usage.field-0-is at c.in-Err-Usage.ensures) (g.C.Cabinet.state c.args.cabinet.now)

pub returns-in-Err-NoMemory-clause-fetches : goal.returns-in-Err-NoMemory-clause-fetches
returns-in-Err-NoMemory-clause-fetches g c = none_fetched _ (g.C.Cabinet.state c.args.cabinet.now)
