use Rattle.std.proofs.Common.{false, cond, sym, subst}
use Rattle.hip_runs.specs.Actions.{Flushes, Persists, flushing}
use Rattle.hip_core.specs.Acts.{DoesNext}
use Rattle.hip_core.proofs.persistence.range.Goals as goal

pub returns-then-fence-clause-does : goal.returns-then-fence-clause-does
returns-then-fence-clause-does c =
    subst (λ b. DoesNext c.args.core.now c.persist.new.core c.persist.result false (λ m. flushing m.program m.input m.world c.args.addr c.args.size (cond b (Persists c.args.addr c.args.size) (Flushes c.args.addr c.args.size)))) (sym c.if-fence.true) c.persist.ensures.does

pub returns-else-fence-clause-does : goal.returns-else-fence-clause-does
returns-else-fence-clause-does c =
    subst (λ b. DoesNext c.args.core.now c.flush_range.new.core c.flush_range.result false (λ m. flushing m.program m.input m.world c.args.addr c.args.size (cond b (Persists c.args.addr c.args.size) (Flushes c.args.addr c.args.size)))) (sym c.if-fence.false) c.flush_range.ensures.does
