use Rattle.std.proofs.Common.{◌≡◌, ◌+◌, length, refl, ap, subst, ◌∙◌, arith}
use Rattle.hip_lines.specs.Uses.{AreUses}
use Rattle.hip_lines.proofs.Renumbers.{count-none}
use Rattle.hip_lines.proofs.Shows.{flushed-renumbered, numbers-renumbered, shows-renumbered}
use Rattle.hip_lines.proofs.queue.Queue.keep_shown.Goals as goal

pub note_uses-requires-clause-blank : goal.note_uses-requires-clause-blank
note_uses-requires-clause-blank c = (refl, count-none 256)

pub invariant_of-self : goal.invariant_of-self
invariant_of-self c =
    let q = c.args.self.now in
    let u : AreUses q.numbers q.flushed (length q.tags.items) c.note_uses.new.uses = subst (λ n. AreUses q.numbers q.flushed n c.note_uses.new.uses) (c.len.ensures ∙ q.tags.ok.0) c.note_uses.ensures in
    let r = c.keep_used.ensures.renumbered in
    record {
      within = flushed-renumbered c.note_uses.new.uses _ q.tags.items _ q.numbers q.flushed q.within u r;
      few = omega (arith, c.keep_used.ensures.count, u.few, u.line);
      numbered = numbers-renumbered c.note_uses.new.uses _ q.tags.items _ q.numbers q.flushed q.within u r _ q.numbered c.renumber_bytes.ensures.len c.renumber_bytes.ensures.numbers;
      shows = shows-renumbered c.note_uses.new.uses _ q.tags.items _ q.numbers q.flushed q.within u r _ q.numbered c.renumber_bytes.ensures.len c.renumber_bytes.ensures.numbers q.line q.history.pending u.line q.shows;
    }

pub returns-clause-few : goal.returns-clause-few
returns-clause-few c = omega (arith, c.keep_used.ensures.count, c.note_uses.ensures.few, c.note_uses.ensures.line)
