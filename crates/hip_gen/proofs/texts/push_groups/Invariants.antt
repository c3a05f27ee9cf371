use Rattle.std.proofs.Common.{◌≡◌, ◌<◌}
use Rattle.hip_gen.specs.Appends.{Appends}
use Rattle.hip_gen.specs.Kinds as kinds
use Rattle.hip_gen.specs.Lines.{lines_before}
use Rattle.hip_gen.specs.declared.limits.TheConstants.{SEED_END}
use Rattle.hip_gen.proofs.texts.push_groups.Given as goal

abbrev pub invariant-groups : goal.invariant-groups
invariant-groups l = record {
  draw : l.draw ≡ kinds.draw l.seed l.group;
  small : l.draw < SEED_END;
  text : Appends l.fn.text l.text (lines_before l.seed l.size l.group);
}
