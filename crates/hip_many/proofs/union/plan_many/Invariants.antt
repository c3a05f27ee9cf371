use Rattle.std.proofs.Common.{take, []}
use Rattle.hip_tree.specs.Sites.{has_site}
use Rattle.hip_many.proofs.Unions.{HasThose}
use Rattle.hip_many.proofs.union.plan_many.Given as goal

abbrev pub invariant-each : goal.invariant-each
invariant-each l = record {
  flushes : HasThose (λ p s. has_site p.flush_after s) (take l.plan-index l.plans) [] l.sites.flush_after;
  fences : HasThose (λ p s. has_site p.fence_after s) (take l.plan-index l.plans) [] l.sites.fence_after;
  hoists : HasThose (λ p s. has_site p.hoist s) (take l.plan-index l.plans) [] l.sites.hoist;
}
