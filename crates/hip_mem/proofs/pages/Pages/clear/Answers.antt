use Rattle.std.proofs.Common.{inl, arith, refl}
use Rattle.hip_mem.proofs.Clears.{cleared-none, cleared-more, cleared-all, none_found}
use Rattle.hip_mem.proofs.pages.Pages.clear.Goals as goal

pub loop-next-init : goal.loop-next-init
loop-next-init c = record { cleared = cleared-none c.args.self.now c.args.from c.args.to; forward = omega arith }

pub loop-next-preserved : goal.loop-next-preserved
loop-next-preserved c = record {
  cleared = cleared-more c.args.self.now c.loop-next.self c.clear_page.new.self c.args.from c.args.to c.loop-next.next c.in-Some.number _ _ c.loop-next.invariant.cleared c.in-Some.ensures.0 c.in-Some.ensures.3 (omega arith) (omega arith) c.clear_page.ensures.bytes c.clear_page.ensures.others;
  forward = omega (arith, c.loop-next.invariant.forward, c.in-Some.ensures.0);
}

pub returns-in_default : goal.returns-in_default
returns-in_default c = cleared-all c.args.self.now c.loop-next.self c.args.from c.args.to c.loop-next.next _ c.loop-next.invariant.cleared refl (inl (none_found c.loop-next.self c.loop-next.next _ c.first_made.result c.first_made.ensures c.in_default.not-Some))
