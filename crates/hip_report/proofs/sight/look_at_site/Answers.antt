use Rattle.std.proofs.Common.{◌≡◌, Option, sym, ◌∙◌, ap, is_some, subst}
use Rattle.hip_ledger.specs.declared.sought.Sought.TheVariants.{Findings, Reports}
use Rattle.hip_report.specs.BeforeStep.{TellsGlobal}
use Rattle.hip_report.specs.declared.sight.Target.{Target}
use Rattle.hip_report.proofs.sight.look_at_site.Goals as goal

pub returns : goal.returns
returns c =
    let m = c.args.machine.now in
    record {
      ended = sym c.if-is_some.false ∙ c.is_some.ensures ∙ ap is_some c.ending.ensures;
      site = c.site.ensures;
      marks = λ k. absurd (let z : Reports ≡ Findings = sym c.requires ∙ k in let w : ⊥ = cc in w);
      last = subst (λ (o : Option Target). TellsGlobal m.program m.input o) (sym c.nothing_pointed.ensures.last) tt;
    }
