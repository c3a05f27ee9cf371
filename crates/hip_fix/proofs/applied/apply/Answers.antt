use Rattle.std.proofs.Common.{◌≡◌, Bool, List, sym, ap, ◌∙◌, subst}
use Rattle.std.specs.Prelude.{IfOk, Result, Ok, Err}
use Rattle.std.specs.List.{filter}
use Rattle.hip_tree.specs.Sites.{has_site, sites_of}
use Rattle.hip_tree.specs.declared.program.Program.{Program}
use Rattle.hip_tree.specs.declared.site.Site.{Site}
use Rattle.hip_repairs.specs.Direct.{direct}
use Rattle.hip_repairs.specs.StayOutside.{StayOutside}
use Rattle.hip_repairs.specs.declared.repaired.Repaired.{Repaired}
use Rattle.hip_fix.specs.Applied.{IsApplied, IsThorough}
use Rattle.hip_fix.proofs.DirectSites.{found_direct}
use Rattle.hip_fix.proofs.applied.apply.Goals as goal

-- If A implies B, an answer that meets A meets B.
if_ok : {T E : Type 0} (A B : T → Type 0) → ((x : T) → A x → B x) → (r : Result T E) → IfOk r A → IfOk r B
if_ok A B f (Ok x) a = f x a
if_ok A B f (Err e) a = a

pub returns : goal.returns
returns c =
    let P = c.args.checked.now in
    let plan = c.args.plan.now in
    let r = c.apply_skipping.result in
    let skip = has_site c.as_slice.result.now in
    let found : c.as_slice.result.now ≡ filter (direct P) (sites_of P) =
    c.as_slice.ensures ∙ c.in_ok-skip.ensures ∙ ap (λ (p : Program). filter (direct p) (sites_of p)) c.program.ensures.is in
    let same : skip ≡ direct P = λ i s. (ap (λ (xs : List Site). has_site xs s) found ∙ found_direct P s) i in
    let quiet : StayOutside P skip = subst (StayOutside P) (sym same) (c.direct_stores_stay_outside.ensures P c.program.ensures.sound) in
    record {
      repaired = subst (λ (test : Site → Bool). IfOk r (IsApplied P plan test)) same c.apply_skipping.ensures.repaired;
      thorough =
          if_ok (λ (x : Repaired). StayOutside P skip → IsThorough P plan x.checked) (λ (x : Repaired). IsThorough P plan x.checked) (λ x thorough. thorough quiet) r
          c.apply_skipping.ensures.thorough;
    }
