use Rattle.std.proofs.Common.{◌≡◌, length, sym, ap, ◌∙◌, subst}
use Rattle.hip_tree.specs.Sites.{has_site}
use Rattle.hip_tree.specs.declared.program.Program.{Program}
use Rattle.hip_sound.specs.Sound.{IsSound}
use Rattle.hip_calls.specs.Reach as reach
use Rattle.hip_repairs.specs.Clean.{IsClean}
use Rattle.hip_repairs.specs.CloneNumbers.{numbered_from}
use Rattle.hip_repairs.specs.Covered.{IsCovered}
use Rattle.hip_repairs.specs.Repaired.{repaired}
use Rattle.hip_fix.proofs.applied.apply_skipping.Goals as goal

pub of_sound-requires : goal.of_sound-requires
of_sound-requires c =
    let P = c.args.checked.now in
    let plan = c.args.plan.now in
    let skip = has_site c.args.skip.now in
    let is : c.in_ok-repaired.repaired ≡ repaired P plan skip = c.in_ok-repaired.ensures ∙ ap (λ (p : Program). repaired p plan skip) c.program-program.ensures.is in
    subst IsSound (sym is) (c.repaired_is_sound.ensures.sound P plan skip c.program-program.ensures.sound)

pub returns : goal.returns
returns c =
    let P = c.args.checked.now in
    let plan = c.args.plan.now in
    let skip = has_site c.args.skip.now in
    let sound = c.program-program.ensures.sound in
    let is : c.of_sound.result ≡ repaired P plan skip = c.of_sound.ensures ∙ c.in_ok-repaired.ensures ∙ ap (λ (p : Program). repaired p plan skip) c.program-program.ensures.is in
    let functions : c.as_slice-3.result.now ≡ P.functions = c.as_slice-3.ensures ∙ ap (λ (p : Program). p.functions) c.program-program.ensures.is in
    let originals : c.as_slice-4.result.now ≡ reach.callees P plan.hoist = c.as_slice-4.ensures ∙ c.in_ok-originals.ensures ∙ (λ i. reach.callees (c.program-program.ensures.is i) (c.as_slice.ensures i)) in
    record {
      repaired = record {
        program_is = is;
        clones_are = c.in_ok-clones.ensures ∙ (λ i. numbered_from (length (functions i)) (originals i));
        harmless = c.repairs_do_no_harm.ensures P plan skip sound;
        fenced = c.hoisted_calls_are_fenced.ensures P plan skip sound;
      };
      thorough = λ quiet. record {
        clean = λ I found valid is_found contains. subst (λ (p : Program). IsClean p I) (sym is) (c.repairs_are_clean.ensures P plan skip I found sound valid quiet is_found contains);
        covered = subst (IsCovered P) (sym is) (c.hoisted_calls_are_covered.ensures P plan skip sound quiet);
      };
    }
