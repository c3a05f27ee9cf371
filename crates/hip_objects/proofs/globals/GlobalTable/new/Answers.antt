use Rattle.std.proofs.Common.{◌<◌, ◌^◌, true, false, cond, nat_lt, subst, sym, ap, ap₂, ◌∙◌}
use Rattle.hip_globals.specs.Addresses.{OwnTypesFit, end_of}
use Rattle.hip_globals.specs.Laws.AddressLaws.{globals-fit}
use Rattle.hip_types.specs.Areas.{volatile_start}
use Rattle.hip_objects.specs.Globals.{AreLaid, number_at, places_from}
use Rattle.hip_objects.proofs.Places.{are-laid, found, persistent-end}
use Rattle.hip_objects.proofs.globals.GlobalTable.new.Goals as goal

pub places-requires-clause-fit : goal.places-requires-clause-fit
places-requires-clause-fit c =
    subst (λ globals. OwnTypesFit globals) (sym (c.as_slice-globals.ensures ∙ ap (λ p. p.globals) c.program.ensures.is))
    (globals-fit c.args.checked.now.globals c.program.ensures.sound.global_types_fit)

pub places-requires-2-clause-fit : goal.places-requires-2-clause-fit
places-requires-2-clause-fit c =
    subst (λ globals. OwnTypesFit globals) (sym (c.as_slice-globals.ensures ∙ ap (λ p. p.globals) c.program.ensures.is))
    (globals-fit c.args.checked.now.globals c.program.ensures.sound.global_types_fit)

pub places-requires-2-clause-end : goal.places-requires-2-clause-end
places-requires-2-clause-end c =
    subst (λ globals. end_of true c.args.base globals < 2 ^ 64) (sym (c.as_slice-globals.ensures ∙ ap (λ p. p.globals) c.program.ensures.is))
    (persistent-end c.args.checked.now c.args.base c.program.ensures.sound c.requires)

pub invariant_of-result : goal.invariant_of-result
invariant_of-result c = record {
  volatile = subst (λ ps. AreLaid ps) (sym (c.in_ok-volatile.ensures)) (are-laid false volatile_start 0 c.as_slice-globals.result.now);
  persistent = subst (λ ps. AreLaid ps) (sym (c.in_ok-persistent.ensures)) (are-laid true c.args.base 0 c.as_slice-globals.result.now);
}

pub returns : goal.returns
returns c = λ a.
    ap₂ (λ volatile persistent. cond (nat_lt a c.args.base) (number_at a volatile) (number_at a persistent))
    (c.in_ok-volatile.ensures ∙ ap (λ globals. places_from false volatile_start 0 globals) (c.as_slice-globals.ensures ∙ ap (λ p. p.globals) c.program.ensures.is))
    (c.in_ok-persistent.ensures ∙ ap (λ globals. places_from true c.args.base 0 globals) (c.as_slice-globals.ensures ∙ ap (λ p. p.globals) c.program.ensures.is))
    ∙ found c.args.checked.now c.args.base c.program.ensures.sound c.requires a
