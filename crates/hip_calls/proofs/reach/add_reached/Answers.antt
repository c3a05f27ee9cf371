use Rattle.std.proofs.Common.{◌<◌, ◌-◌, length, sym, ap, ◌∙◌, subst}
use Rattle.hip_tree.specs.declared.program.Program.{Program}
use Rattle.hip_calls.proofs.Reaching.{reached-end, reached-next}
use Rattle.hip_calls.proofs.reach.add_reached.Goals as goal

pub places-preserved : goal.places-preserved
places-preserved c =
    let P = c.args.functions.now in
    let here : c.places.place < length P.functions = subst (λ n. c.places.place < n) (c.len-place-end.ensures ∙ ap (λ (p : Program). length p.functions) c.program.ensures) c.places-test.true in
    rw c.in_ok-add_called_from-in-Some.ensures (reached-next P (length P.functions) c.places.place c.places.seen.keys c.in-Some.number here c.in-Some.ensures ∙ c.places.invariant)

pub returns-in-None : goal.returns-in-None
returns-in-None c =
    let P = c.args.functions.now in
    sym (reached-end P (length P.functions - c.places.place) c.places.place c.places.seen.keys (sym c.in-None.ensures)) ∙ c.places.invariant
