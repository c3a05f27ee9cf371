use Rattle.std.proofs.Common.{◌≡◌, ◌<◌, ◌+◌, true, false, List, ℕ, [], ◌∷◌, Bool, length, sym, ap, ◌∙◌, subst, arith, length-append}
use Rattle.hip_vol.specs.Numbered.{IsBelowAll, rises, risen, room, tried}
use Rattle.hip_vol.proofs.Rising.{risen_below, risen_room, risen_same, not_risen}
use Rattle.hip_vol.proofs.propagation.raise_and_note.Goals as goal

pub returns-in_ok-push : goal.returns-in_ok-push
returns-in_ok-push c =
    let old = c.args.levels.now in
    let all = c.args.all.now in
    let rule = c.args.rule in
    let new : c.raise-rose.new.levels ≡ risen old rule = c.raise-rose.ensures.new in
    let up : rises old rule ≡ true = sym c.raise-rose.ensures.rose ∙ c.if-rose.true in
    let lower : room c.raise-rose.new.levels < room old = subst (λ (ls : List ℕ). room ls < room old) (sym new) (risen_room all old rule c.requires.within c.requires.one c.requires.below up) in
    let longer : length c.push.new.self ≡ length c.args.queue.now + 1 = ap length c.in_ok-push.ensures.ok ∙ length-append c.args.queue.now (rule.variable ∷ []) in
    record {
      below = subst (IsBelowAll all) (sym new) (risen_below all old rule c.requires.within c.requires.one c.requires.below);
      tried = subst (λ (b : Bool). tried b old c.raise-rose.new.levels rule) (sym c.if-rose.true) lower;
      risen = record { left = omega (arith, lower, longer); less = omega (arith, lower) };
    }

pub returns-else-rose : goal.returns-else-rose
returns-else-rose c =
    let old = c.args.levels.now in
    let all = c.args.all.now in
    let rule = c.args.rule in
    let still : rises old rule ≡ false = sym c.raise-rose.ensures.rose ∙ c.if-rose.false in
    let same : c.raise-rose.new.levels ≡ old = c.raise-rose.ensures.new ∙ risen_same old rule still in
    let even : room c.raise-rose.new.levels ≡ room old = ap room same in
    record {
      below = subst (IsBelowAll all) (sym same) c.requires.below;
      tried = subst (λ (b : Bool). tried b old c.raise-rose.new.levels rule) (sym c.if-rose.false) (same, not_risen old rule still);
      risen = record { left = omega (arith, even); less = omega (arith, even) };
    }

pub raise-rose-requires : goal.raise-rose-requires
raise-rose-requires c = c.requires.within.each c.args.rule c.requires.one
