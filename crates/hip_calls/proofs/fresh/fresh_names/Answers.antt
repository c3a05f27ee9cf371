use Rattle.std.proofs.Common.{ℕ, List, ◌≡◌, ◌++◌, ◌+◌, [], ◌∷◌, map, drop, get_or, refl, sym, ap, ◌∙◌, subst}
use Rattle.std.specs.Prelude.{if◌then◌else◌}
use Rattle.std.specs.List.{list_any}
use Rattle.std.specs.Str.{bytes_eq}
use Rattle.hip_names.specs.Names.{is_among}
use Rattle.hip_sound.specs.Sound.{top_names}
use Rattle.hip_calls.specs.Fresh.{fresh_for, fresh_name, fresh_names, name_of}
use Rattle.hip_calls.proofs.FreshSteps.{Alike, fresh_for-next, fresh-put}
use Rattle.hip_names.specs.Laws.MetLaws.{met-alike}
use Rattle.hip_calls.proofs.fresh.fresh_names.Goals as goal

pub each-preserved : goal.each-preserved
each-preserved c =
    let P = c.args.program.now in
    let f = get_or c.args.functions.now c.each.number-index 0 in
    let named : c.in_ok-name.name ≡ fresh_name (c.each.fresh.keys ++ c.in_ok-taken.taken) (name_of P f) = c.in_ok-name.ensures ∙ ap (fresh_name (c.each.fresh.keys ++ c.in_ok-taken.taken)) c.name_of.ensures in
    let put : c.insert.new.self.keys ≡ c.each.fresh.keys ++ fresh_name (c.each.fresh.keys ++ c.in_ok-taken.taken) (name_of P f) ∷ [] =
    c.in_ok-_is_new.ensures.keys ∙ ap (λ (x : List ℕ). if list_any (bytes_eq x) c.each.fresh.keys then c.each.fresh.keys else c.each.fresh.keys ++ x ∷ []) named ∙ fresh-put c.each.fresh.keys c.in_ok-taken.taken (name_of P f) in
    let alike : Alike c.in_ok-taken.taken (top_names P) = λ q. ap (λ ns. is_among ns q) c.in_ok-taken.ensures ∙ met-alike (top_names P) q in
    subst (λ ks. ks ++ fresh_for (ks ++ top_names P) (map (name_of P) (drop (c.each.number-index + 1) c.args.functions.now)) ≡ fresh_names P c.args.functions.now) (sym put)
    (fresh_for-next c.each.fresh.keys c.in_ok-taken.taken c.args.functions.now P c.each.number-index f 0 alike c.each-test.true refl ∙ c.each.invariant)
