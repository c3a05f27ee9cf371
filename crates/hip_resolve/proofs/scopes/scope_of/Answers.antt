use Rattle.std.proofs.Common.{◌≡◌, length, map, Some, slice_get, sym, ap, ◌∙◌, arith}
use Rattle.std.specs.Option.{option_copied}
use Rattle.std.proofs.lemmas.Option.{same_Some}
use Rattle.hip_code.specs.Entries.{entry}
use Rattle.hip_code.specs.Frames.{names_in}
use Rattle.hip_runs.specs.Places.{blocks_in, blocks_of}
use Rattle.hip_scope.specs.Listed.{Lists}
use Rattle.hip_resolve.proofs.Walks.{extents_are}
use Rattle.hip_resolve.proofs.Scoped.{is_there, labels_differ, places_are, sources_are}
use Rattle.hip_scope.proofs.Sound.{names_differ}
use Rattle.hip_resolve.proofs.scopes.scope_of.Goals as goal

pub register_names-requires : goal.register_names-requires
register_names-requires c = record { differ = names_differ c.args.known.now.program.now c.requires.known.sound c.args.number c.in-Some.function.now (sym c.get.ensures ∙ ap option_copied c.in-Some.is) }

pub label_names-requires : goal.label_names-requires
label_names-requires c = record { differ = labels_differ c.args.known.now.program.now c.requires.known.sound c.args.number c.in-Some.function.now (sym c.get.ensures ∙ ap option_copied c.in-Some.is) }

pub unreachable-requires : goal.unreachable-requires
unreachable-requires c = is_there c.args.known.now.program.now.functions c.args.number c.requires.number (sym c.get.ensures ∙ ap option_copied c.in-None.is)

pub returns-clause-describes : goal.returns-clause-describes
returns-clause-describes c =
    let P = c.args.known.now.program.now in
    let here : slice_get P.functions c.args.number ≡ Some c.in-Some.function.now = sym c.get.ensures ∙ ap option_copied c.in-Some.is in
    let first : c.number_at-start.result ≡ entry P c.args.number 0 = same_Some _ _ (sym c.number_at-start.ensures ∙ c.requires.known.starts.at c.args.number c.requires.number) in
    let places : Lists c.in_ok-places-in-Some.places (length (blocks_of P c.args.number)) (λ b. entry P c.args.number b) =
    places_are P c.args.number c.in-Some.function.now _ c.number_at-start.result c.in_ok-places-in-Some.places here c.as_slice.ensures first c.in_ok-places-in-Some.ensures in
    record {
      sound = c.requires.known.sound;
      addresses = c.requires.known.addresses;
      functions = c.requires.known.functions;
      starts = c.requires.known.starts;
      sizes = c.requires.known.sizes;
      function = here;
      registers = c.in_ok-registers-in-Some.ensures ∙ ap names_in (sym here);
      labels = c.in_ok-labels-in-Some.ensures ∙ ap (λ o. map (λ b. b.label) (blocks_in o)) (sym here);
      as_long = places.as_long;
      places = λ b lt. places.at b (let long = places.as_long in omega (arith, lt, long));
      extents = extents_are P c.args.number c.in-Some.function.now c.in_ok-extents-in-Some.extents here c.in_ok-extents-in-Some.ensures;
      sources = sources_are P c.args.number c.in-Some.function.now _ c.in_ok-sources-in-Some.sources here c.as_slice-in-Some.ensures c.in_ok-sources-in-Some.ensures;
    }
