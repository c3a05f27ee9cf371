-- Reachable callees and fresh names meet their definitions.
use Rattle.std.proofs.Common.{◌≡◌, true, ◌++◌, take, map, Some, option_map, refl, sym, ap, ◌∙◌, subst}
use Rattle.std.proofs.lemmas.Bool.Decides.{Decides-eqb}
use Rattle.std.proofs.lemmas.List.{length-map}
use Rattle.std.proofs.lemmas.Option.{slice_get-map, same_Some}
use Rattle.std.proofs.lemmas.Bool.{and_parts}
use Rattle.hip_types.specs.Laws.DistinctLaws.{any_found, any_at}
use Rattle.hip_tree.specs.Sites.{same_site}
use Rattle.hip_tree.specs.declared.site.Site.{Site}
use Rattle.hip_sound.specs.Sound.{top_names}
use Rattle.hip_calls.specs.Fresh.{name_of, fresh_names}
use Rattle.hip_calls.specs.Laws.FreshLaws.{IsFirstFree, length-fresh_for, fresh_for-distinct, fresh_for-free, fresh_for-first, fresh_for-extern}
use Rattle.hip_calls.specs.Meaning.{CalleesAreReached, FreshNamesAreFresh}
use Rattle.hip_calls.specs.Laws.ReachLaws.{callees-within, callees-distinct, callees-first, callees-closed, callees-least}

same_sites : (s t : Site) → same_site s t ≡ true → s ≡ t
same_sites s t e =
    let first = and_parts _ _ e in
    let second = and_parts _ _ first.1 in
    let f : s.function ≡ t.function = (Decides-eqb s.function t.function).0 first.0 in
    let b : s.block ≡ t.block = (Decides-eqb s.block t.block).0 second.0 in
    let i : s.index ≡ t.index = (Decides-eqb s.index t.index).0 second.1 in
    λ x. record { function = f x; block = b x; index = i x }

site_itself : (s : Site) → same_site s s ≡ true
site_itself s = rw ((Decides-eqb s.function s.function).1 refl, (Decides-eqb s.block s.block).1 refl, (Decides-eqb s.index s.index).1 refl) refl

pub callees_reached : CalleesAreReached
callees_reached P sites = record {
  functions = λ f h. callees-within P sites f h;
  distinct = callees-distinct P sites;
  first = λ s f h c. let at = any_found (same_site s) sites h in callees-first P sites at.0 s f (at.2 ∙ ap Some (sym (same_sites s at.1 at.3))) c;
  onward = λ f g h c. callees-closed P sites f g h c;
  least = λ test on f h. callees-least P sites (λ q. test q ≡ true) (λ k s q e c. on.first s q (any_at (same_site s) sites k s e (site_itself s)) c) (λ g q t c. on.onward g q t c) f h;
}

pub names_fresh : FreshNamesAreFresh
names_fresh P functions = record {
  each = length-fresh_for (top_names P) (map (name_of P) functions) ∙ length-map functions (name_of P);
  distinct = fresh_for-distinct (top_names P) (map (name_of P) functions);
  free = λ k name e. fresh_for-free (top_names P) (map (name_of P) functions) k name e;
  first = λ k f name e at.
      let found = fresh_for-first (top_names P) (map (name_of P) functions) k name e in
      let named : Some (name_of P f) ≡ Some found.0 = ap (option_map (name_of P)) (sym at) ∙ sym (slice_get-map (name_of P) functions k) ∙ found.1 in
      subst (λ n. IsFirstFree (take k (fresh_names P functions) ++ top_names P) n name) (sym (same_Some (name_of P f) found.0 named)) found.2;
  no_extern = λ k name e. fresh_for-extern (top_names P) (map (name_of P) functions) k name e;
}
