-- Tables of callees that grow.
use Rattle.std.proofs.Common.{ℕ, ◌+◌, ◌≡◌, ◌<◌, List, [], ◌∷◌, ◌++◌, map, take, length, get_or, Option, Some, Bool, true, false, refl, sym, ap, subst, ◌∙◌, append_assoc}
use Rattle.std.specs.Prelude.{if◌then◌else◌, option_map}
use Rattle.std.specs.Str.{bytes_eq}
use Rattle.std.proofs.lemmas.List.{take_more, map-append}
use Rattle.hip_tree.specs.declared.program.Extern.{Extern}
use Rattle.hip_tree.specs.declared.program.Function.{Function}
use Rattle.hip_tree.specs.declared.program.Program.{Program}
use Rattle.hip_externs.specs.Externs.{Signature}
use Rattle.hip_sound.specs.Places.{extern_of, function_of, first_of}
use Rattle.hip_names.specs.Tables.{Entry, value_of, TableStandsFor}
use Rattle.hip_typing.specs.Seen.Tables.{Grown, AddsCallees, FindsCallees, callee_seen, entry_seen, extern_entry, function_entry}
use Rattle.hip_typing.specs.declared.tables.callees.Callee.{Callee}

module _ {ns ms ks : List (List ℕ)} {vs us ws : List Callee} where
  pub callees_then : (xs ys : List (Entry Signature)) → AddsCallees ns vs ms us xs → AddsCallees ms us ks ws ys → AddsCallees ns vs ks ws (xs ++ ys)
  callees_then xs ys first next = record {
    adds = λ entries s.
        let a : Grown ms us entries xs = first.adds entries s in
        let b : Grown ks ws (entries ++ a.more) ys = next.adds (entries ++ a.more) a.stands in
        record {
          more = a.more ++ b.more;
          stands = subst (λ (es : List (Entry Callee)). TableStandsFor ks ws es) (append_assoc entries a.more b.more) b.stands;
          are = map-append entry_seen a.more b.more ∙ ap (λ zs. zs ++ map entry_seen b.more) a.are ∙ ap (λ zs. xs ++ zs) b.are;
        };
  }

  pub callees_one : {A : Type 0} (g : A → Entry Signature) (xs : List A) (i : ℕ) (x : A) → i < length xs → x ≡ get_or xs i x → AddsCallees ns vs ms us (map g (take i xs)) → AddsCallees ms us ks ws (g x ∷ []) → AddsCallees ns vs ks ws (map g (take (i + 1) xs))
  callees_one g xs i x within is first next =
      let prefix : take (i + 1) xs ≡ take i xs ++ x ∷ [] = subst (λ y. take (i + 1) xs ≡ take i xs ++ y ∷ []) (sym is) (take_more xs i x within) in
      subst (λ (es : List (Entry Signature)). AddsCallees ns vs ks ws es) (sym (ap (map g) prefix ∙ map-append g (take i xs) (x ∷ []))) (callees_then (map g (take i xs)) (g x ∷ []) first next)

seen_if : (b : Bool) (c : Callee) (o : Option Callee) → option_map callee_seen (if b then Some c else o) ≡ (if b then Some (callee_seen c) else option_map callee_seen o)
seen_if true c o = refl
seen_if false c o = refl

seen_value : (es : List (Entry Callee)) (name : List ℕ) → option_map callee_seen (value_of es name) ≡ value_of (map entry_seen es) name
seen_value [] name = refl
seen_value (e ∷ es) name = seen_if (bytes_eq e.name name) e.value (value_of es name) ∙ ap (λ o. if bytes_eq e.name name then Some (callee_seen e.value) else o) (seen_value es name)

first_if : (b : Bool) (s : Signature) (o later : Option Signature) → (if b then Some s else first_of o later) ≡ first_of (if b then Some s else o) later
first_if true s o later = refl
first_if false s o later = refl

functions_found : (fs : List Function) (name : List ℕ) → value_of (map function_entry fs) name ≡ function_of fs name
functions_found [] name = refl
functions_found (f ∷ fs) name = ap (λ o. if bytes_eq f.name name then Some (function_entry f).value else o) (functions_found fs name)

both_found : (es : List Extern) (fs : List Function) (name : List ℕ) → value_of (map extern_entry es ++ map function_entry fs) name ≡ first_of (extern_of es name) (function_of fs name)
both_found [] fs name = functions_found fs name
both_found (e ∷ es) fs name =
    ap (λ o. if bytes_eq e.name name then Some (extern_entry e).value else o) (both_found es fs name)
    ∙ first_if (bytes_eq e.name name) (extern_entry e).value (extern_of es name) (function_of fs name)

-- A table that grew from nothing by what a program declares and defines finds its callees.
pub finds_callees : {ns ms : List (List ℕ)} {vs us : List Callee} (P : Program) → TableStandsFor ns vs [] → AddsCallees ns vs ms us (map extern_entry P.externs ++ map function_entry P.functions) → FindsCallees ms us P
finds_callees {ms = ms} {us = us} P empty grown = record {
  finds = λ name.
      let g : Grown ms us [] (map extern_entry P.externs ++ map function_entry P.functions) = grown.adds [] empty in
      ap (option_map callee_seen) (g.stands.finds name) ∙ seen_value g.more name ∙ ap (λ es. value_of es name) g.are ∙ both_found P.externs P.functions name;
}
