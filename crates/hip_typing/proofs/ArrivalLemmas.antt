-- Tables of predecessors that grow.
use Rattle.std.proofs.Common.{ℕ, ◌+◌, ◌≡◌, ◌<◌, ◌&&◌, ◌||◌, not, cond, Bool, true, false, List, [], ◌∷◌, ◌++◌, map, take, length, get_or, Some, refl, sym, ap, subst, ◌∙◌}
use Rattle.std.specs.Prelude.{if◌then◌else◌, unwrap_or}
use Rattle.std.specs.Borrow.{Bor}
use Rattle.std.specs.Str.{bytes_eq}
use Rattle.std.proofs.lemmas.List.{take_more, map-append}
use Rattle.std.proofs.lemmas.List.Folds.{list_any-append}
use Rattle.std.proofs.lemmas.Slice.Eq.{bytes_eq-Decides}
use Rattle.indexmap.specs.IndexMap.{IndexMap, UpdatesBy}
use Rattle.hip_tree.specs.declared.block.Block.{Block}
use Rattle.hip_typing.specs.Seen.Arrivals.{found_at, names_at, Arrives, FindsPredecessors}
use Rattle.hip_names.specs.Names.{is_among}
use Rattle.hip_sound.specs.Places.{is_predecessor, predecessors}
use Rattle.hip_sound.specs.Registers.{end_labels}
use Rattle.hip_typing.proofs.KnownLemmas.{or_false, among-append, add_known}
use Rattle.hip_names.specs.Laws.NameLaws.{bytes_eq-sym}

abbrev same_name : Bor (List ℕ) → Bor (List ℕ) → Bool
same_name x y = bytes_eq x.now y.now

module _ {S : Type 0} (old new : IndexMap (Bor (List ℕ)) (List (List ℕ)) S) (label from : List ℕ) (before set : List (List ℕ)) (is_new : Bool) where
  changed : UpdatesBy same_name (λ k. bytes_eq label k.now) old new (Some set) → (at : List ℕ) → found_at new at ≡ cond (bytes_eq label at) (Some set) (found_at old at)
  changed u at = u.0 (record { ref_ptr = (0, 0); now = at })

  added : is_new ≡ not (is_among before from) → set ≡ (if is_new then before ++ from ∷ [] else before) → (name : List ℕ) → is_among set name ≡ (is_among before name || bytes_eq name from)
  added fresh grown name =
      ap (λ ns. is_among ns name) (grown ∙ ap (λ b. if b then before ++ from ∷ [] else before) fresh)
      ∙ add_known before before from name (is_among before from) refl (λ n. refl)
      ∙ among-append before from name

  arrived : UpdatesBy same_name (λ k. bytes_eq label k.now) old new (Some set) → names_at old label ≡ before → is_new ≡ not (is_among before from) → set ≡ (if is_new then before ++ from ∷ [] else before) →
      (at name : List ℕ) → is_among (names_at new at) name ≡ (is_among (names_at old at) name || (bytes_eq at label && bytes_eq name from))
  arrived u was fresh grown at name = by_test (bytes_eq label at) refl
    where
      by_test : (b : Bool) → bytes_eq label at ≡ b → is_among (names_at new at) name ≡ (is_among (names_at old at) name || (bytes_eq at label && bytes_eq name from))
      by_test true e =
          let same : label ≡ at = (bytes_eq-Decides label at).0 e in
          let there : names_at old at ≡ before = sym (ap (names_at old) same) ∙ was in
          let now_there : names_at new at ≡ set = ap (λ o. unwrap_or o []) (changed u at ∙ ap (λ b. cond b (Some set) (found_at old at)) e) in
          ap (λ ns. is_among ns name) now_there ∙ added fresh grown name
          ∙ ap (λ ns. is_among ns name || bytes_eq name from) (sym there)
          ∙ ap (λ b. is_among (names_at old at) name || (b && bytes_eq name from)) (sym (bytes_eq-sym at label ∙ e))
      by_test false e =
          let same : names_at new at ≡ names_at old at = ap (λ o. unwrap_or o []) (changed u at ∙ ap (λ b. cond b (Some set) (found_at old at)) e) in
          ap (λ ns. is_among ns name) same ∙ sym (or_false (is_among (names_at old at) name))
          ∙ ap (λ b. is_among (names_at old at) name || (b && bytes_eq name from)) (sym (bytes_eq-sym at label ∙ e))

  -- A block whose end names the label is put into the label's set.
  pub one_arrived : UpdatesBy same_name (λ k. bytes_eq label k.now) old new (Some set) → names_at old label ≡ before → is_new ≡ not (is_among before from) → set ≡ (if is_new then before ++ from ∷ [] else before) → Arrives old new (label ∷ []) from
  one_arrived u was fresh grown = record {
    adds = λ at name.
        arrived u was fresh grown at name ∙ ap (λ b. is_among (names_at old at) name || (b && bytes_eq name from)) (sym (or_false (bytes_eq at label)));
  }

or_assoc : (a b c : Bool) → ((a || b) || c) ≡ (a || (b || c))
or_assoc true b c = refl
or_assoc false b c = refl

and_or : (a b c : Bool) → ((a && c) || (b && c)) ≡ ((a || b) && c)
and_or true true true = refl
and_or true true false = refl
and_or true false true = refl
and_or true false false = refl
and_or false b c = refl

module _ {S : Type 0} {old mid new : IndexMap (Bor (List ℕ)) (List (List ℕ)) S} where
  pub arrives_then : (xs ys : List (List ℕ)) (from : List ℕ) → Arrives old mid xs from → Arrives mid new ys from → Arrives old new (xs ++ ys) from
  arrives_then xs ys from first next = record {
    adds = λ at name.
        let here : Bool = is_among (names_at old at) name in
        let same : Bool = bytes_eq name from in
        next.adds at name ∙ ap (λ b. b || (is_among ys at && same)) (first.adds at name)
        ∙ or_assoc here (is_among xs at && same) (is_among ys at && same)
        ∙ ap (λ b. here || b) (and_or (is_among xs at) (is_among ys at) same)
        ∙ ap (λ b. here || (b && same)) (sym (list_any-append (bytes_eq at) xs ys));
  }

  pub arrives_more : {A : Type 0} (label_of : A → List ℕ) (items : List A) (i : ℕ) (x : A) (from : List ℕ) → i < length items → x ≡ get_or items i x → Arrives old mid (map label_of (take i items)) from → Arrives mid new (label_of x ∷ []) from → Arrives old new (map label_of (take (i + 1) items)) from
  arrives_more label_of items i x from within is first next =
      let prefix : take (i + 1) items ≡ take i items ++ x ∷ [] = subst (λ y. take (i + 1) items ≡ take i items ++ y ∷ []) (sym is) (take_more items i x within) in
      subst (λ (ls : List (List ℕ)). Arrives old new ls from) (sym (ap (map label_of) prefix ∙ map-append label_of (take i items) (x ∷ []))) (arrives_then (map label_of (take i items)) (label_of x ∷ []) from first next)

module _ {S : Type 0} {old : IndexMap (Bor (List ℕ)) (List (List ℕ)) S} where
  pub arrives_nothing : (from : List ℕ) → Arrives old old [] from
  arrives_nothing from = record { adds = λ at name. sym (or_false (is_among (names_at old at) name)) }

predecessors-push : (bs : List Block) (b : Block) (at name : List ℕ) → is_among (predecessors (bs ++ b ∷ []) at) name ≡ (is_among (predecessors bs at) name || (is_among (end_labels b.end) at && bytes_eq name b.label))
predecessors-push [] b at name = by_test (is_among (end_labels b.end) at)
  where
    by_test : (p : Bool) → is_among (if p then b.label ∷ [] else []) name ≡ (p && bytes_eq name b.label)
    by_test true = or_false (bytes_eq name b.label)
    by_test false = refl
predecessors-push (x ∷ xs) b at name = by_test (is_predecessor at x) (predecessors-push xs b at name)
  where
    more : Bool
    more = is_among (end_labels b.end) at && bytes_eq name b.label

    by_test : (p : Bool) → is_among (predecessors (xs ++ b ∷ []) at) name ≡ (is_among (predecessors xs at) name || more) → is_among (if p then x.label ∷ predecessors (xs ++ b ∷ []) at else predecessors (xs ++ b ∷ []) at) name ≡ (is_among (if p then x.label ∷ predecessors xs at else predecessors xs at) name || more)
    by_test true e = ap (λ c. bytes_eq name x.label || c) e ∙ sym (or_assoc (bytes_eq name x.label) (is_among (predecessors xs at) name) more)
    by_test false e = e

module _ {S : Type 0} {old new : IndexMap (Bor (List ℕ)) (List (List ℕ)) S} where
  -- The predecessors after one more block.
  pub predecessors_more : (bs : List Block) (i : ℕ) (b : Block) → i < length bs → b ≡ get_or bs i b → FindsPredecessors old (take i bs) → Arrives old new (end_labels b.end) b.label → FindsPredecessors new (take (i + 1) bs)
  predecessors_more bs i b within is so_far more = record {
    finds = λ at name.
        let prefix : take (i + 1) bs ≡ take i bs ++ b ∷ [] = subst (λ y. take (i + 1) bs ≡ take i bs ++ y ∷ []) (sym is) (take_more bs i b within) in
        more.adds at name ∙ ap (λ c. c || (is_among (end_labels b.end) at && bytes_eq name b.label)) (so_far.finds at name)
        ∙ sym (predecessors-push (take i bs) b at name) ∙ ap (λ ys. is_among (predecessors ys at) name) (sym prefix);
  }
