-- How a `Row` holds its items. A type may refer to itself through it.
use mathlib.Core.Path.{◌≡◌, refl, sym}
use mathlib.Core.List.{List, []}
use mathlib.Core.Former.{Former, this, list, via, children}
use base.Stored.{code_map}
use denote.RattleType.{RattleType}
use denote.HoleLaws.{Alike}
use denote.HolePlaces.{Recodes, struct_places, laid}
use denote.Hole.Carrier.{listed, list-listed}
use denote.Hole.Fix.{over}
use denote.Param.Weighed.{Weighed, w_list}
use denote.Model.Placed.{view_places}
use Rattle.std.specs.formers.vec.Vec as vector
use Rattle.std.specs.declared.alloc.Global.{Global}
use Rattle.std.specs.contracts.alloc.Global as global
use Rattle.std.specs.contracts.impls.GlobalAllocator.TheImpl.{ghosts}
use Rattle.hip_types.specs.declared.row.Row.TheInside.{Inside}
use Rattle.hip_types.specs.declared.row.Row.TheView.{view, invariant}
use Rattle.hip_types.specs.contracts.row.Row as row
use Rattle.hip_types.specs.contracts.row.Row.TheInside as inside

-- A row is the list of its items.
abbrev pub the_former : Former {0} → Former {0}
the_former item = list item

-- The measure of a row is the greatest of its items' measures; 0 if there is no item.
abbrev pub the_weighed : {item : Former {0}} → Weighed item → Weighed (the_former item)
the_weighed weight = w_list weight

pub the_empty : List ⊥
the_empty = []

-- The items of a row, in their order: a row is their list already.
abbrev pub the_items : (Item : Type 0) → List Item → List Item
the_items Item items = items

pub the_items_listed : (Item : Type 0) (items : List Item)
    → listed _ (children (the_former this) Item items) ≡ the_items Item items
the_items_listed Item items = list-listed Item items

-- Its one field is a vector of the items.
abbrev stored : Former {0}
stored =
    via (vector.the_former this Global) Inside (λ Item inner. inner.items) (λ Item items. record { items = items })
    (λ Item inner. refl) (λ Item items. refl)

module _ (From To : RattleType) (change : From.Denot → To.Denot) where
  pub the_places : Alike From To change
      → Alike (row.the_row From) (row.the_row To) ((the_former this).map From.Denot To.Denot change)
  the_places alike =
      let vectors = vector.the_places global.the_row ghosts From To change alike in
      let structs =
      struct_places (inside.the_type From) (inside.the_type To) (vector.mapped change, tt) _ (λ inner. refl) refl
      (laid _ _ _ vectors, tt) in
      view_places stored (list this) view (λ X Y by at. refl) (λ X at. refl) From.Denot To.Denot change
      (row.the_row From).coded (row.the_row To).coded (invariant From.Denot) (invariant To.Denot)
      (λ at p q. refl) (λ at p q. refl) (λ at e. tt) (λ at e. tt) (over (inside.the_row From))
      (over (inside.the_row To)) structs

  pub the_codes_placed : Recodes From To change
      → Recodes (row.the_row From) (row.the_row To) ((the_former this).map From.Denot To.Denot change)
  the_codes_placed recodes items =
      sym (code_map From.coded.code To.coded.code change (λ item. sym (recodes item)) items)
