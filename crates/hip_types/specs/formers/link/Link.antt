-- How a `Link` holds its value. A type may refer to itself through it.
use mathlib.Core.Path.{refl}
use mathlib.Core.Former.{Former, this, const, pair, via}
use base.Stored.{gnil}
use base.Fml.{ftrue}
use denote.RattleType.{RattleType}
use denote.Memory.{part_of}
use denote.RawPtr.{Ptr}
use denote.Sharing.{nothing}
use denote.HoleLaws.{Alike}
use denote.HolePlaces.{Recodes, struct_places, laid, one_value}
use denote.Hole.Fix.{over}
use denote.Param.Weighed.{Weighed}
use denote.Model.Placed.{view_places}
use Rattle.std.specs.declared.boxed.Box.{Box}
use Rattle.std.specs.contracts.boxed.Box as boxed
use Rattle.std.specs.declared.alloc.Global.{Global}
use Rattle.std.specs.contracts.alloc.Global as global
use Rattle.std.specs.contracts.impls.GlobalAllocator.TheImpl.{ghosts}
use Rattle.hip_types.specs.declared.link.Link.TheInside.{Inside}
use Rattle.hip_types.specs.declared.link.Link.TheView.{view, invariant}
use Rattle.hip_types.specs.contracts.link.Link as link
use Rattle.hip_types.specs.contracts.link.Link.TheInside as inside

-- A link is its value.
abbrev pub the_former : Former {0} → Former {0}
the_former value = value

-- The measure of a link is that of its value.
abbrev pub the_weighed : {value : Former {0}} → Weighed value → Weighed (the_former value)
the_weighed weight = weight

-- Its one field is a box: where the value lies, the allocator, and the value.
abbrev stored : Former {0}
stored = via (pair (const (Ptr × Global)) this) Inside
    (λ Value at. ((at.inner.ptr, at.inner.alloc), at.inner.value))
    (λ Value parts. record { inner = record { ptr = parts.0.0; alloc = parts.0.1; value = parts.1 } })
    (λ Value at. refl) (λ Value parts. refl)

-- A box of the same pointer and allocator that holds another value.
abbrev holding : {X Y : Type 0} → Box X Global → Y → Box Y Global
holding place value = record { ptr = place.ptr; alloc = place.alloc; value = value }

-- The type of a box of such a value, with the global allocator.
abbrev box_type : RattleType → RattleType
box_type Value = boxed.the_row Value global.the_row ghosts

module _ (From To : RattleType) (change : From.Denot → To.Denot) where
  boxes : Alike From To change → Alike (box_type From) (box_type To) (λ place. holding place (change place.value))
  unfolding part_of
  boxes alike = record {
    mir_same = λ i. (box_type (one_value From (alike.mir_same i) (λ _. ftrue) (λ _ _. nothing) gnil)).mir;
    own_same =
        λ place i. (box_type (one_value From (alike.mir_same i) (alike.own_same place.value i)
        (alike.shr_same place.value i) gnil)).own_val (holding place tt);
    shr_same =
        λ place i. (box_type (one_value From (alike.mir_same i) (alike.own_same place.value i)
        (alike.shr_same place.value i) gnil)).shr_at (holding place tt);
  }

  pub the_places : Alike From To change
      → Alike (link.the_row From) (link.the_row To) ((the_former this).map From.Denot To.Denot change)
  the_places alike =
      let structs =
      struct_places (inside.the_type From) (inside.the_type To)
      ((λ place. holding place (change place.value)), tt) _ (λ at. refl) refl (laid _ _ _ (boxes alike), tt) in
      view_places stored this view (λ X Y by at. refl) (λ X at. refl) From.Denot To.Denot change
      (link.the_row From).coded (link.the_row To).coded (invariant From.Denot) (invariant To.Denot)
      (λ at p q. refl) (λ at p q. refl) (λ at e. tt) (λ at e. tt) (over (inside.the_row From))
      (over (inside.the_row To)) structs

  pub the_codes_placed : Recodes From To change
      → Recodes (link.the_row From) (link.the_row To) ((the_former this).map From.Denot To.Denot change)
  the_codes_placed recodes value = recodes value
