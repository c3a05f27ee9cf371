-- The blocks on the stack, by their addresses.
use Rattle.std.specs.List.{filter}
use Rattle.std.specs.Prelude.{ℕ, ◌+◌, ◌≤◌, List, Option, Some, None, All, map, nat_lt, reverse}
use Rattle.hip_tree.specs.declared.site.Site.{Site}
use Rattle.hip_runs.specs.State.{Slot}
use Rattle.hip_runs.specs.Found.Objects.{slot_in}
use Rattle.hip_runs.specs.declared.event.Object.{Object}
use Rattle.hip_runs.specs.declared.event.Object.TheVariants as objects
use Rattle.hip_objects.specs.Order.{AreInOrder}
use Rattle.hip_objects.specs.declared.blocks.StackBlock.{StackBlock}

-- A block of the code as a block of a frame, with the same address, size and site.
abbrev pub slot_of : StackBlock → Slot
slot_of b = record { addr = b.addr; size = b.size; site = b.site }

-- Each block of the code as a block of a frame, in their order.
abbrev pub slots_of : List StackBlock → List Slot
slots_of bs = map slot_of bs

-- Those of the blocks that have a byte.
abbrev pub nonempty : List Slot → List Slot
nonempty xs = filter (λ x. nat_lt 0 x.size) xs

-- Each block ends before a newer one begins.
abbrev pub AreStacked : List StackBlock → Type 0
AreStacked bs = AreInOrder (λ b. b.addr) (λ b. b.size) bs

-- All these blocks end at or before an address.
abbrev pub IsPast : ℕ → List Slot → Type 0
IsPast a xs = All (λ x. x.addr + x.size ≤ a) xs

-- The newest of these blocks that has the byte at an address; the blocks are given from the oldest one on.
abbrev pub object_in : List Slot → ℕ → Option Object
object_in xs a = slot_in (reverse xs) a

-- The block that the `alloca` at a site made, as an object; none where there is no site.
abbrev pub sited : Option Site → Option Object
sited None = None
sited (Some site) = Some (objects.Slot site)
