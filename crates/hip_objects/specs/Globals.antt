-- The globals of a program, by their addresses.
use Rattle.std.specs.Prelude.{ℕ, suc, ◌+◌, Bool, cond, nat_lt, List, [], ◌∷◌, Option}
use Rattle.hip_types.specs.Layout.{shape}
use Rattle.hip_tree.specs.declared.program.GlobalVar.{GlobalVar}
use Rattle.hip_globals.specs.Addresses.{global_start, same_truth}
use Rattle.hip_objects.specs.Order.{AreInOrder, first_at}
use Rattle.hip_objects.specs.declared.globals.GlobalTable.TheInside.{Inside}
use Rattle.hip_objects.specs.declared.globals.GlobalRange.{GlobalRange}

-- The place of a global that is laid from an address on, with the number of the global.
abbrev pub place_of : ℕ → GlobalVar → ℕ → GlobalRange
place_of at g number = record { start = global_start at g; size = (shape g.ty).size; number = number }

-- The places of the persistent globals in a list, or of the volatile ones, if they are laid from an address on. The
-- first global of the list has number n.
abbrev pub places_from : Bool → ℕ → ℕ → List GlobalVar → List GlobalRange
places_from persistent at n [] = []
places_from persistent at n (g ∷ gs) =
    cond (same_truth g.persistent persistent)
    (place_of at g n ∷ places_from persistent (global_start at g + (shape g.ty).size) (suc n) gs)
    (places_from persistent at (suc n) gs)

-- Each global ends before a later one begins.
abbrev pub AreLaid : List GlobalRange → Type 0
AreLaid ps = AreInOrder (λ p. p.start) (λ p. p.size) ps

-- The number of the first global that has the byte at an address.
abbrev pub number_at : ℕ → List GlobalRange → Option ℕ
number_at a ps = first_at (λ p. p.start) (λ p. p.size) (λ p. p.number) a ps

-- The base of the region, and the places of the volatile globals and of the persistent ones.
pub record Laid : Type 0 where
  pub base : ℕ
  pub volatile : List GlobalRange
  pub persistent : List GlobalRange

-- The number of the global at an address: a persistent one from the base on, a volatile one below it.
abbrev pub global_in : Laid → ℕ → Option ℕ
global_in l a = cond (nat_lt a l.base) (number_at a l.volatile) (number_at a l.persistent)

-- What a table holds: the base, and the places of the volatile globals and of the persistent ones.
abbrev pub laid_of : Inside → Laid
laid_of t = record { base = t.base; volatile = t.volatile.items; persistent = t.persistent.items }

-- The volatile globals are in the order of their addresses and do not overlap, and so are the persistent ones.
pub record IsGlobalTable (t : Inside) : Type 0 where
  pub volatile : AreLaid t.volatile.items
  pub persistent : AreLaid t.persistent.items
