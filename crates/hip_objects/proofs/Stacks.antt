-- The blocks on the stack, the oldest first: the newest one that has a byte is the first one that has it.
use Rattle.std.proofs.Common.{ℕ, suc, ◌+◌, ◌<◌, ◌≤◌, ◌≡◌, Bool, true, false, cond, nat_lt, List, [], ◌∷◌, ◌++◌, Option, Some, None, reverse, refl, sym, ap, ◌∙◌, arith, subst}
use Rattle.std.proofs.lemmas.Bool.Decides.{nat_tests}
use Rattle.std.proofs.lemmas.List.Elements.{filter-append}
use Rattle.std.proofs.lemmas.List.{append-nil, length-map, get_or-map, reverse-append}
use Rattle.hip_tree.specs.declared.site.Site.{Site}
use Rattle.hip_mem.specs.Memory.{range_contains}
use Rattle.hip_runs.specs.State.{Slot}
use Rattle.hip_runs.specs.Found.Objects.{or_else, slot_in}
use Rattle.hip_runs.specs.declared.event.Object.{Object}
use Rattle.hip_runs.specs.declared.event.Object.TheVariants as objects
use Rattle.hip_objects.specs.Blocks.{AreStacked, IsPast, object_in, sited, slot_of, slots_of, nonempty}
use Rattle.hip_objects.specs.Order.{first_at}
use Rattle.hip_objects.specs.declared.blocks.StackBlock.{StackBlock}
use Rattle.hip_objects.proofs.Search.{contains-before, first_at-none, in_order-pushed, later}

abbrev pub site_first : ℕ → List StackBlock → Option Site
site_first a xs = first_at (λ b. b.addr) (λ b. b.size) (λ b. b.site) a xs

-- The block as an object, if it has the byte.
abbrev chosen : Site → Bool → Option Object
chosen site b = cond b (Some (objects.Slot site)) None

over : (b : Bool) (o first second : Option Object) → first ≡ second → cond b o first ≡ cond b o second
over b o first second e = ap (λ x. cond b o x) e

else-cond : (b : Bool) (o : Object) (x after : Option Object) → or_else (cond b (Some o) x) after ≡ cond b (Some o) (or_else x after)
else-cond true o x after = refl
else-cond false o x after = refl

slot_in-append : (xs ys : List Slot) (a : ℕ) → slot_in (xs ++ ys) a ≡ or_else (slot_in xs a) (slot_in ys a)
slot_in-append [] ys a = refl
slot_in-append (x ∷ xs) ys a =
    over (range_contains x.addr x.size a) _ _ _ (slot_in-append xs ys a)
    ∙ sym (else-cond (range_contains x.addr x.size a) (objects.Slot x.site) (slot_in xs a) (slot_in ys a))

-- The block that has a byte is among the newer blocks, or else it is the oldest one.
object_in-older : (x : StackBlock) (xs : List StackBlock) (a : ℕ) →
    object_in (slots_of (x ∷ xs)) a ≡ or_else (object_in (slots_of xs) a) (chosen x.site (range_contains x.addr x.size a))
object_in-older x xs a =
    ap (λ l. slot_in l a) (reverse-append (slot_of x ∷ []) (slots_of xs)) ∙ slot_in-append (reverse (slots_of xs)) (slot_of x ∷ []) a

or_else-none : (o : Option Object) → or_else o None ≡ o
or_else-none None = refl
or_else-none (Some o) = refl

contains-high : (at size a : ℕ) → range_contains at size a ≡ true → a < at + size
contains-high at size a h = grind (arith, h)

pub first_is_newest : (xs : List StackBlock) (a : ℕ) → AreStacked xs → sited (site_first a xs) ≡ object_in (slots_of xs) a
first_is_newest [] a s = refl
first_is_newest (x ∷ xs) a s =
    go (range_contains x.addr x.size a) refl (first_is_newest xs a (later (λ b. b.addr) (λ b. b.size) (λ b. b.site) x xs s)) ∙ sym (object_in-older x xs a)
  where
    go : (b : Bool) → range_contains x.addr x.size a ≡ b → sited (site_first a xs) ≡ object_in (slots_of xs) a →
        sited (cond b (Some x.site) (site_first a xs)) ≡ or_else (object_in (slots_of xs) a) (chosen x.site b)
    go true has e = sym (ap (λ o. or_else o (Some (objects.Slot x.site))) (sym e ∙ ap sited (first_at-none (λ b. b.addr) (λ b. b.size) (λ b. b.site) xs a (λ i d within.
        contains-before _ _ a (let high = contains-high x.addr x.size a has in let past = s.order 0 (suc i) d (omega arith) (omega (arith, within)) in omega (arith, high, past))))))
    go false has e = e ∙ sym (or_else-none (object_in (slots_of xs) a))

pub pushed : (xs : List StackBlock) (b : StackBlock) → AreStacked xs → IsPast b.addr (slots_of xs) → AreStacked (xs ++ b ∷ [])
pushed xs b s past = in_order-pushed (λ x. x.addr) (λ x. x.size) (λ x. x.site) xs b s
    (λ i d within. subst (λ x. x.addr + x.size ≤ b.addr) (get_or-map slot_of xs i d (slot_of d) within) (past i (slot_of d) (omega (arith, length-map xs slot_of, within))))

-- ---- blocks with no byte

pub not_kept : (xs : List Slot) (x : Slot) → x.size ≡ 0 → xs ≡ xs ++ nonempty (x ∷ [])
not_kept xs x e = sym (append-nil xs) ∙ ap (λ n. xs ++ cond (nat_lt 0 n) (x ∷ []) []) (sym e)

pub kept : (xs : List Slot) (x : Slot) → (x.size ≡ 0 → ⊥) → xs ++ x ∷ [] ≡ xs ++ nonempty (x ∷ [])
kept xs x some = ap (λ b. xs ++ cond b (x ∷ []) []) (let e : true ≡ nat_lt 0 x.size = grind (arith, nat_tests) in e)

pub nonempty-append : (xs ys : List Slot) → nonempty (xs ++ ys) ≡ nonempty xs ++ nonempty ys
nonempty-append xs ys = filter-append (λ x. nat_lt 0 x.size) xs ys

pub nonempty-newest : (xs : List Slot) → reverse (nonempty (reverse xs)) ≡ nonempty xs
nonempty-newest [] = refl
nonempty-newest (x ∷ xs) =
    ap (λ l. reverse (nonempty l)) (reverse-append (x ∷ []) xs) ∙ ap reverse (nonempty-append (reverse xs) (x ∷ []))
    ∙ reverse-append (nonempty (reverse xs)) (nonempty (x ∷ [])) ∙ ap (λ l. reverse (nonempty (x ∷ [])) ++ l) (nonempty-newest xs)
    ∙ go (nat_lt 0 x.size)
  where
    go : (b : Bool) → reverse (cond b (x ∷ []) []) ++ nonempty xs ≡ cond b (x ∷ nonempty xs) (nonempty xs)
    go true = refl
    go false = refl

-- No address is in a block with no byte.
pub slot_in-nonempty : (xs : List Slot) (a : ℕ) → slot_in (nonempty xs) a ≡ slot_in xs a
slot_in-nonempty [] a = refl
slot_in-nonempty (x ∷ xs) a = go (nat_lt 0 x.size) refl (slot_in-nonempty xs a)
  where
    go : (b : Bool) → nat_lt 0 x.size ≡ b → slot_in (nonempty xs) a ≡ slot_in xs a →
        slot_in (cond b (x ∷ nonempty xs) (nonempty xs)) a ≡ cond (range_contains x.addr x.size a) (Some (objects.Slot x.site)) (slot_in xs a)
    go true some e = ap (λ o. cond (range_contains x.addr x.size a) (Some (objects.Slot x.site)) o) e
    go false none e = e ∙ sym (ap (λ t. cond t (Some (objects.Slot x.site)) (slot_in xs a)) (let outside : range_contains x.addr x.size a ≡ false = grind (arith, nat_tests) in outside))
