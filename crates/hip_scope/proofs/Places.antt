-- Places of code are all different, and follow one another.
use Rattle.std.proofs.Common.{◌≡◌, ℕ, zero, suc, ◌+◌, ◌<◌, ◌≤◌, List, [], ◌∷◌, length, Some, slice_get, refl, ap, arith}
use Rattle.std.proofs.lemmas.Option.{same_Some}
use Rattle.hip_tree.specs.declared.block.Block.{Block}
use Rattle.hip_tree.specs.declared.program.Function.{Function}
use Rattle.hip_tree.specs.declared.program.Program.{Program}
use Rattle.hip_runs.specs.Places.{block_at, blocks_in}
use Rattle.hip_code.specs.Entries.{entry, entry_in, entry_of}

-- ---- the blocks of a function

body_same : (x y : Block) → Some x ≡ Some y → length x.body ≡ length y.body
body_same x y e = ap (λ (b : Block). length b.body) (same_Some x y e)

in_blocks : (bs : List Block) (b k c j : ℕ) (x y : Block) → slice_get bs b ≡ Some x → k ≤ length x.body → slice_get bs c ≡ Some y → j ≤ length y.body →
    entry_in bs b + k ≡ entry_in bs c + j → (b ≡ c) × (k ≡ j)
in_blocks [] b k c j x y h m i n e = cc
in_blocks (z ∷ bs) zero k zero j x y h m i n e = (refl, omega (arith, e))
in_blocks (z ∷ bs) zero k (suc c) j x y h m i n e = let s = body_same z x h in absurd (let q : ⊥ = omega (arith, e, m, s) in q)
in_blocks (z ∷ bs) (suc b) k zero j x y h m i n e = let s = body_same z y i in absurd (let q : ⊥ = omega (arith, e, n, s) in q)
in_blocks (z ∷ bs) (suc b) k (suc c) j x y h m i n e = let r = in_blocks bs b k c j x y h m i n (omega (arith, e)) in (ap suc r.0, r.1)

within_blocks : (bs : List Block) (b k : ℕ) (x : Block) → slice_get bs b ≡ Some x → k ≤ length x.body → entry_in bs b + k < entry_in bs (length bs)
within_blocks [] b k x h m = cc
within_blocks (z ∷ bs) zero k x h m = let s = body_same z x h in omega (arith, m, s)
within_blocks (z ∷ bs) (suc b) k x h m = let r = within_blocks bs b k x h m in omega (arith, r)

pub first_block : (bs : List Block) → entry_in bs 0 ≡ 0
first_block [] = refl
first_block (z ∷ bs) = refl

pub next_in : (bs : List Block) (b : ℕ) (x : Block) → slice_get bs b ≡ Some x → entry_in bs (suc b) ≡ entry_in bs b + suc (length x.body)
next_in [] b x h = cc
next_in (z ∷ bs) zero x h = let s = body_same z x h in let f = first_block bs in omega (arith, s, f)
next_in (z ∷ bs) (suc b) x h = let r = next_in bs b x h in omega (arith, r)

-- ---- the functions

pub record SamePlace (f b k g c j : ℕ) : Type 0 where
  pub function : f ≡ g
  pub block : b ≡ c
  pub index : k ≡ j

in_functions : (fs : List Function) (f b k g c j : ℕ) (x y : Block) → slice_get (blocks_in (slice_get fs f)) b ≡ Some x → k ≤ length x.body → slice_get (blocks_in (slice_get fs g)) c ≡ Some y → j ≤ length y.body →
    entry_of fs f b + k ≡ entry_of fs g c + j → SamePlace f b k g c j
in_functions [] f b k g c j x y h m i n e = cc
in_functions (z ∷ fs) zero b k zero c j x y h m i n e = let r = in_blocks z.blocks b k c j x y h m i n e in record { function = refl; block = r.0; index = r.1 }
in_functions (z ∷ fs) zero b k (suc g) c j x y h m i n e = let w = within_blocks z.blocks b k x h m in absurd (let q : ⊥ = omega (arith, e, w) in q)
in_functions (z ∷ fs) (suc f) b k zero c j x y h m i n e = let w = within_blocks z.blocks c j y i n in absurd (let q : ⊥ = omega (arith, e, w) in q)
in_functions (z ∷ fs) (suc f) b k (suc g) c j x y h m i n e =
    let r = in_functions fs f b k g c j x y h m i n (omega (arith, e)) in record { function = ap suc r.function; block = r.block; index = r.index }

within_functions : (fs : List Function) (f b k : ℕ) (x : Block) → slice_get (blocks_in (slice_get fs f)) b ≡ Some x → k ≤ length x.body → entry_of fs f b + k < entry_of fs (length fs) 0
within_functions [] f b k x h m = cc
within_functions (z ∷ fs) zero b k x h m = let w = within_blocks z.blocks b k x h m in omega (arith, w)
within_functions (z ∷ fs) (suc f) b k x h m = let r = within_functions fs f b k x h m in omega (arith, r)

pub at_function : (fs : List Function) (f b : ℕ) (x : Function) → slice_get fs f ≡ Some x → entry_of fs f b ≡ entry_of fs f 0 + entry_in x.blocks b
at_function [] f b x h = cc
at_function (z ∷ fs) zero b x h =
    let s : entry_in z.blocks b ≡ entry_in x.blocks b = ap (λ (f : Function). entry_in f.blocks b) (same_Some z x h) in let f = first_block z.blocks in omega (arith, s, f)
at_function (z ∷ fs) (suc f) b x h = let r = at_function fs f b x h in omega (arith, r)

pub next_of : (fs : List Function) (f : ℕ) (x : Function) → slice_get fs f ≡ Some x → entry_of fs (suc f) 0 ≡ entry_of fs f (length x.blocks)
next_of [] f x h = cc
next_of (z ∷ fs) zero x h =
    let s : entry_in z.blocks (length z.blocks) ≡ entry_in x.blocks (length x.blocks) = ap (λ (f : Function). entry_in f.blocks (length f.blocks)) (same_Some z x h) in
    let t : entry_in z.blocks (length x.blocks) ≡ entry_in x.blocks (length x.blocks) = ap (λ (f : Function). entry_in f.blocks (length x.blocks)) (same_Some z x h) in
    let f = start fs in omega (arith, s, t, f)
  where
    start : (gs : List Function) → entry_of gs 0 0 ≡ 0
    start [] = refl
    start (g ∷ gs) = first_block g.blocks
next_of (z ∷ fs) (suc f) x h = let r = next_of fs f x h in omega (arith, r)

-- ---- the program

-- If two places are the same number, they are the same place.
pub one_place : (P : Program) (f b k g c j : ℕ) (x y : Block) → block_at P f b ≡ Some x → k ≤ length x.body → block_at P g c ≡ Some y → j ≤ length y.body →
    entry P f b + k ≡ entry P g c + j → SamePlace f b k g c j
unfolding entry
one_place P f b k g c j x y h m i n e = in_functions P.functions f b k g c j x y h m i n e

pub place_within : (P : Program) (f b k : ℕ) (x : Block) → block_at P f b ≡ Some x → k ≤ length x.body → entry P f b + k < entry P (length P.functions) 0
unfolding entry
place_within P f b k x h m = within_functions P.functions f b k x h m

pub entry_at : (P : Program) (f b : ℕ) (x : Function) → slice_get P.functions f ≡ Some x → entry P f b ≡ entry P f 0 + entry_in x.blocks b
unfolding entry
entry_at P f b x h = at_function P.functions f b x h

pub next_function : (P : Program) (f : ℕ) (x : Function) → slice_get P.functions f ≡ Some x → entry P (suc f) 0 ≡ entry P f (length x.blocks)
unfolding entry
next_function P f x h = next_of P.functions f x h

pub first_place : (P : Program) → entry P 0 0 ≡ 0
unfolding entry
first_place P = go P.functions
  where
    go : (fs : List Function) → entry_of fs 0 0 ≡ 0
    go [] = refl
    go (z ∷ fs) = first_block z.blocks
