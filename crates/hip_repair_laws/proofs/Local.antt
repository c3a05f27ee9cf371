-- A repair changes the program only at the sites of its plan.
use Rattle.std.proofs.Common.{◌≡◌, ◌⊎◌, inl, inr, ℕ, zero, suc, ◌+◌, ◌-◌, ◌<◌, ◌≤◌, Bool, true, false, not, ◌&&◌, ◌||◌, List, [], ◌∷◌, ◌++◌, map, take, drop, length, Option, Some, None, slice_get, option_map, refl, sym, ap, ap₂, ◌∙◌, subst, arith, length-append}
use Rattle.std.specs.Prelude.{option_and_then}
use Rattle.hip_grammar.specs.Show.{function_text}
use Rattle.hip_types.specs.Laws.DistinctLaws.{either}
use Rattle.hip_tree.specs.Sites.{has_site, instr_of}
use Rattle.hip_tree.specs.declared.block.Block.{Block}
use Rattle.hip_tree.specs.declared.instr.Instr.{Instr}
use Rattle.hip_tree.specs.declared.instr.Instr.TheVariants.{Binary, Compare, Select, Cast, Alloca, Load, Store, Gep, Call}
use Rattle.hip_tree.specs.declared.program.Function.{Function}
use Rattle.hip_tree.specs.declared.program.Program.{Program}
use Rattle.hip_tree.specs.declared.site.Site.{Site}
use Rattle.hip_runs.specs.Places.{blocks_in, body_at, body_of}
use Rattle.hip_runs.specs.Sites.{is_store}
use Rattle.hip_repairs.proofs.functions.Functions.{plain_code}
use Rattle.hip_repairs.specs.Harmless.{is_inserted}
use Rattle.hip_repairs.specs.Repaired.{Clone, Marked, Wanted, added_fence, added_flush, clones_of, inserted_after, instrs_of, renamed, repaired, repaired_blocks, repaired_body, repaired_function, wanted_by}
use Rattle.hip_repairs.specs.declared.plan.Plan.{Plan}
use Rattle.hip_repair_laws.specs.Local.{InsertsAtSites, IsLocal, IsPlanned, IsUntouched}

-- ---- functions that stay

same_name : (clones : List Clone) (i : Instr) → renamed clones i false ≡ i
same_name clones (Binary dest op flags width a b) = refl
same_name clones (Compare dest pred ty a b) = refl
same_name clones (Select dest test ty a b) = refl
same_name clones (Cast dest op from a to) = refl
same_name clones (Alloca dest ty align) = refl
same_name clones (Load dest ty addr align) = refl
same_name clones (Store ty value addr align) = refl
same_name clones (Gep dest inbounds ty base indices) = refl
same_name clones (Call dest ret callee args) = refl

no_flush : (i : Instr) → added_flush i false ≡ []
no_flush (Binary dest op flags width a b) = refl
no_flush (Compare dest pred ty a b) = refl
no_flush (Select dest test ty a b) = refl
no_flush (Cast dest op from a to) = refl
no_flush (Alloca dest ty align) = refl
no_flush (Load dest ty addr align) = refl
no_flush (Store ty value addr align) = refl
no_flush (Gep dest inbounds ty base indices) = refl
no_flush (Call dest ret callee args) = refl

-- The function with these blocks in place of its own, and the block with this body.
abbrev function_with : Function → List Block → Function
function_with x xs = record { ret = x.ret; name = x.name; params = x.params; blocks = xs }

abbrev block_with : Block → List Instr → Block
block_with x is = record { label = x.label; phis = x.phis; body = is; end = x.end }

module _ (plan : Plan) (skip : Site → Bool) (f : ℕ) (none : IsUntouched plan f) (clones : List Clone) where
  abbrev w : Wanted
  w = wanted_by plan skip

  nothing_after : (s : Site) (i : Instr) → s.function ≡ f → inserted_after w false s i ≡ []
  nothing_after s i e =
      ap₂ (λ (a b : Bool). added_flush i (a || false) ++ added_fence (b || w.hoist s)) (none.flush_after s e) (none.fence_after s e)
      ∙ ap₂ (λ (a : List Marked) (b : Bool). a ++ added_fence b) (no_flush i) (none.hoist s e)

  same_body : (b k : ℕ) (is : List Instr) → instrs_of (repaired_body clones w false f b k is) ≡ is
  same_body b k [] = refl
  same_body b k (i ∷ is) =
      ap (λ (t : Bool). renamed clones i t ∷ instrs_of (inserted_after w false (record { function = f; block = b; index = k }) i
      ++ repaired_body clones w false f b (suc k) is)) (none.hoist (record { function = f; block = b; index = k }) refl)
      ∙ ap₂ (λ (j : Instr) (ms : List Marked). j ∷ instrs_of (ms ++ repaired_body clones w false f b (suc k) is)) (same_name clones i)
      (nothing_after (record { function = f; block = b; index = k }) i refl)
      ∙ ap (λ js. i ∷ js) (same_body b (suc k) is)

  same_blocks : (b : ℕ) (xs : List Block) → repaired_blocks clones w false f b xs ≡ xs
  same_blocks b [] = refl
  same_blocks b (x ∷ xs) =
      ap (λ is. block_with x is ∷ repaired_blocks clones w false f (suc b) xs) (same_body b 0 x.body)
      ∙ ap (λ ys. x ∷ ys) (same_blocks (suc b) xs)

  same_function : (x : Function) → repaired_function clones w false f x.name x ≡ x
  same_function x = ap (function_with x) (same_blocks 0 x.blocks)

get_map : {A B : Type 0} (g : A → B) (xs : List A) (k : ℕ) → slice_get (map g xs) k ≡ option_map g (slice_get xs k)
get_map g [] k = refl
get_map g (x ∷ xs) zero = refl
get_map g (x ∷ xs) (suc k) = get_map g xs k

get_below : {A : Type 0} (xs : List A) (k : ℕ) (x : A) → slice_get xs k ≡ Some x → k < length xs
get_below [] k x e = absurd (let z : ⊥ = cc in z)
get_below (y ∷ xs) zero x e = omega arith
get_below (y ∷ xs) (suc k) x e = let lt = get_below xs k x e in omega (arith, lt)

keeps_function : (P : Program) (plan : Plan) (skip : Site → Bool) (f : ℕ) (x : Function) → slice_get P.functions f ≡ Some x
    → IsUntouched plan f → slice_get (repaired P plan skip).functions f ≡ Some x
keeps_function P plan skip f x at none =
    plain_code P plan skip f (get_below P.functions f x at)
    ∙ ap (option_map (λ (y : Function). repaired_function (clones_of P plan) (wanted_by plan skip) false f y.name y)) at
    ∙ ap Some (same_function plan skip f none (clones_of P plan) x)

-- ---- where instructions are inserted

-- What is inserted after an instruction: a flush after a store, or a fence.
added_for : (i : Instr) (flush fence : Bool) (j : ℕ) → j < length (added_flush i flush ++ added_fence fence)
    → ((flush ≡ true) × (is_store (Some i) ≡ true)) ⊎ (fence ≡ true)
added_for i flush true j lt = inr refl
added_for (Store ty value addr align) true false j lt = inl (refl, refl)
added_for (Store ty value addr align) false false j lt = absurd (omega (arith, lt))
added_for (Binary dest op flags width a b) flush false j lt = absurd (omega (arith, lt))
added_for (Compare dest pred ty a b) flush false j lt = absurd (omega (arith, lt))
added_for (Select dest test ty a b) flush false j lt = absurd (omega (arith, lt))
added_for (Cast dest op from a to) flush false j lt = absurd (omega (arith, lt))
added_for (Alloca dest ty align) flush false j lt = absurd (omega (arith, lt))
added_for (Load dest ty addr align) flush false j lt = absurd (omega (arith, lt))
added_for (Gep dest inbounds ty base indices) flush false j lt = absurd (omega (arith, lt))
added_for (Call dest ret callee args) flush false j lt = absurd (omega (arith, lt))

drop_past : {A : Type 0} (xs ys : List A) (j : ℕ) → drop (length xs + j) (xs ++ ys) ≡ drop j ys
drop_past [] ys j = let e : 0 + j ≡ j = omega arith in ap (λ n. drop n ys) e
drop_past (x ∷ xs) ys j =
    let e : suc (length xs) + j ≡ suc (length xs + j) = omega arith in
    ap (λ n. drop n (x ∷ (xs ++ ys))) e ∙ drop_past xs ys j

-- Where an inserted instruction of a body stands: after instruction m of these, and before the next.
record IsAfter (clones : List Clone) (w : Wanted) (clone : Bool) (f b k : ℕ) (is : List Instr) (place : ℕ) : Type 0 where
  at : ℕ
  instr : Instr
  here : slice_get is at ≡ Some instr
  after : length (repaired_body clones w clone f b k (take at is)) < place
  before : place < length (repaired_body clones w clone f b k (take (suc at) is))
  past : ℕ
  wanted : past < length (inserted_after w clone (record { function = f; block = b; index = k + at }) instr)

module _ (clones : List Clone) (w : Wanted) (clone : Bool) (f b : ℕ) where
  abbrev rest_of : ℕ → List Instr → List Marked
  rest_of k is = repaired_body clones w clone f b k is

  abbrev added : ℕ → Instr → List Marked
  added k i = inserted_after w clone (record { function = f; block = b; index = k }) i

  -- The instructions of the first one and of some more.
  length-cons : (k : ℕ) (i : Instr) (is : List Instr) → length (rest_of k (i ∷ is)) ≡ suc (length (added k i) + length (rest_of (suc k) is))
  length-cons k i is = ap suc (length-append (added k i) (rest_of (suc k) is))

  later : (k : ℕ) (i : Instr) (is : List Instr) (j : ℕ) → IsAfter clones w clone f b (suc k) is j
      → IsAfter clones w clone f b k (i ∷ is) (suc (length (added k i) + j))
  later k i is j h =
      let first = length-cons k i (take h.at is) in
      let second = length-cons k i (take (suc h.at) is) in
      let low = h.after in
      let high = h.before in
      let e : suc k + h.at ≡ k + suc h.at = omega arith in
      record {
        at = suc h.at;
        instr = h.instr;
        here = h.here;
        after = omega (arith, first, low);
        before = omega (arith, second, high);
        past = h.past;
        wanted = subst (λ n. h.past < length (added n h.instr)) e h.wanted;
      }

  here_after : (k : ℕ) (i : Instr) (is : List Instr) (j : ℕ) → j < length (added k i)
      → IsAfter clones w clone f b k (i ∷ is) (suc j)
  here_after k i is j lt =
      let one = length-cons k i [] in
      let e : k ≡ k + 0 = omega arith in
      record {
        at = 0;
        instr = i;
        here = refl;
        after = omega arith;
        before = omega (arith, one, lt);
        past = j;
        wanted = subst (λ n. j < length (added n i)) e lt;
      }

  stands_after : (k : ℕ) (is : List Instr) (place : ℕ) → is_inserted (drop place (rest_of k is)) ≡ true
      → IsAfter clones w clone f b k is place
  stands_after k [] zero h = absurd (let z : ⊥ = cc in z)
  stands_after k [] (suc place) h = absurd (let z : ⊥ = cc in z)
  stands_after k (i ∷ is) zero h = absurd (let z : ⊥ = cc in z)
  stands_after k (i ∷ is) (suc place) h = go (split place (length (added k i))) (λ j e. stands_after (suc k) is j e)
    where
      split : (m n : ℕ) → (m < n) ⊎ ((d : ℕ) × (m ≡ n + d))
      split m n = by (let t : (m < n) ⊎ (n ≤ m) = grind arith in t)
        where
          by : (m < n) ⊎ (n ≤ m) → (m < n) ⊎ ((d : ℕ) × (m ≡ n + d))
          by (inl lt) = inl lt
          by (inr le) = inr (m - n, omega (arith, le))

      go : (place < length (added k i)) ⊎ ((d : ℕ) × (place ≡ length (added k i) + d))
          → ((j : ℕ) → is_inserted (drop j (rest_of (suc k) is)) ≡ true → IsAfter clones w clone f b (suc k) is j)
          → IsAfter clones w clone f b k (i ∷ is) (suc place)
      go (inl lt) more = here_after k i is place lt
      go (inr d) more =
          let there = sym (ap is_inserted (drop_past (added k i) (rest_of (suc k) is) d.0))
          ∙ ap (λ n. is_inserted (drop n (added k i ++ rest_of (suc k) is))) (sym d.1) ∙ h in
          subst (λ n. IsAfter clones w clone f b k (i ∷ is) (suc n)) (sym d.1) (later k i is d.0 (more d.0 there))

module _ (P : Program) (plan : Plan) (skip : Site → Bool) where
  abbrev site_at : ℕ → ℕ → ℕ → Site
  site_at f b k = record { function = f; block = b; index = k }

  -- An instruction of a body is at its site.
  instr_there : (f b k : ℕ) (i : Instr) → slice_get (body_at P f b) k ≡ Some i → instr_of P (site_at f b k) ≡ Some i
  instr_there f b k i at = by_function (slice_get P.functions f) refl
    where
      by_block : (x : Function) → slice_get P.functions f ≡ Some x → (o : Option Block) → slice_get x.blocks b ≡ o
          → instr_of P (site_at f b k) ≡ Some i
      by_block x e None g =
          absurd (let z : None ≡ Some i = sym (ap (λ (o : Option Function). slice_get (body_of (slice_get (blocks_in o) b)) k) e
          ∙ ap (λ (o : Option Block). slice_get (body_of o) k) g) ∙ at in let no : ⊥ = cc in no)
      by_block x e (Some y) g =
          ap (λ (o : Option Function). option_and_then (λ (y : Block). slice_get y.body k) (option_and_then (λ (x : Function). slice_get x.blocks b) o)) e
          ∙ ap (option_and_then (λ (y : Block). slice_get y.body k)) g
          ∙ sym (ap (λ (o : Option Function). slice_get (body_of (slice_get (blocks_in o) b)) k) e
          ∙ ap (λ (o : Option Block). slice_get (body_of o) k) g) ∙ at

      by_function : (o : Option Function) → slice_get P.functions f ≡ o → instr_of P (site_at f b k) ≡ Some i
      by_function None e =
          absurd (let z : None ≡ Some i = sym (ap (λ (o : Option Function). slice_get (body_of (slice_get (blocks_in o) b)) k) e) ∙ at in let no : ⊥ = cc in no)
      by_function (Some x) e = by_block x e (slice_get x.blocks b) refl

  planned_or_store : (clone : Bool) (s : Site) (i : Instr) → instr_of P s ≡ Some i
      → (((wanted_by plan skip).flush_after s || (clone && not (skip s)) ≡ true) × (is_store (Some i) ≡ true))
      ⊎ ((wanted_by plan skip).fence_after s || (wanted_by plan skip).hoist s ≡ true)
      → IsPlanned plan s ⊎ ((clone ≡ true) × (is_store (instr_of P s) ≡ true))
  planned_or_store clone s i at (inl h) = by (either _ _ h.0)
    where
      first : (c d : Bool) → c && d ≡ true → c ≡ true
      first true d e = refl
      first false d e = absurd (let z : ⊥ = cc in z)

      by : (has_site plan.flush_after s ≡ true) ⊎ (clone && not (skip s) ≡ true)
          → IsPlanned plan s ⊎ ((clone ≡ true) × (is_store (instr_of P s) ≡ true))
      by (inl e) = inl (inl e)
      by (inr e) = inr (first clone (not (skip s)) e, ap is_store at ∙ h.1)
  planned_or_store clone s i at (inr h) = by (either _ _ h)
    where
      by : (has_site plan.fence_after s ≡ true) ⊎ (has_site plan.hoist s ≡ true)
          → IsPlanned plan s ⊎ ((clone ≡ true) × (is_store (instr_of P s) ≡ true))
      by (inl e) = inl (inr (inl e))
      by (inr e) = inl (inr (inr e))

  inserts_at_sites : InsertsAtSites P plan skip
  inserts_at_sites clone f b place h =
      let at = stands_after (clones_of P plan) (wanted_by plan skip) clone f b 0 (body_at P f b) place h in
      let e : 0 + at.at ≡ at.at = omega arith in
      let wanted = subst (λ n. at.past < length (inserted_after (wanted_by plan skip) clone (site_at f b n) at.instr)) e at.wanted in
      record {
        site = site_at f b at.at;
        function = refl;
        block = refl;
        after = at.after;
        before = at.before;
        planned =
            planned_or_store clone (site_at f b at.at) at.instr (instr_there f b at.at at.instr at.here)
            (added_for at.instr _ _ at.past wanted);
      }

  pub local : IsLocal P plan skip
  local = record {
    untouched = record {
      function = keeps_function P plan skip;
      text = λ f x at none.
          get_map function_text (repaired P plan skip).functions f
          ∙ ap (option_map function_text) (keeps_function P plan skip f x at none);
    };
    inserted = inserts_at_sites;
  }
