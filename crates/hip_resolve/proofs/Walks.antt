-- The extents of blocks: how the walk finds them, and what they cover.
use Rattle.std.proofs.Common.{◌≡◌, ℕ, zero, suc, ◌+◌, ◌<◌, ◌≤◌, Bool, true, false, cond, nat_lt, ltb-true, ltb-false, List, [], ◌∷◌, ◌++◌, length, map, take, drop, get_or, add-one, Option, Some, None, slice_get, slice_index, slice_set, option_map, refl, sym, ap, ◌∙◌, subst, inl, inr, ⊎_elim, arith, append_assoc, get_or-set_same, get_or-set_other, eq-or-lt_of_le}
use Rattle.std.specs.Prelude.{unwrap_or}
use Rattle.std.specs.List.{flat_map}
use Rattle.std.proofs.lemmas.Grind.{flat_map-append}
use Rattle.std.proofs.lemmas.List.{length-append, length-map, take-append-drop}
use Rattle.std.proofs.lemmas.Option.{same_Some, slice_get_within, get_or_from_slice_get, slice_get-map}
use Rattle.hip_tree.specs.declared.block.Block.{Block}
use Rattle.hip_tree.specs.declared.block.Case.{Case}
use Rattle.hip_tree.specs.declared.instr.Instr.{Instr}
use Rattle.hip_tree.specs.declared.instr.Instr.TheVariants.{Binary, Compare, Select, Cast, Alloca, Load, Store, Gep, Call}
use Rattle.hip_tree.specs.declared.program.Function.{Function}
use Rattle.hip_tree.specs.declared.program.Program.{Program}
use Rattle.hip_types.specs.Laws.DistinctLaws.{get_kept}
use Rattle.hip_names.specs.Names.{IsAmong, number_of}
use Rattle.hip_names.specs.Laws.NameLaws.{among-left, among-right, among-either}
use Rattle.hip_names.specs.Laws.NumberLaws.{number_of-known, number_of-least}
use Rattle.hip_sound.specs.Paths.{IsChain, BlockLeadsTo, label_at, names_of, whole_block_names}
use Rattle.hip_sound.specs.Registers.{Register, assigned_by, block_registers, body_registers, end_labels, parameter_registers}
use Rattle.hip_sound.specs.Sound.{register_names}
use Rattle.hip_runs.specs.Places.{blocks_in}
use Rattle.hip_code.specs.Extents.{MayHaveValue}
use Rattle.hip_code.specs.Frames.{names_at, names_in}
use Rattle.hip_scope.specs.Listed.{HasExtents}
use Rattle.hip_resolve.specs.Extents.{AreExtents, LeadsNoLower, slots_to}
use Rattle.hip_resolve.proofs.Scoped.{names_both}

-- ---- labels that are named

pub none_named : (labels : List (List ℕ)) (low : ℕ) → LeadsNoLower labels [] low
none_named labels low = record { at = λ label c h e. absurd h }

pub named_lower : {labels named : List (List ℕ)} {low : ℕ} (less : ℕ) → LeadsNoLower labels named low → less ≤ low → LeadsNoLower labels named less
named_lower {labels} {named} {low} less l le = record { at = λ label c h e. let b = l.at label c h e in omega (arith, b, le) }

pub named_more : {labels xs ys : List (List ℕ)} {low : ℕ} → LeadsNoLower labels xs low → LeadsNoLower labels ys low → LeadsNoLower labels (xs ++ ys) low
named_more {labels} {xs} {ys} {low} a b = record { at = λ label c h e. ⊎_elim (λ l. a.at label c l e) (λ r. b.at label c r e) (among-either xs ys label h) }

-- The labels of the first k + 1 cases are those of the first k cases, and one more.
pub case_taken : (cases : List Case) (k : ℕ) (x : Case) → k < length cases → x ≡ get_or cases k x →
    map (λ (c : Case). c.label) (take (k + 1) cases) ≡ map (λ (c : Case). c.label) (take k cases) ++ x.label ∷ []
case_taken cases k x lt is = ap (λ n. map (λ (c : Case). c.label) (take n cases)) (add-one k) ∙ go cases k lt is
  where
    go : (cs : List Case) (j : ℕ) → j < length cs → x ≡ get_or cs j x → map (λ (c : Case). c.label) (take (suc j) cs) ≡ map (λ (c : Case). c.label) (take j cs) ++ x.label ∷ []
    go [] j lt is = absurd (let q : ⊥ = omega (arith, lt) in q)
    go (y ∷ ys) zero lt is = ap (λ (c : Case). c.label ∷ []) (sym is)
    go (y ∷ ys) (suc j) lt is = ap (λ ls. y.label ∷ ls) (go ys j (omega (arith, lt)) is)

-- ---- slots

-- An instruction assigns one register at most.
pub one_assigned : (i : Instr) → length (assigned_by i) ≤ 1
one_assigned (Binary dest op flags width a b) = omega arith
one_assigned (Compare dest pred ty a b) = omega arith
one_assigned (Select dest test ty a b) = omega arith
one_assigned (Cast dest op from a to) = omega arith
one_assigned (Alloca dest ty align) = omega arith
one_assigned (Load dest ty addr align) = omega arith
one_assigned (Store ty value addr align) = omega arith
one_assigned (Gep dest inbounds ty base indices) = omega arith
one_assigned (Call None ret callee args) = omega arith
one_assigned (Call (Some dest) ret callee args) = omega arith

pub few_assigned : (body : List Instr) (k : ℕ) → length (body_registers (take k body)) ≤ k
few_assigned [] zero = omega arith
few_assigned [] (suc k) = omega arith
few_assigned (i ∷ is) zero = omega arith
few_assigned (i ∷ is) (suc k) =
    let l = length-append (assigned_by i) (body_registers (take k is)) in
    let one = one_assigned i in
    let few = few_assigned is k in
    omega (arith, l, one, few)

module _ (fn : Function) where
  slots_next : (bs : List Block) (b : ℕ) (block : Block) → slice_get bs b ≡ Some block → length (flat_map block_registers (take (suc b) bs)) ≡ length (flat_map block_registers (take b bs)) + length (block_registers block)
  slots_next [] b block e = cc
  slots_next (x ∷ bs) zero block e =
      let l = length-append (block_registers x) [] in
      let same = ap (λ (z : Block). length (block_registers z)) (same_Some x block e) in
      omega (arith, l, same)
  slots_next (x ∷ bs) (suc b) block e =
      let l = length-append (block_registers x) (flat_map block_registers (take (suc b) bs)) in
      let m = length-append (block_registers x) (flat_map block_registers (take b bs)) in
      let r = slots_next bs b block e in
      omega (arith, l, m, r)

  -- The slots up to the end of a block are those up to its start, and those of its registers.
  pub slots_on : (b : ℕ) (block : Block) → slice_get fn.blocks b ≡ Some block → slots_to fn (suc b) ≡ slots_to fn b + length (block_registers block)
  slots_on b block e = let r = slots_next fn.blocks b block e in omega (arith, r)

  slots_rise : (bs : List Block) (j k : ℕ) → j ≤ k → length (flat_map block_registers (take j bs)) ≤ length (flat_map block_registers (take k bs))
  slots_rise [] zero zero le = omega arith
  slots_rise [] zero (suc k) le = omega arith
  slots_rise [] (suc j) zero le = absurd (let q : ⊥ = omega (arith, le) in q)
  slots_rise [] (suc j) (suc k) le = omega arith
  slots_rise (x ∷ bs) zero k le = omega arith
  slots_rise (x ∷ bs) (suc j) zero le = absurd (let q : ⊥ = omega (arith, le) in q)
  slots_rise (x ∷ bs) (suc j) (suc k) le =
      let l = length-append (block_registers x) (flat_map block_registers (take j bs)) in
      let m = length-append (block_registers x) (flat_map block_registers (take k bs)) in
      let r = slots_rise bs j k (omega (arith, le)) in
      omega (arith, l, m, r)

  pub slots_more : (j k : ℕ) → j ≤ k → slots_to fn j ≤ slots_to fn k
  slots_more j k le = let r = slots_rise fn.blocks j k le in omega (arith, r)

  take_whole : {A : Type 0} (xs : List A) → take (length xs) xs ≡ xs
  take_whole [] = refl
  take_whole (x ∷ xs) = ap (λ ys. x ∷ ys) (take_whole xs)

  -- A function has a slot for each of its registers.
  pub slots_all : length (register_names fn) ≡ slots_to fn (length fn.blocks)
  slots_all =
      let m = length-map (parameter_registers fn ++ flat_map block_registers fn.blocks) (λ (r : Register). r.name) in
      let l = length-append (parameter_registers fn) (flat_map block_registers fn.blocks) in
      let t = ap (λ bs. length (flat_map block_registers bs)) (take_whole fn.blocks) in
      omega (arith, m, l, t)

  -- ---- the walk

  -- The blocks from `at` on have extents. `lowest` is not above any earlier block to which they lead, and `extent` is at
  -- most each of their extents.
  pub record Walked (extents : List ℕ) (at lowest extent : ℕ) : Type 0 where
    pub own : (b : ℕ) → at ≤ b → b < length fn.blocks → slots_to fn (suc b) ≤ slice_index extents b
    pub few : (b : ℕ) → at ≤ b → b < length fn.blocks → slice_index extents b ≤ slots_to fn (length fn.blocks)
    pub least : (b : ℕ) → at ≤ b → b < length fn.blocks → extent ≤ slice_index extents b
    pub rise : (b c : ℕ) → at ≤ b → at ≤ c → BlockLeadsTo fn b c → slice_index extents b ≤ slice_index extents c
    pub ahead : (b c : ℕ) → at ≤ b → c < at → BlockLeadsTo fn b c → (lowest ≤ c) × (slice_index extents b ≤ extent)
    pub reach : lowest < at → slots_to fn at ≤ extent
    pub bounded : extent ≤ slots_to fn (length fn.blocks)

  block_led : (c : ℕ) (label : List ℕ) → label_at fn c ≡ Some label → c < length fn.blocks
  block_led c label h = go (slice_get fn.blocks c) refl h
    where
      go : (o : Option Block) → slice_get fn.blocks c ≡ o → option_map (λ (b : Block). b.label) o ≡ Some label → c < length fn.blocks
      go None q e = cc
      go (Some block) q e = slice_get_within fn.blocks c block q

  leads_from : (b c : ℕ) → BlockLeadsTo fn b c → b < length fn.blocks
  leads_from b c l = go (slice_get fn.blocks b) refl l.named
    where
      go : (o : Option Block) → slice_get fn.blocks b ≡ o → IsAmong (unwrap_or (option_map (λ (x : Block). end_labels x.end) o) []) l.label → b < length fn.blocks
      go None q e = absurd e
      go (Some block) q e = slice_get_within fn.blocks b block q

  pub walk_none : (extents : List ℕ) (at : ℕ) → at ≡ length fn.blocks → Walked extents at at 0
  walk_none extents at e = record {
    own = λ b le lt. absurd (let q : ⊥ = omega (arith, le, lt, e) in q);
    few = λ b le lt. absurd (let q : ⊥ = omega (arith, le, lt, e) in q);
    least = λ b le lt. omega arith;
    rise = λ b c le le2 l. let lt = leads_from b c l in absurd (let q : ⊥ = omega (arith, le, lt, e) in q);
    ahead = λ b c le lt l. let less = leads_from b c l in absurd (let q : ⊥ = omega (arith, le, less, e) in q);
    reach = λ lt. absurd (let q : ⊥ = omega (arith, lt) in q);
    bounded = omega arith;
  }

  -- No block to which a block leads is below the lowest one that its end names.
  pub leads_no_lower : (labels : List (List ℕ)) (d c low : ℕ) (block : Block) → labels ≡ map (λ b. b.label) fn.blocks → slice_get fn.blocks d ≡ Some block → LeadsNoLower labels (end_labels block.end) low → BlockLeadsTo fn d c → low ≤ c
  leads_no_lower labels d c low block e here n l =
      let named : IsAmong (end_labels block.end) l.label = subst (λ ls. IsAmong ls l.label) (ap (λ (o : Option Block). unwrap_or (option_map (λ (x : Block). end_labels x.end) o) []) here) l.named in
      let there : slice_get labels c ≡ Some l.label = subst (λ ls. slice_get ls c ≡ Some l.label) (sym e) (slice_get-map (λ (b : Block). b.label) fn.blocks c ∙ l.here) in
      let k = number_of-known labels l.label c there in
      let least = number_of-least labels l.label k.0 c k.1 there in
      let bound = n.at l.label k.0 named k.1 in
      omega (arith, least, bound)

  module _ (extents : List ℕ) (at lowest extent : ℕ) (w : Walked extents at lowest extent) (d : ℕ) (block : Block) (here : slice_get fn.blocks d ≡ Some block) (next : at ≡ suc d) (long : length extents ≡ length fn.blocks) (low chosen : ℕ)
      (is : chosen ≡ cond (nat_lt d lowest) (slots_to fn at) extent) (below : low ≤ lowest) (leads : (c : ℕ) → BlockLeadsTo fn d c → low ≤ c) where
    -- What the extent of the block has to be.
    record Fits (e : ℕ) : Type 0 where
      pub own : slots_to fn at ≤ e
      pub least : (b : ℕ) → at ≤ b → b < length fn.blocks → e ≤ slice_index extents b
      pub bounded : e ≤ slots_to fn (length fn.blocks)
      pub ahead : (b c : ℕ) → at ≤ b → c < at → BlockLeadsTo fn b c → (low ≤ c) × (slice_index extents b ≤ e)

    within : d < length fn.blocks
    within = slice_get_within fn.blocks d block here

    fits : (t : Bool) → nat_lt d lowest ≡ t → Fits (cond t (slots_to fn at) extent)
    fits true t = record {
      own = omega arith;
      least = λ b le lt. let o = w.own b le lt in let m = slots_more at (suc b) (omega (arith, le)) in omega (arith, o, m);
      bounded = slots_more at (length fn.blocks) (omega (arith, within, next));
      ahead = λ b c le lt l. let a = (w.ahead b c le lt l).0 in let q = ltb-true d lowest t in absurd (let z : ⊥ = omega (arith, a, q, lt, next) in z);
    }
    fits false t =
        let q : lowest ≤ d = ltb-false d lowest t in
        record {
          own = w.reach (omega (arith, q, next));
          least = w.least;
          bounded = w.bounded;
          ahead = λ b c le lt l. let a = w.ahead b c le lt l in let f = a.0 in (omega (arith, f, below), a.1);
        }

    fit : Fits chosen
    fit = subst Fits (sym is) (fits (nat_lt d lowest) refl)

    abbrev pub new : List ℕ
    new = slice_set extents d chosen

    -- What holds of the block and of the blocks that were passed, holds of all blocks from this one on.
    on_each : (Q : ℕ → ℕ → Type 0) → Q d chosen → ((b : ℕ) → at ≤ b → Q b (slice_index extents b)) → (b : ℕ) → d ≤ b → Q b (slice_index new b)
    on_each Q first later b le =
        ⊎_elim (λ s. subst (λ k. Q k (slice_index new k)) s (subst (Q d) (sym there) first))
        (λ lt. subst (Q b) (sym (other lt)) (later b (omega (arith, lt, next)))) (eq-or-lt_of_le le)
      where
        there : slice_index new d ≡ chosen
        there = get_or-set_same extents d chosen 0 (omega (arith, within, long))

        other : d < b → slice_index new b ≡ slice_index extents b
        other lt = get_or-set_other extents d b chosen 0 (λ z. let q : ⊥ = omega (arith, z, lt) in q)

    -- The walk after one block more.
    pub walk_on : Walked new d low chosen
    walk_on =
        let n = length fn.blocks in
        let own : slots_to fn (suc d) ≤ chosen = subst (λ k. slots_to fn k ≤ chosen) next fit.own in
        record {
          own = on_each (λ b v. b < n → slots_to fn (suc b) ≤ v) (λ lt. own) w.own;
          few = on_each (λ b v. b < n → v ≤ slots_to fn n) (λ lt. fit.bounded) w.few;
          least = on_each (λ b v. b < n → chosen ≤ v) (λ lt. omega arith) fit.least;
          rise = λ b c le more l.
              on_each (λ b v. BlockLeadsTo fn b c → v ≤ slice_index new c)
              (λ l. on_each (λ c v. BlockLeadsTo fn d c → chosen ≤ v) (λ l. omega arith) (λ c le l. fit.least c le (block_led c l.label l.here)) c more l)
              (λ b le l. on_each (λ c v. BlockLeadsTo fn b c → slice_index extents b ≤ v) (λ l. (fit.ahead b d le (omega (arith, next)) l).1) (λ c more l. w.rise b c le more l) c more l)
              b le l;
          ahead = λ b c le lt l.
              on_each (λ b v. BlockLeadsTo fn b c → (low ≤ c) × (v ≤ chosen)) (λ l. (leads c l, omega arith)) (λ b le l. fit.ahead b c le (omega (arith, lt, next)) l) b le l;
          reach = λ lt. let m = slots_more d (suc d) (omega arith) in omega (arith, m, own);
          bounded = fit.bounded;
        }

  pub walked_all : (extents : List ℕ) (at lowest extent : ℕ) → Walked extents at lowest extent → at ≤ 0 → length extents ≡ length fn.blocks → AreExtents fn extents
  walked_all extents at lowest extent w done long = record {
    as_long = long;
    own = λ b lt. w.own b (omega (arith, done)) lt;
    few = λ b lt. w.few b (omega (arith, done)) lt;
    rise = λ b c l. w.rise b c (omega (arith, done)) (omega (arith, done)) l;
  }

  -- ---- what they cover

  among_at : (xs : List (List ℕ)) (q : List ℕ) → IsAmong xs q → (j : ℕ) × (slice_get xs j ≡ Some q)
  among_at [] q h = absurd h
  among_at (x ∷ xs) q (inl e) = (0, ap Some e)
  among_at (x ∷ xs) q (inr h) = let r = among_at xs q h in (suc r.0, r.1)

  -- The number of a name at the front of a list is within the front.
  front_number : (xs ys : List (List ℕ)) (q : List ℕ) (slot : ℕ) → IsAmong xs q → number_of (xs ++ ys) q ≡ Some slot → slot < length xs
  front_number xs ys q slot h e =
      let at = among_at xs q h in
      let least = number_of-least (xs ++ ys) q slot at.0 e (get_kept xs ys at.0 q at.1) in
      let w = slice_get_within xs at.0 q at.1 in
      omega (arith, least, w)

  abbrev front_names : ℕ → List (List ℕ)
  front_names k = names_of (parameter_registers fn ++ flat_map block_registers (take k fn.blocks))

  front_long : (k : ℕ) → length (front_names k) ≡ slots_to fn k
  front_long k =
      length-map (parameter_registers fn ++ flat_map block_registers (take k fn.blocks)) (λ (r : Register). r.name) ∙ length-append (parameter_registers fn) (flat_map block_registers (take k fn.blocks))

  names_split : (k : ℕ) → register_names fn ≡ front_names k ++ names_of (flat_map block_registers (drop k fn.blocks))
  names_split k =
      let ps = parameter_registers fn in
      let front = flat_map block_registers (take k fn.blocks) in
      let back = flat_map block_registers (drop k fn.blocks) in
      let split : flat_map block_registers fn.blocks ≡ front ++ back = ap (flat_map block_registers) (sym (take-append-drop k fn.blocks)) ∙ flat_map-append block_registers (take k fn.blocks) (drop k fn.blocks) in
      ap (λ rs. names_of (ps ++ rs)) split ∙ ap names_of (sym (append_assoc ps front back)) ∙ names_both (ps ++ front) back

  -- A register of the first blocks has one of the first slots.
  in_front : (k : ℕ) (q : List ℕ) (slot : ℕ) → IsAmong (front_names k) q → number_of (register_names fn) q ≡ Some slot → slot < slots_to fn k
  in_front k q slot h e =
      subst (λ n. slot < n) (front_long k)
      (front_number (front_names k) (names_of (flat_map block_registers (drop k fn.blocks))) q slot h (subst (λ ns. number_of ns q ≡ Some slot) (names_split k) e))

  named_left : (xs ys : List Register) (q : List ℕ) → IsAmong (names_of xs) q → IsAmong (names_of (xs ++ ys)) q
  named_left xs ys q h = subst (λ ns. IsAmong ns q) (sym (names_both xs ys)) (among-left (names_of xs) (names_of ys) q h)

  named_right : (xs ys : List Register) (q : List ℕ) → IsAmong (names_of ys) q → IsAmong (names_of (xs ++ ys)) q
  named_right xs ys q h = subst (λ ns. IsAmong ns q) (sym (names_both xs ys)) (among-right (names_of xs) (names_of ys) q h)

  in_taken : (bs : List Block) (b : ℕ) (block : Block) (q : List ℕ) → slice_get bs b ≡ Some block → IsAmong (names_of (block_registers block)) q → IsAmong (names_of (flat_map block_registers (take (suc b) bs))) q
  in_taken [] b block q e h = cc
  in_taken (x ∷ bs) zero block q e h = named_left (block_registers x) [] q (subst (λ (z : Block). IsAmong (names_of (block_registers z)) q) (sym (same_Some x block e)) h)
  in_taken (x ∷ bs) (suc b) block q e h = named_right (block_registers x) (flat_map block_registers (take (suc b) bs)) q (in_taken bs b block q e h)

  module _ (extents : List ℕ) (a : AreExtents fn extents) where
    whole_covered : (b : ℕ) (q : List ℕ) (slot : ℕ) → IsAmong (whole_block_names fn b) q → number_of (register_names fn) q ≡ Some slot → slot < slice_index extents b
    whole_covered b q slot h e = go (slice_get fn.blocks b) refl h
      where
        go : (o : Option Block) → slice_get fn.blocks b ≡ o → IsAmong (unwrap_or (option_map (λ (x : Block). names_of (block_registers x)) o) []) q → slot < slice_index extents b
        go None r g = absurd g
        go (Some block) r g =
            let front = in_front (suc b) q slot (named_right (parameter_registers fn) (flat_map block_registers (take (suc b) fn.blocks)) q (in_taken fn.blocks b block q r g)) e in
            let own = a.own b (slice_get_within fn.blocks b block r) in
            omega (arith, front, own)

    -- Extents do not fall along a path.
    climbs : (x : ℕ) (blocks earlier : List ℕ) (b : ℕ) → x ∷ blocks ≡ earlier ++ b ∷ [] → IsChain fn x blocks → slice_index extents x ≤ slice_index extents b
    climbs x [] [] b e chain = let same : x ≡ b = cc in subst (λ k. slice_index extents x ≤ slice_index extents k) same (omega arith)
    climbs x [] (p ∷ []) b e chain = absurd (let z : ⊥ = cc in z)
    climbs x [] (p ∷ (q ∷ ps)) b e chain = absurd (let z : ⊥ = cc in z)
    climbs x (y ∷ ys) [] b e chain = absurd (let z : ⊥ = cc in z)
    climbs x (y ∷ ys) (p ∷ ps) b e chain =
        let rest : y ∷ ys ≡ ps ++ b ∷ [] = cc in
        let first = a.rise x y chain.0 in
        let later = climbs y ys ps b rest chain.1 in
        omega (arith, first, later)

    on_way : (x : ℕ) (blocks earlier : List ℕ) (b : ℕ) (q : List ℕ) (slot : ℕ) → x ∷ blocks ≡ earlier ++ b ∷ [] → IsChain fn x blocks → IsAmong (flat_map (whole_block_names fn) earlier) q → number_of (register_names fn) q ≡ Some slot →
        slot < slice_index extents b
    on_way x blocks [] b q slot e chain h n = absurd h
    on_way x [] (p ∷ []) b q slot e chain h n = absurd (let z : ⊥ = cc in z)
    on_way x [] (p ∷ (r ∷ ps)) b q slot e chain h n = absurd (let z : ⊥ = cc in z)
    on_way x (y ∷ ys) (p ∷ ps) b q slot e chain h n =
        ⊎_elim (λ l.
        let same : p ≡ x = cc in
        let own = whole_covered x q slot (subst (λ k. IsAmong (whole_block_names fn k) q) same l) n in
        let up = climbs x (y ∷ ys) (p ∷ ps) b e chain in
        omega (arith, own, up))
        (λ r. on_way y ys ps b q slot (let rest : y ∷ ys ≡ ps ++ b ∷ [] = cc in rest) chain.1 r n)
        (among-either (whole_block_names fn p) (flat_map (whole_block_names fn) ps) q h)

    pub covered : (b : ℕ) (q : List ℕ) (slot : ℕ) → b < length fn.blocks → MayHaveValue fn b q → number_of (register_names fn) q ≡ Some slot → slot < slice_index extents b
    covered b q slot lt m n =
        ⊎_elim (λ p.
        let front = in_front 0 q slot (named_left (parameter_registers fn) (flat_map block_registers (take 0 fn.blocks)) q p) n in
        let more = slots_more 0 (suc b) (omega arith) in
        let own = a.own b lt in
        omega (arith, front, more, own))
        (λ r. ⊎_elim (λ l. on_way 0 m.leads.blocks m.earlier b q slot (sym m.leads.is) m.leads.chain l n) (λ l. whole_covered b q slot l n)
        (among-either (flat_map (whole_block_names fn) m.earlier) (whole_block_names fn b) q r))
        (among-either (names_of (parameter_registers fn)) _ q m.assigned)

-- The extents that the walk finds are extents of the blocks of the function.
pub extents_are : (P : Program) (f : ℕ) (fn : Function) (xs : List ℕ) → slice_get P.functions f ≡ Some fn → AreExtents fn xs → HasExtents P f xs
extents_are P f fn xs here a = record {
  as_long = a.as_long ∙ sym (ap (λ o. length (blocks_in o)) here);
  at = λ b extent e.
      let long = a.as_long in
      let w = slice_get_within xs b extent e in
      let lt : b < length fn.blocks = omega (arith, w, long) in
      let is : slice_index xs b ≡ extent = get_or_from_slice_get xs b extent 0 e in
      let names : names_at P f ≡ register_names fn = ap names_in here in
      let few = a.few b lt in
      let all = slots_all fn in
      let size = ap length names in
      record {
        within = omega (arith, is, few, all, size);
        covers = λ g q slot there m n.
            let same : g ≡ fn = same_Some g fn (sym there ∙ here) in
            subst (λ k. slot < k) is
            (covered fn xs a b q slot lt (subst (λ (h : Function). MayHaveValue h b q) same m) (subst (λ ns. number_of ns q ≡ Some slot) names n));
      };
}
