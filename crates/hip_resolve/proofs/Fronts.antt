-- The code with one more op.
use Rattle.std.proofs.Common.{◌≡◌, ◌⊎◌, ℕ, ◌+◌, ◌<◌, true, List, [], ◌∷◌, ◌++◌, length, Some, slice_get, sym, ap, ◌∙◌, subst, arith, ⊎_elim, eq-or-lt_of_le}
use Rattle.std.proofs.lemmas.List.{length-append}
use Rattle.std.proofs.lemmas.Option.{same_Some, slice_get_within}
use Rattle.hip_types.specs.Laws.DistinctLaws.{get_kept}
use Rattle.hip_tree.specs.declared.block.Block.{Block}
use Rattle.hip_tree.specs.declared.instr.Instr.{Instr}
use Rattle.hip_tree.specs.declared.program.Program.{Program}
use Rattle.hip_runs.specs.Places.{block_at}
use Rattle.hip_runs.specs.declared.input.Input.{Input}
use Rattle.hip_code.specs.Entries.{entry}
use Rattle.hip_code.specs.Extents.{keeps_extent}
use Rattle.hip_code.specs.Numbers.{Tables}
use Rattle.hip_code.specs.Ops.{is_end}
use Rattle.hip_code.specs.Whole.{IsCodeOf}
use Rattle.hip_code.specs.declared.op.Op.{Op}
use Rattle.hip_scope.specs.Growth.{TablesGrow}
use Rattle.hip_resolve.specs.Made.{HasMade, HasMadeEnd, IsFront}
use Rattle.hip_scope.specs.Scopes.{DoesInstr, DoesEnd}
use Rattle.hip_scope.proofs.Growth.{grows_same, grows_on, get_last}
use Rattle.hip_scope.proofs.Places.{one_place, place_within}

module _ (P : Program) (base : ℕ) where
  pub front_none : (t : Tables) → IsFront P base [] t
  front_none t = record { body = λ f b k block i h g lt. absurd (let q : ⊥ = omega (arith, lt) in q); last = λ f b block h lt. absurd (let q : ⊥ = omega (arith, lt) in q) }

  pub front_grows : (ops : List Op) (t u : Tables) → IsFront P base ops t → TablesGrow t u → IsFront P base ops u
  front_grows ops t u front g = record {
    body = λ f b k block i h e lt. let m = front.body f b k block i h e lt in record { op = m.op; here = m.here; does = λ v more. m.does v (grows_on g more); extent = m.extent };
    last = λ f b block h lt. let m = front.last f b block h lt in record { op = m.op; here = m.here; end_is = m.end_is; ends = λ v more. m.ends v (grows_on g more) };
  }

  -- A place of the longer code is a place of the code before, or the next place.
  place_cases : (ops : List Op) (o : Op) (n : ℕ) → n < length (ops ++ o ∷ []) → (n ≡ length ops) ⊎ (n < length ops)
  place_cases ops o n lt = let l = length-append ops (o ∷ []) in eq-or-lt_of_le (omega (arith, l, lt))

  kept_body : (ops : List Op) (t : Tables) (o : Op) (f b k : ℕ) (i : Instr) → HasMade P base ops t f b k i → HasMade P base (ops ++ o ∷ []) t f b k i
  kept_body ops t o f b k i m = record { op = m.op; here = get_kept ops (o ∷ []) (entry P f b + k) m.op m.here; does = m.does; extent = m.extent }

  kept_end : (ops : List Op) (t : Tables) (o : Op) (f b : ℕ) (block : Block) → HasMadeEnd P base ops t f b block → HasMadeEnd P base (ops ++ o ∷ []) t f b block
  kept_end ops t o f b block m = record { op = m.op; here = get_kept ops (o ∷ []) (entry P f b + length block.body) m.op m.here; end_is = m.end_is; ends = m.ends }

  here_is : (ops : List Op) (o : Op) (n : ℕ) → n ≡ length ops → slice_get (ops ++ o ∷ []) n ≡ Some o
  here_is ops o n e = subst (λ j. slice_get (ops ++ o ∷ []) j ≡ Some o) (sym e) (get_last ops o)

  -- The front with the op of an instruction.
  pub front_op : (ops : List Op) (t : Tables) (o : Op) (f b k : ℕ) (block : Block) (i : Instr) → IsFront P base ops t → block_at P f b ≡ Some block → slice_get block.body k ≡ Some i → length ops ≡ entry P f b + k →
      ((u : Tables) → TablesGrow t u → DoesInstr P base f u o i) → keeps_extent P f b o → IsFront P base (ops ++ o ∷ []) t
  front_op ops t o f b k block i front at is long does extent = record { body = body; last = last }
    where
      body : (g c j : ℕ) (x : Block) (d : Instr) → block_at P g c ≡ Some x → slice_get x.body j ≡ Some d → entry P g c + j < length (ops ++ o ∷ []) → HasMade P base (ops ++ o ∷ []) t g c j d
      body g c j x d h e lt = ⊎_elim now (λ before. kept_body ops t o g c j d (front.body g c j x d h e before)) (place_cases ops o _ lt)
        where
          now : entry P g c + j ≡ length ops → HasMade P base (ops ++ o ∷ []) t g c j d
          now q =
              let m = slice_get_within block.body k i is in
              let n = slice_get_within x.body j d e in
              let s = one_place P f b k g c j block x at (omega (arith, m)) h (omega (arith, n)) (sym long ∙ sym q) in
              let same : block ≡ x = same_Some block x (sym at ∙ subst (λ z. block_at P z b ≡ Some x) (sym s.function) (subst (λ z. block_at P g z ≡ Some x) (sym s.block) h)) in
              let item : i ≡ d = same_Some i d (sym is ∙ ap (λ (z : Block). slice_get z.body k) same ∙ subst (λ z. slice_get x.body z ≡ Some d) (sym s.index) e) in
              record {
                op = o;
                here = here_is ops o _ q;
                does = λ u more. subst (λ z. DoesInstr P base z u o d) s.function (subst (DoesInstr P base f u o) item (does u more));
                extent = subst (λ z. keeps_extent P z c o) s.function (subst (λ z. keeps_extent P f z o) s.block extent);
              }

      last : (g c : ℕ) (x : Block) → block_at P g c ≡ Some x → entry P g c + length x.body < length (ops ++ o ∷ []) → HasMadeEnd P base (ops ++ o ∷ []) t g c x
      last g c x h lt = ⊎_elim never (λ before. kept_end ops t o g c x (front.last g c x h before)) (place_cases ops o _ lt)
        where
          never : entry P g c + length x.body ≡ length ops → HasMadeEnd P base (ops ++ o ∷ []) t g c x
          never q =
              let m = slice_get_within block.body k i is in
              let s = one_place P f b k g c (length x.body) block x at (omega (arith, m)) h (omega arith) (sym long ∙ sym q) in
              let same : block ≡ x = same_Some block x (sym at ∙ subst (λ z. block_at P z b ≡ Some x) (sym s.function) (subst (λ z. block_at P g z ≡ Some x) (sym s.block) h)) in
              let long_as : length block.body ≡ length x.body = ap (λ (z : Block). length z.body) same in
              let z = s.index in
              absurd (let q : ⊥ = omega (arith, m, z, long_as) in q)

  -- The front with the op of a block's end.
  pub front_end : (ops : List Op) (t : Tables) (o : Op) (f b : ℕ) (block : Block) → IsFront P base ops t → block_at P f b ≡ Some block → length ops ≡ entry P f b + length block.body →
      is_end o ≡ true → ((u : Tables) → TablesGrow t u → DoesEnd P base f b u o block.end) → IsFront P base (ops ++ o ∷ []) t
  front_end ops t o f b block front at long is ends = record { body = body; last = last }
    where
      body : (g c j : ℕ) (x : Block) (d : Instr) → block_at P g c ≡ Some x → slice_get x.body j ≡ Some d → entry P g c + j < length (ops ++ o ∷ []) → HasMade P base (ops ++ o ∷ []) t g c j d
      body g c j x d h e lt = ⊎_elim never (λ before. kept_body ops t o g c j d (front.body g c j x d h e before)) (place_cases ops o _ lt)
        where
          never : entry P g c + j ≡ length ops → HasMade P base (ops ++ o ∷ []) t g c j d
          never q =
              let n = slice_get_within x.body j d e in
              let s = one_place P f b (length block.body) g c j block x at (omega arith) h (omega (arith, n)) (sym long ∙ sym q) in
              let same : block ≡ x = same_Some block x (sym at ∙ subst (λ z. block_at P z b ≡ Some x) (sym s.function) (subst (λ z. block_at P g z ≡ Some x) (sym s.block) h)) in
              let long_as : length block.body ≡ length x.body = ap (λ (z : Block). length z.body) same in
              let z = s.index in
              absurd (let q : ⊥ = omega (arith, n, z, long_as) in q)

      last : (g c : ℕ) (x : Block) → block_at P g c ≡ Some x → entry P g c + length x.body < length (ops ++ o ∷ []) → HasMadeEnd P base (ops ++ o ∷ []) t g c x
      last g c x h lt = ⊎_elim now (λ before. kept_end ops t o g c x (front.last g c x h before)) (place_cases ops o _ lt)
        where
          now : entry P g c + length x.body ≡ length ops → HasMadeEnd P base (ops ++ o ∷ []) t g c x
          now q =
              let s = one_place P f b (length block.body) g c (length x.body) block x at (omega arith) h (omega arith) (sym long ∙ sym q) in
              let same : block ≡ x = same_Some block x (sym at ∙ subst (λ z. block_at P z b ≡ Some x) (sym s.function) (subst (λ z. block_at P g z ≡ Some x) (sym s.block) h)) in
              record {
                op = o;
                here = here_is ops o _ q;
                end_is = is;
                ends = λ u more. subst (λ z. DoesEnd P base z c u o x.end) s.function (subst (λ z. DoesEnd P base f z u o x.end) s.block (subst (λ (z : Block). DoesEnd P base f b u o z.end) same (ends u more)));
              }

  -- If there are as many ops as places, the front is the code of the program.
  pub front_whole : (ops : List Op) (t : Tables) (I : Input) → IsFront P base ops t → length ops ≡ entry P (length P.functions) 0 → I.base ≡ base → IsCodeOf P I ops t
  front_whole ops t I front long e = record {
    body = λ f b k block i h is.
        let w = slice_get_within block.body k i is in
        let lt = place_within P f b k block h (omega (arith, w)) in
        let m = front.body f b k block i h is (omega (arith, lt, long)) in
        record { op = m.op; here = m.here; resolves = (m.does t (grows_same t)).on I e; extent = m.extent };
    last = λ f b block h.
        let lt = place_within P f b (length block.body) block h (omega arith) in
        let m = front.last f b block h (omega (arith, lt, long)) in
        record { op = m.op; here = m.here; end_is = m.end_is; resolves = (m.ends t (grows_same t)).on I e };
  }
