-- A call of a clone is a call of the program, and it goes to a clone of the function that the program calls.
use Rattle.std.proofs.Common.{◌≡◌, ℕ, zero, suc, ◌≤◌, Bool, true, false, cond, not, ◌||◌, List, [], ◌∷◌, ◌++◌, length, drop, Option, Some, None, slice_get, refl, sym, ap, ◌∙◌, subst, arith}
use Rattle.std.specs.List.{drop-map}
use Rattle.std.proofs.lemmas.Option.{same_Some}
use Rattle.hip_types.specs.declared.number.Scalar.{Scalar}
use Rattle.hip_tree.specs.Sites.{has_site}
use Rattle.hip_tree.specs.declared.instr.Arg.{Arg}
use Rattle.hip_tree.specs.declared.instr.Instr.{Instr}
use Rattle.hip_tree.specs.declared.instr.Instr.TheVariants.{Binary, Compare, Select, Cast, Alloca, Load, Store, Gep, Call}
use Rattle.hip_tree.specs.declared.program.Program.{Program}
use Rattle.hip_tree.specs.declared.site.Site.{Site}
use Rattle.hip_externs.specs.Externs.{call_of}
use Rattle.hip_externs.specs.declared.call.ExternCall.{ExternCall}
use Rattle.hip_sound.specs.NumberedNames.{function_number}
use Rattle.hip_runs.specs.declared.input.Input.{Input}
use Rattle.hip_runs.specs.Actions.{is_turn, is_flush_or_fence}
use Rattle.hip_runs.specs.Places.{body_at}
use Rattle.hip_runs.specs.State.{Registers, Level, Frame, World, Counts, State}
use Rattle.hip_runs.specs.Laws.Members.{get_drop}
use Rattle.hip_repairs.specs.declared.plan.Plan.{Plan}
use Rattle.hip_repairs.specs.Clones.{IsClone}
use Rattle.hip_repairs.specs.Covered.{is_numbered_from, IsCallFrom, IsCallOf, CallsClone}
use Rattle.hip_repairs.specs.Harmless.{marked_body}
use Rattle.hip_repairs.specs.Repaired.{Marked, Clone, the_fence, clone_name, renamed, wanted_by, clones_of, repaired, instrs_of, repaired_body}
use Rattle.hip_repairs.specs.Laws.Callable.{IsCallable}
use Rattle.hip_repairs.proofs.functions.Blocks.{body_twin}
use Rattle.hip_repairs.proofs.functions.Clones.{still_free}
use Rattle.hip_repairs.proofs.functions.Lookup.{number_there}
use Rattle.hip_repairs.proofs.functions.Twins.{Twin}
use Rattle.hip_repairs.proofs.covered.Copies.{twin_is_clone}
use Rattle.hip_repairs.proofs.covered.Moves.{instr_here}
use Rattle.hip_repairs.proofs.simulation.Facts.{Lines}
use Rattle.hip_repairs.proofs.simulation.Pairs.{nothing, fence, Ready, quiet, flush, Tied, tied, Related, related}
use Rattle.hip_repairs.proofs.simulation.Sim.{defined_callee, called_twin, same_extern}

-- The instruction is a call of a function whose number is at least N.
record IsClonesCall (Q : Program) (N : ℕ) (o : Option Instr) : Type 0 where
  dest : Option (List ℕ)
  ret : Option Scalar
  callee : List ℕ
  args : List Arg
  is : o ≡ Some (Call dest ret callee args)
  number : ℕ
  found : function_number Q callee ≡ Some number
  high : N ≤ number

clones_call : (Q : Program) (N : ℕ) (o : Option Instr) → IsCallFrom Q N o → IsClonesCall Q N o
clones_call Q N (Some (Call dest ret callee args)) h = go (function_number Q callee) refl h
  where
    go : (o : Option ℕ) → function_number Q callee ≡ o → is_numbered_from N o → IsClonesCall Q N (Some (Call dest ret callee args))
    go None e q = absurd q
    go (Some g) e q = record { dest = dest; ret = ret; callee = callee; args = args; is = refl; number = g; found = e; high = q }
clones_call Q N (Some (Binary dest op flags width x y)) h = absurd h
clones_call Q N (Some (Compare dest pred ty x y)) h = absurd h
clones_call Q N (Some (Select dest test ty x y)) h = absurd h
clones_call Q N (Some (Cast dest op from x to)) h = absurd h
clones_call Q N (Some (Alloca dest ty align)) h = absurd h
clones_call Q N (Some (Load dest ty addr align)) h = absurd h
clones_call Q N (Some (Store ty value addr align)) h = absurd h
clones_call Q N (Some (Gep dest inbounds ty base indices)) h = absurd h
clones_call Q N None h = absurd h

drop_from : (xs : List Instr) (k : ℕ) (i : Instr) → slice_get xs k ≡ Some i → (rest : List Instr) × (drop k xs ≡ i ∷ rest)
drop_from [] k i e = absurd (let z : ⊥ = cc in z)
drop_from (x ∷ xs) zero i e = (xs, ap (λ y. y ∷ xs) (same_Some x i e))
drop_from (x ∷ xs) (suc k) i e = drop_from xs k i e

-- What a call was before its callee was renamed.
record IsRenamedCall (clones : List Clone) (i : Instr) (b : Bool) (dest : Option (List ℕ)) (ret : Option Scalar) (callee' : List ℕ) (args : List Arg) : Type 0 where
  callee : List ℕ
  is : i ≡ Call dest ret callee args
  name : callee' ≡ cond b (clone_name clones callee) callee

renamed_call : (clones : List Clone) (i : Instr) (b : Bool) (dest : Option (List ℕ)) (ret : Option Scalar) (callee' : List ℕ) (args : List Arg) → renamed clones i b ≡ Call dest ret callee' args → IsRenamedCall clones i b dest ret callee' args
renamed_call clones (Call d r c a) b dest ret callee' args e =
    let names : cond b (clone_name clones c) c ≡ callee' = cc in
    let dests : d ≡ dest = cc in
    let rets : r ≡ ret = cc in
    let given : a ≡ args = cc in
    record { callee = c; is = λ x. Call (dests x) (rets x) c (given x); name = sym names }
renamed_call clones i b dest ret callee' args e = cc

-- A call of a function is a turn.
call_is_turn : (dest : Option (List ℕ)) (ret : Option Scalar) (callee : List ℕ) (args : List Arg) → call_of callee ≡ None → is_turn (Call dest ret callee args) ≡ true
call_is_turn dest ret callee args e = ap (λ o. not (is_flush_or_fence o)) e

head_same : (i j : Instr) (is js : List Instr) → i ∷ is ≡ j ∷ js → i ≡ j
head_same i j is js e = cc

module _ (P : Program) (plan : Plan) (skip : Site → Bool) (good : IsCallable P) where
  abbrev Q : Program
  Q = repaired P plan skip

  abbrev N : ℕ
  N = length P.functions

  -- Where a function is called, no inserted instruction is next.
  none_inserted : (callee' : List ℕ) (h : ℕ) → function_number Q callee' ≡ Some h → (dest : Option (List ℕ)) (ret : Option Scalar) (args : List Arg) (i : Instr) → is_turn i ≡ false → i ≡ Call dest ret callee' args → ⊥
  none_inserted callee' h found dest ret args i still same =
      let turn = call_is_turn dest ret callee' args (still_free P plan skip good callee' h found) in
      let e : false ≡ true = sym still ∙ ap is_turn same ∙ turn in
      let z : ⊥ = cc in z

  module _ (clone : Bool) (f f' b k : ℕ) (tw : Twin P plan skip clone f f') (dest : Option (List ℕ)) (ret : Option Scalar) (callee' : List ℕ) (args : List Arg) (h : ℕ) (found : function_number Q callee' ≡ Some h) (high : N ≤ h) where
    abbrev to_clone : Bool
    to_clone = clone || has_site plan.hoist (record { function = f; block = b; index = k })

    -- The call of the program that became this call.
    record IsCalled : Type 0 where
      callee : List ℕ
      here : slice_get (body_at P f b) k ≡ Some (Call dest ret callee args)
      number : ℕ
      found_there : function_number P callee ≡ Some number
      is_clone : IsClone P Q number h

    defined_call : (callee : List ℕ) → slice_get (body_at P f b) k ≡ Some (Call dest ret callee args) → callee' ≡ cond to_clone (clone_name (clones_of P plan) callee) callee → call_of callee ≡ None → IsCalled
    defined_call callee here name none =
        let g = defined_callee P plan skip good clone f f' b k tw dest ret callee args here none in
        let there = number_there P callee g.0 g.1 in
        let twin = called_twin P plan skip good clone f f' b k tw dest ret callee args here g.0 there.0 g.1 there.1 in
        let same : twin.number ≡ h = same_Some twin.number h (sym twin.found ∙ ap (function_number Q) (sym name) ∙ found) in
        record {
          callee = callee;
          here = here;
          number = g.0;
          found_there = g.1;
          is_clone = subst (IsClone P Q g.0) same (twin_is_clone P plan skip to_clone (cond to_clone (clone_name (clones_of P plan) callee) callee) g.0 there.0 there.1 twin (omega (arith, same, high)));
        }

    is_called : (callee : List ℕ) → slice_get (body_at P f b) k ≡ Some (Call dest ret callee args) → callee' ≡ cond to_clone (clone_name (clones_of P plan) callee) callee → IsCalled
    is_called callee here name = go (call_of callee) refl
      where
        go : (o : Option ExternCall) → call_of callee ≡ o → IsCalled
        go None e = defined_call callee here name e
        go (Some x) e =
            let same : callee' ≡ callee = name ∙ same_extern P plan skip good callee x e to_clone in
            let free = still_free P plan skip good callee' h found in
            let there : call_of callee' ≡ Some x = ap call_of same ∙ e in
            absurd (let z : ⊥ = cc in z)

    -- If the code of the repaired program begins with the call, the code of the program begins with the original call.
    first_call : (rest : List Instr) → drop k (body_at P f b) ≡ rest → (after : List Instr) → instrs_of (repaired_body (clones_of P plan) (wanted_by plan skip) clone f b k rest) ≡ Call dest ret callee' args ∷ after → IsCalled
    first_call [] at after e = absurd (let z : ⊥ = cc in z)
    first_call (i ∷ is) at after e =
        let call = renamed_call (clones_of P plan) i to_clone dest ret callee' args (head_same _ _ _ _ e) in
        is_called call.callee (get_drop (body_at P f b) k i is at ∙ ap Some call.is) call.name

    called_there : (I : Input) (w : World) (regs : Registers) (pend : List Marked) (range : Option (ℕ × ℕ)) (fenced : Bool) → Ready P plan skip I w regs pend range fenced → (rest : List Instr) → drop k (body_at P f b) ≡ rest →
        (after : List Instr) → instrs_of (pend ++ repaired_body (clones_of P plan) (wanted_by plan skip) clone f b k rest) ≡ Call dest ret callee' args ∷ after → IsCalled
    called_there I w regs pend range fenced (quiet nothing) rest at after e = first_call rest at after e
    called_there I w regs pend range fenced (quiet fence) rest at after e = absurd (none_inserted callee' h found dest ret args the_fence refl (head_same _ _ _ _ e))
    called_there I w regs pend range fenced (flush i a n still acts q) rest at after e = absurd (none_inserted callee' h found dest ret args i still (head_same _ _ _ _ e))

  -- The program calls a function and the repaired program calls its clone, in states with these top frames.
  by_frames : (I : Input) (w : World) (g g' : Frame) (fs fs' : List Frame) (ls ls' : Lines) (c c' : Counts) (clone : Bool) (pend : List Marked) (range : Option (ℕ × ℕ)) (fenced : Bool) → w.ending ≡ None →
      Tied P plan skip clone pend g g' → Ready P plan skip I w g.registers pend range fenced → IsCallFrom Q N (instr_here Q g') →
      CallsClone P Q (record { world = w; frames = g ∷ fs; lines = ls; counts = c }) (record { world = w; frames = g' ∷ fs'; lines = ls'; counts = c' })
  by_frames I w g g' fs fs' ls ls' c c' _ pend range fenced going (tied {clone = clone} {f = f} {f' = f'} {b = b} {k = k} {k' = k'} {regs = regs} rest tw at at' same) r call =
      let of_clone = clones_call Q N (slice_get (body_at Q f' b) k') call in
      let split = drop_from (body_at Q f' b) k' (Call of_clone.dest of_clone.ret of_clone.callee of_clone.args) of_clone.is in
      let code : drop k' (body_at Q f' b) ≡ instrs_of (pend ++ repaired_body (clones_of P plan) (wanted_by plan skip) clone f b k rest) =
      ap (drop k') (body_twin P plan skip clone f f' tw b) ∙ drop-map (λ (x : Marked). x.0) k' (marked_body P (clones_of P plan) (wanted_by plan skip) clone f b) ∙ ap instrs_of at' in
      let is = called_there clone f f' b k tw of_clone.dest of_clone.ret of_clone.callee of_clone.args of_clone.number of_clone.found of_clone.high I w regs pend range fenced r rest at split.0 (sym code ∙ split.1) in
      record {
        world = refl;
        callee = is.number;
        called = record { going = going; frame = _; others = fs; frames = refl; call = subst (IsCallOf P is.number) (sym is.here) is.found_there };
        clone = of_clone.number;
        clone_called = record { going = going; frame = _; others = fs'; frames = refl; call = subst (IsCallOf Q of_clone.number) (sym of_clone.is) of_clone.found };
        is_clone = is.is_clone;
      }

  -- In states that correspond, the program calls a function where the repaired program calls its clone.
  pub calls_clone_there : (I : Input) (Holds : List Level → Lines → Lines → Type 0) (n : ℕ) (s s' : State) → Related P plan skip I Holds n s s' → s'.world.ending ≡ None → (c : Frame) (rest : List Frame) → s'.frames ≡ c ∷ rest →
      IsCallFrom Q N (instr_here Q c) → CallsClone P Q s s'
  calls_clone_there I Holds n s s' (related {w = w} {f = g} {f' = g'} {fs = fs} {fs' = fs'} {ls = ls} {ls' = ls'} {c = counts} {c' = counts'} {pend = pend} {range = range} {fenced = fenced} {clone = clone} t r b a holds le) going c rest e call =
      let same : c ≡ g' = cc in
      by_frames I w g g' fs fs' ls ls' counts counts' clone pend range fenced going t r (subst (λ (x : Frame). IsCallFrom Q N (instr_here Q x)) same call)
