-- The machine never gets stuck. Each frame has come along a path through its function, and each register that is
-- assigned on that path has a value. The next step reads no other register, and traps as unreachable only at an
-- `unreachable`.
use Rattle.std.proofs.Common.{◌≡◌, ◌≢◌, ◌⊎◌, ⊎_elim, inl, inr, ℕ, suc, Bool, true, false, cond, nat_eq, List, [], ◌∷◌, ◌++◌, map, take, drop, Option, Some, None, slice_get, option_map, refl, sym, ap, ◌∙◌, subst}
use Rattle.std.specs.Prelude.{unwrap_or}
use Rattle.std.specs.List.{flat_map}
use Rattle.std.proofs.lemmas.Option.{same_Some}
use Rattle.hip_types.specs.declared.number.Scalar.{Scalar}
use Rattle.hip_tree.specs.declared.block.Block.{Block}
use Rattle.hip_tree.specs.declared.block.Case.{Case}
use Rattle.hip_tree.specs.declared.block.End.{End}
use Rattle.hip_tree.specs.declared.block.End.TheVariants as ends
use Rattle.hip_tree.specs.declared.block.Phi.{Phi}
use Rattle.hip_tree.specs.declared.instr.Arg.{Arg}
use Rattle.hip_tree.specs.declared.instr.Instr.{Instr}
use Rattle.hip_tree.specs.declared.instr.Instr.TheVariants.{Binary, Compare, Select, Cast, Alloca, Load, Store, Gep, Call}
use Rattle.hip_tree.specs.declared.program.Function.{Function}
use Rattle.hip_tree.specs.declared.program.Param.{Param}
use Rattle.hip_tree.specs.declared.program.Program.{Program}
use Rattle.hip_names.specs.Names.{IsAmong}
use Rattle.hip_externs.specs.Externs.{signature}
use Rattle.hip_sound.specs.Given.{CallsFunction, CallsExtern, HasBlock}
use Rattle.hip_sound.specs.Laws.Decided.{all-at}
use Rattle.hip_sound.specs.Laws.GivenLaws.{sound-calls, sound-labels}
use Rattle.hip_sound.specs.Paths.{label_at, labels_named_at, names_of}
use Rattle.hip_sound.specs.Registers.{assigned_by, phi_registers, parameter_registers, end_labels}
use Rattle.hip_sound.specs.Sound.{IsSound, IsBlockAt, TypesAgree, InstrItem, label_number}
use Rattle.hip_sound.specs.declared.point.Point.TheVariants.{Before, AtEnd}
use Rattle.hip_externs.specs.declared.call.ExternCall.{ExternCall}
use Rattle.hip_externs.specs.declared.call.ExternCall.TheVariants as calls
use Rattle.hip_runs.specs.declared.event.TrapKind.TheVariants as traps
use Rattle.hip_runs.specs.declared.input.Input.{Input}
use Rattle.hip_runs.specs.Actions.{Action, Traps, Assigns, Allocates, Stores, Flushes, Persists, Fences, Asserts, Prints, Reads, Calls, Jumps, Returns, instr_action, after_phis, jump_to, jump, case_label, end_action, deed_of}
use Rattle.hip_runs.specs.Operands.{value_of, values_of, assigned, bound}
use Rattle.hip_runs.specs.Places.{blocks_in, blocks_of, block_at, body_of, end_of, phis_of, label_of, body_at, block_number, code_at, end_at}
use Rattle.hip_runs.specs.State.{Registers, Frame, World}
use Rattle.hip_runs.specs.Step.{next, with_register}
use Rattle.hip_invariants.specs.Laws.Frames.{keeps}
use Rattle.hip_invariants.specs.Laws.InstrActions.{leaves_registers, CallCases, instr_cases, of_instr_action}
use Rattle.hip_runs.specs.Laws.Members.{get_drop}
use Rattle.hip_invariants.specs.Laws.AssignedPaths.{on_path, by_parameter, by_instr, by_earlier, by_phi, after_instr, at_end, over_edge, path_more}
use Rattle.hip_invariants.specs.Laws.Entry.{among_all, entry_block, no_entry_phi, label_there, label_known}
use Rattle.hip_invariants.specs.Laws.Registers.Names.{named_either}
use Rattle.hip_invariants.specs.Reached.{assigned_names, has_or_awaits, IsReached, StandsAtUnreachable, top_is_reached, caller_is_reached}
use Rattle.hip_invariants.specs.Laws.Callees.{function_free}

module _ (P : Program) where
  -- What an action may do: it keeps the invariant, and traps as unreachable only where that is allowed.
  pub record StepKeeps (stuck : Type 0) (f : Frame) (x : Action) : Type 0 where
    pub kept : keeps (top_is_reached P) (caller_is_reached P) f x
    pub trap : x ≡ Traps traps.Unreachable → stuck

  has_still : (dest : Option (List ℕ)) (v : ℕ) (rs : Registers) (q : List ℕ) → IsAmong (assigned_names rs) q
      → IsAmong (assigned_names (assigned dest v rs)) q
  has_still None v rs q h = h
  has_still (Some name) v rs q h = inr h

  has_own : (dest : Option (List ℕ)) (v : ℕ) (rs : Registers) (q : List ℕ) → dest ≡ Some q
      → IsAmong (assigned_names (assigned dest v rs)) q
  has_own None v rs q e = cc
  has_own (Some name) v rs q e = inl (same_Some name q e)

  pub has_now : (rs : Registers) (q : List ℕ) → has_or_awaits rs None q → IsAmong (assigned_names rs) q
  has_now rs q (inl h) = h
  has_now rs q (inr e) = cc

  -- A register that has a value after an assignment had one before, or it is the one that is assigned.
  had : (dest : Option (List ℕ)) (v : ℕ) (rs : Registers) (q : List ℕ)
      → IsAmong (assigned_names (assigned dest v rs)) q → has_or_awaits rs dest q
  had None v rs q h = inl h
  had (Some name) v rs q (inl e) = inr (ap Some e)
  had (Some name) v rs q (inr h) = inl h

  -- The place after an instruction is reached.
  next_reached : (g b k : ℕ) (rs rs' : Registers) (waiting : Option (List ℕ)) (i : Instr)
      → (r : IsReached P None g b k rs) → slice_get r.block.body k ≡ Some i →
      ((q : List ℕ) → IsAmong (assigned_names rs) q → has_or_awaits rs' waiting q)
      → ((q : List ℕ) → IsAmong (names_of (assigned_by i)) q → has_or_awaits rs' waiting q)
      → ((q : List ℕ) → has_or_awaits rs' waiting q
      → IsAmong (assigned_names rs) q ⊎ IsAmong (names_of (assigned_by i)) q)
      → IsReached P waiting g b (suc k) rs'
  next_reached g b k rs rs' waiting i r e old own new = record {
    fn = r.fn;
    here = r.here;
    block = r.block;
    at = r.at;
    earlier = r.earlier;
    leads = r.leads;
    among = λ q h. ⊎_elim (λ l. old q (has_now rs q (r.among q l))) (λ m. own q m)
        (after_instr r.fn r.earlier b k r.block i q r.at e h);
    only = λ q h. ⊎_elim (λ l. r.only q (inl l)) (λ m. by_instr r.fn r.earlier b k r.block i q r.at e m) (new q h);
  }

  -- The place of a frame is still reached when it gets the result of a call.
  returned_reached : (g b k : ℕ) (rs : Registers) (dest : Option (List ℕ)) (v : ℕ) → IsReached P dest g b k rs
      → IsReached P None g b k (assigned dest v rs)
  returned_reached g b k rs dest v r = record {
    fn = r.fn;
    here = r.here;
    block = r.block;
    at = r.at;
    earlier = r.earlier;
    leads = r.leads;
    among = λ q h. ⊎_elim (λ l. inl (has_still dest v rs q l)) (λ w. inl (has_own dest v rs q w)) (r.among q h);
    only = λ q h. r.only q (had dest v rs q (has_now (assigned dest v rs) q h));
  }

  module _ (s : IsSound P) where
    -- The start of a function that is entered is reached.
    pub entry_reached : (g : ℕ) (fn : Function) (rs : Registers) → slice_get P.functions g ≡ Some fn
        → ((q : List ℕ) → IsAmong (names_of (parameter_registers fn)) q → IsAmong (assigned_names rs) q)
        → ((q : List ℕ) → IsAmong (assigned_names rs) q → IsAmong (names_of (parameter_registers fn)) q)
        → IsReached P None g 0 0 rs
    entry_reached g fn rs here params none_else =
        let entry = entry_block P s g fn here in
        record {
          fn = fn;
          here = here;
          block = entry.0;
          at = entry.1;
          earlier = [];
          leads = record { blocks = []; is = refl; chain = tt; earlier = []; last_is = refl };
          among = λ q h.
              ⊎_elim (λ l. inl (params q l))
              (λ r. ⊎_elim (λ none. absurd none)
              (λ m. ⊎_elim (λ p. absurd (none_there entry.0.phis
              (λ k p e. no_entry_phi P s g fn here entry.0 entry.1 k p e) q p))
              (λ t. absurd (none_taken entry.0.body q t)) (named_either (phi_registers entry.0.phis) _ q m)) r)
              (on_path fn [] 0 entry.0 (Before 0) q entry.1 h);
          only = λ q h. by_parameter fn [] 0 AtEnd q (none_else q (has_now rs q h));
        }
      where
        none_there : (ps : List Phi) → ((k : ℕ) (p : Phi) → slice_get ps k ≡ Some p → ⊥) → (q : List ℕ)
            → IsAmong (names_of (phi_registers ps)) q → ⊥
        none_there [] none q h = h
        none_there (p ∷ ps) none q h = none 0 p refl

        none_taken : (body : List Instr) (q : List ℕ) → IsAmong (names_of (flat_map assigned_by (take 0 body))) q
            → ⊥
        none_taken [] q h = h
        none_taken (i ∷ is) q h = h

    -- ---- an instruction

    -- An instruction assigns this register, or none.
    record AssignsOnly (i : Instr) (dest : Option (List ℕ)) : Type 0 where
      pub only : (q : List ℕ) → IsAmong (names_of (assigned_by i)) q → dest ≡ Some q
      pub is : (q : List ℕ) → dest ≡ Some q → IsAmong (names_of (assigned_by i)) q

    own : (i : Instr) (name : List ℕ) → names_of (assigned_by i) ≡ name ∷ [] → AssignsOnly i (Some name)
    own i name e = record {
      only = λ q h. among_one q (subst (λ ns. IsAmong ns q) e h);
      is = λ q h. subst (λ ns. IsAmong ns q) (sym e) (inl (same_Some name q h));
    }
      where
        among_one : (q : List ℕ) → IsAmong (name ∷ []) q → Some name ≡ Some q
        among_one q (inl h) = ap Some h
        among_one q (inr h) = absurd h

    assigns_none : (i : Instr) → names_of (assigned_by i) ≡ [] → AssignsOnly i None
    assigns_none i e = record {
      only = λ q h. absurd (subst (λ ns. IsAmong ns q) e h);
      is = λ q h. let z : ⊥ = cc in absurd z;
    }

    module _ (I : Input) (w : World) (f : Frame) (r : top_is_reached P f) (i : Instr)
        (at : slice_get r.block.body f.place ≡ Some i) where
      -- The action keeps the invariant, and does not trap as unreachable.
      abbrev InstrKeeps : Action → Type 0
      InstrKeeps x = StepKeeps ⊥ f x

      reached_past : AssignsOnly i None → top_is_reached P (next f)
      reached_past c = next_reached f.function f.block f.place f.registers f.registers None i r at (λ q h. inl h)
          (λ q h. inr (c.only q h)) (λ q h. inl (has_now f.registers q h))

      reached_assigned : (dest : Option (List ℕ)) (v : ℕ) → AssignsOnly i dest
          → top_is_reached P (with_register dest v (next f))
      reached_assigned dest v c =
          next_reached f.function f.block f.place f.registers (assigned dest v f.registers) None i r at
          (λ q h. inl (has_still dest v f.registers q h)) (λ q h. inl (has_own dest v f.registers q (c.only q h)))
          (λ q h. ⊎_elim (λ l. inl l) (λ e. inr (c.is q e))
          (had dest v f.registers q (has_now (assigned dest v f.registers) q h)))

      assigns_keeps : (dest : Option (List ℕ)) (v : ℕ) → AssignsOnly i dest → InstrKeeps (Assigns dest v)
      assigns_keeps dest v c = record { kept = reached_assigned dest v c; trap = λ e. let z : ⊥ = cc in z }

      still_keeps : AssignsOnly i None → (x : Action) → leaves_registers x → InstrKeeps x
      still_keeps c (Stores a bytes) h = record { kept = reached_past c; trap = λ e. let z : ⊥ = cc in z }
      still_keeps c (Flushes a n) h = record { kept = reached_past c; trap = λ e. let z : ⊥ = cc in z }
      still_keeps c (Persists a n) h = record { kept = reached_past c; trap = λ e. let z : ⊥ = cc in z }
      still_keeps c Fences h = record { kept = reached_past c; trap = λ e. let z : ⊥ = cc in z }
      still_keeps c (Asserts a n) h = record { kept = reached_past c; trap = λ e. let z : ⊥ = cc in z }
      still_keeps c (Prints z) h = record { kept = reached_past c; trap = λ e. let z : ⊥ = cc in z }
      still_keeps c (Traps kind) h = absurd h
      still_keeps c (Assigns dest v) h = absurd h
      still_keeps c (Allocates dest a n) h = absurd h
      still_keeps c (Reads dest z rest) h = absurd h
      still_keeps c (Calls k registers dest) h = absurd h
      still_keeps c (Jumps b registers) h = absurd h
      still_keeps c (Returns v) h = absurd h

      params_assigned : (ps : List Param) (args : List Arg) (rs : Registers)
          → map (λ p. p.ty) ps ≡ map (λ a. a.ty) args → (q : List ℕ)
          → IsAmong (names_of (map (λ p. record { name = p.name; ty = Some p.ty }) ps)) q →
          IsAmong (assigned_names (bound ps (values_of P.globals I.base rs args))) q
      params_assigned [] args rs e q h = absurd h
      params_assigned (p ∷ ps) [] rs e q h = cc
      params_assigned (p ∷ ps) (a ∷ args) rs e q (inl h) = inl h
      params_assigned (p ∷ ps) (a ∷ args) rs e q (inr h) =
          let rest : map (λ (x : Param). x.ty) ps ≡ map (λ (x : Arg). x.ty) args = cc in
          inr (params_assigned ps args rs rest q h)

      params_only : (ps : List Param) (vs : List ℕ) (q : List ℕ) → IsAmong (assigned_names (bound ps vs)) q
          → IsAmong (names_of (map (λ p. record { name = p.name; ty = Some p.ty }) ps)) q
      params_only [] vs q h = h
      params_only (p ∷ ps) [] q h = absurd h
      params_only (p ∷ ps) (v ∷ vs) q (inl e) = inl e
      params_only (p ∷ ps) (v ∷ vs) q (inr h) = inr (params_only ps vs q h)

      -- An external function that has no result assigns no register.
      no_result : (x : ExternCall) → x ≢ calls.ReadI64 → (signature x).ret ≡ None
      no_result calls.ReadI64 n = absurd (n refl)
      no_result _ n = refl

      call_keeps : (below : ℕ) (dest : Option (List ℕ)) (ret : Option Scalar) (callee : List ℕ) (args : List Arg)
          → AssignsOnly i dest → (ret ≡ None → AssignsOnly i None) →
          CallsFunction P callee ret args ⊎ CallsExtern callee ret args
          → CallCases P I w below f.registers InstrKeeps dest callee args
      call_keeps below dest ret callee args cover void (inl c) = record {
        read = λ e z rest left. absurd (let none = function_free P s callee ret args c in let z : ⊥ = cc in z);
        extern = λ x e n y still. absurd (let none = function_free P s callee ret args c in let z : ⊥ = cc in z);
        enter = λ k fn e named here lt. entered k fn (same_Some c.number k (sym c.named ∙ named)) here;
        missing = λ e none. absurd (none c.number c.function c.named c.here);
      }
        where
          entered : (k : ℕ) (fn : Function) → c.number ≡ k → slice_get P.functions k ≡ Some fn
              → InstrKeeps (Calls k (bound fn.params (values_of P.globals I.base f.registers args)) dest)
          entered k fn q e =
              let same : c.function ≡ fn = same_Some c.function fn
              (sym c.here ∙ ap (slice_get P.functions) q ∙ e) in
              let typed : map (λ (p : Param). p.ty) fn.params ≡ map (λ (a : Arg). a.ty) args =
              subst (λ (x : Function). map (λ (p : Param). p.ty) x.params
              ≡ map (λ (a : Arg). a.ty) args) same c.params in
              record {
                kept = (
                  (λ mark level. entry_reached k fn _ e (params_assigned fn.params args f.registers typed)
                      (params_only fn.params (values_of P.globals I.base f.registers args))),
                  next_reached f.function f.block f.place f.registers f.registers dest i r at (λ q h. inl h)
                      (λ q h. inr (cover.only q h)) (λ q h. ⊎_elim (λ l. inl l) (λ w. inr (cover.is q w)) h),
                );
                trap = λ e. let z : ⊥ = cc in z;
              }
      call_keeps below dest ret callee args cover void (inr c) = record {
        read = λ e z rest left. record { kept = reached_assigned dest _ cover; trap = λ e. let z : ⊥ = cc in z };
        extern = λ x e n y still.
            let known : Some (signature x) ≡ Some c.signature = ap (option_map signature) (sym e) ∙ c.known in
            still_keeps (void (sym (ap (λ z. z.ret) (same_Some (signature x) c.signature known) ∙ c.result)
            ∙ no_result x n)) y still;
        enter = λ k fn e named here lt. let known : None ≡ Some c.signature = ap (option_map signature) (sym e)
            ∙ c.known in absurd (let z : ⊥ = cc in z);
        missing = λ e none. let known : None ≡ Some c.signature = ap (option_map signature) (sym e) ∙ c.known in
            absurd (let z : ⊥ = cc in z);
      }

    module _ (I : Input) (w : World) (f : Frame) (r : top_is_reached P f) where
      where_at : IsBlockAt P f.function f.block r.fn r.block
      where_at = record { function = r.here; block_is = r.at }

      case_keeps : (below : ℕ) (i : Instr) → slice_get r.block.body f.place ≡ Some i
          → instr_cases P I w below f.registers (StepKeeps ⊥ f) i
      case_keeps below (Binary dest op flags width x y) e =
          λ v q. assigns_keeps I w f r (Binary dest op flags width x y) e (Some dest) _
          (own (Binary dest op flags width x y) dest refl)
      case_keeps below (Compare dest pred ty x y) e =
          assigns_keeps I w f r (Compare dest pred ty x y) e (Some dest) _ (own (Compare dest pred ty x y) dest refl)
      case_keeps below (Select dest test ty x y) e =
          assigns_keeps I w f r (Select dest test ty x y) e (Some dest) _ (own (Select dest test ty x y) dest refl)
      case_keeps below (Cast dest op from x to) e =
          assigns_keeps I w f r (Cast dest op from x to) e (Some dest) _ (own (Cast dest op from x to) dest refl)
      case_keeps below (Alloca dest ty align) e =
          λ a q within. record {
            kept =
                reached_assigned I w f r (Alloca dest ty align) e (Some dest) a (own (Alloca dest ty align) dest refl);
            trap = λ e. let z : ⊥ = cc in z;
          }
      case_keeps below (Load dest ty addr align) e =
          assigns_keeps I w f r (Load dest ty addr align) e (Some dest) _
          (own (Load dest ty addr align) dest refl)
      case_keeps below (Store ty value addr align) e =
          still_keeps I w f r (Store ty value addr align) e (assigns_none (Store ty value addr align) refl) _ tt
      case_keeps below (Gep dest inbounds ty base indices) e =
          assigns_keeps I w f r (Gep dest inbounds ty base indices) e (Some dest) _
          (own (Gep dest inbounds ty base indices) dest refl)
      case_keeps below (Call None ret callee args) e =
          call_keeps I w f r (Call None ret callee args) e below None ret callee args
          (assigns_none (Call None ret callee args) refl) (λ t. assigns_none (Call None ret callee args) refl)
          (sound-calls P s f.function f.block f.place r.fn r.block None ret callee args where_at e)
      case_keeps below (Call (Some dest) ret callee args) e =
          call_keeps I w f r (Call (Some dest) ret callee args) e below (Some dest) ret callee args
          (own (Call (Some dest) ret callee args) dest refl)
          (λ t. let none : Some dest ≡ None = register t in absurd (let z : ⊥ = cc in z))
          (sound-calls P s f.function f.block f.place r.fn r.block (Some dest) ret callee args where_at e)
        where
          register : ret ≡ None → Some dest ≡ None
          register = (all-at (λ i. TypesAgree P r.fn (InstrItem i)) r.block.body f.place
              (Call (Some dest) ret callee args)
              (s.types_agree f.function f.block r.fn r.block where_at).body e).own.register

      instr_keeps : (below : ℕ) (i : Instr) → slice_get r.block.body f.place ≡ Some i
          → StepKeeps ⊥ f (instr_action P I w below f.registers i)
      instr_keeps below i e = of_instr_action P I w below f.registers (StepKeeps ⊥ f)
          (λ kind n. record { kept = tt; trap = λ q. n (let k : kind ≡ traps.Unreachable = cc in k) }) i
          (case_keeps below i e)

      -- ---- an end of a block

      phis_assigned : (from : List ℕ) (ps : List Phi) (q : List ℕ) → IsAmong (names_of (phi_registers ps)) q
          → IsAmong (assigned_names (after_phis P.globals I.base f.registers from ps)) q
      phis_assigned from [] q h = absurd h
      phis_assigned from (p ∷ ps) q (inl e) = inl e
      phis_assigned from (p ∷ ps) q (inr h) = inr (phis_assigned from ps q h)

      rest_assigned : (from : List ℕ) (ps : List Phi) (q : List ℕ) → IsAmong (assigned_names f.registers) q
          → IsAmong (assigned_names (after_phis P.globals I.base f.registers from ps)) q
      rest_assigned from [] q h = h
      rest_assigned from (p ∷ ps) q h = inr (rest_assigned from ps q h)

      phis_only : (from : List ℕ) (ps : List Phi) (q : List ℕ)
          → IsAmong (assigned_names (after_phis P.globals I.base f.registers from ps)) q
          → IsAmong (assigned_names f.registers) q ⊎ IsAmong (names_of (phi_registers ps)) q
      phis_only from [] q h = inl h
      phis_only from (p ∷ ps) q (inl e) = inr (inl e)
      phis_only from (p ∷ ps) q (inr h) = ⊎_elim (λ l. inl l) (λ m. inr (inr m)) (phis_only from ps q h)

      blocks_are : blocks_of P f.function ≡ r.fn.blocks
      blocks_are = ap blocks_in r.here

      end_labels_at : labels_named_at r.fn f.block ≡ end_labels r.block.end
      end_labels_at = ap (λ (o : Option Block). unwrap_or (option_map (λ (x : Block). end_labels x.end) o) []) r.at

      -- Control goes to the block with a label that the end names.
      jump_there_keeps : (stuck : Type 0) (label : List ℕ) → drop f.place r.block.body ≡ []
          → IsAmong (end_labels r.block.end) label → (c : ℕ) → label_number r.fn label ≡ Some c
          → StepKeeps stuck f (jump_to P I f (Some c))
      jump_there_keeps stuck label done named c e = record {
        kept = reached (block_at_label c (label_there r.fn label c e));
        trap = λ e. absurd (let z : ⊥ = cc in z);
      }
        where
          block_at_label : (c : ℕ) → label_at r.fn c ≡ Some label → (to : Block)
              × (slice_get r.fn.blocks c ≡ Some to)
          block_at_label c h = block_found (slice_get r.fn.blocks c) refl h
            where
              block_found : (o : Option Block) → slice_get r.fn.blocks c ≡ o
                  → option_map (λ (b : Block). b.label) o ≡ Some label → (to : Block)
                  × (slice_get r.fn.blocks c ≡ Some to)
              block_found None q h = cc
              block_found (Some to) q h = (to, q)

          reached : (t : (to : Block) × (slice_get r.fn.blocks c ≡ Some to))
              → IsReached P None f.function c 0 (after_phis P.globals I.base f.registers
              (label_of (block_at P f.function f.block)) (phis_of (block_at P f.function c)))
          reached t =
              let there : block_at P f.function c ≡ Some t.0 = ap (λ bs. slice_get bs c) blocks_are ∙ t.1 in
              subst (λ (o : Option Block). IsReached P None f.function c 0
              (after_phis P.globals I.base f.registers (label_of (block_at P f.function f.block)) (phis_of o)))
              (sym there)
              (record {
                fn = r.fn;
                here = r.here;
                block = t.0;
                at = t.1;
                earlier = r.earlier ++ f.block ∷ [];
                leads = path_more r.fn r.earlier f.block c r.leads
                    (record {
                      label = label;
                      here = label_there r.fn label c e;
                      named =
                          subst (λ ls. IsAmong ls label) (sym end_labels_at) named;
                    });
                among = λ q h.
                    inl (⊎_elim (λ l. rest_assigned _ t.0.phis q
                    (has_now f.registers q (r.among q
                    (at_end r.fn r.earlier f.block f.place r.block q r.at done l))))
                    (λ p. phis_assigned _ t.0.phis q p)
                    (over_edge r.fn r.earlier f.block c r.block t.0 q r.at t.1 h));
                only = λ q h.
                    ⊎_elim (λ l. by_earlier r.fn r.earlier f.block c r.block q r.at (r.only q (inl l)))
                    (λ p. by_phi r.fn (r.earlier ++ f.block ∷ []) c t.0 q t.1 p)
                    (phis_only _ t.0.phis q (has_now _ q h));
              })

      jump_keeps : (stuck : Type 0) (label : List ℕ) → drop f.place r.block.body ≡ []
          → IsAmong (end_labels r.block.end) label → StepKeeps stuck f (jump P I f label)
      unfolding jump
      jump_keeps stuck label done named =
          let block = labelled in
          let number = label_known r.fn block.number block.block block.here in
          let is : label_number r.fn label ≡ Some number.0 =
          subst (λ l. label_number r.fn l ≡ Some number.0) block.named number.1 in
          subst (λ (o : Option ℕ). StepKeeps stuck f (jump_to P I f o))
          (sym (ap (λ bs. block_number bs label) blocks_are ∙ is))
          (jump_there_keeps stuck label done named number.0 is)
        where
          labelled : HasBlock r.fn label
          labelled = among_all (HasBlock r.fn) (end_labels r.block.end) label
              (sound-labels P s f.function f.block r.fn r.block where_at) named

      chosen_among : (b : Bool) (x y : List ℕ) → IsAmong (x ∷ y ∷ []) (cond b x y)
      chosen_among true x y = inl refl
      chosen_among false x y = inr (inl refl)

      case_among : (v : ℕ) (cases : List Case) (other : List ℕ)
          → IsAmong (other ∷ map (λ c. c.label) cases) (case_label v cases other)
      case_among v [] other = inl refl
      case_among v (c ∷ cs) other = pick (nat_eq c.value.value v) (case_among v cs other)
        where
          pick : (b : Bool) → IsAmong (other ∷ map (λ c. c.label) cs) (case_label v cs other)
              → IsAmong (other ∷ c.label ∷ map (λ c. c.label) cs) (cond b c.label (case_label v cs other))
          pick true h = inr (inl refl)
          pick false (inl h) = inl h
          pick false (inr h) = inr (inr h)

      jump_by_keeps : (e : End) (stuck : Type 0) (label : List ℕ) → r.block.end ≡ e
          → drop f.place r.block.body ≡ [] → IsAmong (end_labels e) label → StepKeeps stuck f (jump P I f label)
      jump_by_keeps e stuck label q done named =
          jump_keeps stuck label done (subst (λ (x : End). IsAmong (end_labels x) label) (sym q) named)

      end_keeps : (e : End) → r.block.end ≡ e → drop f.place r.block.body ≡ []
          → StepKeeps (e ≡ ends.Unreachable) f (end_action P I f (Some e))
      unfolding end_action
      end_keeps (ends.Br label) q done = jump_by_keeps (ends.Br label) _ label q done (inl refl)
      end_keeps (ends.CondBr test first second) q done =
          jump_by_keeps (ends.CondBr test first second) _
          (cond (nat_eq (value_of P.globals I.base f.registers test) 1) first second) q done
          (chosen_among _ first second)
      end_keeps (ends.Switch width value other cases) q done =
          jump_by_keeps (ends.Switch width value other cases) _
          (case_label (value_of P.globals I.base f.registers value) cases other) q done (case_among _ cases other)
      end_keeps (ends.Ret arg) q done = record {
        kept =
            λ g below. returned_reached g.function g.block g.place g.registers f.dest _ below;
        trap =
            λ e. absurd (let z : ⊥ = cc in z);
      }
      end_keeps ends.Unreachable q done = record { kept = tt; trap = λ e. refl }

      -- ---- what comes next

      body_is : body_at P f.function f.block ≡ r.block.body
      body_is = ap body_of (ap (λ bs. slice_get bs f.block) blocks_are ∙ r.at)

      end_is : end_at P f ≡ Some r.block.end
      end_is = ap end_of (ap (λ bs. slice_get bs f.block) blocks_are ∙ r.at)

      pub deed_keeps : (below : ℕ) (code : List Instr) → code_at P f ≡ code
          → StepKeeps (StandsAtUnreachable P f) f (deed_of P I w below f (end_at P f) code).action
      deed_keeps below [] e =
          let done : drop f.place r.block.body ≡ [] = ap (drop f.place) (sym body_is) ∙ e in
          let m = end_keeps r.block.end refl done in
          subst (λ (o : Option End). StepKeeps (StandsAtUnreachable P f) f (end_action P I f o)) (sym end_is)
          (record { kept = m.kept; trap = λ t. (e, end_is ∙ ap Some (m.trap t)) })
      deed_keeps below (i ∷ rest) e =
          let there : slice_get r.block.body f.place ≡ Some i =
          get_drop r.block.body f.place i rest (ap (drop f.place) (sym body_is) ∙ e) in
          let m = instr_keeps below i there in
          record { kept = m.kept; trap = λ t. absurd (m.trap t) }
