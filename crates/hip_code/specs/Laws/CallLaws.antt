-- The law of calls of defined functions.
use Rattle.std.specs.Prelude.{ℕ, ◌+◌, ◌-◌, ◌≤◌, ◌≡◌, cond, not, nat_lt, List, length, Option, Some, None}
use Rattle.std.proofs.Common.{sym, ap, ap₂, ◌∙◌, subst, arith}
use Rattle.std.proofs.lemmas.List.{length-map}
use Rattle.std.proofs.lemmas.Option.{same_Some}
use Rattle.hip_types.specs.declared.number.Scalar.{Scalar}
use Rattle.hip_tree.specs.declared.instr.Arg.{Arg}
use Rattle.hip_tree.specs.declared.instr.Instr.{Instr}
use Rattle.hip_tree.specs.declared.instr.Instr.TheVariants as instrs
use Rattle.hip_tree.specs.declared.program.Function.{Function}
use Rattle.hip_tree.specs.declared.program.Program.{Program}
use Rattle.hip_externs.specs.Externs.{call_of}
use Rattle.hip_externs.specs.declared.call.ExternCall.{ExternCall}
use Rattle.hip_runs.specs.declared.event.TrapKind.TheVariants as traps
use Rattle.hip_runs.specs.declared.input.Input.{Input}
use Rattle.hip_runs.specs.declared.limits.TheConstants.{MOST_FRAMES}
use Rattle.hip_runs.specs.Actions.{Calls, Traps, bound_call, call_action, entered, instr_action, is_flush_or_fence, numbered_call}
use Rattle.hip_runs.specs.Operands.{value_of, values_of}
use Rattle.hip_runs.specs.State.{Registers}
use Rattle.hip_code.specs.Edges.{IsOpCall}
use Rattle.hip_code.specs.Frames.{names_at}
use Rattle.hip_code.specs.Named.{IsCallWith, NamesOperands, names_operands, passes_or_effects, says_of}
use Rattle.hip_code.specs.Numbers.{OpNumbers, Tables, entries_of}
use Rattle.hip_code.specs.Resolved.{Resolves, numbers_at}
use Rattle.hip_code.specs.Laws.MoveLaws.{arguments_are, arguments_move, arguments_pass}
use Rattle.hip_code.specs.Laws.Operands.{result_is}
use Rattle.hip_code.specs.declared.op.Call.{Call}
use Rattle.hip_code.specs.declared.op.Control.TheVariants as controls
use Rattle.hip_code.specs.declared.op.Op.TheVariants as ops

module _ (P : Program) (I : Input) (f : ℕ) (tables : Tables) where
  pub resolves_call : (dest : Option (List ℕ)) (ret : Option Scalar) (callee : List ℕ) (args : List Arg)
      (call : Call)
      → call_of callee ≡ None → IsOpCall P I f tables call callee args dest →
      Resolves P I f tables (ops.Control (controls.Call call)) (instrs.Call dest ret callee args)
  unfolding instr_action entered
  resolves_call dest ret callee args call defined c = record {
    acts = λ w below slots base rs h k.
        let n = numbers_at tables slots base in
        let names = names_at P f in
        let called = names_at P call.function in
        let ms = entries_of call.arguments tables.moves in
        let vs = values_of P.globals I.base rs args in
        let r = result_is names n rs call.dest dest h c.result in
        let m =
        arguments_are P.globals I.base names called n rs h call.size ms c.function.params args c.size c.arguments in
        let moves = arguments_move P.globals I.base names called n rs h ms c.function.params args c.arguments k.all in
        record {
          within =
              record {
                frame = subst (λ s. base + s ≤ length slots) (sym c.frame) h.room;
                span = c.span;
                read = m.read;
                written = m.written;
              };
          placed =
              record { begins = c.begins; size = c.size; arguments = m.placed; result = r.placed };
          turn = ap (λ o. not (is_flush_or_fence o)) (sym defined);
          acts =
              ap₂ (λ xs to. cond (nat_lt below (MOST_FRAMES - 1)) (Calls call.function xs to)
              (Traps traps.Depth)) moves
              r.name_is
              ∙ sym (ap (λ o. call_action P I w below o callee vs dest) defined
              ∙ ap (λ o. cond (nat_lt below (MOST_FRAMES - 1)) (numbered_call P o vs dest) (Traps traps.Depth))
              c.numbered
              ∙ ap (λ o. cond (nat_lt below (MOST_FRAMES - 1)) (bound_call o call.function vs dest)
              (Traps traps.Depth))
              c.here);
        };
    names = λ slots base rs h k.
        let n = numbers_at tables slots base in
        let names = names_at P f in
        let called = names_at P call.function in
        let ms = entries_of call.arguments tables.moves in
        let vs = values_of P.globals I.base rs args in
        let with : IsCallWith P n callee vs call = record {
          numbered = c.numbered;
          passed = λ g there few.
              let same : g ≡ c.function = same_Some _ _ (sym there ∙ c.here) in
              let long = length-map args (λ (x : Arg). value_of P.globals I.base rs x.value) in
              let counts = ap (λ (x : Function). length x.params) same in
              let within : length args ≤ length c.function.params = omega (arith, few, long, counts) in
              arguments_pass P.globals I.base names called n rs h ms c.function.params args c.arguments k.all within;
        } in
        record {
          is = subst (λ o. passes_or_effects P n o callee vs (ops.Control (controls.Call call)))
              (sym defined) with;
          pointed = c.pointed;
        };
  }

  -- A call that keeps another number of slots of its caller has the same operands.
  names_kept : (call : Call) (frame : ℕ) (n : OpNumbers) (rs : Registers) (i : Instr)
      → NamesOperands P I n rs (ops.Control (controls.Call call)) i
      → NamesOperands P I n rs (ops.Control (controls.Call (record call { frame = frame }))) i
  names_kept call frame n rs i h = record { is = at i h.is; pointed = says i h.pointed }
    where
      passed : (callee values : List ℕ) (o : Option ExternCall)
          → passes_or_effects P n o callee values (ops.Control (controls.Call call))
          → passes_or_effects P n o callee values (ops.Control (controls.Call (record call { frame = frame })))
      passed callee values None p = record { numbered = p.numbered; passed = p.passed }
      passed callee values (Some x) p = absurd p

      at : (j : Instr) → names_operands P I n rs (ops.Control (controls.Call call)) j
          → names_operands P I n rs (ops.Control (controls.Call (record call { frame = frame }))) j
      at (instrs.Store ty value addr align) p = absurd p
      at (instrs.Call dest ret callee args) p = passed callee (values_of P.globals I.base rs args) (call_of callee) p
      at _ p = tt

      says : (j : Instr) → says_of (ops.Control (controls.Call call)) j
          → says_of (ops.Control (controls.Call (record call { frame = frame }))) j
      says (instrs.Call dest ret callee args) p = p
      says _ p = tt

  -- A call that keeps another number of slots of its caller does the same, as long as the function has these slots.
  pub resolves_kept : (call : Call) (frame : ℕ) (i : Instr) → frame ≤ length (names_at P f)
      → Resolves P I f tables (ops.Control (controls.Call call)) i
      → Resolves P I f tables (ops.Control (controls.Call (record call { frame = frame }))) i
  resolves_kept call frame i few r = record {
    acts = λ w below slots base rs h k.
        let a = r.acts w below slots base rs h k in
        let room = h.room in
        record {
          within =
              record {
                frame = omega (arith, few, room);
                span = a.within.span;
                read = a.within.read;
                written = a.within.written;
              };
          placed =
              record {
                begins = a.placed.begins;
                size = a.placed.size;
                arguments = a.placed.arguments;
                result = a.placed.result;
              };
          turn = a.turn;
          acts = a.acts;
        };
    names = λ slots base rs h k. names_kept call frame (numbers_at tables slots base) rs i (r.names slots base rs h k);
  }
