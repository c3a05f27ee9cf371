-- The laws of the ends of blocks.
use Rattle.std.specs.Prelude.{ℕ, ◌≡◌, Bool, true, false, cond, nat_eq, List, Some, None, slice_get}
use Rattle.std.proofs.Common.{refl, sym, ap, ap₂, ◌∙◌, subst}
use Rattle.hip_types.specs.declared.number.Scalar.{Scalar}
use Rattle.hip_types.specs.declared.number.Width.{Width}
use Rattle.hip_tree.specs.declared.block.Case as named_case
use Rattle.hip_tree.specs.declared.block.End.TheVariants as ends
use Rattle.hip_tree.specs.declared.instr.Operand as named
use Rattle.hip_tree.specs.declared.program.Program.{Program}
use Rattle.hip_runs.specs.declared.input.Input.{Input}
use Rattle.hip_runs.specs.Actions.{Jumps, Returns, after_phis, case_label, end_action, jump, jump_to}
use Rattle.hip_runs.specs.Operands.{value_of}
use Rattle.hip_runs.specs.Places.{blocks_of, block_at, block_number, phis_of, label_of}
use Rattle.hip_runs.specs.State.{Registers, Frame, World}
use Rattle.hip_code.specs.Edges.{AreCases, IsEdge}
use Rattle.hip_code.specs.Frames.{HoldsFrame, names_at}
use Rattle.hip_code.specs.Numbers.{Tables, entries_of, HasSpan}
use Rattle.hip_code.specs.Ops.{CasesWithin, EdgeWithin, GoWithin, case_edge, edge_action, edge_taken}
use Rattle.hip_code.specs.Resolved.{IsOperandIn, Acting, EdgePlaced, EndResolves, GoPlaced, KnowsPhis, numbers_at}
use Rattle.hip_code.specs.Laws.MoveLaws.{phis_are, phis_move}
use Rattle.hip_code.specs.Laws.Operands.{operand_same}
use Rattle.hip_code.specs.declared.op.EdgeCase.{EdgeCase}
use Rattle.hip_code.specs.declared.op.Control.TheVariants as controls
use Rattle.hip_code.specs.declared.op.OpEdge.{OpEdge}
use Rattle.hip_code.specs.declared.op.Exit.TheVariants as exits
use Rattle.hip_code.specs.declared.op.Go.{Go}
use Rattle.hip_code.specs.declared.op.Go.TheVariants as goes
use Rattle.hip_code.specs.declared.op.Op.TheVariants as ops
use Rattle.hip_code.specs.declared.op.OpOperand.{OpOperand}
use Rattle.hip_code.specs.declared.op.Span.{Span}

module _ (P : Program) (I : Input) (f b : ℕ) (tables : Tables) where
  -- The names of the registers of function f, in the order of their slots.
  abbrev names : List (List ℕ)
  names = names_at P f

  -- ---- edges

  edge_within : (slots : List ℕ) (base : ℕ) (rs : Registers) (number : ℕ) (label : List ℕ)
      → HoldsFrame names slots base rs → IsEdge P I f b tables number label
      → EdgeWithin (numbers_at tables slots base) number
  edge_within slots base rs number label h e =
      let m =
      phis_are P.globals I.base names (numbers_at tables slots base) rs h (label_of (block_at P f b))
      (entries_of e.edge.moves tables.moves) (phis_of (block_at P f e.edge.block)) e.moves in
      record { edge = e.edge; here = e.here; span = e.span; read = m.read; written = m.written }

  edge_placed : (slots : List ℕ) (base : ℕ) (rs : Registers) (number : ℕ) (label : List ℕ)
      → HoldsFrame names slots base rs → IsEdge P I f b tables number label
      → GoPlaced P f (numbers_at tables slots base) number
  edge_placed slots base rs number label h e = record { placed = there }
    where
      there : (x : OpEdge) → slice_get tables.edges number ≡ Some x → EdgePlaced P f tables.moves x
      there x q =
          let same : e.edge ≡ x = (let t : Some e.edge ≡ Some x = sym e.here ∙ q in cc) in
          let m =
          phis_are P.globals I.base names (numbers_at tables slots base) rs h (label_of (block_at P f b))
          (entries_of e.edge.moves tables.moves) (phis_of (block_at P f e.edge.block)) e.moves in
          subst (EdgePlaced P f tables.moves) same (record { begins = e.begins; moved = m.placed })

  edge_acts : (g : Frame) (slots : List ℕ) (base : ℕ) (number : ℕ) (label : List ℕ) → g.function ≡ f
      → g.block ≡ b
      → HoldsFrame names slots base g.registers → KnowsPhis P f b g.registers
      → IsEdge P I f b tables number label →
      edge_action names (numbers_at tables slots base) g.registers (slice_get tables.edges number) ≡ jump P I g label
  unfolding jump
  edge_acts g slots base number label at_f at_b h known e =
      let n = numbers_at tables slots base in
      let phis_here : phis_of (block_at P f e.edge.block) ≡ e.begins.block.phis = ap phis_of e.begins.here in
      let moves =
      phis_move P.globals I.base names n g.registers h (label_of (block_at P f b))
      (entries_of e.edge.moves tables.moves) (phis_of (block_at P f e.edge.block)) e.moves
      (λ j k p x s t l. known.phis e.edge.block j k e.begins.block p x e.begins.here
      (subst (λ ps. slice_get ps j ≡ Some p) phis_here s) t l) in
      ap (edge_action names n g.registers) e.here
      ∙ ap (Jumps e.edge.block) moves
      ∙ sym (ap (jump_to P I g) (ap (λ x. block_number (blocks_of P x) label) at_f ∙ e.numbered)
      ∙ ap₂ (λ x y. Jumps e.edge.block (after_phis P.globals I.base g.registers (label_of (block_at P x y))
      (phis_of (block_at P x e.edge.block)))) at_f at_b)

  -- A branch that takes the edge to a label.
  branches : (w : World) (below : ℕ) (g : Frame) (slots : List ℕ) (base : ℕ) (go : Go) (label : List ℕ)
      → g.function ≡ f
      → g.block ≡ b → HoldsFrame names slots base g.registers → KnowsPhis P f b g.registers →
      GoWithin (numbers_at tables slots base) go
      → IsEdge P I f b tables (edge_taken (numbers_at tables slots base) go) label →
      Acting P I w below f (numbers_at tables slots base) g.registers (ops.Control (controls.Go go)) true
      (jump P I g label)
  branches w below g slots base go label at_f at_b h known within e = record {
    within = within;
    placed = edge_placed slots base g.registers (edge_taken (numbers_at tables slots base) go) label h e;
    turn = refl;
    acts = edge_acts g slots base (edge_taken (numbers_at tables slots base) go) label at_f at_b h known e;
  }

  pub resolves_br : (number : ℕ) (label : List ℕ) → IsEdge P I f b tables number label
      → EndResolves P I f b tables (ops.Control (controls.Go (goes.Br number))) (ends.Br label)
  unfolding end_action
  resolves_br number label e = record {
    acts =
        λ w below g slots base at_f at_b h k known. branches w below g slots base
        (goes.Br number) label at_f at_b h known (edge_within slots base g.registers number label h e) e;
  }

  chosen : (x : Bool) (one other : ℕ) (first second : List ℕ) → IsEdge P I f b tables one first
      → IsEdge P I f b tables other second → IsEdge P I f b tables (cond x one other) (cond x first second)
  chosen true one other first second p q = p
  chosen false one other first second p q = q

  pub resolves_cond : (t : OpOperand) (x : named.Operand) (one other : ℕ) (first second : List ℕ)
      → IsOperandIn P I.base f tables t x
      → IsEdge P I f b tables one first → IsEdge P I f b tables other second →
      EndResolves P I f b tables (ops.Control (controls.Go (goes.Cond t one other))) (ends.CondBr x first second)
  unfolding end_action
  resolves_cond t x one other first second o p q = record {
    acts = λ w below g slots base at_f at_b h k known.
        let n = numbers_at tables slots base in
        let test = operand_same P.globals I.base names n g.registers t x o h k.all.0 in
        let v = value_of P.globals I.base g.registers x in
        branches w below g slots base (goes.Cond t one other) (cond (nat_eq v 1) first second) at_f at_b h known (
          test.within,
          edge_within slots base g.registers one first h p,
          edge_within slots base g.registers other second h q,
        )
        (subst (λ u. IsEdge P I f b tables (cond (nat_eq u 1) one other) (cond (nat_eq v 1) first second))
        (sym test.same) (chosen (nat_eq v 1) one other first second p q));
  }

  cases_within : (slots : List ℕ) (base : ℕ) (rs : Registers) (cs : List EdgeCase) (ds : List named_case.Case)
      → HoldsFrame names slots base rs → AreCases P I f b tables cs ds
      → CasesWithin (numbers_at tables slots base) cs
  cases_within slots base rs cs ds h a = record {
    ascend = a.ascend;
    at = λ k c e. let edge = a.each k c e in edge_within slots base rs c.edge edge.0 h edge.1;
  }

  pub resolves_switch : (width : Width) (t : OpOperand) (x : named.Operand) (cases : Span) (ds : List named_case.Case)
      (other : ℕ) (label : List ℕ) →
      IsOperandIn P I.base f tables t x → HasSpan cases tables.cases
      → AreCases P I f b tables (entries_of cases tables.cases) ds
      → IsEdge P I f b tables other label →
      EndResolves P I f b tables (ops.Control (controls.Go (goes.Switch t cases other))) (ends.Switch width x label ds)
  unfolding end_action
  resolves_switch width t x cases ds other label o room a e = record {
    acts = λ w below g slots base at_f at_b h k known.
        let n = numbers_at tables slots base in
        let test = operand_same P.globals I.base names n g.registers t x o h k.all.0 in
        let v = value_of P.globals I.base g.registers x in
        branches w below g slots base (goes.Switch t cases other) (case_label v ds label) at_f at_b h known (
          test.within,
          room,
          cases_within slots base g.registers (entries_of cases tables.cases) ds h a,
          edge_within slots base g.registers other label h e,
        )
        (subst (λ u. IsEdge P I f b tables (case_edge u (entries_of cases tables.cases) other) (case_label v ds label))
        (sym test.same) (a.taken v other label e));
  }

  -- ---- returns

  pub resolves_return : (ty : Scalar) (a : OpOperand) (x : named.Operand) → IsOperandIn P I.base f tables a x
      → EndResolves P I f b tables (ops.Control (controls.Exit (exits.Value a)))
      (ends.Ret (Some (record { ty = ty; value = x })))
  unfolding end_action
  resolves_return ty a x p = record {
    acts = λ w below g slots base at_f at_b h k known.
        let value = operand_same P.globals I.base names (numbers_at tables slots base) g.registers a x p h k.all.0 in
        record { within = value.within; placed = tt; turn = refl; acts = ap Returns value.same };
  }

  pub resolves_return_nothing : EndResolves P I f b tables (ops.Control (controls.Exit exits.Nothing)) (ends.Ret None)
  unfolding end_action
  resolves_return_nothing =
      record {
        acts = λ w below g slots base at_f at_b h k known.
            record { within = tt; placed = tt; turn = refl; acts = refl };
      }

  pub resolves_unreachable : EndResolves P I f b tables (ops.Control (controls.Exit exits.Unreachable)) ends.Unreachable
  unfolding end_action
  resolves_unreachable =
      record {
        acts = λ w below g slots base at_f at_b h k known.
            record { within = tt; placed = tt; turn = refl; acts = refl };
      }
