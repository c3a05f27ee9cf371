-- What the ops of `getelementptr` do.
use Rattle.std.proofs.Common.{◌≡◌, ℕ, ◌<◌, ◌%◌, ◌^◌, Bool, List, [], Some, sym, ◌∙◌, subst, ◌+◌, drop, ap₂, arith, ◌++◌, length, refl, ap}
use Rattle.std.proofs.Math.Nat.{mod-eq_of_lt}
use Rattle.hip_types.specs.declared.ty.Ty.{Ty}
use Rattle.hip_tree.specs.declared.instr.Arg.{Arg}
use Rattle.hip_tree.specs.declared.instr.Instr.TheVariants as instrs
use Rattle.hip_tree.specs.declared.instr.Operand as named
use Rattle.hip_names.specs.Names.{number_of}
use Rattle.hip_runs.specs.declared.input.Input.{Input}
use Rattle.hip_code.specs.Numbers.{Tables}
use Rattle.hip_code.specs.Paths.{IsGep}
use Rattle.hip_code.specs.Laws.GepLaws.{resolves_fixed, resolves_scaled, resolves_terms}
use Rattle.hip_code.specs.declared.op.Gep.{Gep}
use Rattle.hip_code.specs.declared.op.Gep.TheVariants as geps
use Rattle.hip_code.specs.declared.op.Op.TheVariants as ops
use Rattle.hip_code.specs.declared.op.OpOperand.{OpOperand}
use Rattle.hip_code.specs.declared.op.Term.{Term}
use Rattle.hip_code.specs.declared.op.Value.TheVariants as values
use Rattle.hip_instr_ops.specs.Far.{IsAddress, IndicesLead}
use Rattle.hip_scope.specs.Scopes.{DoesHere, OperandStandsFor, names_of}
use Rattle.hip_instr_ops.specs.declared.path.Path.{Path}
use Rattle.hip_scope.specs.declared.scope.Scope.{Scope}
use Rattle.hip_scope.proofs.Constants.{on_base}
use Rattle.std.proofs.lemmas.List.{length-append}
use Rattle.std.proofs.Math.Seq.{drop-append_seam}
use Rattle.hip_scope.specs.Growth.{Makes}
use Rattle.hip_scope.proofs.Growth.{extends_same, extends_by, span_within, span_is}

module _ (s : Scope) (t : Tables) (name : List ℕ) (dest : ℕ) (ty : Ty) (x : named.Operand) (args : List Arg) (path : Path) (base : OpOperand) (inbounds : Bool) where
  offset_is : path.offset < 2 ^ 64 → (l : IndicesLead s ty args path) → path.offset ≡ l.whole % 2 ^ 64
  offset_is small l = sym (mod-eq_of_lt small) ∙ l.offset

  -- The indices lead to the same offset and terms on each input whose region begins at the base.
  led : (l : IndicesLead s ty args path) (terms : List Term) → path.terms ≡ terms → (I : Input) → I.base ≡ s.base → IsGep s.program.now.globals I.base (names_of s) t.constants ty args l.whole terms
  led l terms e I q =
      subst (λ ts. IsGep s.program.now.globals I.base (names_of s) t.constants ty args l.whole ts) e
      (subst (λ r. IsGep s.program.now.globals r (names_of s) t.constants ty args l.whole path.terms) (sym q) (l.is t.constants))

  pub does_gep : (gep : Gep) → number_of (names_of s) name ≡ Some dest → OperandStandsFor s t base x → path.offset < 2 ^ 64 → IndicesLead s ty args path → IsAddress t base path.offset path.terms gep →
      DoesHere s t (ops.Value dest (values.Gep gep)) (instrs.Gep name inbounds ty x args)
  does_gep (geps.Fixed b o) d h small l a = record {
    on = λ I q. resolves_fixed s.program.now I s.number t name dest b x ty args inbounds o l.whole d (on_base q (subst (λ z. OperandStandsFor s t z x) (sym a.is.0) h)) (led l [] a.is.2 I q) (a.is.1 ∙ offset_is small l);
  }
  does_gep (geps.Scaled b index width scale o) d h small l a = record {
    on = λ I q.
        resolves_scaled s.program.now I s.number t name dest b x ty args inbounds o l.whole (record { index = index; width = width; scale = scale }) d
        (on_base q (subst (λ z. OperandStandsFor s t z x) (sym a.is.0) h)) (led l _ a.is.2 I q) (a.is.1 ∙ offset_is small l);
  }
  does_gep (geps.Terms b o span) d h small l a = record {
    on = λ I q.
        resolves_terms s.program.now I s.number t name dest b x ty args inbounds o l.whole span d (on_base q (subst (λ z. OperandStandsFor s t z x) (sym a.is.0) h)) a.is.2
        (led l _ (sym a.is.3) I q) (a.is.1 ∙ offset_is small l);
  }

-- The terms of an address are put into the table.
pub makes_terms : (t : Tables) (base : OpOperand) (offset from count : ℕ) (terms new : List Term) → new ≡ t.terms ++ terms → from ≡ length t.terms → count ≡ length terms →
    Makes t (record t { terms = new }) (λ w. IsAddress w base offset terms (geps.Terms base offset (record { from = from; count = count })))
makes_terms t base offset from count terms new e f n = record {
  grows = record {
    constants = extends_same t.constants;
    terms = extends_by terms e;
    moves = extends_same t.moves;
    edges = extends_same t.edges;
    cases = extends_same t.cases;
  };
  lasts = λ w g.
      let whole : from + count ≡ length new = (let l = ap length e in let m = length-append t.terms terms in omega (arith, l, m, f, n)) in
      record {
        is = (
          refl,
          refl,
          span_within from count g.terms whole,
          span_is from count g.terms whole ∙ ap₂ (λ k (l : List Term). drop k l) f e ∙ drop-append_seam t.terms terms,
        );
      };
}
