-- The law of `getelementptr`.
use Rattle.std.specs.Prelude.{ℕ, ◌+◌, ◌*◌, ◌%◌, ◌^◌, ◌≡◌, Bool, List, [], ◌∷◌, Some, Ok, option_map, option_and_then, unwrap_or, slice_get}
use Rattle.std.proofs.Common.{refl, sym, ap, ap₂, ◌∙◌, subst, arith, inl, inr, zero, suc, add-zero}
use Rattle.std.proofs.Math.Nat.{add-mod-mod, mod-add-mod, mul_comm}
use Rattle.hip_types.specs.Layout.{TypePart, enter, enter_level, further, part_at, gep_of, size_of}
use Rattle.hip_types.specs.declared.number.Width.{Width}
use Rattle.hip_types.specs.declared.ty.Ty.{Ty}
use Rattle.hip_tree.specs.declared.instr.Arg.{Arg}
use Rattle.hip_tree.specs.declared.instr.Instr.TheVariants as instrs
use Rattle.hip_tree.specs.declared.instr.Operand as named
use Rattle.hip_tree.specs.declared.program.GlobalVar.{GlobalVar}
use Rattle.hip_tree.specs.declared.program.Program.{Program}
use Rattle.hip_names.specs.Names.{number_of}
use Rattle.hip_sound.specs.Registers.{arg_uses}
use Rattle.hip_globals.specs.Values.{element_address}
use Rattle.hip_runs.specs.declared.input.Input.{Input}
use Rattle.hip_runs.specs.Actions.{index_value, index_values, instr_action}
use Rattle.hip_runs.specs.Operands.{value_of}
use Rattle.hip_types.specs.Scalars.{width_of}
use Rattle.hip_runs.specs.State.{Registers}
use Rattle.hip_code.specs.Frames.{are_known, HoldsFrame, names_at}
use Rattle.hip_code.specs.Numbers.{OpNumbers, Tables, operand_value, is_within, entries_of, HasSpan}
use Rattle.hip_code.specs.Paths.{IsFixed, IsScaled, is_path, is_gep, IsGep}
use Rattle.hip_code.specs.Resolved.{IsOperandIn, Resolves, numbers_at}
use Rattle.hip_code.specs.Values.{extended, term_value, sum_of, TermsWithin}
use Rattle.hip_code.specs.Laws.Operands.{operand_same, operand_within, gives}
use Rattle.hip_code.specs.declared.op.Gep.TheVariants as geps
use Rattle.hip_code.specs.declared.op.Op.TheVariants as ops
use Rattle.hip_code.specs.declared.op.OpOperand.{OpOperand}
use Rattle.hip_code.specs.declared.op.Span.{Span}
use Rattle.hip_code.specs.declared.op.Term.{Term}
use Rattle.hip_code.specs.declared.op.Value.TheVariants as values

-- If what a term names is there, and also what each term after it names, then what each term of the list names is
-- there.
terms_more : (n : OpNumbers) (t : Term) (ts : List Term) → is_within n t.index → TermsWithin n ts
    → TermsWithin n (t ∷ ts)
terms_more n t ts h r = record { at = go }
  where
    go : (k : ℕ) (x : Term) → slice_get (t ∷ ts) k ≡ Some x → is_within n x.index
    go zero x e = let same : t ≡ x = cc in subst (λ (y : Term). is_within n y.index) same h
    go (suc k) x e = r.at k x e

-- These indices lead into the type, by the offset plus the sum of the terms.
pub record Comes (n : OpNumbers) (t : Ty) (indices : List ℕ) (offset : ℕ) (terms : List Term) : Type 0 where
  pub part : TypePart
  pub there : part_at indices t ≡ Some part
  pub offset_is : part.offset ≡ offset + sum_of n terms
  pub within : TermsWithin n terms

module _ (globals : List GlobalVar) (region : ℕ) (names : List (List ℕ)) (n : OpNumbers) (rs : Registers)
    (h : HoldsFrame names n.slots n.base rs) where
  -- The values of these indices, each sign-extended to 64 bits.
  abbrev indices_of : List Arg → List ℕ
  indices_of args = index_values globals region rs args

  -- The value of a term is the index times the size.
  scaled : (a : Arg) (size : ℕ) (t : Term) → IsScaled globals region names n.tables.constants a size t
      → are_known rs (arg_uses (a ∷ [])) →
      term_value n t ≡ index_value a.ty (value_of globals region rs a.value) * size
  scaled a size t s k =
      ap₂ (λ c (w : Width). c * extended w (operand_value n t.index)) s.scale s.width
      ∙ ap (λ v. size * extended (width_of a.ty) v)
      (operand_same globals region names n rs t.index a.value s.index h k.0).same
      ∙ mul_comm size (index_value a.ty (value_of globals region rs a.value))

  fixed : (a : Arg) (index : ℕ) → IsFixed globals region a index
      → index_value a.ty (value_of globals region rs a.value) ≡ index
  fixed a index x = ap (λ o. index_value a.ty (value_of globals region rs o)) x.is ∙ x.index_is

  path_comes : (rest_args : List Arg) (t : Ty) (offset : ℕ) (terms : List Term)
      → is_path globals region names n.tables.constants t rest_args offset terms → are_known rs (arg_uses rest_args)
      → Comes n t (indices_of rest_args) offset terms
  path_comes [] t offset terms p k = record {
    part = record { offset = 0; ty = t };
    there = refl;
    offset_is = (let e = ap (sum_of n) p.1 in omega (arith, p.0, e));
    within = subst (TermsWithin n) (sym p.1) (record { at = λ j x e. absurd (let z : ⊥ = cc in z) });
  }
  path_comes (a ∷ rest_args) t offset terms (inl p) k =
      let c = path_comes rest_args p.1.ty p.2 terms p.6 k.1 in
      let first : enter t (index_value a.ty (value_of globals region rs a.value)) ≡ Some p.1 =
      ap (enter t) (fixed a p.0 p.3) ∙ p.4 in
      record {
        part = record { offset = p.1.offset + c.part.offset; ty = c.part.ty };
        there =
            ap (option_and_then (λ q. further q.offset (part_at (indices_of rest_args) q.ty))) first
            ∙ ap (further p.1.offset) c.there;
        offset_is = (let e = p.5 in let d = c.offset_is in omega (arith, e, d));
        within = c.within;
      }
  path_comes (a ∷ rest_args) t offset terms (inr p) k =
      let c = path_comes rest_args p.1 offset p.3 p.7 k.1 in
      let i = index_value a.ty (value_of globals region rs a.value) in
      let first : enter t i ≡ Some (record { offset = i * size_of p.1; ty = p.1 }) = ap (enter_level i) p.5 in
      record {
        part = record { offset = i * size_of p.1 + c.part.offset; ty = c.part.ty };
        there =
            ap (option_and_then (λ q. further q.offset (part_at (indices_of rest_args) q.ty))) first
            ∙ ap (further (i * size_of p.1)) c.there;
        offset_is =
            (let e = ap (sum_of n) p.6 in let d = c.offset_is in let s = scaled a (size_of p.1) p.2 p.4 (k.0, tt) in
            omega (arith, e, d, s));
        within =
            subst (TermsWithin n) (sym p.6) (terms_more n p.2 p.3
            (operand_within globals region names n rs p.2.index a.value p.4.index h) c.within);
      }

  -- The offset that these indices give in a type is a constant one plus the sum of the terms, modulo 2^64, and what the
  -- terms name is there.
  pub record Far (t : Ty) (args : List Arg) (offset : ℕ) (terms : List Term) : Type 0 where
    pub far : unwrap_or (gep_of t (indices_of args)) 0 ≡ (offset + sum_of n terms) % 2 ^ 64
    pub within : TermsWithin n terms

  -- The indices of a `getelementptr` give its offset and its terms.
  pub gep_far : (args : List Arg) (t : Ty) (offset : ℕ) (terms : List Term)
      → IsGep globals region names n.tables.constants t args offset terms → are_known rs (arg_uses args)
      → Far t args offset terms
  gep_far args t offset terms g k = go args g.is k
    where
      go : (rest_args : List Arg) → is_gep globals region names n.tables.constants t rest_args offset terms
          → are_known rs (arg_uses rest_args) → Far t rest_args offset terms
      go [] p k = record {
        far = ap₂ (λ o s. (o + s) % 2 ^ 64) (sym p.0) (ap (sum_of n) (sym p.1));
        within = subst (TermsWithin n) (sym p.1) (record { at = λ j x e. absurd (let z : ⊥ = cc in z) });
      }
      go (a ∷ rest_args) (inl p) k =
          let c = path_comes rest_args t p.1 terms p.4 k.1 in
          let i = index_value a.ty (value_of globals region rs a.value) in
          let sum : i * size_of t + c.part.offset ≡ offset + sum_of n terms =
          (let e = p.3 in let d = c.offset_is in let s : i * size_of t ≡ p.0
          * size_of t = ap (λ j. j * size_of t) (fixed a p.0 p.2) in omega (arith, e, d, s)) in
          record {
            far =
                ap (λ o. unwrap_or (option_map (λ q. (i * size_of t + q.offset) % 2 ^ 64) o) 0) c.there
                ∙ ap (λ m. m % 2 ^ 64) sum;
            within = c.within;
          }
      go (a ∷ rest_args) (inr p) k =
          let c = path_comes rest_args t offset p.1 p.4 k.1 in
          let i = index_value a.ty (value_of globals region rs a.value) in
          let sum : i * size_of t + c.part.offset ≡ offset + sum_of n terms =
          (let e = ap (sum_of n) p.3 in let d = c.offset_is in let s = scaled a (size_of t) p.0 p.2 (k.0, tt) in
          omega (arith, e, d, s)) in
          record {
            far =
                ap (λ o. unwrap_or (option_map (λ q. (i * size_of t + q.offset) % 2 ^ 64) o) 0) c.there
                ∙ ap (λ m. m % 2 ^ 64) sum;
            within =
                subst (TermsWithin n) (sym p.3) (terms_more n p.0 p.1
                (operand_within globals region names n rs p.0.index a.value p.2.index h) c.within);
          }

-- An offset may be cut to 64 bits at each step.
cut_far : (b o m s : ℕ) → o ≡ m % 2 ^ 64 → (b + (o + s)) % 2 ^ 64 ≡ (b + (m + s) % 2 ^ 64) % 2 ^ 64
cut_far b o m s e =
    sym (add-mod-mod b (o + s) (2 ^ 64)) ∙ ap (λ x. (b + x) % 2 ^ 64)
    (ap (λ x. (x + s) % 2 ^ 64) e ∙ mod-add-mod m (2 ^ 64) s)

module _ (P : Program) (I : Input) (f : ℕ) (tables : Tables) where
  -- The names of the registers of function f, in the order of their slots.
  abbrev names_here : List (List ℕ)
  names_here = names_at P f

  -- An op with an offset alone resolves a `getelementptr` whose indices are all constants.
  pub resolves_fixed : (name : List ℕ) (dest : ℕ) (base : OpOperand) (x : named.Operand) (ty : Ty) (args : List Arg)
      (inbounds : Bool) (offset whole : ℕ) →
      number_of names_here name ≡ Some dest → IsOperandIn P I.base f tables base x
      → IsGep P.globals I.base names_here tables.constants ty args whole [] → offset ≡ whole % 2 ^ 64 →
      Resolves P I f tables (ops.Value dest (values.Gep (geps.Fixed base offset))) (instrs.Gep name inbounds ty x args)
  unfolding instr_action
  resolves_fixed name dest base x ty args inbounds offset whole d p g e = record {
    acts = λ w below slots at rs h k.
        let n = numbers_at tables slots at in
        let start = operand_same P.globals I.base names_here n rs base x p h k.all.0 in
        let far = gep_far P.globals I.base names_here n rs h args ty whole [] g k.all.1 in
        gives P I w below f n rs name dest (values.Gep (geps.Fixed base offset))
        (Ok (element_address (value_of P.globals I.base rs x) ty (index_values P.globals I.base rs args))) d h
        start.within
        (ap Ok (ap (λ u. (u + offset) % 2 ^ 64) start.same
        ∙ ap (λ u. (value_of P.globals I.base rs x + u) % 2 ^ 64) (sym (add-zero offset))
        ∙ cut_far (value_of P.globals I.base rs x) offset whole 0 e
        ∙ ap (λ u. (value_of P.globals I.base rs x + u) % 2 ^ 64) (sym far.far)));
    names = λ slots base rs h k. record { is = tt; pointed = tt };
  }

  -- An op with one scaled index resolves a `getelementptr` that has exactly one index that is not a constant.
  pub resolves_scaled : (name : List ℕ) (dest : ℕ) (base : OpOperand) (x : named.Operand) (ty : Ty) (args : List Arg)
      (inbounds : Bool) (offset whole : ℕ) (term : Term) →
      number_of names_here name ≡ Some dest → IsOperandIn P I.base f tables base x
      → IsGep P.globals I.base names_here tables.constants ty args whole (term ∷ [])
      → offset ≡ whole % 2 ^ 64 →
      Resolves P I f tables (ops.Value dest (values.Gep (geps.Scaled base term.index term.width term.scale offset)))
      (instrs.Gep name inbounds ty x args)
  unfolding instr_action
  resolves_scaled name dest base x ty args inbounds offset whole term d p g e = record {
    acts = λ w below slots at rs h k.
        let n = numbers_at tables slots at in
        let start = operand_same P.globals I.base names_here n rs base x p h k.all.0 in
        let far = gep_far P.globals I.base names_here n rs h args ty whole (term ∷ []) g k.all.1 in
        gives P I w below f n rs name dest (values.Gep (geps.Scaled base term.index term.width term.scale offset))
        (Ok (element_address (value_of P.globals I.base rs x) ty (index_values P.globals I.base rs args))) d h
        (start.within, far.within.at 0 term refl)
        (ap Ok (ap (λ u. (u + (offset + term_value n term)) % 2 ^ 64) start.same
        ∙ ap (λ u. (value_of P.globals I.base rs x + (offset + u)) % 2 ^ 64) (sym (add-zero (term_value n term)))
        ∙ cut_far (value_of P.globals I.base rs x) offset whole (sum_of n (term ∷ [])) e
        ∙ ap (λ u. (value_of P.globals I.base rs x + u) % 2 ^ 64) (sym far.far)));
    names = λ slots base rs h k. record { is = tt; pointed = tt };
  }

  -- An op with terms in the table resolves a `getelementptr` with any indices.
  pub resolves_terms : (name : List ℕ) (dest : ℕ) (base : OpOperand) (x : named.Operand) (ty : Ty) (args : List Arg)
      (inbounds : Bool) (offset whole : ℕ) (span : Span) →
      number_of names_here name ≡ Some dest → IsOperandIn P I.base f tables base x → HasSpan span tables.terms →
      IsGep P.globals I.base names_here tables.constants ty args whole (entries_of span tables.terms)
      → offset ≡ whole % 2 ^ 64 →
      Resolves P I f tables (ops.Value dest (values.Gep (geps.Terms base offset span)))
      (instrs.Gep name inbounds ty x args)
  unfolding instr_action
  resolves_terms name dest base x ty args inbounds offset whole span d p room g e = record {
    acts = λ w below slots at rs h k.
        let n = numbers_at tables slots at in
        let start = operand_same P.globals I.base names_here n rs base x p h k.all.0 in
        let far = gep_far P.globals I.base names_here n rs h args ty whole (entries_of span tables.terms) g k.all.1 in
        gives P I w below f n rs name dest (values.Gep (geps.Terms base offset span))
        (Ok (element_address (value_of P.globals I.base rs x) ty (index_values P.globals I.base rs args))) d h
        (start.within, room, far.within)
        (ap Ok (ap (λ u. (u + (offset + sum_of n (entries_of span tables.terms))) % 2 ^ 64) start.same
        ∙ cut_far (value_of P.globals I.base rs x) offset whole (sum_of n (entries_of span tables.terms)) e
        ∙ ap (λ u. (value_of P.globals I.base rs x + u) % 2 ^ 64) (sym far.far)));
    names = λ slots base rs h k. record { is = tt; pointed = tt };
  }
