-- What the ops of ends do.
use Rattle.std.proofs.Common.{◌≡◌, ℕ, zero, suc, ◌+◌, ◌<◌, ◌≤◌, List, [], ◌∷◌, ◌++◌, length, take, drop, map, get_or, Some, slice_get, refl, sym, ap, ap₂, ◌∙◌, subst, inl, inr, arith, add-one, None}
use Rattle.std.specs.Prelude.{slice_range}
use Rattle.std.proofs.lemmas.List.{length-append}
use Rattle.std.proofs.Math.Seq.{drop-append_seam}
use Rattle.hip_types.specs.declared.number.Width.{Width}
use Rattle.hip_tree.specs.declared.block.Case as named_case
use Rattle.hip_tree.specs.declared.block.End.{End}
use Rattle.hip_tree.specs.declared.block.End.TheVariants as ends
use Rattle.hip_tree.specs.declared.instr.Arg.{Arg}
use Rattle.hip_tree.specs.declared.instr.Operand as named
use Rattle.hip_names.specs.Names.{IsAmong}
use Rattle.hip_runs.specs.declared.input.Input.{Input}
use Rattle.hip_runs.specs.Places.{block_at, label_of, phis_of}
use Rattle.hip_code.specs.Edges.{AreCases, IsEdge, are_moves}
use Rattle.hip_code.specs.Entries.{PlaceStandsAt}
use Rattle.hip_code.specs.Laws.EndLaws.{resolves_br, resolves_cond, resolves_return, resolves_switch, resolves_return_nothing, resolves_unreachable}
use Rattle.hip_code.specs.Numbers.{Tables, entries_of}
use Rattle.hip_code.specs.declared.op.EdgeCase.{EdgeCase}
use Rattle.hip_code.specs.declared.op.Control.TheVariants as controls
use Rattle.hip_code.specs.declared.op.Exit.TheVariants as exits
use Rattle.hip_code.specs.declared.op.Go.TheVariants as goes
use Rattle.hip_code.specs.declared.op.Op.{Op}
use Rattle.hip_code.specs.declared.op.Op.TheVariants as ops
use Rattle.hip_code.specs.declared.op.OpOperand.{OpOperand}
use Rattle.hip_code.specs.declared.op.Span.{Span}
use Rattle.hip_end_ops.specs.Edged.{HasEdge, LeadFrom, EdgeLeadsTo, IsSource}
use Rattle.hip_scope.specs.Growth.{TablesGrow, Makes}
use Rattle.hip_scope.specs.Scopes.{DoesEnd, OperandStandsFor, names_of, DescribesScope}
use Rattle.hip_end_ops.specs.Switched.{EndsHere, HasCases, PutsCases, are_cases}
use Rattle.hip_end_ops.specs.declared.edges.EdgeSource.{EdgeSource}
use Rattle.hip_scope.specs.declared.scope.Scope.{Scope}
use Rattle.hip_scope.proofs.Growth.{extends_by, extends_same, grows_on, makes_also, makes_both, makes_same, span_is, span_within}
use Rattle.hip_scope.proofs.Constants.{on_base}
use Rattle.hip_scope.specs.Known.{EndKnown}
use Rattle.hip_scope.proofs.Sound.{end_known}
use Rattle.hip_end_ops.proofs.CaseOrder.{cases_also, sorted_are}
use Rattle.hip_end_ops.proofs.EdgeOps.{is_at}

-- ---- edges from a block

pub lead_kept : (s : Scope) (b first : ℕ) (t u : Tables) → LeadFrom s b first t → TablesGrow t u → u.edges ≡ t.edges → LeadFrom s b first u
lead_kept s b first t u l g e = record { at = λ k x le h v more. l.at k x le (subst (λ es. slice_get es k ≡ Some x) e h) v (grows_on g more) }

is_edge : (s : Scope) (t : Tables) (b number : ℕ) (label : List ℕ) (I : Input) → I.base ≡ s.base → EdgeLeadsTo s t b number label → IsEdge s.program.now I s.number b t number label
is_edge s t b number label I q l = record {
  edge = l.leads.edge;
  here = l.leads.here;
  numbered = l.numbered ∙ ap Some (sym l.leads.block);
  begins = subst (λ z. PlaceStandsAt s.program.now l.leads.edge.target s.number z 0) (sym l.leads.block) l.leads.begins;
  span = l.leads.span;
  moves =
      subst (λ z. are_moves s.program.now.globals I.base (names_of s) t.constants (label_of (block_at s.program.now s.number b)) (entries_of l.leads.edge.moves t.moves) (phis_of (block_at s.program.now s.number z))) (sym l.leads.block)
      (subst (λ r. are_moves s.program.now.globals r (names_of s) t.constants (label_of (block_at s.program.now s.number b)) (entries_of l.leads.edge.moves t.moves) (phis_of (block_at s.program.now s.number l.target))) (sym q) l.leads.moves);
}

module _ (s : Scope) (source : EdgeSource) where
  abbrev ends_as : Tables → Op → End → Type 0
  ends_as v o e = DoesEnd s.program.now s.base s.number source.number v o e

  at_end : (v : Tables) (o : Op) (e : End) → source.block.now.«end» ≡ e → ends_as v o e → ends_as v o source.block.now.«end»
  at_end v o e q h = subst (ends_as v o) (sym q) h

  pub ends_br : (t u : Tables) (number : ℕ) (label : List ℕ) → source.block.now.«end» ≡ ends.Br label → HasEdge s t u source number label → EndsHere s t u source (ops.Control (controls.Go (goes.Br number)))
  ends_br t u number label q h = record {
    end_is = refl;
    makes = makes_also h.makes (λ v l. at_end v _ _ q (record { on = λ I e. resolves_br s.program.now I s.number source.number v number label (is_edge s v source.number number label I e l) }));
  }

  pub ends_cond : (t u v w : Tables) (o : OpOperand) (x : named.Operand) (one other : ℕ) (first second : List ℕ) → source.block.now.«end» ≡ ends.CondBr x first second → Makes t u (λ z. OperandStandsFor s z o x) →
      HasEdge s u v source one first → HasEdge s v w source other second → EndsHere s t w source (ops.Control (controls.Go (goes.Cond o one other)))
  ends_cond t u v w o x one other first second q m h k = record {
    end_is = refl;
    makes = makes_also (makes_both (makes_both m h.makes) k.makes) (λ z l.
        at_end z _ _ q
        (record {
          on = λ I e.
              resolves_cond s.program.now I s.number source.number z o x one other first second (on_base e l.0.0) (is_edge s z source.number one first I e l.0.1) (is_edge s z source.number other second I e l.1);
        }));
  }

  pub ends_value : (t u : Tables) (o : OpOperand) (arg : Arg) → source.block.now.«end» ≡ ends.Ret (Some arg) → Makes t u (λ z. OperandStandsFor s z o arg.value) → EndsHere s t u source (ops.Control (controls.Exit (exits.Value o)))
  ends_value t u o arg q m = record {
    end_is = refl;
    makes = makes_also m (λ z l. at_end z _ _ q (record { on = λ I e. resolves_return s.program.now I s.number source.number z arg.ty o arg.value (on_base e l) }));
  }

  -- ---- cases

  pub cases_none : (t : Tables) → LeadFrom s source.number source.first t → HasCases s t t source [] []
  cases_none t l = record { makes = makes_same t (λ v. Unit {0}) (λ v. tt); lead = l }

  cases_more : (Leads : ℕ → List ℕ → Type 0) (cs : List EdgeCase) (ds : List named_case.Case) (c : EdgeCase) (d : named_case.Case) → are_cases Leads cs ds → c.value ≡ d.value.value → Leads c.edge d.label →
      are_cases Leads (cs ++ c ∷ []) (ds ++ d ∷ [])
  cases_more Leads [] [] c d a v l = (v, l, tt)
  cases_more Leads [] (y ∷ ds) c d a v l = absurd a
  cases_more Leads (x ∷ cs) [] c d a v l = absurd a
  cases_more Leads (x ∷ cs) (y ∷ ds) c d a v l = (a.0, a.1, cases_more Leads cs ds c d a.2 v l)

  grows_cases : (t : Tables) (more cases : List EdgeCase) → cases ≡ t.cases ++ more → TablesGrow t (record t { cases = cases })
  grows_cases t more cases e = record {
    constants = extends_same t.constants;
    terms = extends_same t.terms;
    moves = extends_same t.moves;
    edges = extends_same t.edges;
    cases = extends_by more e;
  }

  taken : (xs : List named_case.Case) (k : ℕ) (x : named_case.Case) → k < length xs → x ≡ get_or xs k x → take (suc k) xs ≡ take k xs ++ x ∷ []
  taken [] k x lt is = absurd (let q : ⊥ = omega (arith, lt) in q)
  taken (y ∷ xs) zero x lt is = ap (λ z. z ∷ []) (sym is)
  taken (y ∷ xs) (suc k) x lt is = ap (λ l. y ∷ l) (taken xs k x (omega (arith, lt)) is)

  pub cases_on : (t u v : Tables) (cs more : List EdgeCase) (ds : List named_case.Case) (k : ℕ) (c : EdgeCase) (d : named_case.Case) → HasCases s t u source cs (take k ds) → HasEdge s u v source c.edge d.label → c.value ≡ d.value.value →
      more ≡ cs ++ c ∷ [] → k < length ds → d ≡ get_or ds k d → HasCases s t v source more (take (k + 1) ds)
  cases_on t u v cs more ds k c d h edge value_is e lt is = record {
    makes = record {
      grows = grows_on h.makes.grows edge.makes.grows;
      lasts = λ w g.
          let one : take (k + 1) ds ≡ take k ds ++ d ∷ [] = rw add-one (taken ds k d lt is) in
          subst (λ xs. are_cases (EdgeLeadsTo s w source.number) more xs) (sym one)
          (subst (λ xs. are_cases (EdgeLeadsTo s w source.number) xs (take k ds ++ d ∷ [])) (sym e)
          (cases_more (EdgeLeadsTo s w source.number) cs (take k ds) c d (h.makes.lasts w (grows_on edge.makes.grows g)) value_is (edge.makes.lasts w g)));
    };
    lead = edge.lead;
  }

  pub cases_all : (t u : Tables) (cs : List EdgeCase) (ds : List named_case.Case) (k : ℕ) → length ds ≤ k → HasCases s t u source cs (take k ds) → HasCases s t u source cs ds
  cases_all t u cs ds k le h = subst (HasCases s t u source cs) (all ds k le) h
    where
      all : (xs : List named_case.Case) (k : ℕ) → length xs ≤ k → take k xs ≡ xs
      all [] zero le = refl
      all [] (suc k) le = refl
      all (x ∷ xs) zero le = absurd (let q : ⊥ = omega (arith, le) in q)
      all (x ∷ xs) (suc k) le = ap (λ l. x ∷ l) (all xs k (omega (arith, le)))

  pub lead_cases : (t u : Tables) (cs : List EdgeCase) (span : Span) → LeadFrom s source.number source.first t → PutsCases t u cs span → LeadFrom s source.number source.first u
  lead_cases t u cs span l p = subst (LeadFrom s source.number source.first) (sym p.are) (lead_kept s source.number source.first t _ l (grows_cases t p.sorted _ refl) refl)

  pub ends_switch : (t u v w z : Tables) (width : Width) (o : OpOperand) (x : named.Operand) (cs : List EdgeCase) (span : Span) (other : ℕ) (label : List ℕ) (ds : List named_case.Case) → source.block.now.«end» ≡ ends.Switch width x label ds → Makes t u (λ y. OperandStandsFor s y o x) →
      HasCases s u v source cs ds → PutsCases v w cs span → HasEdge s w z source other label → EndsHere s t z source (ops.Control (controls.Go (goes.Switch o span other)))
  ends_switch t u v w z width o x cs span other label ds q m h p k = record {
    end_is = refl;
    makes = record {
      grows = grows_on m.grows (grows_on h.makes.grows (grows_on put k.makes.grows));
      lasts = λ y g.
          let far = grows_on k.makes.grows g in
          let made = h.makes.lasts y (grows_on put far) in
          let l = ap length table in
          let j = length-append v.cases p.sorted in
          let f = p.from in
          let n = p.count in
          let whole : span.from + span.count ≡ length w.cases = omega (arith, l, j, f, n) in
          let entries : slice_range y.cases span.from (span.from + span.count) ≡ p.sorted = span_is span.from span.count far.cases whole ∙ ap₂ (λ i (xs : List EdgeCase). drop i xs) f table ∙ drop-append_seam v.cases p.sorted in
          at_end y _ _ q
          (record {
            on = λ I e.
                let Edged = IsEdge s.program.now I s.number source.number y in
                resolves_switch s.program.now I s.number source.number y width o x span ds other label (on_base e (m.lasts y (grows_on h.makes.grows (grows_on put far))))
                (span_within span.from span.count far.cases whole)
                (subst (λ xs. AreCases s.program.now I s.number source.number y xs ds) (sym entries)
                (sorted_are s.program.now I s.number source.number y cs p.sorted ds p.is (cases_also (EdgeLeadsTo s y source.number) Edged (λ n label l. is_edge s y source.number n label I e l) cs ds made)))
                (is_edge s y source.number other label I e (k.makes.lasts y g));
          });
    };
  }
    where
      table : w.cases ≡ v.cases ++ p.sorted
      table = ap (λ (r : Tables). r.cases) p.are

      put : TablesGrow v w
      put = subst (TablesGrow v) (sym p.are) (grows_cases v p.sorted _ refl)

-- ---- labels that an end names

pub case_named : (ds : List named_case.Case) (k : ℕ) (d : named_case.Case) → slice_get ds k ≡ Some d → IsAmong (map (λ c. c.label) ds) d.label
case_named [] k d e = cc
case_named (c ∷ ds) zero d e = inl (let same : c ≡ d = cc in ap (λ (x : named_case.Case). x.label) same)
case_named (c ∷ ds) (suc k) d e = inr (case_named ds k d e)

-- ---- what is known of a block's end

pub known_end : (s : Scope) → DescribesScope s → (source : EdgeSource) → IsSource s source → EndKnown (names_of s) source.block.now.«end»
known_end s d source src = end_known s.program.now d.sound s.number source.number s.function.now source.block.now (is_at s d source.number source.block.now src.here)

-- ---- ends that are followed by nothing

pub ends_nothing : (s : Scope) (source : EdgeSource) (t : Tables) → source.block.now.«end» ≡ ends.Ret None → EndsHere s t t source (ops.Control (controls.Exit exits.Nothing))
ends_nothing s source t q = record {
  end_is = refl;
  makes = makes_same t _ (λ v. subst (DoesEnd s.program.now s.base s.number source.number v (ops.Control (controls.Exit exits.Nothing))) (sym q) (record { on = λ I e. resolves_return_nothing s.program.now I s.number source.number v }));
}

pub ends_unreachable : (s : Scope) (source : EdgeSource) (t : Tables) → source.block.now.«end» ≡ ends.Unreachable → EndsHere s t t source (ops.Control (controls.Exit exits.Unreachable))
ends_unreachable s source t q = record {
  end_is = refl;
  makes = makes_same t _ (λ v. subst (DoesEnd s.program.now s.base s.number source.number v (ops.Control (controls.Exit exits.Unreachable))) (sym q) (record { on = λ I e. resolves_unreachable s.program.now I s.number source.number v }));
}
