-- The text of a block reads as the block.
use Rattle.std.proofs.Common.{◌≡◌, ℕ, true, List, [], ◌∷◌, ◌++◌, map, Some, None, ◌&&◌, refl, subst, append_assoc, codes}
use Rattle.std.specs.List.{list_all, flat_map}
use Rattle.std.proofs.lemmas.Bool.{and_parts}
use Rattle.hip_types.specs.declared.number.Scalar.{Scalar}
use Rattle.hip_types.specs.declared.number.Scalar.TheVariants as scalars
use Rattle.hip_types.specs.declared.number.Width.{Width}
use Rattle.hip_types.specs.declared.number.Width.TheVariants.{W1}
use Rattle.hip_types.specs.Laws.WidthLaws.{own_width, equal_widths}
use Rattle.hip_tokens.specs.Longest.{is_name}
use Rattle.hip_tokens.specs.Written.{ends_word}
use Rattle.hip_grammar.specs.Rule.{Rule, both}
use Rattle.hip_grammar.specs.Production.{one_more_by}
use Rattle.hip_grammar.specs.Laws.Texts.{DerivesText, anything, then_text, last_text, nothing_text, anywhere_text, word_text, word_then, local_text, label_then, mark_text, mark_then, blank_text, blank_past, left_text, right_text, many_texts}
use Rattle.hip_tree.specs.declared.block.Block.{Block}
use Rattle.hip_tree.specs.declared.block.Case.{Case}
use Rattle.hip_tree.specs.declared.block.Edge.{Edge}
use Rattle.hip_tree.specs.declared.block.End.{End}
use Rattle.hip_tree.specs.declared.block.End.TheVariants as ends
use Rattle.hip_tree.specs.declared.block.Phi.{Phi}
use Rattle.hip_grammar.specs.declared.fault.TextFault.{TextFault}
use Rattle.hip_tree.specs.declared.instr.Instr.{Instr}
use Rattle.hip_tree.specs.declared.instr.Operand.{Operand}
use Rattle.hip_grammar.specs.Words.{comma, width_text, scalar_text}
use Rattle.hip_grammar.specs.Bodies.{assigned, edge_label, edge, phi, instr, target, jump, branch, br, case, cases, switch, ret_void, ret_arg, ret_end, unreachable, end, closing, instrs_and_end, block}
use Rattle.hip_grammar.specs.Show.{commas, operand_text, assigned_text, literal_text, edge_text, phi_text, case_text, end_text, line_of, phi_line, instr_line, block_text}
use Rattle.hip_grammar.specs.Spelling.{not_empty, of_width, spelled_operand, spelled_instr, spelled_edge, spelled_phi, spelled_case, spelled_end, spelled_block}
use Rattle.hip_grammar.specs.Laws.WrittenNumbers.{literal_is}
use Rattle.hip_grammar.specs.Laws.WrittenLists.{after_comma, separated_are}
use Rattle.hip_grammar.specs.Laws.WrittenTypes.{int_is, width_is, scalar_is}
use Rattle.hip_grammar.specs.Laws.WrittenConsts.{operand_is, arg_is}
use Rattle.hip_grammar.specs.Laws.WrittenInstrs.{assigned_is, instr_is}

-- ---- phis

edge_label_is : (label : List ℕ) → is_name label ≡ true
    → DerivesText anything edge_label.rule (codes ", %" ++ (label ++ codes " ]")) label
unfolding edge_label
edge_label_is label e =
    mark_then _ _ 44 refl refl (blank_text 32 refl (then_text _ (local_text _ label e refl)
    (blank_text 32 refl (last_text _ (mark_text _ 93 refl refl) (nothing_text anything))) (λ rest h. refl)))

edge_is : (s : Scalar) (e : Edge) → spelled_edge s e ≡ true → DerivesText ends_word (edge s).rule (edge_text e) e
unfolding edge
edge_is s e h =
    let p = and_parts (spelled_operand s e.value) (is_name e.label) h in
    anywhere_text ends_word (mark_then _ _ 91 refl refl
    (blank_text 32 refl (then_text _ (operand_is s e.value p.0)
    (last_text _ (edge_label_is e.label p.1) (nothing_text anything)) (λ rest h. refl))))

phi_by : (dest : List ℕ) (s : Scalar) (edges : List Edge) → is_name dest ≡ true → not_empty edges ≡ true
    → list_all (spelled_edge s) edges ≡ true
    → DerivesText ends_word (both assigned.rule (λ x. (phi x).rule))
    (assigned_text dest ++ (codes "phi " ++ (scalar_text s ++ (codes " " ++ commas (map edge_text edges)))))
    (record { dest = dest; ty = s; edges = edges })
unfolding phi
phi_by dest s [] n some h = absurd cc
phi_by dest s (e ∷ es) n some h =
    then_text _ (assigned_is dest n) (word_then _ _ (codes "phi") refl refl
    (then_text _ (scalar_is s) (blank_text 32 refl
    (last_text _ (separated_are (edge s) edge_text (spelled_edge s) (edge_is s) e es h) (nothing_text anything)))
    (λ rest h. refl))) (λ rest h. refl)

phi_is : (p : Phi) → spelled_phi p ≡ true
    → DerivesText ends_word (both assigned.rule (λ x. (phi x).rule)) (phi_text p) p
phi_is p h =
    let q = and_parts (is_name p.dest) (not_empty p.edges && list_all (spelled_edge p.ty) p.edges) h in
    let r = and_parts (not_empty p.edges) (list_all (spelled_edge p.ty) p.edges) q.1 in
    phi_by p.dest p.ty p.edges q.0 r.0 r.1

-- ---- ends

target_is : (label : List ℕ) → is_name label ≡ true
    → DerivesText ends_word target.rule (codes "label %" ++ label) label
unfolding target
target_is label e = word_then _ _ (codes "label") refl refl (local_text _ label e refl)

next_target_is : (label : List ℕ) → is_name label ≡ true
    → DerivesText ends_word (one_more_by comma target).rule (codes ", label %" ++ label) label
next_target_is label e = after_comma target (target_is label e)

branch_is : (cond : Operand) (yes_label no_label : List ℕ) → spelled_operand (scalars.Int W1) cond ≡ true
    → is_name yes_label ≡ true → is_name no_label ≡ true
    → DerivesText ends_word branch.rule (codes "i1 " ++
    (operand_text cond ++ (codes ", label %" ++ (yes_label ++ (codes ", label %" ++ no_label))))) (ends.CondBr cond
    yes_label no_label)
unfolding branch
branch_is cond yes_label no_label e f g =
    word_then _ _ (codes "i1") refl refl (then_text _ (operand_is (scalars.Int W1) cond e)
    (then_text _ (next_target_is yes_label f) (last_text _ (next_target_is no_label g) (nothing_text anything))
    (λ rest h. refl)) (λ rest h. refl))

own_case : (c : Case) → is_name c.label ≡ true → DerivesText anything (case c.value.width).rule (case_text c) c
unfolding case
own_case c e =
    let past : List ℕ = codes ", label %" ++ (c.label ++ codes " ") in
    rw (append_assoc (width_text c.value.width) (codes " " ++ literal_text c.value) past)
    (then_text _ (width_is c.value.width) (blank_text 32 refl
    (then_text _ (literal_is c.value.width c.value (own_width c.value.width))
    (last_text _ (blank_past 32 refl (λ rest h. refl) (next_target_is c.label e)) (nothing_text anything))
    (λ rest h. refl))) (λ rest h. refl))

case_is : (w : Width) (c : Case) → spelled_case w c ≡ true → DerivesText anything (case w).rule (case_text c) c
case_is w c e =
    let p = and_parts (of_width w c.value) (is_name c.label) e in
    subst (λ v. DerivesText anything (case v).rule (case_text c) c) (equal_widths c.value.width w p.0) (own_case c p.1)

cases_are : (w : Width) (cs : List Case) → list_all (spelled_case w) cs ≡ true
    → DerivesText anything (cases w).rule (codes "[ " ++ (flat_map case_text cs ++ codes "]")) cs
unfolding cases
cases_are w cs e =
    mark_then _ _ 91 refl refl (blank_text 32 refl
    (then_text _ (many_texts (case w).rule case_text anything (spelled_case w) (case_is w) (λ c rest. refl) cs e)
    (last_text _ (mark_text _ 93 refl refl) (nothing_text anything)) (λ rest h. refl)))

switch_is : (w : Width) (value : Operand) (other : List ℕ) (cs : List Case)
    → spelled_operand (scalars.Int w) value ≡ true → is_name other ≡ true
    → list_all (spelled_case w) cs ≡ true
    → DerivesText anything switch.rule (codes "switch " ++
    (width_text w ++
    (codes " " ++
    (operand_text value ++
    (codes ", label %" ++ (other ++ (codes " [ " ++ (flat_map case_text cs ++ codes "]")))))))) (ends.Switch w value
    other cs)
unfolding switch
switch_is w value other cs e f g =
    word_then _ _ (codes "switch") refl refl (then_text _ (int_is w)
    (blank_text 32 refl (then_text _ (operand_is (scalars.Int w) value e)
    (then_text _ (next_target_is other f)
    (blank_text 32 refl (last_text _ (cases_are w cs g) (nothing_text anything))) (λ rest h. refl))
    (λ rest h. refl))) (λ rest h. refl))

end_is : (e : End) → spelled_end e ≡ true → DerivesText ends_word end.rule (end_text e) e
unfolding end br jump ret_end ret_void ret_arg unreachable
end_is (ends.Br label) h =
    left_text _ (word_then _ _ (codes "br") refl refl
    (left_text _ (last_text _ (target_is label h) (nothing_text anything))))
end_is (ends.CondBr cond yes_label no_label) h =
    let p = and_parts (spelled_operand (scalars.Int W1) cond) (is_name yes_label && is_name no_label) h in
    let q = and_parts (is_name yes_label) (is_name no_label) p.1 in
    left_text _ (word_then _ _ (codes "br") refl refl (right_text _ (branch_is cond yes_label no_label p.0 q.0 q.1)))
end_is (ends.Switch w value other cs) h =
    let p = and_parts (spelled_operand (scalars.Int w) value) (is_name other && list_all (spelled_case w) cs) h in
    let q = and_parts (is_name other) (list_all (spelled_case w) cs) p.1 in
    right_text _ (left_text _ (anywhere_text ends_word (switch_is w value other cs p.0 q.0 q.1)))
end_is (ends.Ret None) h =
    right_text _ (right_text _ (left_text _ (word_then _ _ (codes "ret") refl refl
    (left_text _ (last_text _ (word_text _ (codes "void") refl refl) (nothing_text anything))))))
end_is (ends.Ret (Some arg)) h =
    right_text _ (right_text _ (left_text _ (word_then _ _ (codes "ret") refl refl
    (right_text _ (last_text _ (arg_is arg h) (nothing_text anything))))))
end_is ends.Unreachable h =
    right_text _ (right_text _ (right_text _ (last_text _ (word_text _ (codes "unreachable") refl refl)
    (nothing_text anything))))

-- ---- blocks

-- The text of a part on its own line reads as the part.
line_is : {A : Type 0} {l : Rule TextFault A} {s : List ℕ} {x : A} → DerivesText ends_word l s x
    → DerivesText anything l (line_of s) x
line_is p = blank_text 32 refl (blank_text 32 refl (blank_past 10 refl (λ rest h. refl) p))

block_by : (label : List ℕ) (phis : List Phi) (body : List Instr) (last : End) → is_name label ≡ true
    → list_all spelled_phi phis ≡ true → list_all spelled_instr body ≡ true → spelled_end last ≡ true
    → DerivesText anything block.rule (label ++
    (codes ":\n" ++ (flat_map phi_line phis ++ (flat_map instr_line body ++ line_of (end_text last))))) (record {
      label
          = label;
      phis = phis;
      body = body;
      end = last;
    })
unfolding block instrs_and_end closing
block_by label phis body last n e f g =
    label_then _ _ label n refl (blank_text 10 refl
    (then_text _ (many_texts (both assigned.rule (λ x. (phi x).rule)) phi_line anything spelled_phi
    (λ p h. line_is (phi_is p h)) (λ p rest. refl) phis e)
    (then_text _ (many_texts instr.rule instr_line anything spelled_instr (λ i h. line_is (instr_is i h))
    (λ i rest. refl) body f)
    (last_text _ (line_is (end_is last g)) (nothing_text anything)) (λ rest h. refl)) (λ rest h. refl)))

pub block_is : (b : Block) → spelled_block b ≡ true → DerivesText anything block.rule (block_text b) b
block_is b h =
    let p =
    and_parts (is_name b.label) (list_all spelled_phi b.phis
    && (list_all spelled_instr b.body && spelled_end b.end)) h in
    let q = and_parts (list_all spelled_phi b.phis) (list_all spelled_instr b.body && spelled_end b.end) p.1 in
    let r = and_parts (list_all spelled_instr b.body) (spelled_end b.end) q.1 in
    block_by b.label b.phis b.body b.end p.0 q.0 r.0 r.1
