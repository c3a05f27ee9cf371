use Rattle.std.proofs.Common.{sym, ◌∙◌, List, ℕ, codes, arith}
use Rattle.std.proofs.lemmas.Result.{err_from_is_err_and}
use Rattle.hip_grammar.specs.Laws.Loops.{leaders_start, leader_goes_on, leader_ends_at, leaders_end}
use Rattle.hip_tree.specs.declared.block.Phi.{Phi}
use Rattle.hip_grammar.specs.declared.fault.TextFault.{TextFault}
use Rattle.hip_grammar.specs.Words.{is_local, is_word}
use Rattle.hip_grammar.specs.Bodies.{assigned, phi}
use Rattle.hip_parse.specs.Left.{left}
use Rattle.hip_parse.proofs.Loops.{head_ends, part_ends}
use Rattle.hip_parse.proofs.Some.{assigned_some, phi_within}
use Rattle.hip_parse.proofs.parser.Parser.leading_phis.Goals as goal

pub more-init : goal.more-init
more-init c = rw c.new-phis.ensures (leaders_start TextFault (List ℕ) Phi is_local assigned.read (is_word (codes "phi")) (λ dest. (phi dest).read) assigned_some phi_within (left c.args.self.now))

pub returns-in_err-name : goal.returns-in_err-name
returns-in_err-name c =
    let p = err_from_is_err_and c.from_residual.result c.from_residual.ensures.1 in
    rw (p.1, p.2) (head_ends (List ℕ) Phi is_local assigned.read (is_word (codes "phi")) (λ dest. (phi dest).read) assigned_some phi_within c.in_err-name.field-0.0 c.more.phis (left c.more.self) (left c.assigned.new.self) _ (sym c.at_local.ensures ∙ c.more-test.true) c.in_err-name.ensures c.more.invariant)

pub returns-then-not-at_word : goal.returns-then-not-at_word
returns-then-not-at_word c = rw c.fitted.ensures (leader_ends_at TextFault (List ℕ) Phi is_local assigned.read (is_word (codes "phi")) (λ dest. (phi dest).read) assigned_some phi_within c.more.phis (left c.more.self) c.in_ok-name.name (left c.assigned.new.self) _ (sym c.at_local.ensures ∙ c.more-test.true) c.in_ok-name.ensures (sym c.at_word.ensures ∙ c.if-not-at_word.true) c.more.invariant)

pub returns-in_err-item : goal.returns-in_err-item
returns-in_err-item c =
    let p = err_from_is_err_and c.from_residual-in_err-item.result c.from_residual-in_err-item.ensures.1 in
    rw (p.1, p.2) (part_ends (List ℕ) Phi is_local assigned.read (is_word (codes "phi")) (λ dest. (phi dest).read) assigned_some phi_within c.in_err-item.field-0.0 c.more.phis (left c.more.self) c.in_ok-name.name (left c.assigned.new.self) (left c.phi.new.self) _ (sym c.at_local.ensures ∙ c.more-test.true) c.in_ok-name.ensures (sym c.at_word.ensures ∙ c.if-not-at_word.false) c.in_err-item.ensures c.more.invariant)

pub more-smaller : goal.more-smaller
more-smaller c =
    let a = assigned_some (left c.more.self) (c.in_ok-name.name, left c.assigned.new.self) c.in_ok-name.ensures in
    let b = phi_within c.in_ok-name.name (left c.assigned.new.self) (c.in_ok-item.item, left c.phi.new.self) c.in_ok-item.ensures in
    omega (arith, a, b)

pub more-preserved : goal.more-preserved
more-preserved c = rw c.in_ok-push.ensures.ok (leader_goes_on TextFault (List ℕ) Phi is_local assigned.read (is_word (codes "phi")) (λ dest. (phi dest).read) assigned_some phi_within c.more.phis (left c.more.self) c.in_ok-name.name (left c.assigned.new.self) c.in_ok-item.item (left c.phi.new.self) _ (sym c.at_local.ensures ∙ c.more-test.true) c.in_ok-name.ensures (sym c.at_word.ensures ∙ c.if-not-at_word.false) c.in_ok-item.ensures c.more.invariant)

pub returns : goal.returns
returns c = rw c.fitted-2.ensures (leaders_end TextFault (List ℕ) Phi is_local assigned.read (is_word (codes "phi")) (λ dest. (phi dest).read) assigned_some phi_within c.more.phis (left c.more.self) _ (sym c.at_local.ensures ∙ c.more-test.false) c.more.invariant)
