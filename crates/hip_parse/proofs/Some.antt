-- Parts that take at least one token.
use Rattle.std.proofs.Common.{◌≡◌, ◌≤◌, ℕ, List, Option, Ok, length}
use Rattle.hip_tokens.specs.Tokens.{At}
use Rattle.hip_types.specs.declared.number.BinaryOp.{BinaryOp}
use Rattle.hip_grammar.specs.Laws.Exact.{never}
use Rattle.hip_grammar.specs.Laws.Loops.{TakesSome}
use Rattle.hip_grammar.specs.Production.{one_more_by, token}
use Rattle.hip_grammar.specs.Laws.Productions.{read_takes_some, one_more_read, token_read, read_within}
use Rattle.hip_grammar.specs.Words.{comma, is_local, a_word_of, is_word_of, flag_word}
use Rattle.hip_grammar.specs.Grammar.{type_within, const_within, typed_const}
use Rattle.hip_grammar.specs.Laws.Apart.{not_word_of}
use Rattle.hip_grammar.specs.Bodies.{assigned, phi}
use Rattle.hip_grammar.specs.Laws.BodiesExact.{assigned_read, phi_read}
use Rattle.hip_grammar.specs.Text.{item, begins_item}
use Rattle.hip_grammar.specs.Laws.TextExact.{item_read, goes_on_item}
use Rattle.hip_tree.specs.declared.block.Phi.{Phi}
use Rattle.hip_grammar.specs.Laws.Exactness.{begins_type, type_read, typed_const_read, const_exact}

pub type_some : (n : ℕ) → TakesSome (one_more_by comma (type_within n)).read
type_some n = read_takes_some (one_more_by comma (type_within n)) comma never (one_more_read (type_within n) comma begins_type never (type_read n))

pub typed_const_some : (n : ℕ) → TakesSome (one_more_by comma (typed_const (const_within n))).read
typed_const_some n = read_takes_some (one_more_by comma (typed_const (const_within n))) comma never (one_more_read (typed_const (const_within n)) comma begins_type never (typed_const_read (const_within n) (const_exact n)))

pub word_some : {A : Type 0} (f : List ℕ → Option A) → TakesSome (token (a_word_of f)).read
word_some f = read_takes_some (token (a_word_of f)) (is_word_of f) never (token_read (a_word_of f) (is_word_of f) never (not_word_of f))

pub flag_some : (op : BinaryOp) → TakesSome (token (a_word_of (flag_word op))).read
flag_some op = word_some (flag_word op)

pub item_some : TakesSome item.read
item_some = read_takes_some item begins_item goes_on_item item_read

pub assigned_some : TakesSome assigned.read
assigned_some = read_takes_some assigned is_local never assigned_read

pub phi_within : (dest : List ℕ) (ts : List At) (p : Phi × List At) → (phi dest).read ts ≡ Ok p → length p.1 ≤ length ts
phi_within dest ts p e = read_within (phi dest) comma (phi_read dest).exact ts p e
