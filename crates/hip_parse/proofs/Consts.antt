-- A constant under an integer type is `zeroinitializer` or a literal.
use Rattle.std.proofs.Common.{◌≡◌, true, false, List, [], ◌∷◌, Option, Some, None, Ok, Err, refl, ap, codes}
use Rattle.hip_types.specs.declared.number.Bits.{Bits}
use Rattle.hip_types.specs.declared.number.Width.{Width}
use Rattle.hip_tokens.specs.Tokens.{At}
use Rattle.hip_grammar.specs.Rule.{Verdict, Yes, Because, No}
use Rattle.hip_grammar.specs.Reader.{Outcome, one_at, judged, next}
use Rattle.hip_tree.specs.declared.constant.Const.{Const}
use Rattle.hip_tree.specs.declared.constant.Const.TheVariants as consts
use Rattle.hip_grammar.specs.declared.fault.TextFault.{TextFault}
use Rattle.hip_grammar.specs.Words.{is_word}
use Rattle.hip_grammar.specs.Numbers.{a_literal, as_const, an_int_const}
use Rattle.hip_parse.specs.Left.{tail}

pub zero_here : (w : Width) (ts : List At) → next (is_word (codes "zeroinitializer")) ts ≡ true → one_at (an_int_const w) ts ≡ Ok (consts.Zero, tail ts)
zero_here w [] e = absurd cc
zero_here w (t ∷ ts) e = rw e refl

same_verdict : (v : Verdict TextFault Bits) (t : At) (ts : List At) (b : Bits) (after : List At) → judged v t ts ≡ Ok (b, after) → judged (as_const v) t ts ≡ Ok (consts.Int b, after)
same_verdict (Yes c) t ts b after h = ok (c, ts) (b, after) h
  where
    ok : (x y : Bits × List At) → ◌≡◌ {A = Outcome TextFault Bits} (Ok x) (Ok y) → ◌≡◌ {A = Outcome TextFault Const} (Ok (consts.Int x.0, x.1)) (Ok (consts.Int y.0, y.1))
    ok x y h = let e : x ≡ y = cc in ap (λ (z : Bits × List At). let o : Outcome TextFault Const = Ok (consts.Int z.0, z.1) in o) e
same_verdict (Because why) t ts b after h = absurd cc
same_verdict No t ts b after h = absurd cc

same_refusal : (v : Verdict TextFault Bits) (t : At) (ts : List At) (why : Option TextFault) (after : List At) → judged v t ts ≡ Err (why, after) → judged (as_const v) t ts ≡ Err (why, after)
same_refusal (Yes c) t ts why after h = absurd cc
same_refusal (Because w) t ts why after h = err (Some w, t ∷ ts) (why, after) h
  where
    err : (x y : Option TextFault × List At) → ◌≡◌ {A = Outcome TextFault Bits} (Err x) (Err y) → ◌≡◌ {A = Outcome TextFault Const} (Err x) (Err y)
    err x y h = let e : x ≡ y = cc in ap (λ (z : Option TextFault × List At). let o : Outcome TextFault Const = Err z in o) e
same_refusal No t ts why after h = err (None, t ∷ ts) (why, after) h
  where
    err : (x y : Option TextFault × List At) → ◌≡◌ {A = Outcome TextFault Bits} (Err x) (Err y) → ◌≡◌ {A = Outcome TextFault Const} (Err x) (Err y)
    err x y h = let e : x ≡ y = cc in ap (λ (z : Option TextFault × List At). let o : Outcome TextFault Const = Err z in o) e

none_left : (o : Option TextFault × List At) (why : Option TextFault) (after : List At) → ◌≡◌ {A = Outcome TextFault Bits} (Err o) (Err (why, after)) → ◌≡◌ {A = Outcome TextFault Const} (Err o) (Err (why, after))
none_left o why after h = let e : o ≡ (why, after) = cc in ap (λ (z : Option TextFault × List At). let o : Outcome TextFault Const = Err z in o) e

pub literal_here : (w : Width) (ts : List At) (b : Bits) (after : List At) → next (is_word (codes "zeroinitializer")) ts ≡ false → one_at (a_literal w) ts ≡ Ok (b, after) → one_at (an_int_const w) ts ≡ Ok (consts.Int b, after)
literal_here w [] b after e h = absurd cc
literal_here w (t ∷ ts) b after e h = rw e (same_verdict (a_literal w t.tok) t ts b after h)

pub refused_here : (w : Width) (ts : List At) (why : Option TextFault) (after : List At) → next (is_word (codes "zeroinitializer")) ts ≡ false → one_at (a_literal w) ts ≡ Err (why, after) → one_at (an_int_const w) ts ≡ Err (why, after)
refused_here w [] why after e h = none_left (None, []) why after h
refused_here w (t ∷ ts) why after e h = rw e (same_refusal (a_literal w t.tok) t ts why after h)
