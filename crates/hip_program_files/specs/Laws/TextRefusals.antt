-- A text that is not read is refused in one way.
use Rattle.std.proofs.Common.{◌≡◌, ◌≤◌, ℕ, List, [], ◌∷◌, ◌++◌, length, length-append, refl, sym, ap, ◌∙◌, subst, arith}
use Rattle.hip_grammar.specs.declared.fault.TextFault.{TextFault}
use Rattle.hip_grammar.specs.declared.fault.TextFault.TheVariants as faults
use Rattle.hip_grammar.specs.ReadTexts.{IsRefusedAt, line_at}
use Rattle.hip_grammar.specs.Text.{text}
use Rattle.hip_program_files.specs.LoadedPrograms.{IsRefusedText, RefusesText}
use Rattle.hip_grammar.specs.Refusals.{refusal_of}
use Rattle.hip_grammar.specs.declared.refusal.ParseRefusal.{ParseRefusal}
use Rattle.hip_grammar.specs.declared.refusal.ParseRefusal.TheVariants as parse
use Rattle.hip_tokens.specs.Tokens.{At, tokens}

-- Two ends of one list that are equally long are equal.
same_end : (v w a b : List At) → v ++ a ≡ w ++ b → length a ≡ length b → a ≡ b
same_end [] [] a b e same = e
same_end [] (x ∷ w) a b e same =
    absurd (let long = ap length e in omega (arith, long, same, length-append (x ∷ w) b))
same_end (x ∷ v) [] a b e same =
    absurd (let long = ap length e in omega (arith, long, same, length-append (x ∷ v) a))
same_end (x ∷ v) (y ∷ w) a b e same = same_end v w a b (let tails : v ++ a ≡ w ++ b = cc in tails) same

-- Faults that are not different are equal.
stable : (a b : TextFault) → ((a ≡ b → ⊥) → ⊥) → a ≡ b
stable faults.Syntax faults.Syntax h = refl
stable faults.Unsupported faults.Unsupported h = refl
stable faults.Range faults.Range h = refl
stable faults.TooDeep faults.TooDeep h = refl
stable a b h = absurd (h (λ e. let z : ⊥ = cc in z))

same_fault : (ts : List At) (why other : TextFault) (rest : List At) → IsRefusedAt ts why rest
    → IsRefusedAt ts other rest
    → why ≡ other
same_fault ts why other rest p q =
    stable why other (λ differ. differ (p.other (λ w r. differ (p.own w r ∙ sym (q.own w r)))
    ∙ sym (q.other (λ w r. differ (p.own w r ∙ sym (q.own w r))))))

same_place : (ts : List At) (why other : TextFault) (a b : List At) → IsRefusedAt ts why a → IsRefusedAt ts other b
    → a ≡ b
same_place ts why other a b p q =
    let front_a : text.rule.Front ts a = p.viable a p.here ([], refl) in
    let front_b : text.rule.Front ts b = q.viable b q.here ([], refl) in
    let long : length b ≤ length a = q.no_further a front_a in
    let short : length a ≤ length b = p.no_further b front_b in
    same_end p.here.0 q.here.0 a b (sym p.here.1 ∙ q.here.1) (omega (arith, long, short))

same_refusal : (bytes : List ℕ) (why other : TextFault) (l m : ℕ) → IsRefusedText bytes why l
    → IsRefusedText bytes other m
    → refusal_of why l ≡ refusal_of other m
same_refusal bytes why other l m p q =
    let rest = same_place (tokens bytes) why other p.refused.0 q.refused.0 p.refused.1 q.refused.1 in
    let fault : why ≡ other =
    same_fault (tokens bytes) why other q.refused.0
    (subst (λ r. IsRefusedAt (tokens bytes) why r) rest p.refused.1) q.refused.1 in
    let line : l ≡ m = p.refused.2 ∙ ap (line_at bytes) rest ∙ sym q.refused.2 in
    ap (λ w. refusal_of w l) fault ∙ ap (refusal_of other) line

-- A refusal by its fault and its line.
pub record IsRefusedAs (bytes : List ℕ) (refusal : ParseRefusal) : Type 0 where
  pub why : TextFault
  pub line : ℕ
  pub is : refusal ≡ refusal_of why line
  pub refused : IsRefusedText bytes why line

refused_as : (bytes : List ℕ) (refusal : ParseRefusal) → RefusesText bytes refusal → IsRefusedAs bytes refusal
refused_as bytes (parse.Syntax line) h = record { why = faults.Syntax; line = line; is = refl; refused = h }
refused_as bytes (parse.Unsupported line) h = record { why = faults.Unsupported; line = line; is = refl; refused = h }
refused_as bytes (parse.Range line) h = record { why = faults.Range; line = line; is = refl; refused = h }
refused_as bytes (parse.TooDeep line) h = record { why = faults.TooDeep; line = line; is = refl; refused = h }
refused_as bytes parse.NoMemory h = absurd h

pub one_text_refusal : (bytes : List ℕ) (a b : ParseRefusal) → RefusesText bytes a → RefusesText bytes b
    → a ≡ b
one_text_refusal bytes a b p q =
    let v = refused_as bytes a p in
    let w = refused_as bytes b q in
    v.is ∙ same_refusal bytes v.why w.why v.line w.line v.refused w.refused ∙ sym w.is
