-- Parts of one kind and then parts of another that begin with the same head: the head is read once, and the next token
-- decides the kind.
use Rattle.std.proofs.Common.{◌≡◌, ℕ, zero, suc, ◌≤◌, ◌<◌, Bool, true, false, cond, List, [], ◌∷◌, ◌++◌, length, Option, Some, None, Ok, Err, refl, sym, ap, subst, ◌∙◌, arith, append_assoc}
use Rattle.std.proofs.lemmas.List.{append-nil}
use Rattle.hip_tokens.specs.Tokens.{Tok, At}
use Rattle.hip_grammar.specs.Rule.{Rule, both, many, ◌or◌}
use Rattle.hip_grammar.specs.Reader.{Reader, Outcome, on_ok, next, leading_at, leaders_at, by_head}
use Rattle.hip_grammar.specs.Laws.Exact.{IsExact, Exactly, IsAbsent, never, never_next, joined, both_where, both_empty, both_whole, both_within, both_later, both_closed, or_left, or_right, or_empty, or_absent, both_absent, then_exact, or_exact}
use Rattle.hip_grammar.specs.Laws.Repeated.{many_exact}
use Rattle.hip_grammar.specs.Laws.Same.{SameRule, factored, many_unrolls, unrolled, same_exactly, same_exact, same_refl, same_sym, same_trans, or_same, or_assoc, both_assoc, both_same, same_absent}

module _ (F X P B : Type 0) (h : Rule F X) (rh : Reader F X) (f : X → Rule F P) (rf : X → Reader F P)
    (T : List P → Rule F B) (R : List P → X → Rule F B) (rR : List P → X → Reader F B)
    (O : List P → Rule F B)
    (rO : List P → Reader F B)
    (kh kf c d : Tok → Bool)
    (h_exact : IsExact h rh never) (f_exact : (x : X) → IsExact (f x) (rf x) c)
    (R_exact : (ps : List P) (x : X) → IsExact (R ps x) (rR ps x) d)
    (O_exact : (ps : List P) → IsExact (O ps) (rO ps) d)
    (h_some : (ts : List At) (x : X) (rest : List At) → h.Derives ts x rest → length rest < length ts)
    (h_absent : (ts : List At) → next kh ts ≡ false → IsAbsent h ts)
    (O_absent : (ps : List P) (ts : List At) → next kh ts ≡ true → IsAbsent (O ps) ts)
    (R_absent : (ps : List P) (x : X) (ts : List At) → next kf ts ≡ true → IsAbsent (R ps x) ts)
    (f_absent : (x : X) (ts : List At) → next kf ts ≡ false → IsAbsent (f x) ts)
    (c_head : (ts : List At) → next c ts ≡ true → next kh ts ≡ false)
    (c_absent : (ps : List P) (ts : List At) → next c ts ≡ true → IsAbsent (O ps) ts)
    (T_is : (ps : List P) → SameRule (both h (R ps) or O ps) (T ps)) where
  -- The rule as it is defined.
  abbrev pub phases : List P → Rule F B
  phases ps = both (many (both h f)) (λ more. T (ps ++ more))

  -- The same rule with the head taken out of the cases, so that the next token decides.
  abbrev pub factored_phases : List P → Rule F B
  factored_phases ps = both h (λ x. both (f x) (λ p. phases (ps ++ (p ∷ []))) or R ps x) or O ps

  pushed : (ps : List P) (p : P) (more : List P) → SameRule (T (ps ++ (p ∷ more))) (T ((ps ++ (p ∷ [])) ++ more))
  pushed ps p more =
      subst (λ (qs : List P). SameRule (T (ps ++ (p ∷ more))) (T qs)) (sym (append_assoc ps (p ∷ []) more))
      (same_refl (T (ps ++ (p ∷ more))))

  -- One step of the phases.
  first_part : (ps : List P)
      → SameRule (both (both h f) (λ p. phases (ps ++ (p ∷ []))))
      (both (both h f) (λ p. both (many (both h f)) (λ more. T (ps ++ (p ∷ more)))))
  first_part ps =
      both_same (both h f) _ _ (λ p. both_same (many (both h f)) _ _ (λ more. same_sym _ _ (pushed ps p more)))

  ended_part : (ps : List P) → SameRule (both h (R ps) or O ps) (T (ps ++ []))
  ended_part ps = subst (λ (qs : List P). SameRule (both h (R ps) or O ps) (T qs)) (sym (append-nil ps)) (T_is ps)

  phases_are : (ps : List P) → SameRule (factored_phases ps) (phases ps)
  phases_are ps =
      let G : X → Rule F B = λ x. both (f x) (λ p. phases (ps ++ (p ∷ []))) in
      let one : SameRule (factored_phases ps) ((both h G or both h (R ps)) or O ps) =
      or_same _ _ _ _ (factored h G (R ps)) (same_refl (O ps)) in
      let two : SameRule ((both h G or both h (R ps)) or O ps) (both h G or (both h (R ps) or O ps)) = or_assoc _ _ _ in
      let three : SameRule (both h G or (both h (R ps) or O ps)) (unrolled F P B (both h f) (λ more. T (ps ++ more))) =
      or_rolled (both h G) (both (both h f) (λ p. both (many (both h f)) (λ more. T (ps ++ (p ∷ more)))))
      (both h (R ps) or O ps) (T (ps ++ [])) (same_trans _ _ _
      (same_sym _ _ (both_assoc h f (λ p. phases (ps ++ (p ∷ []))))) (first_part ps)) (ended_part ps) in
      same_trans _ _ _ one (same_trans _ _ _ two
      (same_trans _ _ _ three (many_unrolls F P B (both h f) (λ more. T (ps ++ more)))))
    where
      or_rolled : (a b u e : Rule F B) → SameRule a b → SameRule u e → SameRule (a or u) (b or e)
      or_rolled a b u e s r = or_same a u b e s r

  phases_absent : (ps : List P) (ts : List At) → next c ts ≡ true → IsAbsent (phases ps) ts
  phases_absent ps ts g =
      same_absent (factored_phases ps) (phases ps) ts (phases_are ps)
      (or_absent _ (O ps) ts (both_absent h _ ts (h_absent ts (c_head ts g))) (c_absent ps ts g))

  ph : ℕ → List P → Reader F B
  ph zero ps ts = rO ps ts
  ph (suc n) ps ts =
      cond (next kh ts)
      (on_ok (rh ts) (λ x m. cond (next kf m) (on_ok (rf x m) (λ p rest. ph n (ps ++ (p ∷ [])) rest)) (rR ps x m)))
      (rO ps ts)

  many_front : (l : Rule F P) → ((ts : List At) → l.Front ts ts) → (ts : List At) → (many l).Front ts ts
  unfolding many
  many_front l e ts = ([], ts, refl, e ts)

  phases_empty : (ps : List P) (ts : List At) → (phases ps).Front ts ts
  phases_empty ps = both_empty (many (both h f)) _ (many_front (both h f) (both_empty h f h_exact.empty))

  abbrev goes : List P → X → Rule F B
  goes ps x = both (f x) (λ p. phases (ps ++ (p ∷ []))) or R ps x

  goes_empty : (ps : List P) (x : X) (ts : List At) → (goes ps x).Front ts ts
  goes_empty ps x = or_empty (both (f x) (λ p. phases (ps ++ (p ∷ [])))) (R ps x)
      (both_empty (f x) _ (f_exact x).empty)

  past : (n : ℕ) (ps : List P) (x : X) (m : List At) (b : Bool) → next kf m ≡ b
      → ((p : P) (rest : List At) → length rest ≤ n
      → Exactly (phases (ps ++ (p ∷ []))) d rest (ph n (ps ++ (p ∷ [])) rest)) → length m ≤ n
      → Exactly (goes ps x) d m (cond b (on_ok (rf x m) (λ p rest. ph n (ps ++ (p ∷ [])) rest)) (rR ps x m))
  past n ps x m true e others le = or_left (both (f x) (λ p. phases (ps ++ (p ∷ [])))) (R ps x) d m _
      (both_where F P B (f x) (λ p. phases (ps ++ (p ∷ []))) c d (f_exact x).whole
      (λ p. phases_empty (ps ++ (p ∷ [])))
      (λ p w g. phases_absent (ps ++ (p ∷ [])) w g) (λ p rest. ph n (ps ++ (p ∷ [])) rest) m (rf x m)
      (λ p rest t. others p rest (let k = (f_exact x).within m rest ((f_exact x).whole m p rest t) in omega arith))
      ((f_exact x).reads m))
      (R_absent ps x m e) (both_empty (f x) _ (f_exact x).empty m)
  past n ps x m false e others le =
      or_right (both (f x) (λ p. phases (ps ++ (p ∷ [])))) (R ps x) d m (rR ps x m) ((R_exact ps x).reads m)
      (both_absent (f x) _ m (f_absent x m e)) ((R_exact ps x).empty m)

  closing : (ps : List P) (ts : List At) → next kh ts ≡ false → Exactly (factored_phases ps) d ts (rO ps ts)
  closing ps ts e =
      or_right (both h (goes ps)) (O ps) d ts (rO ps ts) ((O_exact ps).reads ts)
      (both_absent h (goes ps) ts (h_absent ts e)) ((O_exact ps).empty ts)

  opening : (n : ℕ) (ps : List P) (ts : List At) (b : Bool) → next kh ts ≡ b
      → ((p : P) (rest : List At) → length rest ≤ n
      → Exactly (phases (ps ++ (p ∷ []))) d rest (ph n (ps ++ (p ∷ [])) rest)) → length ts ≤ suc n
      → Exactly (factored_phases ps) d ts (cond b (on_ok (rh ts)
      (λ x m. cond (next kf m) (on_ok (rf x m) (λ p rest. ph n (ps ++ (p ∷ [])) rest)) (rR ps x m))) (rO ps ts))
  opening n ps ts true e others le = or_left (both h (goes ps)) (O ps) d ts _
      (both_where F X B h (goes ps) never d h_exact.whole (goes_empty ps) (λ x w g. absurd (never_next w g))
      (λ x m. cond (next kf m) (on_ok (rf x m) (λ p rest. ph n (ps ++ (p ∷ [])) rest)) (rR ps x m)) ts (rh ts)
      (λ x m t. past n ps x m (next kf m) refl others (let k = h_some ts x m t in omega arith)) (h_exact.reads ts))
      (O_absent ps ts e) (both_empty h (goes ps) h_exact.empty ts)
  opening n ps ts false e others le = closing ps ts e

  phases_read : (n : ℕ) (ps : List P) (ts : List At) → length ts ≤ n → Exactly (phases ps) d ts (ph n ps ts)
  unfolding ph
  phases_read zero ps [] le =
      same_exactly (factored_phases ps) (phases ps) d [] (rO ps []) (phases_are ps) (closing ps [] refl)
  phases_read zero ps (t ∷ ts) le = absurd (omega arith)
  phases_read (suc n) ps ts le =
      same_exactly (factored_phases ps) (phases ps) d ts _ (phases_are ps)
      (opening n ps ts (next kh ts) refl (λ p rest k. phases_read n (ps ++ (p ∷ [])) rest k) le)

  -- ---- the leading parts first, and then what follows the last head

  abbrev finish : List P → List P × Option X → Reader F B
  finish ps q = by_head q.1 (rR (ps ++ q.0)) (rO (ps ++ q.0))

  finish_pushed : (ps : List P) (p : P) (q : List P × Option X) (m : List At)
      → finish ps (p ∷ q.0, q.1) m ≡ finish (ps ++ (p ∷ [])) q m
  finish_pushed ps p q m = ap (λ (qs : List P). by_head q.1 (rR qs) (rO qs) m) (sym (append_assoc ps (p ∷ []) q.0))

  led : (ps : List P) (p : P) (o : Outcome F (List P × Option X))
      → on_ok o (finish (ps ++ (p ∷ []))) ≡ on_ok (on_ok o (λ q rest. Ok ((p ∷ q.0, q.1), rest))) (finish ps)
  led ps p (Ok q) = sym (finish_pushed ps p q.0 q.1)
  led ps p (Err e) = refl

  led_parts : (n : ℕ) (ps : List P) (o : Outcome F P)
      → ((ps : List P) (ts : List At) → ph n ps ts ≡ on_ok (leading_at kh rh kf rf n ts) (finish ps))
      → on_ok o (λ p rest. ph n (ps ++ (p ∷ [])) rest)
      ≡ on_ok (on_ok o (λ p more. on_ok (leading_at kh rh kf rf n more) (λ q rest. Ok ((p ∷ q.0, q.1), rest))))
      (finish ps)
  led_parts n ps (Ok p) h = h (ps ++ (p.0 ∷ [])) p.1 ∙ led ps p.0 (leading_at kh rh kf rf n p.1)
  led_parts n ps (Err e) h = refl

  led_past : (n : ℕ) (ps : List P) (x : X) (m : List At) (b : Bool)
      → ((ps : List P) (ts : List At) → ph n ps ts ≡ on_ok (leading_at kh rh kf rf n ts) (finish ps))
      → cond b (on_ok (rf x m) (λ p rest. ph n (ps ++ (p ∷ [])) rest))
      (rR ps x m)
      ≡ on_ok (cond b (on_ok (rf x m)
      (λ p more. on_ok (leading_at kh rh kf rf n more)
      (λ q rest. Ok ((p ∷ q.0, q.1), rest)))) (Ok (([], Some x), m))) (finish ps)
  led_past n ps x m true h = led_parts n ps (rf x m) h
  led_past n ps x m false h = ap (λ (qs : List P). rR qs x m) (sym (append-nil ps))

  led_head : (n : ℕ) (ps : List P) (o : Outcome F X)
      → ((ps : List P) (ts : List At) → ph n ps ts ≡ on_ok (leading_at kh rh kf rf n ts) (finish ps))
      → on_ok o (λ x m. cond (next kf m) (on_ok (rf x m) (λ p rest. ph n (ps ++ (p ∷ [])) rest)) (rR ps x m))
      ≡ on_ok (on_ok o (λ x m. cond (next kf m)
      (on_ok (rf x m) (λ p more. on_ok (leading_at kh rh kf rf n more) (λ q rest. Ok ((p ∷ q.0, q.1), rest))))
      (Ok (([], Some x), m)))) (finish ps)
  led_head n ps (Ok x) h = led_past n ps x.0 x.1 (next kf x.1) h
  led_head n ps (Err e) h = refl

  led_here : (n : ℕ) (ps : List P) (ts : List At) (b : Bool)
      → ((ps : List P) (ts : List At) → ph n ps ts ≡ on_ok (leading_at kh rh kf rf n ts) (finish ps))
      → cond b (on_ok (rh ts)
      (λ x m. cond (next kf m) (on_ok (rf x m) (λ p rest. ph n (ps ++ (p ∷ [])) rest)) (rR ps x m))) (rO ps ts)
      ≡ on_ok (cond b (on_ok (rh ts)
      (λ x m. cond (next kf m)
      (on_ok (rf x m) (λ p more. on_ok (leading_at kh rh kf rf n more) (λ q rest. Ok ((p ∷ q.0, q.1), rest))))
      (Ok (([], Some x), m)))) (Ok (([], None), ts))) (finish ps)
  led_here n ps ts true h = led_head n ps (rh ts) h
  led_here n ps ts false h = ap (λ (qs : List P). rO qs ts) (sym (append-nil ps))

  ph_is : (n : ℕ) (ps : List P) (ts : List At) → ph n ps ts ≡ on_ok (leading_at kh rh kf rf n ts) (finish ps)
  unfolding ph leading_at
  ph_is zero ps ts = ap (λ (qs : List P). rO qs ts) (sym (append-nil ps))
  ph_is (suc n) ps ts = led_here n ps ts (next kh ts) (ph_is n)

  abbrev pub phased_read : Reader F B
  phased_read ts = on_ok (leaders_at kh rh kf rf ts) (finish [])

  T_exact : (ps : List P) → (r : Reader F B) × IsExact (T ps) r d
  T_exact ps = (
    _,
    same_exact _ (T ps) _ d (T_is ps) (or_exact (both h (R ps)) (O ps) _ (rO ps) d kh
        (then_exact h (R ps) rh (rR ps) d h_exact (R_exact ps)) (O_exact ps) (O_absent ps)
        (λ ts e. both_absent h (R ps) ts (h_absent ts e))),
  )

  part_takes_some : (ts : List At) (a : P) (rest : List At) → (both h f).Derives ts a rest → length rest < length ts
  unfolding both
  part_takes_some ts a rest t =
      let k = h_some ts t.0 t.1 t.2 in let j =
      (f_exact t.0).within t.1 rest ((f_exact t.0).whole t.1 a rest t.3) in omega arith

  parts_exact : (r : Reader F (List P)) × IsExact (many (both h f)) r (joined kh c)
  parts_exact = (
    _,
    many_exact F P (both h f) _ kh c (then_exact h f rh rf c h_exact f_exact)
        (λ ts e. both_absent h f ts (h_absent ts e))
        (λ ts g. both_absent h f ts (h_absent ts (c_head ts g))) part_takes_some,
  )

  -- The reading of phases is exact.
  pub phases_exact : IsExact (both (many (both h f)) T) phased_read d
  phases_exact = record {
    empty = both_empty (many (both h f)) T (parts_exact.1).empty;
    whole = both_whole (many (both h f)) T (λ ps. ((T_exact ps).1).whole);
    within =
        both_within (many (both h f)) T (parts_exact.1).whole (parts_exact.1).within (λ ps. ((T_exact ps).1).within);
    later = both_later (many (both h f)) T (parts_exact.1).whole (parts_exact.1).later (λ ps. ((T_exact ps).1).later);
    closed =
        both_closed (many (both h f)) T (parts_exact.1).whole (parts_exact.1).later (parts_exact.1).closed
        (λ ps. ((T_exact ps).1).closed);
    reads =
        λ ts. subst (λ (o : Outcome F B). Exactly (both (many (both h f)) T) d ts o) (ph_is (length ts) [] ts)
        (phases_read (length ts) [] ts (omega arith));
  }
