-- Texts of a rule: bytes from whose tokens the rule derives a value, whatever precedes them.
use Rattle.std.proofs.Common.{◌≡◌, ℕ, Bool, true, List, [], ◌∷◌, ◌++◌, Some, None, inl, inr, map, map-id, refl, subst, append_assoc}
use Rattle.std.specs.List.{list_all, flat_map}
use Rattle.std.proofs.lemmas.Bool.{and_parts}
use Rattle.hip_tokens.specs.Bytes.{is_blank, is_mark}
use Rattle.hip_tokens.specs.Tokens.{Tok, Word, Label, Local, Global, Num, Punctuation, At, cut, line_after}
use Rattle.hip_tokens.specs.Longest.{is_name, are_digits}
use Rattle.hip_tokens.specs.Cuts.{cut_blank}
use Rattle.hip_tokens.specs.Written.{ends_word, at_line, word_cut, label_cut, local_cut, global_cut, digits_cut, mark_cut}
use Rattle.hip_grammar.specs.Rule.{Rule, Verdict, Yes, done, one, both, ◌or◌, many, perhaps, AllDerive}

-- Any bytes may follow.
abbrev pub anything : List ℕ → Bool
anything rest = true

-- The rule derives the value from the text, if bytes that `ends` passes follow it.
pub record DerivesText {F A : Type 0} (ends : List ℕ → Bool) (l : Rule F A) (text : List ℕ) (x : A) : Type 0 where
  pub derives : (line : ℕ) (rest : List ℕ) → ends rest ≡ true
      → (after : ℕ) × l.Derives (cut line 0 (text ++ rest)) x (cut after 0 rest)

-- If `d` holds of the bytes after `text`, `c` holds of `text` and those bytes together.
abbrev pub Leaves : (List ℕ → Bool) → List ℕ → (List ℕ → Bool) → Type 0
Leaves c text d = (rest : List ℕ) → d rest ≡ true → c (text ++ rest) ≡ true

pub anywhere_text : {F A : Type 0} {l : Rule F A} {s : List ℕ} {x : A} (c : List ℕ → Bool)
    → DerivesText anything l s x
    → DerivesText c l s x
anywhere_text c p = record { derives = λ line rest e. p.derives line rest refl }

pub nothing_text : {F A : Type 0} {x : A} (c : List ℕ → Bool) → DerivesText {F = F} c (done x) [] x
unfolding done
nothing_text c = record { derives = λ line rest e. (line, (refl, refl)) }

pub blank_text : {F A : Type 0} {l : Rule F A} {c : List ℕ → Bool} {t : List ℕ} {x : A} (b : ℕ)
    → is_blank b ≡ true
    → DerivesText c l t x → DerivesText c l (b ∷ t) x
blank_text {l = l} {t = t} {x = x} b blank p =
    record {
      derives = λ line rest e. let q = p.derives (line_after line b) rest e in
          (q.0, rw (cut_blank line b (t ++ rest) blank) q.1);
    }

-- A part and a blank after it. Any bytes may follow the blank.
pub blank_past : {F A : Type 0} {l : Rule F A} {c : List ℕ → Bool} {s : List ℕ} {x : A} (b : ℕ)
    → is_blank b ≡ true
    → Leaves c (b ∷ []) anything → DerivesText c l s x → DerivesText anything l (s ++ b ∷ []) x
blank_past {l = l} {s = s} {x = x} b blank leaves p = record {
  derives = λ line rest e.
      let q = p.derives line (b ∷ rest) (leaves rest refl) in
      (line_after q.0 b, rw (append_assoc s (b ∷ []) rest, ← cut_blank q.0 b rest blank) q.1);
}

-- ---- one part after the other

pub then_text : {F A B : Type 0} {l : Rule F A} (f : A → Rule F B) {c d : List ℕ → Bool} {s t : List ℕ} {x : A}
    {y : B}
    → DerivesText c l s x → DerivesText d (f x) t y → Leaves c t d → DerivesText d (both l f) (s ++ t) y
unfolding both
then_text f {s = s} {t = t} {x = x} p q leaves = record {
  derives = λ line rest e.
      let first = p.derives line (t ++ rest) (leaves rest e) in
      let second = q.derives first.0 rest e in
      (second.0, rw (append_assoc s t rest) (x, cut first.0 0 (t ++ rest), first.1, second.1));
}

-- A part, and then one with an empty text.
pub last_text : {F A B : Type 0} {l : Rule F A} (f : A → Rule F B) {c : List ℕ → Bool} {s : List ℕ} {x : A}
    {y : B}
    → DerivesText c l s x → DerivesText anything (f x) [] y → DerivesText c (both l f) s y
unfolding both
last_text f {x = x} p q = record {
  derives = λ line rest e.
      let first = p.derives line rest e in
      let second = q.derives first.0 rest refl in
      (second.0, (x, cut first.0 0 rest, first.1, second.1));
}

-- ---- one token

pub token_text : {F A : Type 0} (p : Tok → Verdict F A) {c : List ℕ → Bool} {s : List ℕ} {x : A} (t : Tok)
    → ((line : ℕ) (rest : List ℕ) → c rest ≡ true
    → cut line 0 (s ++ rest) ≡ at_line line t ∷ cut line 0 rest)
    → p t ≡ Yes x → DerivesText c (one p) s x
unfolding one
token_text p t h e = record { derives = λ line rest q. (line, (at_line line t, h line rest q, e)) }

pub word_text : {F A : Type 0} (p : Tok → Verdict F A) {x : A} (w : List ℕ) → is_name w ≡ true
    → p (Word w) ≡ Yes x
    → DerivesText ends_word (one p) w x
word_text p w n e = token_text p (Word w) (λ line rest h. word_cut line w rest n h) e

pub local_text : {F A : Type 0} (p : Tok → Verdict F A) {x : A} (w : List ℕ) → is_name w ≡ true
    → p (Local w) ≡ Yes x
    → DerivesText ends_word (one p) (37 ∷ w) x
local_text p w n e = token_text p (Local w) (λ line rest h. local_cut line w rest n h) e

pub global_text : {F A : Type 0} (p : Tok → Verdict F A) {x : A} (w : List ℕ) → is_name w ≡ true
    → p (Global w) ≡ Yes x
    → DerivesText ends_word (one p) (64 ∷ w) x
global_text p w n e = token_text p (Global w) (λ line rest h. global_cut line w rest n h) e

pub digits_text : {F A : Type 0} (p : Tok → Verdict F A) {x : A} (ds : List ℕ) → are_digits ds ≡ true
    → p (Num ds) ≡ Yes x → DerivesText ends_word (one p) ds x
digits_text p ds n e = token_text p (Num ds) (λ line rest h. digits_cut line ds rest n h) e

pub mark_text : {F A : Type 0} (p : Tok → Verdict F A) {x : A} (b : ℕ) → is_mark b ≡ true
    → p (Punctuation b) ≡ Yes x
    → DerivesText anything (one p) (b ∷ []) x
mark_text p b n e = token_text p (Punctuation b) (λ line rest h. mark_cut line b rest n) e

-- A word and a space, and then a part.
pub word_then : {F A B : Type 0} (p : Tok → Verdict F A) (f : A → Rule F B) {d : List ℕ → Bool} {t : List ℕ}
    {x : A}
    {y : B} (w : List ℕ) → is_name w ≡ true → p (Word w) ≡ Yes x → DerivesText d (f x) t y
    → DerivesText d (both (one p) f) (w ++ (32 ∷ t)) y
word_then p f w n e q = then_text f (word_text p w n e) (blank_text 32 refl q) (λ rest h. refl)

-- A mark, and then a part.
pub mark_then : {F A B : Type 0} (p : Tok → Verdict F A) (f : A → Rule F B) {d : List ℕ → Bool} {t : List ℕ}
    {x : A}
    {y : B} (b : ℕ) → is_mark b ≡ true → p (Punctuation b) ≡ Yes x → DerivesText d (f x) t y
    → DerivesText d (both (one p) f) (b ∷ t) y
mark_then p f b n e q = then_text f (mark_text p b n e) q (λ rest h. refl)

-- A name before `:`, and then a part.
pub label_then : {F A B : Type 0} (p : Tok → Verdict F A) (f : A → Rule F B) {d : List ℕ → Bool} {t : List ℕ}
    {x : A}
    {y : B} (w : List ℕ) → is_name w ≡ true → p (Label w) ≡ Yes x → DerivesText d (f x) t y
    → DerivesText d (both (one p) f) (w ++ (58 ∷ t)) y
unfolding both one
label_then p f {t = t} {x = x} w n e q = record {
  derives = λ line rest h.
      let second = q.derives line rest h in (
        second.0,
        rw (append_assoc w (58 ∷ t) rest)
            (x, cut line 0 (t ++ rest), (at_line line (Label w), label_cut line w (t ++ rest) n, e), second.1),
      );
}

-- ---- cases

pub left_text : {F A : Type 0} {l : Rule F A} (m : Rule F A) {c : List ℕ → Bool} {s : List ℕ} {x : A}
    → DerivesText c l s x
    → DerivesText c (l or m) s x
unfolding ◌or◌
left_text m p = record { derives = λ line rest e. let q = p.derives line rest e in (q.0, inl q.1) }

pub right_text : {F A : Type 0} (l : Rule F A) {m : Rule F A} {c : List ℕ → Bool} {s : List ℕ} {x : A}
    → DerivesText c m s x → DerivesText c (l or m) s x
unfolding ◌or◌
right_text l p = record { derives = λ line rest e. let q = p.derives line rest e in (q.0, inr q.1) }

pub none_text : {F A : Type 0} (l : Rule F A) (c : List ℕ → Bool) → DerivesText c (perhaps l) [] None
unfolding perhaps
none_text l c = record { derives = λ line rest e. (line, inl (refl, refl)) }

pub some_text : {F A : Type 0} {l : Rule F A} {c : List ℕ → Bool} {s : List ℕ} {x : A} → DerivesText c l s x
    → DerivesText c (perhaps l) s (Some x)
unfolding perhaps
some_text {x = x} p = record { derives = λ line rest e. let q = p.derives line rest e in (q.0, inr (x, refl, q.1)) }

-- ---- lists

pub no_more_text : {F A : Type 0} (l : Rule F A) (c : List ℕ → Bool) → DerivesText c (many l) [] []
unfolding many
no_more_text l c = record { derives = λ line rest e. (line, refl) }

pub more_text : {F A : Type 0} {l : Rule F A} {c d : List ℕ → Bool} {s t : List ℕ} {x : A} {xs : List A}
    → DerivesText c l s x → DerivesText d (many l) t xs → Leaves c t d → DerivesText d (many l) (s ++ t) (x ∷ xs)
unfolding many
more_text {s = s} {t = t} p q leaves = record {
  derives = λ line rest e.
      let first = p.derives line (t ++ rest) (leaves rest e) in
      let second = q.derives first.0 rest e in
      (second.0, rw (append_assoc s t rest) (cut first.0 0 (t ++ rest), first.1, second.1));
}

-- Any number of parts, one after the other.
module _ {F X A : Type 0} (l : Rule F A) (text : X → List ℕ) (value : X → A) (c : List ℕ → Bool)
    (test : X → Bool)
    (each : (x : X) → test x ≡ true → DerivesText c l (text x) (value x))
    (leaves : (x : X) (rest : List ℕ) → c (text x ++ rest) ≡ true) where
  texts_leave : (xs : List X) → Leaves c (flat_map text xs) c
  texts_leave [] rest e = e
  texts_leave (x ∷ xs) rest e = rw (append_assoc (text x) (flat_map text xs) rest)
      (leaves x (flat_map text xs ++ rest))

  pub mapped_texts : (xs : List X) → list_all test xs ≡ true
      → DerivesText c (many l) (flat_map text xs) (map value xs)
  mapped_texts [] e = no_more_text l c
  mapped_texts (x ∷ xs) e =
      let passes = and_parts (test x) (list_all test xs) e in
      more_text (each x passes.0) (mapped_texts xs passes.1) (texts_leave xs)

pub many_texts : {F A : Type 0} (l : Rule F A) (text : A → List ℕ) (c : List ℕ → Bool) (test : A → Bool)
    → ((x : A) → test x ≡ true → DerivesText c l (text x) x)
    → ((x : A) (rest : List ℕ) → c (text x ++ rest) ≡ true)
    → (xs : List A) → list_all test xs ≡ true → DerivesText c (many l) (flat_map text xs) xs
many_texts l text c test each leaves xs e =
    subst (DerivesText c (many l) (flat_map text xs)) (map-id xs) (mapped_texts l text (λ x. x) c test each leaves xs e)

all_derive_both : {F A : Type 0} (l : Rule F A) (xs ys : List A) (ts m rest : List At) → AllDerive l ts xs m
    → AllDerive l m ys rest → AllDerive l ts (xs ++ ys) rest
all_derive_both l [] ys ts m rest p q = subst (λ u. AllDerive l u ys rest) p q
all_derive_both l (x ∷ xs) ys ts m rest p q = (p.0, p.1, all_derive_both l xs ys p.0 m rest p.2 q)

pub joined_texts : {F A : Type 0} (l : Rule F A) {c d : List ℕ → Bool} {s t : List ℕ} {xs ys : List A}
    → DerivesText c (many l) s xs → DerivesText d (many l) t ys → Leaves c t d
    → DerivesText d (many l) (s ++ t) (xs ++ ys)
unfolding many
joined_texts l {s = s} {t = t} {xs = xs} {ys = ys} p q leaves = record {
  derives = λ line rest e.
      let first = p.derives line (t ++ rest) (leaves rest e) in
      let second = q.derives first.0 rest e in (
        second.0,
        rw (append_assoc s t rest) (all_derive_both l xs ys (cut line 0 (s ++ (t ++ rest)))
            (cut first.0 0 (t ++ rest)) (cut second.0 0 rest) first.1 second.1),
      );
}
