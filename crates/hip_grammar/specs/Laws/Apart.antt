-- Pairs of tests of which no token passes both.
use Rattle.std.proofs.Common.{◌≡◌, ℕ, true, false, Bool, cond, not, List, [], ◌∷◌, Option, Some, None, is_some, refl, ap}
use Rattle.std.specs.List.{list_all}
use Rattle.std.proofs.lemmas.Bool.{and_parts}
use Rattle.std.specs.Str.{bytes_eq}
use Rattle.std.proofs.lemmas.Bool.{eqb-true}
use Rattle.std.proofs.lemmas.Slice.Eq.{bytes_eq-Decides}
use Rattle.hip_tokens.specs.Tokens.{Tok, Word, Label, Local, Global, Num, Str, Punctuation, Odd}
use Rattle.hip_grammar.specs.Rule.{No}
use Rattle.hip_grammar.specs.Laws.Productions.{Apart}
use Rattle.hip_grammar.specs.Words.{is_word, is_mark, is_local, is_global, is_label, a_local, a_global, a_label, a_word_of, is_word_of, or_no, written_as}

not-true : (b : Bool) → not b ≡ true → b ≡ false
not-true true e = absurd cc
not-true false e = refl

mark_is : (b : ℕ) (t : Tok) → is_mark b t ≡ true → t ≡ Punctuation b
mark_is b (Punctuation c) e = ap (λ (n : ℕ). Punctuation n) (eqb-true c b e)
mark_is b (Word t) e = absurd cc
mark_is b (Label t) e = absurd cc
mark_is b (Local t) e = absurd cc
mark_is b (Global t) e = absurd cc
mark_is b (Num t) e = absurd cc
mark_is b (Str t) e = absurd cc
mark_is b (Odd c) e = absurd cc

word_is : (w : List ℕ) (t : Tok) → is_word w t ≡ true → t ≡ Word w
word_is w (Word t) e = ap (λ (n : List ℕ). Word n) ((bytes_eq-Decides t w).0 e)
word_is w (Punctuation t) e = absurd cc
word_is w (Label t) e = absurd cc
word_is w (Local t) e = absurd cc
word_is w (Global t) e = absurd cc
word_is w (Num t) e = absurd cc
word_is w (Str t) e = absurd cc
word_is w (Odd c) e = absurd cc

pub mark_apart : (b : ℕ) (d : Tok → Bool) → d (Punctuation b) ≡ false → Apart (is_mark b) d
mark_apart b d h t e = rw (mark_is b t e) h

pub word_apart : (w : List ℕ) (d : Tok → Bool) → d (Word w) ≡ false → Apart (is_word w) d
word_apart w d h t e = rw (word_is w t e) h

pub local_apart : (d : Tok → Bool) → ((n : List ℕ) → d (Local n) ≡ false) → Apart is_local d
local_apart d h (Local n) e = h n
local_apart d h (Word t) e = absurd cc
local_apart d h (Label t) e = absurd cc
local_apart d h (Global t) e = absurd cc
local_apart d h (Num t) e = absurd cc
local_apart d h (Str t) e = absurd cc
local_apart d h (Punctuation b) e = absurd cc
local_apart d h (Odd b) e = absurd cc

pub global_apart : (d : Tok → Bool) → ((n : List ℕ) → d (Global n) ≡ false) → Apart is_global d
global_apart d h (Global n) e = h n
global_apart d h (Word t) e = absurd cc
global_apart d h (Label t) e = absurd cc
global_apart d h (Local t) e = absurd cc
global_apart d h (Num t) e = absurd cc
global_apart d h (Str t) e = absurd cc
global_apart d h (Punctuation b) e = absurd cc
global_apart d h (Odd b) e = absurd cc

pub label_apart : (d : Tok → Bool) → ((n : List ℕ) → d (Label n) ≡ false) → Apart is_label d
label_apart d h (Label n) e = h n
label_apart d h (Word t) e = absurd cc
label_apart d h (Global t) e = absurd cc
label_apart d h (Local t) e = absurd cc
label_apart d h (Num t) e = absurd cc
label_apart d h (Str t) e = absurd cc
label_apart d h (Punctuation b) e = absurd cc
label_apart d h (Odd b) e = absurd cc

-- A table of words is apart from a test that no word passes.
pub words_apart : {A : Type 0} (f : List ℕ → Option A) (d : Tok → Bool)
    → ((t : List ℕ) → d (Word t) ≡ false)
    → Apart (is_word_of f) d
words_apart f d h (Word t) e = h t
words_apart f d h (Label t) e = absurd cc
words_apart f d h (Global t) e = absurd cc
words_apart f d h (Local t) e = absurd cc
words_apart f d h (Num t) e = absurd cc
words_apart f d h (Str t) e = absurd cc
words_apart f d h (Punctuation b) e = absurd cc
words_apart f d h (Odd b) e = absurd cc

-- A table of words that is apart from another is also apart from the other with one more entry, if it does not have the
-- word of the entry.
pub entry_apart : {A B : Type 0} (f : List ℕ → Option A) (w : List ℕ) (x : B) (g : List ℕ → Option B)
    → is_some (f w) ≡ false → Apart (is_word_of f) (is_word_of g)
    → Apart (is_word_of f) (is_word_of (λ t. cond (bytes_eq t w) (Some x) (g t)))
entry_apart f w x g h p (Word t) e = by_test (bytes_eq t w) refl
  where
    by_test : (b : Bool) → bytes_eq t w ≡ b → is_some (cond b (Some x) (g t)) ≡ false
    by_test true k =
        absurd (let same = (bytes_eq-Decides t w).0 k in let none : is_some (f t) ≡ false = rw same h in cc)
    by_test false k = p (Word t) e
entry_apart f w x g h p (Label t) e = refl
entry_apart f w x g h p (Global t) e = refl
entry_apart f w x g h p (Local t) e = refl
entry_apart f w x g h p (Num t) e = refl
entry_apart f w x g h p (Str t) e = refl
entry_apart f w x g h p (Punctuation b) e = refl
entry_apart f w x g h p (Odd b) e = refl

pub no_entry_apart : {A : Type 0} (B : Type 0) (f : List ℕ → Option A)
    → Apart (is_word_of f) (is_word_of (λ t. let none : Option B = None in none))
no_entry_apart B f (Word t) e = refl
no_entry_apart B f (Label t) e = refl
no_entry_apart B f (Global t) e = refl
no_entry_apart B f (Local t) e = refl
no_entry_apart B f (Num t) e = refl
no_entry_apart B f (Str t) e = refl
no_entry_apart B f (Punctuation b) e = refl
no_entry_apart B f (Odd b) e = refl

-- A table of words is apart from a table of values, if no value is written as a word of the first table.
pub table_apart : {A B : Type 0} (f : List ℕ → Option A) (text : B → List ℕ) (xs : List B)
    → list_all (λ x. not (is_some (f (text x)))) xs ≡ true
    → Apart (is_word_of f) (is_word_of (written_as text xs))
table_apart {A} {B} f text [] h = no_entry_apart B f
table_apart f text (x ∷ xs) h =
    let p = and_parts (not (is_some (f (text x)))) (list_all (λ y. not (is_some (f (text y)))) xs) h in
    entry_apart f (text x) x (written_as text xs) (not-true (is_some (f (text x))) p.0) (table_apart f text xs p.1)

-- ---- where a token is not

pub not_local : (t : Tok) → is_local t ≡ false → a_local t ≡ No
not_local (Local t) e = absurd cc
not_local (Word t) e = refl
not_local (Label t) e = refl
not_local (Global t) e = refl
not_local (Num t) e = refl
not_local (Str t) e = refl
not_local (Punctuation b) e = refl
not_local (Odd b) e = refl

pub not_global : (t : Tok) → is_global t ≡ false → a_global t ≡ No
not_global (Global t) e = absurd cc
not_global (Word t) e = refl
not_global (Label t) e = refl
not_global (Local t) e = refl
not_global (Num t) e = refl
not_global (Str t) e = refl
not_global (Punctuation b) e = refl
not_global (Odd b) e = refl

pub not_label : (t : Tok) → is_label t ≡ false → a_label t ≡ No
not_label (Label t) e = absurd cc
not_label (Word t) e = refl
not_label (Global t) e = refl
not_label (Local t) e = refl
not_label (Num t) e = refl
not_label (Str t) e = refl
not_label (Punctuation b) e = refl
not_label (Odd b) e = refl

none_is_no : {A : Type 0} (o : Option A) → is_some o ≡ false → or_no o ≡ No
none_is_no (Some x) e = absurd cc
none_is_no None e = refl

pub not_word_of : {A : Type 0} (f : List ℕ → Option A) (t : Tok) → is_word_of f t ≡ false
    → a_word_of f t ≡ No
not_word_of f (Word t) e = none_is_no (f t) e
not_word_of f (Label t) e = refl
not_word_of f (Global t) e = refl
not_word_of f (Local t) e = refl
not_word_of f (Num t) e = refl
not_word_of f (Str t) e = refl
not_word_of f (Punctuation b) e = refl
not_word_of f (Odd b) e = refl
