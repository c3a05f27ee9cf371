-- The reading of a whole text is exact for the grammar.
use Rattle.std.proofs.Common.{◌≡◌, ℕ, true, false, Bool, ◌||◌, List, [], ◌∷◌, Option, Some, None, Ok, Err, inl, inr, refl, sym, ap, subst, ◌∙◌, codes}
use Rattle.hip_tokens.specs.Tokens.{Tok, Word, At}
use Rattle.hip_grammar.specs.Production.{token, repeated, optional}
use Rattle.hip_grammar.specs.Reader.{Outcome, on_ok, next}
use Rattle.hip_grammar.specs.Laws.Exact.{never, joined, Exactly, Accepts, Rejects}
use Rattle.hip_grammar.specs.Laws.Productions.{Exact, IsRead, Apart, apart_sym, apart_joined, joined_apart, begins, token_begins, link, part_link, token_read, gives_exact, next_exact, then_read, maps_exact, either_read, optional_exact, optional_same, repeated_same, skipped_same, repeated_exact, listed_read, widens}
use Rattle.hip_grammar.specs.declared.fault.TextFault.{TextFault}
use Rattle.hip_tree.specs.declared.program.Program.{Program}
use Rattle.hip_grammar.specs.Words.{is_word, is_mark, is_global, is_label, comma, a_global, a_word_of, is_word_of, scalar_word, ret_word, link_word, unnamed_word, linkage_word, fixed_word}
use Rattle.hip_grammar.specs.Grammar.{scalar}
use Rattle.hip_grammar.specs.Bodies.{maybe_align, block}
use Rattle.hip_grammar.specs.Text.{linkages, links, source_filename, target_item, section, only_align, placement, place, global, maybe_unnamed, extern_item, param, blocks, function, item, begins_item, text}
use Rattle.hip_grammar.specs.ReadTexts.{IsRefusedAt}
use Rattle.hip_grammar.specs.Unsupported.{usual}
use Rattle.hip_grammar.specs.Laws.Apart.{mark_apart, word_apart, global_apart, label_apart, words_apart, entry_apart, no_entry_apart, not_global, not_word_of}
use Rattle.hip_grammar.specs.Laws.Exactness.{type_read, const_exact}
use Rattle.hip_grammar.specs.Laws.BodiesExact.{maybe_align_exact, block_read}

-- What may follow a whole item and belong to it: `, section`, `, align`, `unnamed_addr` or `local_unnamed_addr`.
abbrev pub goes_on_item : Tok → Bool
goes_on_item = joined comma (is_word_of unnamed_word)

comma_goes_on : (t : Tok) → comma t ≡ true → goes_on_item t ≡ true
comma_goes_on t e = rw e refl

right_true : (a b : Bool) → b ≡ true → (a || b) ≡ true
right_true true b e = refl
right_true false b e = e

unnamed_goes_on : (t : Tok) → is_word_of unnamed_word t ≡ true → goes_on_item t ≡ true
unnamed_goes_on t e = right_true (comma t) (is_word_of unnamed_word t) e

source_filename_read : IsRead source_filename (is_word (codes "source_filename")) goes_on_item
unfolding source_filename
source_filename_read = begins _ _ _ (λ _. link _ _ _ (λ _. link _ _ _ (λ _. gives_exact _ _)))

target_item_read : IsRead target_item (is_word (codes "target")) goes_on_item
unfolding target_item
target_item_read = begins _ _ _ (λ _. link _ _ _ (λ _. link _ _ _ (λ _. link _ _ _ (λ _. gives_exact _ _))))

-- ---- globals

section_read : IsRead section (is_word (codes "section")) comma
unfolding section
section_read = begins _ _ _ (λ _. link _ _ _ (λ _. maps_exact maybe_align _ comma maybe_align_exact))

only_align_read : IsRead only_align (is_word (codes "align")) comma
unfolding only_align
only_align_read = begins _ _ _ (λ _. link _ _ _ (λ n. gives_exact _ _))

placement_read : IsRead placement comma comma
unfolding placement
placement_read =
    begins _ _ _ (λ _. (either_read section only_align _ _ comma section_read only_align_read
    (word_apart (codes "section") (is_word (codes "align")) refl)).exact)

place_exact : Exact place (joined comma comma)
unfolding place
place_exact =
    maps_exact (optional comma placement) _ (joined comma comma) (optional_exact placement comma comma placement_read)

linkage_read : (f : List ℕ → Option (Unit {0})) → IsRead (token (a_word_of f)) (is_word_of f) never
linkage_read f = token_read (a_word_of f) (is_word_of f) never (not_word_of f)

fixed_apart : Apart (is_word_of linkage_word) (is_word_of fixed_word)
fixed_apart =
    entry_apart linkage_word (codes "global") _ _ refl
    (entry_apart linkage_word (codes "constant") _ _ refl (no_entry_apart Bool linkage_word))

global_read : IsRead global is_global goes_on_item
unfolding global
global_read =
    widens global is_global (joined comma comma) goes_on_item twice
    (token_begins a_global is_global _ _ not_global (λ name. link _ _ _ (λ _.
    next_exact linkages _ (is_word_of linkage_word) (is_word_of fixed_word) (joined comma comma)
    (skipped_same _ _ (linkage_read linkage_word))
    (λ _. token_begins (a_word_of fixed_word) _ _ _ (not_word_of fixed_word)
    (λ fixed. part_link _ _ _ (type_read 32).exact
    (λ ty. part_link _ _ _ (const_exact 32 ty) (λ init. maps_exact place _ (joined comma comma) place_exact))))
    fixed_apart)))
  where
    twice : (t : Tok) → joined comma comma t ≡ true → goes_on_item t ≡ true
    twice t e = comma_goes_on t (same (comma t) e)
      where
        same : (b : Bool) → (b || b) ≡ true → b ≡ true
        same true h = refl
        same false h = h

-- ---- externs and functions

maybe_unnamed_exact : Exact maybe_unnamed (is_word_of unnamed_word)
maybe_unnamed_exact =
    optional_same (token (a_word_of unnamed_word)) (is_word_of unnamed_word) (linkage_read unnamed_word)

pub scalar_read : IsRead scalar (is_word_of scalar_word) never
scalar_read = token_read (a_word_of scalar_word) _ never (not_word_of scalar_word)

extern_read : IsRead extern_item (is_word (codes "declare")) goes_on_item
unfolding extern_item
extern_read =
    widens extern_item _ (is_word_of unnamed_word) goes_on_item unnamed_goes_on
    (begins _ _ _ (λ _. link _ _ _ (λ result. link _ _ _ (λ name. link _ _ _ (λ _.
    part_link _ _ _ (listed_read scalar comma (is_mark 41) (is_word_of scalar_word) scalar_read
    (mark_apart 44 (is_mark 41) refl) (mark_apart 41 (is_word_of scalar_word) refl)).exact
    (λ params. maps_exact maybe_unnamed _ (is_word_of unnamed_word) maybe_unnamed_exact))))))

pub param_read : IsRead param (is_word_of scalar_word) never
unfolding param
param_read =
    token_begins (a_word_of scalar_word) _ _ _ (not_word_of scalar_word) (λ s. link _ _ _ (λ name. gives_exact _ _))

blocks_read : IsRead blocks is_label is_label
unfolding blocks
blocks_read =
    then_read block _ is_label is_label block_read
    (λ first. maps_exact (repeated is_label block) _ is_label (repeated_same block is_label block_read))

link_apart : Apart (is_word_of link_word) (is_word_of ret_word)
link_apart = apart_sym (is_word_of ret_word) (is_word_of link_word)
    (entry_apart ret_word (codes "private") _ _ refl
    (entry_apart ret_word (codes "internal") _ _ refl
    (entry_apart ret_word (codes "dso_local") _ _ refl (no_entry_apart (Unit {0}) ret_word))))

function_read : IsRead function (is_word (codes "define")) goes_on_item
unfolding function
function_read =
    begins _ _ _ (λ _. next_exact links _ (is_word_of link_word) (is_word_of ret_word) goes_on_item
    (skipped_same _ _ (linkage_read link_word))
    (λ _. token_begins (a_word_of ret_word) (is_word_of ret_word) _ _ (not_word_of ret_word)
    (λ result. link _ _ _ (λ name. link _ _ _ (λ _.
    part_link _ _ _ (listed_read param comma (is_mark 41) (is_word_of scalar_word) param_read
    (mark_apart 44 (is_mark 41) refl) (mark_apart 41 (is_word_of scalar_word) refl)).exact
    (λ params. next_exact maybe_unnamed _ (is_word_of unnamed_word) (is_mark 123) goes_on_item maybe_unnamed_exact
    (λ _. begins _ _ _ (λ _. next_exact blocks _ is_label (is_mark 125) goes_on_item blocks_read.exact
    (λ body. begins _ _ _ (λ _. gives_exact _ _)) (label_apart (is_mark 125) (λ n. refl))))
    (words_apart unnamed_word (is_mark 123) (λ t. refl)))))))
    link_apart)

-- ---- texts

pub item_read : IsRead item begins_item goes_on_item
unfolding item
item_read =
    either_read global _ _ _ goes_on_item global_read
    (either_read extern_item _ _ _ goes_on_item extern_read (either_read function _ _ _ goes_on_item function_read
    (either_read source_filename target_item _ _ goes_on_item source_filename_read target_item_read
    (word_apart (codes "source_filename") _ refl)) (word_apart (codes "define") _ refl))
    (word_apart (codes "declare") _ refl)) (global_apart _ (λ n. refl))

item_apart : Apart goes_on_item begins_item
item_apart = joined_apart comma (is_word_of unnamed_word) begins_item (mark_apart 44 begins_item refl) unnamed_apart
  where
    unnamed_apart : Apart (is_word_of unnamed_word) begins_item
    unnamed_apart =
        apart_joined (is_word_of unnamed_word) is_global _ (words_apart unnamed_word is_global (λ t. refl))
        (from (codes "declare") _ refl (from (codes "define") _ refl (from (codes "source_filename") _ refl
        (apart_sym (is_word (codes "target")) (is_word_of unnamed_word)
        (word_apart (codes "target") (is_word_of unnamed_word) refl)))))
      where
        from : (w : List ℕ) (d : Tok → Bool) → is_word_of unnamed_word (Word w) ≡ false
            → Apart (is_word_of unnamed_word) d → Apart (is_word_of unnamed_word) (joined (is_word w) d)
        from w d h p =
            apart_joined (is_word_of unnamed_word) (is_word w) d
            (apart_sym (is_word w) (is_word_of unnamed_word) (word_apart w (is_word_of unnamed_word) h)) p

-- What may follow the items of a text and belong to it: what begins one more item, or continues the last one.
abbrev pub goes_on_text : Tok → Bool
goes_on_text = joined begins_item goes_on_item

pub text_exact : Exact text goes_on_text
unfolding text
text_exact =
    maps_exact (repeated begins_item item) _ goes_on_text
    (repeated_exact item begins_item goes_on_item item_read item_apart)

-- ---- whole texts

-- The whole text as it is read: if a token is left, it is refused.
abbrev pub ended : Program → List At → Outcome TextFault Program
ended program [] = Ok (program, [])
ended program (t ∷ ts) = Err (None, t ∷ ts)

-- The program that all of these tokens read as, or the refused place, perhaps with a reason of that place.
unfoldable pub whole_text : List At → Outcome TextFault Program
whole_text ts = on_ok (text.read ts) ended

-- The reason of the place if it has one, else the usual fault.
abbrev pub fault_at : Option TextFault → List At → TextFault
fault_at (Some why) rest = why
fault_at None rest = usual rest

-- What an outcome says: the tokens derive the program, with none left, or are refused at its place for its fault.
abbrev Says : List At → Outcome TextFault Program → Type 0
Says ts (Ok x) = text.rule.Derives ts x.0 [] × (x.1 ≡ [])
Says ts (Err e) = IsRefusedAt ts (fault_at e.0 e.1) e.1

at_end : (ts : List At) (program : Program) (rest : List At) → Accepts text.rule goes_on_text ts program rest
    → Says ts (ended program rest)
at_end ts program [] r = (r.derives, refl)
at_end ts program (t ∷ rest) r = record {
  here = text_exact.later ts (t ∷ rest) (text_exact.whole ts program (t ∷ rest) r.derives);
  viable = λ m a b. text_exact.closed ts (t ∷ rest) m (text_exact.whole ts program (t ∷ rest) r.derives) a b;
  no_further = r.last;
  own = λ w s. absurd (r.unrefused w (t ∷ rest) s);
  other = λ h. refl;
}

stopped : (ts : List At) (why : Option TextFault) (rest : List At) → Rejects text.rule goes_on_text ts why rest
    → IsRefusedAt ts (fault_at why rest) rest
stopped ts (Some v) rest r = record {
  here = text_exact.later ts rest r.front;
  viable = λ m a b. text_exact.closed ts rest m r.front a b;
  no_further = r.last;
  own = λ w s. let k = (r.refused w rest s).1 in cc;
  other = λ h. absurd (h v (r.reason v refl));
}
stopped ts None rest r = record {
  here = text_exact.later ts rest r.front;
  viable = λ m a b. text_exact.closed ts rest m r.front a b;
  no_further = r.last;
  own = λ w s. absurd (let k = (r.refused w rest s).1 in cc);
  other = λ h. refl;
}

says : (ts : List At) (o : Outcome TextFault Program) → Exactly text.rule goes_on_text ts o → Says ts (on_ok o ended)
says ts (Ok x) r = at_end ts x.0 x.1 r
says ts (Err e) r = stopped ts e.0 e.1 r

whole_says : (ts : List At) → Says ts (whole_text ts)
unfolding whole_text
whole_says ts = says ts (text.read ts) (text_exact.reads ts)

pub read_is : (ts : List At) (program : Program) (rest : List At) → whole_text ts ≡ Ok (program, rest)
    → text.rule.Derives ts program []
read_is ts program rest e = let s : Says ts (Ok (program, rest)) = subst (Says ts) e (whole_says ts) in s.0

pub refused_is : (ts : List At) (why : Option TextFault) (rest : List At) → whole_text ts ≡ Err (why, rest)
    → IsRefusedAt ts (fault_at why rest) rest
refused_is ts why rest e = subst (Says ts) e (whole_says ts)

ended_is : (program found : Program) (rest : List At) → program ≡ found → [] ≡ rest
    → ended found rest ≡ Ok (program, [])
ended_is program found [] e k = ap (λ (p : Program). Ok (p, [])) (sym e)
ended_is program found (t ∷ ts) e k = absurd cc

none_next : {X : Type 0} → next goes_on_text [] ≡ true → X
none_next e = absurd cc

taken : (ts : List At) (program : Program) (o : Outcome TextFault Program) → Exactly text.rule goes_on_text ts o
    → text.rule.Derives ts program [] → on_ok o ended ≡ Ok (program, [])
taken ts program (Ok x) r t =
    elim (r.only program [] t) [ inl e ↦ ended_is program x.0 x.1 e.0 e.1 | inr g ↦ none_next g ]
taken ts program (Err e) r t = none_next (r.only program [] t)

pub derived_is : (ts : List At) (program : Program) → text.rule.Derives ts program []
    → whole_text ts ≡ Ok (program, [])
unfolding whole_text
derived_is ts program t = taken ts program (text.read ts) (text_exact.reads ts) t

ok_is : (x y : Program × List At) → ◌≡◌ {A = Outcome TextFault Program} (Ok x) (Ok y) → x ≡ y
ok_is x y e = cc

-- The tokens derive no program but the one that is read.
pub only_is : (ts : List At) (found program : Program) (rest : List At) → whole_text ts ≡ Ok (found, rest)
    → text.rule.Derives ts program [] → found ≡ program
only_is ts found program rest e t =
    let q : ◌≡◌ {A = Outcome TextFault Program} (Ok (found, rest)) (Ok (program, [])) =
    sym e ∙ derived_is ts program t in ap (λ (p : Program × List At). p.0) (ok_is (found, rest) (program, []) q)

pub never_derived : (ts : List At) (why : Option TextFault) (rest : List At) (program : Program)
    → whole_text ts ≡ Err (why, rest) → text.rule.Derives ts program [] → ⊥
never_derived ts why rest program e t =
    let q : ◌≡◌ {A = Outcome TextFault Program} (Err (why, rest)) (Ok (program, [])) = sym e
    ∙ derived_is ts program t in cc

-- The tokens of a text derive one program at most.
pub one_program : (ts : List At) (p q : Program) → text.rule.Derives ts p [] → text.rule.Derives ts q [] → p ≡ q
one_program ts p q a b = only_is ts p q [] (derived_is ts p a) b
