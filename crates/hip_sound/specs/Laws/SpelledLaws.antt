-- What holds of the globals of a program that is spelled.
use Rattle.std.specs.Prelude.{ℕ, ◌%◌, ◌==◌, ◌≡◌, ◌&&◌, ◌⊎◌, not, max, Bool, true, List, [], ◌∷◌, Option, Some, None}
use Rattle.std.specs.List.{list_all}
use Rattle.std.proofs.Common.{refl, ap, ◌∙◌, inl, inr, arith}
use Rattle.std.proofs.lemmas.Bool.{eqb-true, and_parts}
use Rattle.hip_tokens.specs.Longest.{is_name}
use Rattle.hip_types.specs.Layout.{align_of}
use Rattle.hip_types.specs.Laws.LayoutLaws.{IsAlignment, align_of-alignment}
use Rattle.hip_types.specs.declared.limits.TheConstants.{LARGEST_ALIGNMENT}
use Rattle.hip_tree.specs.declared.program.GlobalVar.{GlobalVar}
use Rattle.hip_tree.specs.declared.program.Program.{Program}
use Rattle.hip_grammar.specs.ReadTexts.{IsSpelled}
use Rattle.hip_grammar.specs.Spelling.{spelled_align, spelled_type, spelled_const, spelled_global}
use Rattle.hip_grammar.specs.Laws.SpellingExact.{spelled_exact}
use Rattle.hip_globals.specs.Addresses.{AllDivide, global_align}

-- ---- alignments divide a page

divides_page : (a : ℕ) → IsAlignment a → LARGEST_ALIGNMENT % a ≡ 0
divides_page a h = grind (arith, h.is)

written_divides : (n : ℕ) → (not (n == 0) && (LARGEST_ALIGNMENT % n == 0)) ≡ true → LARGEST_ALIGNMENT % n ≡ 0
written_divides n e = eqb-true (LARGEST_ALIGNMENT % n) 0 (and_parts (not (n == 0)) (LARGEST_ALIGNMENT % n == 0) e).1

one_of : (m n : ℕ) → (max m n ≡ m) ⊎ (max m n ≡ n)
one_of m n = grind arith

greater_divides : (m n : ℕ) → LARGEST_ALIGNMENT % m ≡ 0 → LARGEST_ALIGNMENT % n ≡ 0
    → LARGEST_ALIGNMENT % max m n ≡ 0
greater_divides m n p q = go (one_of m n)
  where
    go : (max m n ≡ m) ⊎ (max m n ≡ n) → LARGEST_ALIGNMENT % max m n ≡ 0
    go (inl e) = ap (λ k. LARGEST_ALIGNMENT % k) e ∙ p
    go (inr e) = ap (λ k. LARGEST_ALIGNMENT % k) e ∙ q

align_divides : (g : GlobalVar) (written : Option ℕ) → g.align ≡ written → spelled_align written ≡ true
    → LARGEST_ALIGNMENT % global_align g ≡ 0
align_divides g None is e = rw is (divides_page (align_of g.ty) (align_of-alignment g.ty))
align_divides g (Some n) is e =
    rw is (greater_divides n (align_of g.ty) (written_divides n e)
    (divides_page (align_of g.ty) (align_of-alignment g.ty)))

all_divide : (gs : List GlobalVar) → list_all spelled_global gs ≡ true → AllDivide gs
all_divide [] e = tt
all_divide (g ∷ gs) e =
    let both = and_parts (spelled_global g) (list_all spelled_global gs) e in
    let align =
    (and_parts (spelled_const g.ty g.init) (spelled_align g.align)
    (and_parts (spelled_type g.ty) _ (and_parts (is_name g.name) _ both.0).1).1).1 in
    (align_divides g g.align refl align, all_divide gs both.1)

pub spelled-divide : (P : Program) → IsSpelled P → AllDivide P.globals
spelled-divide P s = all_divide P.globals (and_parts (list_all spelled_global P.globals) _ ((spelled_exact P).1 s)).0
