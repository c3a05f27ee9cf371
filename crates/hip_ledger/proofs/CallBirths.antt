-- The births of calls, from the calls.
use Rattle.std.proofs.Common.{◌≡◌, ℕ, ◌-◌, List, [], ◌∷◌, ◌++◌, length, length-append, take, drop, slice_get, refl, ap, ◌∙◌, arith}
use Rattle.std.specs.Prelude.{option_map}
use Rattle.hip_lines.specs.Laws.LooseLaws.{get-append_end}
use Rattle.hip_runs.specs.State.{Level}
use Rattle.hip_ledger.specs.CallPaths.{births_of}

pub length_births : (ls : List Level) → length (births_of ls) ≡ length ls
length_births [] = refl
length_births (l ∷ ls) = let r = length_births ls in let q = length-append (births_of ls) (l.birth ∷ []) in omega (arith, r, q)

last_place : (bs : List ℕ) (b : ℕ) → length (bs ++ b ∷ []) - 1 ≡ length bs
last_place bs b = let h = length-append bs (b ∷ []) in omega (arith, h)

-- The birth of the innermost call is the last one.
pub last_birth : (ls : List Level) → slice_get (births_of ls) (length (births_of ls) - 1) ≡ option_map (λ l. l.birth) (slice_get ls 0)
last_birth [] = refl
last_birth (l ∷ ls) = ap (slice_get (births_of ls ++ l.birth ∷ [])) (last_place (births_of ls) l.birth) ∙ get-append_end (births_of ls) l.birth

front : (bs : List ℕ) (b : ℕ) → take (length bs) (bs ++ b ∷ []) ≡ bs
front [] b = refl
front (x ∷ xs) b = ap (λ (ys : List ℕ). x ∷ ys) (front xs b)

-- The births without the last one are those of the calls without the innermost one.
pub births_drop : (ls : List Level) → take (length (births_of ls) - 1) (births_of ls) ≡ births_of (drop 1 ls)
births_drop [] = refl
births_drop (l ∷ ls) = ap (λ k. take k (births_of ls ++ l.birth ∷ [])) (last_place (births_of ls) l.birth) ∙ front (births_of ls) l.birth
