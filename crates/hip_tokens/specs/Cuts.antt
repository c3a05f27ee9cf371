-- A cut that begins inside a token or a comment goes on after it.
use Rattle.std.proofs.Common.{◌≡◌, ℕ, zero, suc, true, false, eqb, List, [], ◌∷◌, drop, refl, sym, ap, ◌∙◌}
use Rattle.std.specs.List.{prefix_len}
use Rattle.hip_tokens.specs.Bytes.{is_blank, in_comment}
use Rattle.hip_tokens.specs.Tokens.{At, Tok, SizedToken, piece, piece_at, cut, line_after}

pub cut_inside : (line k : ℕ) (bs : List ℕ) → cut line k bs ≡ cut line 0 (drop k bs)
unfolding cut
cut_inside line zero bs = refl
cut_inside line (suc k) [] = refl
cut_inside line (suc k) (b ∷ bs) = cut_inside line k bs

-- One step of the cut, by the first byte.
pub cut_blank : (line b : ℕ) (bs : List ℕ) → is_blank b ≡ true
    → cut line 0 (b ∷ bs) ≡ cut (line_after line b) 0 bs
unfolding cut
cut_blank line b bs h = rw h refl

pub cut_comment : (line : ℕ) (bs : List ℕ)
    → cut line 0 (59 ∷ bs) ≡ cut line 0 (drop (prefix_len in_comment bs) bs)
unfolding cut
cut_comment line bs = cut_inside line (prefix_len in_comment bs) bs

pub cut_token : (line b : ℕ) (bs : List ℕ) (t : Tok) (n : ℕ) → is_blank b ≡ false → eqb b 59 ≡ false
    → piece t n ≡ piece_at b bs → cut line 0 (b ∷ bs) ≡ (record { tok = t; line = line })
    ∷ cut line 0 (drop n bs)
unfolding cut
cut_token line b bs t n blank comment e =
    let step : cut line 0 (b ∷ bs) ≡ (record { tok = (piece_at b bs).tok; line = line })
    ∷ cut line (piece_at b bs).more bs = rw (blank, comment) refl in
    let token : (piece_at b bs).tok ≡ t = ap (λ (p : SizedToken). p.tok) (sym e) in
    let len : (piece_at b bs).more ≡ n = ap (λ (p : SizedToken). p.more) (sym e) in
    step ∙ rw (token, len) (ap (λ (ts : List At). (record { tok = t; line = line }) ∷ ts) (cut_inside line n bs))

pub after_comment : (line b : ℕ) (all rest after : List ℕ) (n : ℕ) → all ≡ b ∷ rest → b ≡ 59
    → n ≡ prefix_len in_comment rest → after ≡ drop n rest → cut line 0 after ≡ cut line 0 all
after_comment line b all rest after n whole semi len back = rw (whole, semi, back, len) (sym (cut_comment line rest))

pub at_token : (line b : ℕ) (all rest after : List ℕ) (t : Tok) (n : ℕ) → all ≡ b ∷ rest
    → is_blank b ≡ false
    → eqb b 59 ≡ false → piece t n ≡ piece_at b rest → after ≡ drop n rest
    → cut line 0 all ≡ (record { tok = t; line = line }) ∷ cut line 0 after
at_token line b all rest after t n whole blank comment e back =
    rw (whole, back) (cut_token line b rest t n blank comment e)
