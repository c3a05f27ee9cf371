-- Bytes after a place, and numbers as bytes.
use Rattle.std.proofs.Common.{ℕ, zero, suc, ◌+◌, ◌-◌, ◌%◌, ◌/◌, ◌<◌, ◌≤◌, ◌≡◌, List, [], ◌∷◌, ◌++◌, map, take, drop, length, get_or, replicate, refl, sym, ap, ◌∙◌, arith, append_assoc, append-nil, length-drop, length-append}
use Rattle.std.specs.Int.{next_multiple_of}
use Rattle.std.proofs.lemmas.List.{take_all, take-append-drop, drop-take, map-append, get_or_append_left, get_or-append-add}
use Rattle.std.proofs.lemmas.Grind.{common_steps}
use Rattle.std.proofs.Math.Seq.{take-append_seam, drop-append_seam}
use Rattle.hip_types.specs.Bytes.{bytes_of}
use Rattle.hip_types.specs.Layout.{Fits}
use Rattle.hip_types.specs.declared.ty.Ty.{Ty}
use Rattle.hip_globals.specs.Constants.{joined}
use Rattle.hip_globals.specs.InitialSeen.{AllFit}
use Rattle.hip_globals.specs.Values.{ItemBytes, aligned, sized, placed}
use Rattle.hip_globals.proofs.Lists.{joined-push, take_one}

-- A number's lowest byte, and the bytes of the rest.
pub byte_more : (before after : List ℕ) (count i rest : ℕ) → i < count → before ++ bytes_of (count - i) rest ≡ after → (before ++ rest % 256 ∷ []) ++ bytes_of (count - (i + 1)) (rest / 256) ≡ after
byte_more before after count i rest low e =
    let n : count - i ≡ suc (count - (i + 1)) = omega arith in
    append_assoc before (rest % 256 ∷ []) (bytes_of (count - (i + 1)) (rest / 256)) ∙ (rw n at e)

take_sum : (n m : ℕ) (xs : List ℕ) → take (n + m) xs ≡ take n xs ++ take m (drop n xs)
take_sum n m xs =
    let front : take n (take (n + m) xs) ≡ take n xs = grind (arith, common_steps) in
    sym (take-append-drop n (take (n + m) xs)) ∙ ap (λ (zs : List ℕ). zs ++ drop n (take (n + m) xs)) front ∙ ap (λ (zs : List ℕ). take n xs ++ zs) (drop-take n m xs)

pub cut_past : (bytes : List ℕ) (start size : ℕ) → start ≤ length bytes → size ≤ length bytes - start → take (start + size) bytes ≡ take start bytes ++ sized size (drop start bytes)
cut_past bytes start size within short =
    let none : size - length (drop start bytes) ≡ 0 = omega (arith, length-drop start bytes) in
    rw none (take_sum start size bytes ∙ ap (λ (zs : List ℕ). take start bytes ++ zs) (sym (append-nil (take size (drop start bytes)))))

pub fill_past : (bytes : List ℕ) (start size : ℕ) → start ≤ length bytes → length bytes - start ≤ size → bytes ++ replicate (size - (length bytes - start)) 0 ≡ take start bytes ++ sized size (drop start bytes)
fill_past bytes start size within long =
    let len : length (drop start bytes) ≡ length bytes - start = length-drop start bytes in
    let whole : take size (drop start bytes) ≡ drop start bytes = take_all size (drop start bytes) (omega (arith, len)) in
    rw (whole, len)
    (ap (λ (zs : List ℕ). zs ++ replicate (size - (length bytes - start)) 0) (sym (take-append-drop start bytes)) ∙ append_assoc (take start bytes) (drop start bytes) (replicate (size - (length bytes - start)) 0))

pub align_past : (bytes : List ℕ) (start address align at : ℕ) → start ≤ length bytes → at ≡ address + (length bytes - start) → bytes ++ replicate (next_multiple_of at align - at) 0 ≡ take start bytes ++ aligned address align (drop start bytes)
align_past bytes start address align at within e =
    let len : address + length (drop start bytes) ≡ at = omega (arith, length-drop start bytes) in
    rw len
    (ap (λ (zs : List ℕ). zs ++ replicate (next_multiple_of at align - at) 0) (sym (take-append-drop start bytes)) ∙ append_assoc (take start bytes) (drop start bytes) (replicate (next_multiple_of at align - at) 0))

-- ---- types that fit

pub first_fits : (t : Ty) (ts : List Ty) → AllFit (t ∷ ts) → Fits t
first_fits t ts all = all.fit 0 t (omega arith)

pub others_fit : (t : Ty) (ts : List Ty) → AllFit (t ∷ ts) → AllFit ts
others_fit t ts all = record { fit = λ k d low. all.fit (suc k) d (omega arith) }

left_fit : (xs ys : List Ty) → AllFit (xs ++ ys) → AllFit xs
left_fit xs ys all = record { fit = λ k d low. rw (get_or_append_left xs ys d k low) at (all.fit k d (omega (arith, length-append xs ys))) }

right_fit : (xs ys : List Ty) → AllFit (xs ++ ys) → AllFit ys
right_fit xs ys all = record { fit = λ k d low. rw (get_or-append-add xs ys k d) at (all.fit (length xs + k) d (omega (arith, length-append xs ys))) }

pub item_fits : {A : Type 0} (types : A → List Ty) (xs : List A) (i : ℕ) (d : A) → AllFit (joined (map types xs)) → i < length xs → AllFit (types (get_or xs i d))
item_fits types [] i d all low = absurd (omega arith)
item_fits types (x ∷ xs) zero d all low = left_fit (types x) (joined (map types xs)) all
item_fits types (x ∷ xs) (suc i) d all low = item_fits types xs i d (right_fit (types x) (joined (map types xs)) all) (omega arith)

-- ---- pieces one after another

pub placed-push : (so_far : List ℕ) (ps : List ItemBytes) (p : ItemBytes) → placed so_far (ps ++ p ∷ []) ≡ aligned 0 p.align (placed so_far ps) ++ p.bytes
placed-push so_far [] p = refl
placed-push so_far (q ∷ qs) p = placed-push (aligned 0 q.align so_far ++ q.bytes) qs p

-- ---- what is after a place

take_seam : (old more : List ℕ) (start : ℕ) → start ≡ length old → take start (old ++ more) ≡ old
take_seam old more start e = rw e (take-append_seam old more)

drop_seam : (old more : List ℕ) (start : ℕ) → start ≡ length old → drop start (old ++ more) ≡ more
drop_seam old more start e = rw e (drop-append_seam old more)

pub sized_after : (old more bytes : List ℕ) (start size wanted : ℕ) → bytes ≡ old ++ more → start ≡ length old → size ≡ wanted → take start bytes ++ sized size (drop start bytes) ≡ old ++ sized wanted more
sized_after old more bytes start size wanted is e same =
    ap (λ (bs : List ℕ). take start bs ++ sized size (drop start bs)) is
    ∙ ap (λ (bs : List ℕ). bs ++ sized size (drop start (old ++ more))) (take_seam old more start e)
    ∙ ap (λ (bs : List ℕ). old ++ sized size bs) (drop_seam old more start e) ∙ ap (λ (n : ℕ). old ++ sized n more) same

pub aligned_more : (old more bytes new : List ℕ) (start address align wanted : ℕ) → bytes ≡ old ++ more → start ≡ length old → align ≡ wanted → new ≡ take start bytes ++ aligned address align (drop start bytes) → new ≡ old ++ aligned address wanted more
aligned_more old more bytes new start address align wanted is e same h =
    h
    ∙ ap (λ (bs : List ℕ). take start bs ++ aligned address align (drop start bs)) is
    ∙ ap (λ (bs : List ℕ). bs ++ aligned address align (drop start (old ++ more))) (take_seam old more start e)
    ∙ ap (λ (bs : List ℕ). old ++ aligned address align bs) (drop_seam old more start e) ∙ ap (λ (n : ℕ). old ++ aligned address n more) same

module _ {A : Type 0} (piece : A → ItemBytes) (old : List ℕ) (items : List A) (i : ℕ) (x : A) where
  pieces_more : i < length items → x ≡ get_or items i x → map piece (take (i + 1) items) ≡ map piece (take i items) ++ piece x ∷ []
  pieces_more within is = ap (map piece) (take_one items i x within is) ∙ map-append piece (take i items) (x ∷ [])

  pub fields_more : (bytes between new : List ℕ) (start align : ℕ) → i < length items → x ≡ get_or items i x → start ≡ length old → align ≡ (piece x).align → bytes ≡ old ++ placed [] (map piece (take i items))
      → between ≡ take start bytes ++ aligned 0 align (drop start bytes) → new ≡ between ++ (piece x).bytes → new ≡ old ++ placed [] (map piece (take (i + 1) items))
  fields_more bytes between new start align within is at same so_far aligns adds =
      let so = placed [] (map piece (take i items)) in
      let middle : between ≡ old ++ aligned 0 (piece x).align so = aligned_more old so bytes between start 0 align (piece x).align so_far at same aligns in
      adds ∙ ap (λ (bs : List ℕ). bs ++ (piece x).bytes) middle ∙ append_assoc old (aligned 0 (piece x).align so) (piece x).bytes
      ∙ ap (λ (bs : List ℕ). old ++ bs) (sym (placed-push [] (map piece (take i items)) (piece x)) ∙ ap (placed []) (sym (pieces_more within is)))

  pub items_more : (bytes new : List ℕ) → i < length items → x ≡ get_or items i x → bytes ≡ old ++ joined (map (λ p. p.bytes) (map piece (take i items))) → new ≡ bytes ++ (piece x).bytes → new ≡ old ++ joined (map (λ p. p.bytes) (map piece (take (i + 1) items)))
  items_more bytes new within is so_far adds =
      let parts = map (λ p. p.bytes) (map piece (take i items)) in
      let more : map (λ p. p.bytes) (map piece (take (i + 1) items)) ≡ parts ++ (piece x).bytes ∷ [] = ap (map (λ p. p.bytes)) (pieces_more within is) ∙ map-append (λ p. p.bytes) (map piece (take i items)) (piece x ∷ []) in
      adds ∙ ap (λ (bs : List ℕ). bs ++ (piece x).bytes) so_far ∙ append_assoc old (joined parts) (piece x).bytes ∙ ap (λ (bs : List ℕ). old ++ bs) (sym (joined-push parts (piece x).bytes) ∙ ap joined (sym more))

pub aligned_whole : (start align : ℕ) (bytes : List ℕ) → take 0 bytes ++ aligned start align (drop 0 bytes) ≡ aligned start align bytes
aligned_whole start align [] = refl
aligned_whole start align (b ∷ bs) = refl
