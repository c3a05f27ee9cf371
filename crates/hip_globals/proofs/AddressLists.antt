-- The addresses of globals by their names.
use Rattle.std.proofs.Common.{ℕ, ◌+◌, ◌<◌, ◌≤◌, ◌^◌, ◌≡◌, true, false, List, [], ◌∷◌, ◌++◌, drop, length, get_or, refl, sym, ap, subst, ◌∙◌, arith, append_assoc, append-nil}
use Rattle.std.proofs.lemmas.List.{at_drop_more}
use Rattle.std.proofs.Math.ListN.{drop_of_length-le}
use Rattle.hip_types.specs.Layout.{size_of}
use Rattle.hip_tree.specs.declared.program.GlobalVar.{GlobalVar}
use Rattle.hip_globals.specs.Addresses.{end_of, global_start}
use Rattle.hip_globals.specs.AddressesSeen.{laid_entries, address_entry}
use Rattle.hip_names.specs.Tables.{Gains}
use Rattle.hip_names.specs.Tables.{Entry, TableStandsFor}
use Rattle.hip_globals.proofs.AddressLemmas.{end_of-ge, end_of-next}

-- The table has the first globals, and the others are laid from these ends on.
pub record IsLaid (ns : List (List ℕ)) (vs : List ℕ) (base start persistent volatile : ℕ) (globals : List GlobalVar) (index : ℕ) : Type 0 where
  pub before : List (Entry ℕ)
  pub stands : TableStandsFor ns vs before
  pub all : before ++ laid_entries persistent volatile (drop index globals) ≡ laid_entries base start globals
  pub persistent_end : end_of true persistent (drop index globals) ≡ end_of true base globals
  pub volatile_end : end_of false volatile (drop index globals) ≡ end_of false start globals

next_entries : (p v : ℕ) (gs : List GlobalVar) (i : ℕ) (g : GlobalVar) → i < length gs → g ≡ get_or gs i g → laid_entries p v (drop i gs) ≡ laid_entries p v (g ∷ drop (i + 1) gs)
next_entries p v gs i g within is = at_drop_more (λ ys. laid_entries p v ys) gs i g within ∙ ap (λ (x : GlobalVar). laid_entries p v (x ∷ drop (i + 1) gs)) (sym is)

one_longer : (before rest : List (Entry ℕ)) (e : Entry ℕ) → (before ++ e ∷ []) ++ rest ≡ before ++ (e ∷ rest)
one_longer before rest e = append_assoc before (e ∷ []) rest

module _ {ns ms : List (List ℕ)} {vs us : List ℕ} (base start p v : ℕ) (gs : List GlobalVar) (i : ℕ) (g : GlobalVar) where
  -- One more persistent global is laid.
  pub laid_persistent : IsLaid ns vs base start p v gs i → i < length gs → g ≡ get_or gs i g → g.persistent ≡ true → Gains ns vs ms us (address_entry g.name (global_start p g) ∷ []) → IsLaid ms us base start (global_start p g + size_of g.ty) v gs (i + 1)
  laid_persistent is within here kind gains =
      let e : Entry ℕ = address_entry g.name (global_start p g) in
      let next = global_start p g + size_of g.ty in
      let entries : laid_entries p v (g ∷ drop (i + 1) gs) ≡ e ∷ laid_entries next v (drop (i + 1) gs) = rw kind refl in
      let top : end_of true p (drop i gs) ≡ end_of true next (drop (i + 1) gs) = rw kind at (end_of-next true p gs i g within here) in
      let bottom : end_of false v (drop i gs) ≡ end_of false v (drop (i + 1) gs) = rw kind at (end_of-next false v gs i g within here) in
      record {
        before = is.before ++ e ∷ [];
        stands = gains.gains is.before is.stands;
        all = one_longer is.before (laid_entries next v (drop (i + 1) gs)) e ∙ ap (λ zs. is.before ++ zs) (sym entries ∙ sym (next_entries p v gs i g within here)) ∙ is.all;
        persistent_end = sym top ∙ is.persistent_end;
        volatile_end = sym bottom ∙ is.volatile_end;
      }

  pub laid_volatile : IsLaid ns vs base start p v gs i → i < length gs → g ≡ get_or gs i g → g.persistent ≡ false → Gains ns vs ms us (address_entry g.name (global_start v g) ∷ []) → IsLaid ms us base start p (global_start v g + size_of g.ty) gs (i + 1)
  laid_volatile is within here kind gains =
      let e : Entry ℕ = address_entry g.name (global_start v g) in
      let next = global_start v g + size_of g.ty in
      let entries : laid_entries p v (g ∷ drop (i + 1) gs) ≡ e ∷ laid_entries p next (drop (i + 1) gs) = rw kind refl in
      let top : end_of true p (drop i gs) ≡ end_of true p (drop (i + 1) gs) = rw kind at (end_of-next true p gs i g within here) in
      let bottom : end_of false v (drop i gs) ≡ end_of false next (drop (i + 1) gs) = rw kind at (end_of-next false v gs i g within here) in
      record {
        before = is.before ++ e ∷ [];
        stands = gains.gains is.before is.stands;
        all = one_longer is.before (laid_entries p next (drop (i + 1) gs)) e ∙ ap (λ zs. is.before ++ zs) (sym entries ∙ sym (next_entries p v gs i g within here)) ∙ is.all;
        persistent_end = sym top ∙ is.persistent_end;
        volatile_end = sym bottom ∙ is.volatile_end;
      }

module _ {ns : List (List ℕ)} {vs : List ℕ} (base start p v : ℕ) (gs : List GlobalVar) (i : ℕ) (g : GlobalVar) where
  -- If all persistent globals end below 2 ^ 64, so does this one.
  pub persistent_within : IsLaid ns vs base start p v gs i → i < length gs → g ≡ get_or gs i g → g.persistent ≡ true → end_of true base gs < 2 ^ 64 → global_start p g + size_of g.ty < 2 ^ 64
  persistent_within is within here kind low =
      let next = global_start p g + size_of g.ty in
      let top : end_of true p (drop i gs) ≡ end_of true next (drop (i + 1) gs) = rw kind at (end_of-next true p gs i g within here) in
      omega (arith, is.persistent_end, end_of-ge true next (drop (i + 1) gs))

  pub volatile_within : IsLaid ns vs base start p v gs i → i < length gs → g ≡ get_or gs i g → g.persistent ≡ false → end_of false start gs < 2 ^ 64 → global_start v g + size_of g.ty < 2 ^ 64
  volatile_within is within here kind low =
      let next = global_start v g + size_of g.ty in
      let bottom : end_of false v (drop i gs) ≡ end_of false next (drop (i + 1) gs) = rw kind at (end_of-next false v gs i g within here) in
      omega (arith, is.volatile_end, end_of-ge false next (drop (i + 1) gs))

pub laid_none : {ns : List (List ℕ)} {vs : List ℕ} (base start : ℕ) (gs : List GlobalVar) → TableStandsFor ns vs [] → IsLaid ns vs base start base start gs 0
laid_none base start gs stands = record { before = []; stands = stands; all = refl; persistent_end = refl; volatile_end = refl }

pub laid_all : {ns : List (List ℕ)} {vs : List ℕ} (base start p v : ℕ) (gs : List GlobalVar) (i : ℕ) → IsLaid ns vs base start p v gs i → length gs ≤ i → TableStandsFor ns vs (laid_entries base start gs)
laid_all {ns} {vs} base start p v gs i is past =
    let none : drop i gs ≡ [] = drop_of_length-le gs past in
    let whole : is.before ≡ laid_entries base start gs = sym (append-nil is.before) ∙ rw none at is.all in
    subst (λ (es : List (Entry ℕ)). TableStandsFor ns vs es) whole is.stands
