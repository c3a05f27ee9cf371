-- Each state of a run keeps the history of its parts.
use Rattle.std.proofs.Common.{◌≡◌, ◌⊎◌, inl, inr, ℕ, zero, suc, ◌+◌, ◌-◌, ◌<◌, ◌≤◌, Bool, true, false, cond, ◌||◌, nat_eq, List, [], ◌∷◌, ◌++◌, map, length, Option, Some, None, slice_get, refl, sym, ap, ◌∙◌, subst, arith, append_assoc}
use Rattle.std.specs.Prelude.{option_and_then}
use Rattle.std.proofs.lemmas.Bool.Decides.{nat_tests}
use Rattle.hip_tree.specs.Sites.{instr_of}
use Rattle.hip_tree.specs.declared.block.Block.{Block}
use Rattle.hip_tree.specs.declared.block.End.{End}
use Rattle.hip_tree.specs.declared.instr.Instr.{Instr}
use Rattle.hip_tree.specs.declared.program.Function.{Function}
use Rattle.hip_tree.specs.declared.program.Program.{Program}
use Rattle.hip_tree.specs.declared.site.Site.{Site}
use Rattle.hip_lines.specs.Laws.LineLaws.{ordered-fenced_line, ordered-flushed_line, ordered-map_line, ordered-change_from, ordered-stored, ordered-at, ordered-fresh_lines}
use Rattle.hip_lines.specs.Line.{Line, AreOrdered, map_line, with_part, has_bytes, change_from, change_range, stored, fresh_lines}
use Rattle.hip_runs.specs.declared.event.Ending.{Ending}
use Rattle.hip_runs.specs.declared.event.Ending.TheVariants.{Cut}
use Rattle.hip_runs.specs.declared.event.Event.{Event}
use Rattle.hip_runs.specs.declared.input.Input.{Input}
use Rattle.hip_runs.specs.Actions.{Action, Traps, Assigns, Allocates, Stores, Flushes, Persists, Fences, Asserts, Prints, Reads, Calls, Jumps, Returns, Deed, in_region, jump, jump_to, end_action, deed_of}
use Rattle.hip_runs.specs.StoredParts.History.{AreDescending, IsParted, HasHistory}
use Rattle.hip_runs.specs.StoredParts.Parts.{In, PartOf}
use Rattle.hip_runs.specs.Laws.Members.{get_drop}
use Rattle.hip_runs.specs.Laws.PartLaws.{in-append, append-left, part-fenced, part-flushed_from, part-stored, IsFlushedFrom}
use Rattle.hip_runs.specs.StoredParts.Persistence.{part_of_store, stored_lines, earlier, noted_flush, noted_fence, flush_line, fence_line, flushes_lines, flushed_lines, fenced_lines}
use Rattle.hip_runs.specs.Places.{blocks_in, body_of, body_at, code_at, end_at}
use Rattle.hip_runs.specs.Found.Reports.{is_open}
use Rattle.hip_runs.specs.State.{Level, Flush, StorePart, Frame, World, Counts, State, level_list, levels_of, site_of}
use Rattle.hip_runs.specs.Step.{stop, with_turn, start, is_cut, leave, perform, carry_out, deed_at, on_frames, on_ending, step, event_at, counted, run}
use Rattle.hip_tree.specs.declared.block.End.TheVariants as ends

-- There is an instruction at the site.
abbrev Stands : Program → Site → Type 0
Stands P s = (i : Instr) × (instr_of P s ≡ Some i)

-- What is true in each state of a run, by the calls that have not returned, the cache lines, and the number of steps
-- that were taken.
record HistoryIsKept (P : Program) (up : List Level) (ls : List (Line StorePart)) (n : ℕ) : Type 0 where
  made : (x : StorePart) → PartOf ls x → x.step < n
  flush_made : (x : StorePart) (f : Flush) → PartOf ls x → x.first_flush ≡ Some f → f.step < n
  site : (x y : StorePart) → PartOf ls x → PartOf ls y → x.step ≡ y.step → x.site ≡ y.site
  levels : (x y : StorePart) → PartOf ls x → PartOf ls y → x.step ≡ y.step → x.levels ≡ y.levels
  entry : (x y : StorePart) → PartOf ls x → PartOf ls y → x.step ≡ y.step → x.entry ≡ y.entry
  fenced : (x y : StorePart) → PartOf ls x → PartOf ls y → x.step ≡ y.step → x.fenced ≡ y.fenced
  flushed : (m k : ℕ) (l : Line StorePart) (x : StorePart) → slice_get ls m ≡ Some l
      → slice_get l.parts k ≡ Some x
      → k < l.flushed → (f : Flush) × (x.first_flush ≡ Some f)
  site_there : (x : StorePart) → PartOf ls x → Stands P x.site
  flush_there : (x : StorePart) (f : Flush) → PartOf ls x → x.first_flush ≡ Some f → Stands P f.site
  call_there : (x : StorePart) (v : Level) → PartOf ls x → In v x.levels → Stands P v.call
  split : (x : StorePart) → PartOf ls x → IsParted up x.levels
  births : (x : StorePart) (v : Level) → PartOf ls x → In v x.levels → v.birth < n
  stack : AreDescending up n
  calls : (v : Level) → In v up → Stands P v.call
  ordered : AreOrdered ls

descending_later : (up : List Level) (n : ℕ) → AreDescending up n → AreDescending up (suc n)
descending_later [] n h = tt
descending_later (l ∷ ls) n h = (omega (arith, h.0), h.1)

-- The calls that have not returned were made before step n.
pub born_before : (up : List Level) (n : ℕ) → AreDescending up n → (v : Level) → In v up → v.birth < n
born_before [] n h v i = absurd i
born_before (l ∷ ls) n h v (inl e) = subst (λ (x : Level). x.birth < n) (sym e) h.0
born_before (l ∷ ls) n h v (inr i) = omega (arith, h.0, born_before ls l.birth h.1 v i)

-- A call that was made at step b or later has returned if all calls that have not returned were made before step b.
closed_there : (up : List Level) (b : ℕ) → AreDescending up b → (v : Level) → b ≤ v.birth
    → is_open up v ≡ false
closed_there [] b h v le = refl
closed_there (l ∷ ls) b h v le =
    let low = h.0 in
    let q : nat_eq l.birth v.birth ≡ false = grind (arith, nat_tests) in
    rw q (closed_there ls l.birth h.1 v (omega (arith, h.0)))

module _ (P : Program) where
  later : (up : List Level) (ls : List (Line StorePart)) (n : ℕ) → HistoryIsKept P up ls n → HistoryIsKept P up ls (suc n)
  later up ls n k = record {
    made = λ x i. omega (arith, k.made x i);
    flush_made = λ x f i e. omega (arith, k.flush_made x f i e);
    site = k.site;
    levels = k.levels;
    entry = k.entry;
    fenced = k.fenced;
    flushed = k.flushed;
    site_there = k.site_there;
    flush_there = k.flush_there;
    call_there = k.call_there;
    split = k.split;
    births = λ x v i j. omega (arith, k.births x v i j);
    stack = descending_later up n k.stack;
    calls = k.calls;
    ordered = k.ordered;
  }

  -- ---- a call and a return

  split_call : (up levels : List Level) (call : Level) → ((v : Level) → In v levels → v.birth < call.birth)
      → IsParted up levels → IsParted (call ∷ up) levels
  split_call up levels call born s = record {
    closed = s.closed;
    open_ones = s.open_ones;
    above = call ∷ s.above;
    are = s.are;
    outermost = ap (λ ls. call ∷ ls) s.outermost;
    returned =
        λ v i. not_new v (born v (subst (In v) (sym s.are) (append-left s.closed s.open_ones v i))) (s.returned v i);
  }
    where
      not_new : (v : Level) → v.birth < call.birth → is_open up v ≡ false → is_open (call ∷ up) v ≡ false
      not_new v lt h = let q : nat_eq call.birth v.birth ≡ false = grind (arith, nat_tests) in rw (q, h) refl

  call : (up : List Level) (ls : List (Line StorePart)) (n : ℕ) (s : Site) → Stands P s → HistoryIsKept P up ls n
      → HistoryIsKept P (record { call = s; birth = n } ∷ up) ls (suc n)
  call up ls n s there k = record {
    made = λ x i. omega (arith, k.made x i);
    flush_made = λ x f i e. omega (arith, k.flush_made x f i e);
    site = k.site;
    levels = k.levels;
    entry = k.entry;
    fenced = k.fenced;
    flushed = k.flushed;
    site_there = k.site_there;
    flush_there = k.flush_there;
    call_there = k.call_there;
    split = λ x i. split_call up x.levels (record { call = s; birth = n }) (λ v j. k.births x v i j) (k.split x i);
    births = λ x v i j. omega (arith, k.births x v i j);
    stack = (omega arith, k.stack);
    calls = new_calls;
    ordered = k.ordered;
  }
    where
      new_calls : (v : Level) → In v (record { call = s; birth = n } ∷ up) → Stands P v.call
      new_calls v (inl e) = subst (λ (x : Level). Stands P x.call) (sym e) there
      new_calls v (inr i) = k.calls v i

  not_open : (l v : Level) (up : List Level) → is_open (l ∷ up) v ≡ false → is_open up v ≡ false
  not_open l v up h = go (nat_eq l.birth v.birth) h
    where
      go : (t : Bool) → t || is_open up v ≡ false → is_open up v ≡ false
      go true e = absurd (let z : ⊥ = cc in z)
      go false e = e

  -- If the frame of call l returns, l becomes one of the calls that have returned.
  split_return : (up levels : List Level) (l : Level) → AreDescending up l.birth → IsParted (l ∷ up) levels
      → IsParted up levels
  split_return up levels l down s = go s.above s.outermost
    where
      last : (v : Level) → In v (s.closed ++ l ∷ []) → is_open up v ≡ false
      last v i = by (in-append s.closed (l ∷ []) v i)
        where
          by : In v s.closed ⊎ In v (l ∷ []) → is_open up v ≡ false
          by (inl j) = not_open l v up (s.returned v j)
          by (inr (inl e)) =
              subst (λ (x : Level). is_open up x ≡ false) (sym e) (closed_there up l.birth down l (omega arith))
          by (inr (inr z)) = absurd z

      head : (x y : Level) (xs ys : List Level) → x ∷ xs ≡ y ∷ ys → (x ≡ y) × (xs ≡ ys)
      head x y xs ys e = (cc, cc)

      go : (above : List Level) → l ∷ up ≡ above ++ s.open_ones → IsParted up levels
      go [] e = record {
        closed = s.closed ++ l ∷ [];
        open_ones = up;
        above = [];
        are = s.are ∙ ap (λ ls. s.closed ++ ls) (sym e) ∙ sym (append_assoc s.closed (l ∷ []) up);
        outermost = refl;
        returned = last;
      }
      go (a ∷ above) e = record {
        closed = s.closed;
        open_ones = s.open_ones;
        above = above;
        are = s.are;
        outermost = (head l a up (above ++ s.open_ones) e).1;
        returned = λ v i. not_open l v up (s.returned v i);
      }

  return : (up : List Level) (l : Level) (ls : List (Line StorePart)) (n : ℕ) → HistoryIsKept P (l ∷ up) ls n
      → HistoryIsKept P up ls n
  return up l ls n k = record {
    made = k.made;
    flush_made = k.flush_made;
    site = k.site;
    levels = k.levels;
    entry = k.entry;
    fenced = k.fenced;
    flushed = k.flushed;
    site_there = k.site_there;
    flush_there = k.flush_there;
    call_there = k.call_there;
    split = λ x i. split_return up x.levels l k.stack.1 (k.split x i);
    births = k.births;
    stack = lower up l.birth n k.stack.1 k.stack.0;
    calls = λ v i. k.calls v (inr i);
    ordered = k.ordered;
  }
    where
      lower : (ls : List Level) (b n : ℕ) → AreDescending ls b → b < n → AreDescending ls n
      lower [] b n h lt = tt
      lower (x ∷ ls) b n h lt = (omega (arith, h.0), h.1)

  -- ---- a fence

  get_fenced : (ls : List (Line StorePart)) (m : ℕ) (l : Line StorePart) → slice_get (fenced_lines ls) m ≡ Some l
      → (l0 : Line StorePart) × (slice_get ls m ≡ Some l0) × (l ≡ fence_line l0)
  get_fenced [] m l e = absurd (let z : ⊥ = cc in z)
  get_fenced (x ∷ ls) zero l e = (x, refl, let q : l ≡ fence_line x = cc in q)
  get_fenced (x ∷ ls) (suc m) l e = get_fenced ls m l e

  get_map : {A B : Type 0} (f : A → B) (xs : List A) (k : ℕ) (y : B) → slice_get (map f xs) k ≡ Some y
      → (x : A) × (slice_get xs k ≡ Some x) × (y ≡ f x)
  get_map f [] k y e = absurd (let z : ⊥ = cc in z)
  get_map f (x ∷ xs) zero y e = (x, refl, let q : y ≡ f x = cc in q)
  get_map f (x ∷ xs) (suc k) y e = get_map f xs k y e

  fence : (up : List Level) (ls : List (Line StorePart)) (n : ℕ) → HistoryIsKept P up ls n
      → HistoryIsKept P up (fenced_lines ls) n
  fence up ls n k = record {
    made = λ x i. let r = part-fenced ls x i in subst (λ (y : StorePart). y.step < n) (sym r.2) (k.made r.0 r.1);
    flush_made =
        λ x f i e. let r = part-fenced ls x i in
        k.flush_made r.0 f r.1 (sym (ap (λ (y : StorePart). y.first_flush) r.2) ∙ e);
    site =
        λ x y i j e. let r = part-fenced ls x i in let q =
        part-fenced ls y j in ap (λ (z : StorePart). z.site) r.2
        ∙ k.site r.0 q.0 r.1 q.1 (sym (ap (λ (z : StorePart). z.step) r.2) ∙ e
        ∙ ap (λ (z : StorePart). z.step) q.2)
        ∙ sym (ap (λ (z : StorePart). z.site) q.2);
    levels =
        λ x y i j e. let r = part-fenced ls x i in let q =
        part-fenced ls y j in ap (λ (z : StorePart). z.levels) r.2
        ∙ k.levels r.0 q.0 r.1 q.1 (sym (ap (λ (z : StorePart). z.step) r.2) ∙ e
        ∙ ap (λ (z : StorePart). z.step) q.2)
        ∙ sym (ap (λ (z : StorePart). z.levels) q.2);
    entry =
        λ x y i j e. let r = part-fenced ls x i in let q =
        part-fenced ls y j in ap (λ (z : StorePart). z.entry) r.2
        ∙ k.entry r.0 q.0 r.1 q.1 (sym (ap (λ (z : StorePart). z.step) r.2) ∙ e
        ∙ ap (λ (z : StorePart). z.step) q.2)
        ∙ sym (ap (λ (z : StorePart). z.entry) q.2);
    fenced =
        λ x y i j e. let r = part-fenced ls x i in let q =
        part-fenced ls y j in ap (λ (z : StorePart). z.fenced) r.2 ∙ sym (ap (λ (z : StorePart). z.fenced) q.2);
    flushed = λ m j l x e g lt. all_flushed m j l x e g lt;
    site_there =
        λ x i. let r = part-fenced ls x i in subst (λ (y : StorePart). Stands P y.site) (sym r.2)
        (k.site_there r.0 r.1);
    flush_there =
        λ x f i e. let r = part-fenced ls x i in
        k.flush_there r.0 f r.1 (sym (ap (λ (y : StorePart). y.first_flush) r.2) ∙ e);
    call_there =
        λ x v i j. let r = part-fenced ls x i in
        k.call_there r.0 v r.1 (subst (λ (y : StorePart). In v y.levels) r.2 j);
    split =
        λ x i. let r = part-fenced ls x i in subst (λ (y : StorePart). IsParted up y.levels) (sym r.2)
        (k.split r.0 r.1);
    births =
        λ x v i j. let r = part-fenced ls x i in k.births r.0 v r.1 (subst (λ (y : StorePart). In v y.levels) r.2 j);
    stack = k.stack;
    calls = k.calls;
    ordered = ordered_fence ls k.ordered;
  }
    where
      ordered_fence : (ls : List (Line StorePart)) → AreOrdered ls → AreOrdered (fenced_lines ls)
      ordered_fence [] h = tt
      ordered_fence (l ∷ ls) h =
          (ordered-fenced_line (map_line noted_fence l) (ordered-map_line noted_fence l h.0), ordered_fence ls h.1)

      all_flushed : (m j : ℕ) (l : Line StorePart) (x : StorePart) → slice_get (fenced_lines ls) m ≡ Some l
          → slice_get l.parts j ≡ Some x → j < l.flushed → (f : Flush) × (x.first_flush ≡ Some f)
      all_flushed m j l x e g lt =
          let a = get_fenced ls m l e in
          let b = get_map noted_fence a.0.parts j x
          (sym (ap (λ (y : Line StorePart). slice_get y.parts j) a.2) ∙ g) in
          let c = k.flushed m j a.0 b.0 a.1 b.1 (subst (λ (y : Line StorePart). j < y.flushed) a.2 lt) in
          (c.0, ap (λ (y : StorePart). y.first_flush) b.2 ∙ c.1)

  -- ---- a flush

  get_flushed : (flush : Flush) (o n j : ℕ) (ls : List (Line StorePart)) (m : ℕ) (l : Line StorePart)
      → slice_get (change_from (λ _ l. flush_line flush l) o n j ls) m ≡ Some l
      → (l0 : Line StorePart) × (slice_get ls m ≡ Some l0) × ((l ≡ l0) ⊎ (l ≡ flush_line flush l0))
  get_flushed flush o n j [] m l e = absurd (let z : ⊥ = cc in z)
  get_flushed flush o n j (x ∷ ls) zero l e = go (has_bytes j o n) e
    where
      go : (t : Bool) → Some (cond t (flush_line flush x) x) ≡ Some l
          → (l0 : Line StorePart) × (Some x ≡ Some l0) × ((l ≡ l0) ⊎ (l ≡ flush_line flush l0))
      go true h = (x, refl, inr (let q : l ≡ flush_line flush x = cc in q))
      go false h = (x, refl, inl (let q : l ≡ x = cc in q))
  get_flushed flush o n j (x ∷ ls) (suc m) l e = get_flushed flush o n (suc j) ls m l e

  -- A part that a flush may have changed is of the same store.
  record IsSameStore (y x : StorePart) : Type 0 where
    step : y.step ≡ x.step
    site : y.site ≡ x.site
    levels : y.levels ≡ x.levels
    entry : y.entry ≡ x.entry
    fenced : y.fenced ≡ x.fenced

  same_store : (flush : Flush) (y x : StorePart) → IsFlushedFrom flush y x → IsSameStore y x
  same_store flush y x (inl e) =
      record {
        step = ap (λ (z : StorePart). z.step) e;
        site = ap (λ (z : StorePart). z.site) e;
        levels = ap (λ (z : StorePart). z.levels) e;
        entry = ap (λ (z : StorePart). z.entry) e;
        fenced =
            ap (λ (z : StorePart). z.fenced) e;
      }
  same_store flush y x (inr e) =
      record {
        step = ap (λ (z : StorePart). z.step) e;
        site = ap (λ (z : StorePart). z.site) e;
        levels = ap (λ (z : StorePart). z.levels) e;
        entry = ap (λ (z : StorePart). z.entry) e;
        fenced =
            ap (λ (z : StorePart). z.fenced) e;
      }

  flush_of : (flush f : Flush) (y x : StorePart) → IsFlushedFrom flush y x → y.first_flush ≡ Some f
      → (f ≡ flush) ⊎ (x.first_flush ≡ Some f)
  flush_of flush f y x (inl e) h = inr (sym (ap (λ (z : StorePart). z.first_flush) e) ∙ h)
  flush_of flush f y x (inr e) h = go x.first_flush refl (sym (ap (λ (z : StorePart). z.first_flush) e) ∙ h)
    where
      go : (o : Option Flush) → x.first_flush ≡ o → earlier x.first_flush flush ≡ Some f
          → (f ≡ flush) ⊎ (x.first_flush ≡ Some f)
      go None q g =
          inl (let r : Some flush ≡ Some f = sym (ap (λ (z : Option Flush). earlier z flush) q) ∙ g in
          let u : f ≡ flush = cc in u)
      go (Some a) q g = inr (q ∙ sym (ap (λ (z : Option Flush). earlier z flush) q) ∙ g)

  met_flushed : (o : Option Flush) (flush : Flush) → (f : Flush) × (earlier o flush ≡ Some f)
  met_flushed None flush = (flush, refl)
  met_flushed (Some a) flush = (a, refl)

  flush_here : (up : List Level) (ls : List (Line StorePart)) (n o size : ℕ) (flush : Flush) → flush.step ≡ n
      → Stands P flush.site → HistoryIsKept P up ls n
      → HistoryIsKept P up (change_range (λ _ l. flush_line flush l) o size ls) (suc n)
  flush_here up ls n o size flush at there k = record {
    made = λ x i. let r = from x i in omega (arith, k.made r.0 r.1, (same_store flush x r.0 r.2).step);
    flush_made =
        λ x f i e. let r = from x i in made_by f (flush_of flush f x r.0 r.2 e) (λ g. k.flush_made r.0 f r.1 g);
    site =
        λ x y i j e. let r = from x i in let q = from y j in let a = same_store flush x r.0 r.2 in let b =
        same_store flush y q.0 q.2 in a.site ∙ k.site r.0 q.0 r.1 q.1 (sym a.step ∙ e ∙ b.step) ∙ sym b.site;
    levels =
        λ x y i j e. let r = from x i in let q = from y j in let a = same_store flush x r.0 r.2 in let b =
        same_store flush y q.0 q.2 in a.levels ∙ k.levels r.0 q.0 r.1 q.1 (sym a.step ∙ e ∙ b.step)
        ∙ sym b.levels;
    entry =
        λ x y i j e. let r = from x i in let q = from y j in let a = same_store flush x r.0 r.2 in let b =
        same_store flush y q.0 q.2 in a.entry ∙ k.entry r.0 q.0 r.1 q.1 (sym a.step ∙ e ∙ b.step) ∙ sym b.entry;
    fenced =
        λ x y i j e. let r = from x i in let q = from y j in let a = same_store flush x r.0 r.2 in let b =
        same_store flush y q.0 q.2 in a.fenced ∙ k.fenced r.0 q.0 r.1 q.1 (sym a.step ∙ e ∙ b.step)
        ∙ sym b.fenced;
    flushed = λ m j l x e g lt. let a = get_flushed flush o size 0 ls m l e in all_flushed m j l x a.0 a.1 g lt a.2;
    site_there =
        λ x i. let r = from x i in subst (Stands P) (sym (same_store flush x r.0 r.2).site) (k.site_there r.0 r.1);
    flush_there =
        λ x f i e. let r = from x i in stands_by f (flush_of flush f x r.0 r.2 e) (λ g. k.flush_there r.0 f r.1 g);
    call_there =
        λ x v i j. let r = from x i in k.call_there r.0 v r.1 (subst (In v) (same_store flush x r.0 r.2).levels j);
    split = λ x i. let r = from x i in subst (IsParted up) (sym (same_store flush x r.0 r.2).levels) (k.split r.0 r.1);
    births =
        λ x v i j. let r = from x i in omega (
          arith,
          k.births r.0 v r.1 (subst (In v) (same_store flush x r.0 r.2).levels j),
        );
    stack = descending_later up n k.stack;
    calls = k.calls;
    ordered =
        ordered-change_from (λ _ l. flush_line flush l) o size
        (λ _ l h. ordered-flushed_line (map_line (noted_flush flush) l)
        (ordered-map_line (noted_flush flush) l h)) 0 ls
        k.ordered;
  }
    where
      from : (x : StorePart) → PartOf (change_range (λ _ l. flush_line flush l) o size ls) x
          → (y : StorePart) × PartOf ls y × IsFlushedFrom flush x y
      from x i = part-flushed_from flush o size 0 ls x i

      made_by : (f : Flush) {A : Type 0} → (f ≡ flush) ⊎ A → (A → f.step < n) → f.step < suc n
      made_by f (inl e) old = let q : f.step ≡ n = ap (λ (z : Flush). z.step) e ∙ at in omega arith
      made_by f (inr a) old = omega (arith, old a)

      stands_by : (f : Flush) {A : Type 0} → (f ≡ flush) ⊎ A → (A → Stands P f.site) → Stands P f.site
      stands_by f (inl e) old = subst (λ (z : Flush). Stands P z.site) (sym e) there
      stands_by f (inr a) old = old a

      all_flushed : (m j : ℕ) (l : Line StorePart) (x : StorePart) (l0 : Line StorePart)
          → slice_get ls m ≡ Some l0
          → slice_get l.parts j ≡ Some x → j < l.flushed → (l ≡ l0) ⊎ (l ≡ flush_line flush l0)
          → (f : Flush) × (x.first_flush ≡ Some f)
      all_flushed m j l x l0 e g lt (inl same) =
          k.flushed m j l0 x e (sym (ap (λ (y : Line StorePart). slice_get y.parts j) same) ∙ g)
          (subst (λ (y : Line StorePart). j < y.flushed) same lt)
      all_flushed m j l x l0 e g lt (inr met) =
          let b =
          get_map (noted_flush flush) l0.parts j x (sym (ap (λ (y : Line StorePart). slice_get y.parts j) met) ∙ g)
          in
          let c = met_flushed b.0.first_flush flush in
          (c.0, ap (λ (y : StorePart). y.first_flush) b.2 ∙ c.1)

  flush : (I : Input) (up : List Level) (ls : List (Line StorePart)) (n a size : ℕ) (flush : Flush)
      → flush.step ≡ n
      → Stands P flush.site → HistoryIsKept P up ls n → HistoryIsKept P up (flushed_lines I flush a size ls) (suc n)
  flush I up ls n a size f at there k = go (flushes_lines I a size)
    where
      go : (t : Bool) → HistoryIsKept P up (cond t (change_range (λ _ l. flush_line f l) (a - I.base) size ls) ls) (suc n)
      go true = flush_here up ls n (a - I.base) size f at there k
      go false = later up ls n k

  -- ---- a store

  get_stored : (part : ℕ → StorePart) (o n j : ℕ) (ls : List (Line StorePart)) (m : ℕ) (l : Line StorePart)
      → slice_get (change_from (λ j l. with_part (part j) l) o n j ls) m ≡ Some l
      → (l0 : Line StorePart) × (slice_get ls m ≡ Some l0) × ((l ≡ l0) ⊎ (l ≡ with_part (part (j + m)) l0))
  get_stored part o n j [] m l e = absurd (let z : ⊥ = cc in z)
  get_stored part o n j (x ∷ ls) zero l e = go (has_bytes j o n) e
    where
      go : (t : Bool) → Some (cond t (with_part (part j) x) x) ≡ Some l
          → (l0 : Line StorePart) × (Some x ≡ Some l0) × ((l ≡ l0) ⊎ (l ≡ with_part (part (j + 0)) l0))
      go true h = (
        x,
        refl,
        inr (let q : l ≡ with_part (part j) x = cc in let z : j ≡ j + 0 = omega arith in
            subst (λ i. l ≡ with_part (part i) x) z q),
      )
      go false h = (x, refl, inl (let q : l ≡ x = cc in q))
  get_stored part o n j (x ∷ ls) (suc m) l e =
      let r = get_stored part o n (suc j) ls m l e in
      let z : suc j + m ≡ j + suc m = omega arith in
      (r.0, r.1, subst (λ i. (l ≡ r.0) ⊎ (l ≡ with_part (part i) r.0)) z r.2)

  get_front : {A : Type 0} (xs : List A) (y x : A) (k : ℕ) → slice_get (xs ++ y ∷ []) k ≡ Some x
      → k < length xs
      → slice_get xs k ≡ Some x
  get_front [] y x k e lt = absurd (omega arith)
  get_front (z ∷ xs) y x zero e lt = e
  get_front (z ∷ xs) y x (suc k) e lt = get_front xs y x k e (omega arith)

  -- A store keeps these facts. Each part after it is an old part or a new one.
  store_here : (up : List Level) (ls : List (Line StorePart)) (counts : Counts) (s : Site) (o : ℕ) (bytes : List ℕ)
      → Stands P s → HistoryIsKept P up ls counts.steps →
      HistoryIsKept P up (stored (part_of_store counts s up o bytes) o (length bytes) ls) (suc counts.steps)
  store_here up ls counts s o bytes there k = record {
    made =
        λ x i. by x (from x i) (λ j. omega (arith, k.made x j))
        (λ j e. let q : x.step ≡ counts.steps = ap (λ (y : StorePart). y.step) e in omega arith);
    flush_made =
        λ x f i e. by x (from x i) (λ j. omega (arith, k.flush_made x f j e)) (λ j q. absurd (never x f j q e));
    site =
        λ x y i j e. both x y (from x i) (from y j) e (λ (z : StorePart). z.site) (λ a b. k.site x y a b e)
        (λ m n. refl);
    levels =
        λ x y i j e. both x y (from x i) (from y j) e (λ (z : StorePart). z.levels) (λ a b. k.levels x y a b e)
        (λ m n. refl);
    entry =
        λ x y i j e. both x y (from x i) (from y j) e (λ (z : StorePart). z.entry) (λ a b. k.entry x y a b e)
        (λ m n. refl);
    fenced =
        λ x y i j e. both x y (from x i) (from y j) e (λ (z : StorePart). z.fenced) (λ a b. k.fenced x y a b e)
        (λ m n. refl);
    flushed =
        λ m j l x e g lt. let a = get_stored (part_of_store counts s up o bytes) o (length bytes) 0 ls m l e in
        all_flushed m j l x a.0 a.1 g lt a.2;
    site_there =
        λ x i. by x (from x i) (λ j. k.site_there x j)
        (λ j e. subst (λ (y : StorePart). Stands P y.site) (sym e) there);
    flush_there = λ x f i e. by x (from x i) (λ j. k.flush_there x f j e) (λ j q. absurd (never x f j q e));
    call_there =
        λ x v i l. by x (from x i) (λ j. k.call_there x v j l)
        (λ j e. k.calls v (subst (λ (y : StorePart). In v y.levels) e l));
    split =
        λ x i. by x (from x i) (λ j. k.split x j)
        (λ j e. subst (λ (y : StorePart). IsParted up y.levels) (sym e)
        (record {
          closed = [];
          open_ones = up;
          above = [];
          are = refl;
          outermost = refl;
          returned =
              λ v z. absurd z;
        }));
    births =
        λ x v i l. by x (from x i) (λ j. omega (arith, k.births x v j l))
        (λ j e. omega (arith, born_before up counts.steps k.stack v (subst (λ (y : StorePart). In v y.levels) e l)));
    stack = descending_later up counts.steps k.stack;
    calls = k.calls;
    ordered = ordered-stored (part_of_store counts s up o bytes) o (length bytes) ls k.ordered;
  }
    where
      from : (x : StorePart) → PartOf (stored (part_of_store counts s up o bytes) o (length bytes) ls) x
          → PartOf ls x ⊎ ((j : ℕ) × (x ≡ part_of_store counts s up o bytes j))
      from x i = part-stored (part_of_store counts s up o bytes) o (length bytes) ls x i

      by : {A : Type 0} (x : StorePart) → PartOf ls x ⊎ ((j : ℕ) × (x ≡ part_of_store counts s up o bytes j))
          → (PartOf ls x → A) → ((j : ℕ) → x ≡ part_of_store counts s up o bytes j → A) → A
      by x (inl i) old fresh = old i
      by x (inr j) old fresh = fresh j.0 j.1

      never : (x : StorePart) (f : Flush) (j : ℕ) → x ≡ part_of_store counts s up o bytes j
          → x.first_flush ≡ Some f → ⊥
      never x f j e h = let q : None ≡ Some f = sym (ap (λ (y : StorePart). y.first_flush) e) ∙ h in
          let z : ⊥ = cc in z

      -- An old part and a new one are of different steps, and two new parts are of the same store.
      both : {A : Type 0} (x y : StorePart) → PartOf ls x
          ⊎ ((j : ℕ) × (x ≡ part_of_store counts s up o bytes j))
          → PartOf ls y ⊎ ((j : ℕ) × (y ≡ part_of_store counts s up o bytes j)) → x.step ≡ y.step
          → (see : StorePart → A) → (PartOf ls x → PartOf ls y → see x ≡ see y)
          → ((m n : ℕ) → see (part_of_store counts s up o bytes m) ≡ see (part_of_store counts s up o bytes n))
          → see x ≡ see y
      both x y (inl i) (inl j) e see old fresh = old i j
      both x y (inl i) (inr j) e see old fresh =
          let q : y.step ≡ counts.steps = ap (λ (z : StorePart). z.step) j.1 in let lt =
          k.made x i in absurd (omega arith)
      both x y (inr i) (inl j) e see old fresh =
          let q : x.step ≡ counts.steps = ap (λ (z : StorePart). z.step) i.1 in let lt =
          k.made y j in absurd (omega arith)
      both x y (inr i) (inr j) e see old fresh = ap see i.1 ∙ fresh i.0 j.0 ∙ sym (ap see j.1)

      all_flushed : (m j : ℕ) (l : Line StorePart) (x : StorePart) (l0 : Line StorePart)
          → slice_get ls m ≡ Some l0
          → slice_get l.parts j ≡ Some x → j < l.flushed
          → (l ≡ l0) ⊎ (l ≡ with_part (part_of_store counts s up o bytes (0 + m)) l0)
          → (f : Flush) × (x.first_flush ≡ Some f)
      all_flushed m j l x l0 e g lt (inl same) =
          k.flushed m j l0 x e (sym (ap (λ (y : Line StorePart). slice_get y.parts j) same) ∙ g)
          (subst (λ (y : Line StorePart). j < y.flushed) same lt)
      all_flushed m j l x l0 e g lt (inr more) =
          let low : j < l0.flushed = subst (λ (y : Line StorePart). j < y.flushed) more lt in
          let h = (ordered-at ls m l0 k.ordered e).flushed in
          k.flushed m j l0 x e (get_front l0.parts (part_of_store counts s up o bytes (0 + m)) x j
          (sym (ap (λ (y : Line StorePart). slice_get y.parts j) more) ∙ g) (omega arith)) low

  store : (I : Input) (up : List Level) (ls : List (Line StorePart)) (counts : Counts) (s : Site) (a : ℕ)
      (bytes : List ℕ) → Stands P s → HistoryIsKept P up ls counts.steps
      → HistoryIsKept P up (stored_lines I counts s up a bytes ls) (suc counts.steps)
  store I up ls counts s a bytes there k = go (in_region I a (length bytes))
    where
      go : (t : Bool)
          → HistoryIsKept P up (cond t (stored (part_of_store counts s up (a - I.base) bytes) (a - I.base)
          (length bytes) ls) ls) (suc counts.steps)
      go true = store_here up ls counts s (a - I.base) bytes there k
      go false = later up ls counts.steps k

  -- ---- a step

  -- The facts hold for the state's own calls, lines and count of steps.
  abbrev StateKept : State → Type 0
  StateKept s = HistoryIsKept P (levels_of s.frames) s.lines s.counts.steps

  leave_kept : (v : ℕ) (w : World) (f : Frame) (fs : List Frame) (ls : List (Line StorePart)) (c : Counts) (e : Event)
      → HistoryIsKept P (levels_of (f ∷ fs)) ls c.steps → StateKept (leave v w f fs ls (counted e c))
  unfolding leave
  leave_kept v w f [] ls c e k = later (levels_of (f ∷ [])) ls c.steps k
  leave_kept v w f (g ∷ fs) ls c e k = later (levels_of (g ∷ fs)) ls c.steps (go f.level k)
    where
      go : (o : Option Level) → HistoryIsKept P (level_list o (levels_of (g ∷ fs))) ls c.steps
          → HistoryIsKept P (levels_of (g ∷ fs)) ls c.steps
      go None h = h
      go (Some l) h = return (levels_of (g ∷ fs)) l ls c.steps h

  perform_kept : (I : Input) (w : World) (f : Frame) (fs : List Frame) (ls : List (Line StorePart)) (c : Counts)
      (e : Event) → Stands P (site_of f) → HistoryIsKept P (levels_of (f ∷ fs)) ls c.steps → (x : Action)
      → StateKept (perform I w f fs ls c (counted e c) x)
  unfolding perform
  perform_kept I w f fs ls c e there k (Traps kind) = later (levels_of (f ∷ fs)) ls c.steps k
  perform_kept I w f fs ls c e there k (Assigns to v) = later (levels_of (f ∷ fs)) ls c.steps k
  perform_kept I w f fs ls c e there k (Allocates to a n) = later (levels_of (f ∷ fs)) ls c.steps k
  perform_kept I w f fs ls c e there k (Stores a bytes) =
      store I (levels_of (f ∷ fs)) ls c (site_of f) a bytes there k
  perform_kept I w f fs ls c e there k (Flushes a n) =
      flush I (levels_of (f ∷ fs)) ls c.steps a n (record { step = c.steps; site = site_of f }) refl there k
  perform_kept I w f fs ls c e there k (Persists a n) =
      fence (levels_of (f ∷ fs)) _ (suc c.steps)
      (flush I (levels_of (f ∷ fs)) ls c.steps a n (record { step = c.steps; site = site_of f }) refl there k)
  perform_kept I w f fs ls c e there k Fences =
      later (levels_of (f ∷ fs)) _ c.steps (fence (levels_of (f ∷ fs)) ls c.steps k)
  perform_kept I w f fs ls c e there k (Asserts a n) = later (levels_of (f ∷ fs)) ls c.steps k
  perform_kept I w f fs ls c e there k (Prints z) = later (levels_of (f ∷ fs)) ls c.steps k
  perform_kept I w f fs ls c e there k (Reads to z rest) = later (levels_of (f ∷ fs)) ls c.steps k
  perform_kept I w f fs ls c e there k (Calls g rs to) = call (levels_of (f ∷ fs)) ls c.steps (site_of f) there k
  perform_kept I w f fs ls c e there k (Jumps b rs) = later (levels_of (f ∷ fs)) ls c.steps k
  perform_kept I w f fs ls c e there k (Returns v) = leave_kept v w f fs ls c e k

  -- What the end of a block does.
  abbrev is_end : Action → Type 0
  is_end (Traps kind) = Unit {0}
  is_end (Jumps b rs) = Unit {0}
  is_end (Returns v) = Unit {0}
  is_end _ = ⊥

  end_jump : (I : Input) (f : Frame) (o : Option ℕ) → is_end (jump_to P I f o)
  end_jump I f None = tt
  end_jump I f (Some b) = tt

  end_is : (I : Input) (f : Frame) (o : Option End) → is_end (end_action P I f o)
  unfolding end_action jump
  end_is I f None = tt
  end_is I f (Some (ends.Br label)) = end_jump I f _
  end_is I f (Some (ends.CondBr test first second)) = end_jump I f _
  end_is I f (Some (ends.Switch width value other cases)) = end_jump I f _
  end_is I f (Some (ends.Ret arg)) = tt
  end_is I f (Some ends.Unreachable) = tt

  end_kept : (I : Input) (w : World) (f : Frame) (fs : List Frame) (ls : List (Line StorePart)) (c : Counts) (e : Event)
      → HistoryIsKept P (levels_of (f ∷ fs)) ls c.steps → (x : Action) → is_end x
      → StateKept (perform I w f fs ls c (counted e c) x)
  unfolding perform
  end_kept I w f fs ls c e k (Traps kind) p = later (levels_of (f ∷ fs)) ls c.steps k
  end_kept I w f fs ls c e k (Jumps b rs) p = later (levels_of (f ∷ fs)) ls c.steps k
  end_kept I w f fs ls c e k (Returns v) p = leave_kept v w f fs ls c e k
  end_kept I w f fs ls c e k (Assigns to v) p = absurd p
  end_kept I w f fs ls c e k (Allocates to a n) p = absurd p
  end_kept I w f fs ls c e k (Stores a bytes) p = absurd p
  end_kept I w f fs ls c e k (Flushes a n) p = absurd p
  end_kept I w f fs ls c e k (Persists a n) p = absurd p
  end_kept I w f fs ls c e k Fences p = absurd p
  end_kept I w f fs ls c e k (Asserts a n) p = absurd p
  end_kept I w f fs ls c e k (Prints z) p = absurd p
  end_kept I w f fs ls c e k (Reads to z rest) p = absurd p
  end_kept I w f fs ls c e k (Calls g rs to) p = absurd p

  cut_kept : (I : Input) (w : World) (f : Frame) (fs : List Frame) (ls : List (Line StorePart)) (c : Counts) (e : Event)
      (d : Deed) → HistoryIsKept P (levels_of (f ∷ fs)) ls c.steps
      → ((w2 : World) → StateKept (perform I w2 f fs ls c (counted e c) d.action))
      → StateKept (carry_out I w f fs ls c (counted e c) d)
  unfolding carry_out
  cut_kept I w f fs ls c e d k h = go (is_cut I w d)
    where
      go : (t : Bool)
          → StateKept (cond t (stop Cut w (f ∷ fs) ls (counted e c))
          (perform I (cond d.turn (with_turn w) w) f fs ls c (counted e c) d.action))
      go true = later (levels_of (f ∷ fs)) ls c.steps k
      go false = h _

  pub instr_at_place : (f b k : ℕ)
      → instr_of P (record { function = f; block = b; index = k }) ≡ slice_get (body_at P f b) k
  instr_at_place f b k = go (slice_get P.functions f)
    where
      block_go : (o : Option Block) → option_and_then (λ x. slice_get x.body k) o ≡ slice_get (body_of o) k
      block_go None = refl
      block_go (Some x) = refl

      go : (o : Option Function)
          → option_and_then (λ x. slice_get x.body k)
          (option_and_then (λ x. slice_get x.blocks b) o) ≡ slice_get (body_of (slice_get (blocks_in o) b)) k
      go None = refl
      go (Some x) = block_go (slice_get x.blocks b)

  step_kept : (I : Input) (s : State) → StateKept s → StateKept (step P I s)
  unfolding step on_ending on_frames
  step_kept I s k = go s.world.ending
    where
      by_code : (f : Frame) (fs : List Frame) (e : Event) (code : List Instr) → code_at P f ≡ code
          → HistoryIsKept P (levels_of (f ∷ fs)) s.lines s.counts.steps
          → StateKept (carry_out I s.world f fs s.lines s.counts (counted e s.counts)
          (deed_of P I s.world (length fs) f (end_at P f) code))
      by_code f fs e [] q k =
          cut_kept I s.world f fs s.lines s.counts e _ k
          (λ w2. end_kept I w2 f fs s.lines s.counts e k (end_action P I f (end_at P f)) (end_is I f (end_at P f)))
      by_code f fs e (i ∷ rest) q k =
          cut_kept I s.world f fs s.lines s.counts e _ k
          (λ w2. perform_kept I w2 f fs s.lines s.counts e (
            i,
            instr_at_place f.function f.block f.place
                ∙ get_drop (body_at P f.function f.block) f.place i rest q,
          ) k _)

      on_them : (fs : List Frame) → HistoryIsKept P (levels_of fs) s.lines s.counts.steps
          → StateKept (on_frames P I s.world s.lines s.counts fs)
      on_them [] k = k
      on_them (f ∷ fs) k = by_code f fs (event_at I s.world fs (deed_at P I s.world f fs)) (code_at P f) refl k

      go : (o : Option Ending) → StateKept (on_ending P I s o)
      go (Some e) = k
      go None = on_them s.frames k

  part_of_fresh : (n : ℕ) (x : StorePart) → PartOf (fresh_lines n) x → ⊥
  unfolding fresh_lines
  part_of_fresh zero x i = i
  part_of_fresh (suc n) x (inl i) = i
  part_of_fresh (suc n) x (inr i) = part_of_fresh n x i

  pub line_of_fresh : (n m : ℕ) (l : Line StorePart) → slice_get (fresh_lines {P = StorePart} n) m ≡ Some l
      → l.parts ≡ []
  unfolding fresh_lines
  line_of_fresh zero m l e = absurd (let z : ⊥ = cc in z)
  line_of_fresh (suc n) zero l e =
      let q : l ≡ record { parts = []; flushed = 0; durable = 0 } = cc in ap (λ (y : Line StorePart). y.parts) q
  line_of_fresh (suc n) (suc m) l e = line_of_fresh n m l e

  start_kept : (I : Input) → StateKept (start P I)
  start_kept I = record {
    made = λ x i. absurd (part_of_fresh _ x i);
    flush_made = λ x f i e. absurd (part_of_fresh _ x i);
    site = λ x y i j e. absurd (part_of_fresh _ x i);
    levels = λ x y i j e. absurd (part_of_fresh _ x i);
    entry = λ x y i j e. absurd (part_of_fresh _ x i);
    fenced = λ x y i j e. absurd (part_of_fresh _ x i);
    flushed =
        λ m k l x e g lt. let q : slice_get [] k ≡ Some x =
        sym (ap (λ (ps : List StorePart). slice_get ps k) (line_of_fresh _ m l e)) ∙ g in
        absurd (let z : ⊥ = cc in z);
    site_there = λ x i. absurd (part_of_fresh _ x i);
    flush_there = λ x f i e. absurd (part_of_fresh _ x i);
    call_there = λ x v i j. absurd (part_of_fresh _ x i);
    split = λ x i. absurd (part_of_fresh _ x i);
    births = λ x v i j. absurd (part_of_fresh _ x i);
    stack = tt;
    calls = λ v i. absurd i;
    ordered = ordered-fresh_lines StorePart _;
  }

  run_kept : (I : Input) (n : ℕ) → StateKept (run P I n)
  unfolding run
  run_kept I zero = start_kept I
  run_kept I (suc n) = step_kept I (run P I n) (run_kept I n)

  pub has_history : (I : Input) (n : ℕ) → HasHistory P (run P I n)
  has_history I n =
      let k = run_kept I n in
      record {
        made = k.made;
        flush_made = k.flush_made;
        site = k.site;
        levels = k.levels;
        entry = k.entry;
        fenced = k.fenced;
        flushed = k.flushed;
        site_there = k.site_there;
        flush_there = k.flush_there;
        call_there = k.call_there;
        split = k.split;
      }

  -- In each line the number of durable parts is at most the number of flushed parts, which is at most the number of
  -- parts.
  pub lines_ordered : (I : Input) (n : ℕ) → AreOrdered (run P I n).lines
  lines_ordered I n = (run_kept I n).ordered

  -- The calls that have not returned were made one after another.
  pub calls_descend : (I : Input) (n : ℕ) → AreDescending (levels_of (run P I n).frames) (run P I n).counts.steps
  calls_descend I n = (run_kept I n).stack
