-- The marks of the next instruction, operand by operand.
use Rattle.std.proofs.Common.{◌≡◌, ◌⊎◌, inl, inr, ℕ, zero, suc, ◌+◌, ◌≤◌, Bool, true, false, cond, List, [], ◌∷◌, ◌++◌, append_assoc, append-nil, length, drop, Option, Some, None, option_map, slice_get, refl, sym, ap, ap₂, ◌∙◌, arith}
use Rattle.hip_tree.specs.Sites.{instr_of}
use Rattle.hip_tree.specs.declared.instr.Instr.{Instr}
use Rattle.hip_tree.specs.declared.instr.Operand.{Operand}
use Rattle.hip_tree.specs.declared.program.Program.{Program}
use Rattle.hip_tree.specs.declared.site.Site.{Site}
use Rattle.hip_runs.specs.Found.Marks.{code_marks, frame_marks, mark_of, operand_marks, pointer_operands}
use Rattle.hip_runs.specs.Found.Objects.{object_at}
use Rattle.hip_runs.specs.Laws.HistoryLaws.{instr_at_place}
use Rattle.hip_runs.specs.Laws.Members.{get_drop}
use Rattle.hip_runs.specs.Operands.{value_of}
use Rattle.hip_runs.specs.Places.{body_at, code_at}
use Rattle.hip_runs.specs.State.{Frame, State, site_of}
use Rattle.hip_runs.specs.Step.{has_ended}
use Rattle.hip_runs.specs.declared.input.Input.{Input}
use Rattle.hip_runs.specs.declared.report.Mark.{Mark}
use Rattle.hip_runs.specs.Seen.{next_site, operands_in, pointer_of, site_in, top_pointer, top_site}
use Rattle.hip_ledger.specs.Sights.{mark_at, mark_by, marks_ahead, marks_to}

pub next_to : (P : Program) (I : Input) (s : State) (site : Site) (k : ℕ) → marks_to P I s site k ++ mark_at P I s site k ≡ marks_to P I s site (k + 1)
next_to P I s site k = ap (marks_to P I s site) (let e : suc k ≡ k + 1 = omega arith in e)

-- If no site is next, there are no marks ahead.
pub none_ahead : (P : Program) (I : Input) (s : State) → next_site P s ≡ None → marks_ahead P I s ≡ []
none_ahead P I s e = by (has_ended s) e
  where
    by_code : (fs : List Frame) (f : Frame) (code : List Instr) → site_in f code ≡ None → code_marks P I fs f code ≡ []
    by_code fs f [] e = refl
    by_code fs f (i ∷ rest) e = absurd (let z : ⊥ = cc in z)

    by_frames : (fs : List Frame) → top_site P fs ≡ None → frame_marks P I fs ≡ []
    by_frames [] e = refl
    by_frames (f ∷ fs) e = by_code (f ∷ fs) f (code_at P f) e

    by : (t : Bool) → cond t None (top_site P s.frames) ≡ None → cond t [] (frame_marks P I s.frames) ≡ []
    by true e = refl
    by false e = by_frames s.frames e

-- The instruction that is next.
pub record IsNext (P : Program) (s : State) (site : Site) : Type 0 where
  pub going : has_ended s ≡ false
  pub frame : Frame
  pub below : List Frame
  pub instr : Instr
  pub rest : List Instr
  pub frames : s.frames ≡ frame ∷ below
  pub code : code_at P frame ≡ instr ∷ rest
  pub site_is : site ≡ site_of frame
  pub there : instr_of P site ≡ Some instr

same_some : (s t : Site) → Some s ≡ Some t → s ≡ t
same_some s t e = cc

pub next_is : (P : Program) (s : State) (site : Site) → next_site P s ≡ Some site → IsNext P s site
next_is P s site e = by (has_ended s) refl e
  where
    by_code : (f : Frame) (fs : List Frame) → has_ended s ≡ false → s.frames ≡ f ∷ fs → (code : List Instr) → code_at P f ≡ code → site_in f code ≡ Some site → IsNext P s site
    by_code f fs going q [] c e = absurd (let z : ⊥ = cc in z)
    by_code f fs going q (i ∷ rest) c e =
        let same : site_of f ≡ site = same_some (site_of f) site e in
        record {
          going = going;
          frame = f;
          below = fs;
          instr = i;
          rest = rest;
          frames = q;
          code = c;
          site_is = sym same;
          there = ap (instr_of P) (sym same) ∙ instr_at_place P f.function f.block f.place ∙ get_drop (body_at P f.function f.block) f.place i rest c;
        }

    by_frames : (fs : List Frame) → has_ended s ≡ false → s.frames ≡ fs → top_site P fs ≡ Some site → IsNext P s site
    by_frames [] going q e = absurd (let z : ⊥ = cc in z)
    by_frames (f ∷ fs) going q e = by_code f fs going q (code_at P f) refl e

    by : (t : Bool) → has_ended s ≡ t → cond t None (top_site P s.frames) ≡ Some site → IsNext P s site
    by true g e = absurd (let z : ⊥ = cc in z)
    by false g e = by_frames s.frames g refl e

-- ---- operand by operand

pub drop_at : {A : Type 0} (xs : List A) (k : ℕ) → ((drop k xs ≡ []) × (slice_get xs k ≡ None) × (drop (suc k) xs ≡ [])) ⊎ ((x : A) × (drop k xs ≡ x ∷ drop (suc k) xs) × (slice_get xs k ≡ Some x))
drop_at [] zero = inl (refl, refl, refl)
drop_at [] (suc k) = inl (refl, refl, refl)
drop_at (x ∷ xs) zero = inr (x, refl, refl)
drop_at (x ∷ xs) (suc k) = drop_at xs k

drop_all : {A : Type 0} (xs : List A) (k : ℕ) → length xs ≤ k → drop k xs ≡ []
drop_all [] zero h = refl
drop_all [] (suc k) h = refl
drop_all (x ∷ xs) zero h = absurd (omega (arith, h))
drop_all (x ∷ xs) (suc k) h = drop_all xs k (omega (arith, h))

module _ (P : Program) (I : Input) (s : State) (site : Site) (n : IsNext P s site) where
  abbrev Ops : List Operand
  Ops = pointer_operands P n.instr

  pointer_is : (k : ℕ) → pointer_of P I s k ≡ option_map (value_of P.globals I.base n.frame.registers) (slice_get Ops k)
  pointer_is k =
      ap (λ t. cond t None (top_pointer P I s.frames k)) n.going
      ∙ ap (λ (fs : List Frame). top_pointer P I fs k) n.frames
      ∙ ap (λ (code : List Instr). option_map (value_of P.globals I.base n.frame.registers) (slice_get (operands_in P code) k)) n.code

  mark_is : (k : ℕ) (o : Option Operand) → slice_get Ops k ≡ o → mark_at P I s site k ≡ mark_by P I s site k (option_map (value_of P.globals I.base n.frame.registers) o)
  mark_is k o e = ap (mark_by P I s site k) (pointer_is k ∙ ap (option_map (value_of P.globals I.base n.frame.registers)) e)

  abbrev From : ℕ → List Operand → List Mark
  From k os = operand_marks P I (n.frame ∷ n.below) n.frame k os

  to_here : (k : ℕ) → marks_to P I s site k ++ From k (drop k Ops) ≡ From 0 Ops
  to_here zero = refl
  to_here (suc k) = go (drop_at Ops k) (to_here k)
    where
      go : ((drop k Ops ≡ []) × (slice_get Ops k ≡ None) × (drop (suc k) Ops ≡ [])) ⊎ ((x : Operand) × (drop k Ops ≡ x ∷ drop (suc k) Ops) × (slice_get Ops k ≡ Some x))
          → marks_to P I s site k ++ From k (drop k Ops) ≡ From 0 Ops
          → (marks_to P I s site k ++ mark_at P I s site k) ++ From (suc k) (drop (suc k) Ops) ≡ From 0 Ops
      go (inl h) q =
          ap₂ (λ m r. (marks_to P I s site k ++ m) ++ From (suc k) r) (mark_is k None h.1) h.2
          ∙ append-nil (marks_to P I s site k ++ [])
          ∙ sym (ap (λ r. marks_to P I s site k ++ From k r) h.0) ∙ q
      go (inr h) q =
          ap (λ m. (marks_to P I s site k ++ m) ++ From (suc k) (drop (suc k) Ops)) (mark_is k (Some h.0) h.2 ∙ same_mark h.0)
          ∙ append_assoc (marks_to P I s site k) (mark_of (site_of n.frame) k (object_at P I.base (n.frame ∷ n.below) (value_of P.globals I.base n.frame.registers h.0))) (From (suc k) (drop (suc k) Ops))
          ∙ sym (ap (λ r. marks_to P I s site k ++ From k r) h.1) ∙ q
        where
          same_mark : (x : Operand) → mark_of site k (object_at P I.base s.frames (value_of P.globals I.base n.frame.registers x)) ≡ mark_of (site_of n.frame) k (object_at P I.base (n.frame ∷ n.below) (value_of P.globals I.base n.frame.registers x))
          same_mark x = ap₂ (λ (t : Site) (fs : List Frame). mark_of t k (object_at P I.base fs (value_of P.globals I.base n.frame.registers x))) n.site_is n.frames

  ahead_is : marks_ahead P I s ≡ From 0 Ops
  ahead_is =
      ap (λ t. cond t [] (frame_marks P I s.frames)) n.going
      ∙ ap (frame_marks P I) n.frames
      ∙ ap (code_marks P I (n.frame ∷ n.below) n.frame) n.code

  pub all_ahead : (count : ℕ) → length Ops ≤ count → marks_to P I s site count ≡ marks_ahead P I s
  all_ahead count h =
      sym (append-nil (marks_to P I s site count))
      ∙ sym (ap (λ r. marks_to P I s site count ++ From count r) (drop_all Ops count h))
      ∙ to_here count ∙ sym ahead_is

  -- If there is no pointer operand k, the marks of the first k operands are all marks.
  pub all_before : (k : ℕ) → pointer_of P I s k ≡ None → marks_to P I s site k ≡ marks_ahead P I s
  all_before k none = all_ahead k (few k Ops (sym (pointer_is k) ∙ none))
    where
      no_value : (o : Operand) → option_map (value_of P.globals I.base n.frame.registers) (Some o) ≡ None → ⊥
      no_value o e = let z : ⊥ = cc in z

      few : (j : ℕ) (os : List Operand) → option_map (value_of P.globals I.base n.frame.registers) (slice_get os j) ≡ None → length os ≤ j
      few j [] e = omega arith
      few zero (o ∷ os) e = absurd (no_value o e)
      few (suc j) (o ∷ os) e = let le = few j os e in omega (arith, le)

-- An instruction whose first operand is no pointer operand has no marks.
pub none_pointed : (P : Program) (I : Input) (s : State) → pointer_of P I s 0 ≡ None → marks_ahead P I s ≡ []
none_pointed P I s none = by (next_site P s) refl
  where
    by : (o : Option Site) → next_site P s ≡ o → marks_ahead P I s ≡ []
    by None e = none_ahead P I s e
    by (Some site) e = sym (all_before P I s site (next_is P s site e) 0 none)
