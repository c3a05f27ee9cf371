-- A program that is not sound is refused in one way, except for the path that shows a register without an assignment.
use Rattle.std.proofs.Common.{◌≡◌, ◌<◌, ℕ, List, [], ◌∷◌, ◌++◌, Some, None, All, slice_get, refl, sym, ap, ◌∙◌, subst, inl, inr}
use Rattle.std.specs.Prelude.{◌⊎◌}
use Rattle.std.proofs.lemmas.Bool.{cases_order}
use Rattle.std.proofs.lemmas.List.Elements.{All-head, All-tail}
use Rattle.hip_grammar.specs.ReadTexts.{IsSpelled}
use Rattle.hip_tree.specs.declared.program.Function.{Function}
use Rattle.hip_tree.specs.declared.program.Program.{Program}
use Rattle.hip_program_files.specs.Laws.{without_path}
use Rattle.hip_sound.specs.Refusals.{fault_of}
use Rattle.hip_sound.specs.Rules.{AllAssigned, IsFirstFault, IsFirstUnassigned, RegisterUse, UseIsAssigned, register_uses, rules_required}
use Rattle.hip_sound.specs.declared.fault.Fault.{Fault}
use Rattle.hip_sound.specs.declared.fault.Fault.TheVariants as breaks
use Rattle.hip_sound.specs.declared.fault.Finding.{Finding}
use Rattle.hip_sound.specs.declared.fault.Place.{Place}
use Rattle.hip_sound.specs.declared.fault.Place.TheVariants as places
use Rattle.hip_sound.specs.declared.fault.TypeFault.{TypeFault}
use Rattle.hip_sound.specs.declared.fault.TypeFault.TheVariants as faults
use Rattle.hip_sound.specs.declared.fault.TypeRefusal.{TypeRefusal}

-- ---- the first use without an assignment

-- A list has one first item that Q does not hold of.
one_first : {A : Type 0} (Q : A → Type 0) (v w : List A) (x y : A) (a b : List A) → v ++ x ∷ a ≡ w ++ y ∷ b
    → All Q v
    → All Q w → (Q x → ⊥) → (Q y → ⊥) → x ≡ y
one_first Q [] [] x y a b e p q not_x not_y = let heads : x ≡ y = cc in heads
one_first Q [] (z ∷ w) x y a b e p q not_x not_y =
    absurd (let heads : x ≡ z = cc in not_x (subst Q (sym heads) (All-head Q z w q)))
one_first Q (z ∷ v) [] x y a b e p q not_x not_y =
    absurd (let heads : z ≡ y = cc in not_y (subst Q heads (All-head Q z v p)))
one_first Q (z ∷ v) (u ∷ w) x y a b e p q not_x not_y =
    one_first Q v w x y a b (let tails : v ++ x ∷ a ≡ w ++ y ∷ b = cc in tails) (All-tail Q z v p)
    (All-tail Q u w q)
    not_x not_y

within : {A : Type 0} (Q : A → Type 0) (v : List A) (x : A) (a : List A) → All Q (v ++ x ∷ a) → Q x
within Q [] x a all = All-head Q x a all
within Q (z ∷ v) x a all = within Q v x a (All-tail Q z (v ++ x ∷ a) all)

-- No function before the first use without an assignment has such a use.
not_before : (P : Program) (p q : Place) (a b : List ℕ) → (u : IsFirstUnassigned P p a)
    → (v : IsFirstUnassigned P q b)
    → u.function < v.function → ⊥
not_before P p q a b u v less =
    let all : AllAssigned u.fn u.function = v.earlier u.function u.fn less u.here in
    within (UseIsAssigned u.fn) u.before u.it u.after (subst (All (UseIsAssigned u.fn)) u.uses all) a u.unassigned

same_number : (P : Program) (p q : Place) (a b : List ℕ) → (u : IsFirstUnassigned P p a)
    → (v : IsFirstUnassigned P q b)
    → (u.function ≡ v.function)
same_number P p q a b u v = decide (cases_order u.function v.function)
  where
    decide : (u.function ≡ v.function) ⊎ ((u.function < v.function) ⊎ (v.function < u.function))
        → u.function ≡ v.function
    decide (inl same) = same
    decide (inr (inl less)) = absurd (not_before P p q a b u v less)
    decide (inr (inr more)) = absurd (not_before P q p b a v u more)

one_unassigned : (P : Program) (p q : Place) (a b : List ℕ) → IsFirstUnassigned P p a → IsFirstUnassigned P q b
    → p ≡ q
one_unassigned P p q a b u v =
    let number = same_number P p q a b u v in
    let function : u.fn ≡ v.fn =
    some_is (sym u.here ∙ ap (slice_get P.functions) number ∙ v.here) in
    let uses : u.before ++ u.it ∷ u.after ≡ v.before ++ v.it ∷ v.after =
    sym u.uses ∙ ap (λ f. register_uses f u.fn) number ∙ ap (register_uses v.function) function ∙ v.uses in
    let assigned : All (UseIsAssigned v.fn) u.before =
    subst (λ f. All (UseIsAssigned f) u.before) function u.assigned in
    let item = one_first (UseIsAssigned v.fn) u.before v.before u.it v.it u.after v.after uses assigned v.assigned
    (λ h. subst (λ f. UseIsAssigned f u.it) (sym function) h a u.unassigned) (λ h. h b v.unassigned) in
    sym u.at ∙ ap (λ (i : RegisterUse). i.place) item ∙ v.at
  where
    some_is : {x y : Function} → Some x ≡ Some y → x ≡ y
    some_is e = cc

-- ---- the first rule that is broken

-- The program is not what its canonical text reads as; the fault is its shape, and the place the whole program.
pub record Unspelled (P : Program) (fault : TypeFault) (place : Place) : Type 0 where
  pub unspelled : ¬ IsSpelled P
  pub fault_is : fault ≡ faults.BadShape
  pub place_is : place ≡ places.Whole

-- The program is spelled, and the first finding of the requirements is this fault at this place.
pub record Breaks (P : Program) (fault : TypeFault) (place : Place) : Type 0 where
  pub spelled : IsSpelled P
  pub rule : Fault
  pub fault_is : fault ≡ fault_of rule
  pub found : (rules_required P).found ≡ Some (record { fault = rule; place = place })

-- The program is spelled, the requirements find nothing, and at this place is the first use of a register that is not
-- assigned on every path.
pub record LacksAssignment (P : Program) (fault : TypeFault) (place : Place) : Type 0 where
  pub spelled : IsSpelled P
  pub passed : (rules_required P).found ≡ None
  pub path : List ℕ
  pub fault_is : fault ≡ faults.Unassigned path
  pub first : IsFirstUnassigned P place path

-- How a program breaks a rule: by its spelling, by a requirement, or by a path.
abbrev BreaksARule : Program → TypeFault → Place → Type 0
BreaksARule P fault place = Unspelled P fault place ⊎ (Breaks P fault place ⊎ LacksAssignment P fault place)

broken : (P : Program) (rule : Fault) (place : Place)
    → IsSpelled P × ((rules_required P).found ≡ Some (record { fault = rule; place = place }))
    → BreaksARule P (fault_of rule) place
broken P rule place h = inr (inl (record { spelled = h.0; rule = rule; fault_is = refl; found = h.1 }))

by_fault : (P : Program) (fault : TypeFault) (place : Place) →
    IsFirstFault P (record { fault = fault; place = place }) → BreaksARule P fault place
by_fault P faults.BadShape place f = inl (record { unspelled = f.0; fault_is = refl; place_is = f.1 })
by_fault P faults.Duplicate place f = broken P breaks.Duplicate place f
by_fault P faults.Unknown place f = broken P breaks.Unknown place f
by_fault P faults.Mismatch place f = broken P breaks.Mismatch place f
by_fault P faults.NoMain place f = broken P breaks.NoMain place f
by_fault P (faults.Unassigned path) place f =
    inr (inr (record { spelled = f.0; passed = f.1; path = path; fault_is = refl; first = f.2 }))
by_fault P faults.BadExtern place f = broken P breaks.BadExtern place f
by_fault P faults.BadGlobal place f = broken P breaks.BadGlobal place f
by_fault P faults.BadEdge place f = broken P breaks.BadEdge place f
by_fault P faults.TooLarge place f = broken P breaks.TooLarge place f
by_fault P faults.NoMemory place f = absurd f

-- The places are equal, and so are the faults, except for the path that shows a register without an assignment.
pub record SameRefusal (a b : TypeFault) (p q : Place) : Type 0 where
  pub fault : without_path a ≡ without_path b
  pub place : p ≡ q

one_rule : (P : Program) (a b : TypeFault) (p q : Place) → BreaksARule P a p → BreaksARule P b q → SameRefusal a b p q
one_rule P a b p q (inl u) (inl v) =
    record { fault = ap without_path (u.fault_is ∙ sym v.fault_is); place = u.place_is ∙ sym v.place_is }
one_rule P a b p q (inl u) (inr (inl v)) = absurd (u.unspelled v.spelled)
one_rule P a b p q (inl u) (inr (inr v)) = absurd (u.unspelled v.spelled)
one_rule P a b p q (inr (inl u)) (inl v) = absurd (v.unspelled u.spelled)
one_rule P a b p q (inr (inr u)) (inl v) = absurd (v.unspelled u.spelled)
one_rule P a b p q (inr (inl u)) (inr (inl v)) =
    let found : Some (record { fault = u.rule; place = p }) ≡ Some (record { fault = v.rule; place = q }) =
    sym u.found ∙ v.found in
    let finding = finding_is found in
    record {
      fault = ap without_path (u.fault_is ∙ ap (λ (f : Finding). fault_of f.fault) finding ∙ sym v.fault_is);
      place = ap (λ (f : Finding). f.place) finding;
    }
  where
    finding_is : {x y : Finding} → Some x ≡ Some y → x ≡ y
    finding_is e = cc
one_rule P a b p q (inr (inl u)) (inr (inr v)) = absurd (let e = sym u.found ∙ v.passed in let z : ⊥ = cc in z)
one_rule P a b p q (inr (inr u)) (inr (inl v)) = absurd (let e = sym u.passed ∙ v.found in let z : ⊥ = cc in z)
one_rule P a b p q (inr (inr u)) (inr (inr v)) =
    record {
      fault = ap without_path u.fault_is ∙ sym (ap without_path v.fault_is);
      place = one_unassigned P p q u.path v.path u.first v.first;
    }

pub one_form_refusal : (P : Program) (a b : TypeRefusal) → IsFirstFault P a → IsFirstFault P b
    → SameRefusal a.fault b.fault a.place b.place
one_form_refusal P a b p q =
    one_rule P a.fault b.fault a.place b.place (by_fault P a.fault a.place p) (by_fault P b.fault b.place q)
