-- What the verification of a program answers.
use Rattle.std.specs.Prelude.{ℕ, ◌≡◌, ◌<◌, ◌++◌, List, [], ◌∷◌, length, get_or, All, Some, None, slice_get, Result, Ok, Err, Bool, true, false, IsTrue, ◌↔◌}
use Rattle.std.proofs.Common.{refl, subst, arith, length-append}
use Rattle.hip_tree.specs.declared.program.Function.{Function}
use Rattle.hip_tree.specs.declared.program.Program.{Program}
use Rattle.hip_grammar.specs.ReadTexts.{IsSpelled}
use Rattle.hip_typing.specs.Seen.Answers.{Answers}
use Rattle.hip_typing.specs.Seen.AssignedSeen.{AnswersAssigned}
use Rattle.hip_typing.specs.declared.assigned.NotAssigned.{NotAssigned}
use Rattle.hip_typing.specs.declared.assigned.NotAssigned.TheVariants as unassigned
use Rattle.hip_sound.specs.Rules.{PassesVerifier, inner_names_required, IsFirstFault, IsFirstUnassigned, RegisterUse, UseIsAssigned, AllAssigned, rules_required}
use Rattle.hip_sound.specs.Refusals.{fault_of, IsRefused}
use Rattle.hip_sound.specs.Sound.{IsSound}
use Rattle.hip_sound.specs.Laws.SoundExact.{passes-sound, sound-passes}
use Rattle.hip_sound.specs.Laws.SoundLaws.{rules-exact}
use Rattle.hip_sound.specs.declared.fault.Fault.{Fault}
use Rattle.hip_sound.specs.declared.fault.Fault.TheVariants as breaks
use Rattle.hip_sound.specs.declared.fault.Finding.{Finding}
use Rattle.hip_sound.specs.declared.fault.Place.{Place}
use Rattle.hip_sound.specs.declared.fault.Place.TheVariants as places
use Rattle.hip_sound.specs.declared.fault.TypeFault.{TypeFault}
use Rattle.hip_sound.specs.declared.fault.TypeFault.TheVariants as faults
use Rattle.hip_sound.specs.declared.fault.TypeRefusal.{TypeRefusal}
use Rattle.hip_typing.specs.declared.refused.Refused.{Refused}
use Rattle.hip_typing.specs.declared.refused.Refused.TheVariants as refused

-- The refusal that a stopped verification gives: its finding, or out of memory at the whole program.
abbrev pub refusal_of : Refused → TypeRefusal
refusal_of (refused.Found f) = record { fault = fault_of f.fault; place = f.place }
refusal_of refused.NoMemory = record { fault = faults.NoMemory; place = places.Whole }

-- The refusal that the verification of paths gives: the place of a use and a path to it that does not assign its register, or
-- out of memory at the whole program.
abbrev pub refusal_on_paths : NotAssigned → TypeRefusal
refusal_on_paths (unassigned.Use place path) = record { fault = faults.Unassigned path; place = place }
refusal_on_paths unassigned.NoMemory = record { fault = faults.NoMemory; place = places.Whole }

-- The fault and the place are right. Out of memory has no place of its own, so its place is the whole program; any
-- other fault is the first fault of the program.
abbrev refuses : Program → TypeFault → Place → Type 0
refuses P faults.NoMemory place = place ≡ places.Whole
refuses P fault place = IsRefused P (record { fault = fault; place = place })

-- The program is not sound, and the refusal is its first fault. Out of memory says nothing about the program, and its
-- place is the whole program.
abbrev pub Refuses : Program → TypeRefusal → Type 0
Refuses P refusal = refuses P refusal.fault refusal.place

-- The verifier gives a sound program itself, and for any other its first fault, or out of memory.
abbrev pub Checks : {T : Type 0} → Program → Result T TypeRefusal → (T → Type 0) → Type 0
Checks P (Ok answer) is = IsSound P × is answer
Checks P (Err refusal) is = Refuses P refusal

-- ---- a program with a first fault is not sound

every_rule : (P : Program) → PassesVerifier P → (rules_required P).Holds
every_rule P s = (s.names, (s.globals, (s.externs, (s.sizes, (s.main, (s.registers, s.places))))))

finds_nothing : (P : Program) → PassesVerifier P → (rules_required P).found ≡ None
finds_nothing P s = (rules-exact P).whole (every_rule P s)

breaks_no_rule : (P : Program) (f : Finding) → IsSpelled P × ((rules_required P).found ≡ Some f) → ¬ PassesVerifier P
breaks_no_rule P f broken s = let none = finds_nothing P s in let found = broken.1 in cc

all-at : {A : Type 0} (P : A → Type 0) (before after : List A) (x : A) → All P (before ++ x ∷ after) → P x
all-at {A = A} P before after x all =
    subst P (at_end before) (all (length before) x within)
  where
    within : length before < length (before ++ x ∷ after)
    within = omega (arith, length-append before (x ∷ after))

    at_end : (ys : List A) → get_or (ys ++ x ∷ after) (length ys) x ≡ x
    at_end [] = refl
    at_end (y ∷ ys) = at_end ys

unassigned_is_not : (P : Program) (place : Place) (path : List ℕ) → IsFirstUnassigned P place path → ¬ PassesVerifier P
unassigned_is_not P place path u s =
    let all : AllAssigned u.fn u.function = s.assigned u.function u.fn u.here in
    let here : All (UseIsAssigned u.fn) (u.before ++ u.it ∷ u.after) =
    subst (λ (us : List RegisterUse). All (UseIsAssigned u.fn) us) u.uses all in
    all-at (UseIsAssigned u.fn) u.before u.after u.it here path u.unassigned

by_fault : (P : Program) (fault : TypeFault) (place : Place) →
    IsFirstFault P (record { fault = fault; place = place }) → ¬ PassesVerifier P
by_fault P faults.BadShape place f s = f.0 s.spelled
by_fault P faults.Duplicate place f s = breaks_no_rule P _ f s
by_fault P faults.Unknown place f s = breaks_no_rule P _ f s
by_fault P faults.Mismatch place f s = breaks_no_rule P _ f s
by_fault P faults.NoMain place f s = breaks_no_rule P _ f s
by_fault P (faults.Unassigned path) place f s = unassigned_is_not P place path f.2 s
by_fault P faults.BadExtern place f s = breaks_no_rule P _ f s
by_fault P faults.BadGlobal place f s = breaks_no_rule P _ f s
by_fault P faults.BadEdge place f s = breaks_no_rule P _ f s
by_fault P faults.TooLarge place f s = breaks_no_rule P _ f s
by_fault P faults.NoMemory place f s = f

pub first_fault-unsound : (P : Program) (refusal : TypeRefusal) → IsFirstFault P refusal → ¬ IsSound P
first_fault-unsound P refusal f s = by_fault P refusal.fault refusal.place f (sound-passes P s)

refused_for : (P : Program) (fault : TypeFault) (place : Place) →
    IsFirstFault P (record { fault = fault; place = place }) → IsRefused P (record { fault = fault; place = place })
refused_for P fault place f = record { unsound = λ s. by_fault P fault place f (sound-passes P s); first = f }

-- ---- the answers of the stages

pub refuses-unspelled : (P : Program) (spelled : Bool) → IsTrue spelled ↔ IsSpelled P → spelled ≡ false →
    Refuses P (record { fault = faults.BadShape; place = places.Whole })
refuses-unspelled P spelled tells off =
    refused_for P faults.BadShape places.Whole (λ s. let on : spelled ≡ true = tells.1 s in cc, refl)

pub is_spelled : (P : Program) (spelled : Bool) → IsTrue spelled ↔ IsSpelled P → spelled ≡ true → IsSpelled P
is_spelled P spelled tells on = tells.0 on

pub refuses-found : (P : Program) (fault : Fault) (place : Place) → IsSpelled P →
    (rules_required P).found ≡ Some (record { fault = fault; place = place }) →
    Refuses P (record { fault = fault_of fault; place = place })
refuses-found P breaks.Duplicate place s e = refused_for P faults.Duplicate place (s, e)
refuses-found P breaks.Unknown place s e = refused_for P faults.Unknown place (s, e)
refuses-found P breaks.Mismatch place s e = refused_for P faults.Mismatch place (s, e)
refuses-found P breaks.NoMain place s e = refused_for P faults.NoMain place (s, e)
refuses-found P breaks.BadExtern place s e = refused_for P faults.BadExtern place (s, e)
refuses-found P breaks.BadGlobal place s e = refused_for P faults.BadGlobal place (s, e)
refuses-found P breaks.BadEdge place s e = refused_for P faults.BadEdge place (s, e)
refuses-found P breaks.TooLarge place s e = refused_for P faults.TooLarge place (s, e)

pub refuses-stopped : (P : Program) (r : Refused) → IsSpelled P
    → Answers {T = Unit {0}} (Err r) (rules_required P).found →
    Refuses P (refusal_of r)
refuses-stopped P (refused.Found f) s e = refuses-found P f.fault f.place s e
refuses-stopped P refused.NoMemory s e = refl

pub inner_names-hold : (P : Program) → (rules_required P).found ≡ None → (inner_names_required P).Holds
inner_names-hold P none = ((rules-exact P).sound none).1.1.1.1.1.0

pub refuses-unassigned : (P : Program) (place : Place) (path : List ℕ) → IsSpelled P
    → (rules_required P).found ≡ None →
    IsFirstUnassigned P place path → Refuses P (record { fault = faults.Unassigned path; place = place })
refuses-unassigned P place path s none u = refused_for P (faults.Unassigned path) place (s, none, u)

pub refuses-on_paths : (P : Program) (e : NotAssigned) → IsSpelled P → (rules_required P).found ≡ None →
    AnswersAssigned {T = Unit {0}} (Err e) P → Refuses P (refusal_on_paths e)
refuses-on_paths P (unassigned.Use place path) s none u = refuses-unassigned P place path s none u
refuses-on_paths P unassigned.NoMemory s none u = refl

-- A spelled program that breaks no rule and assigns each register before its uses is sound.
pub sound-is : (P : Program) → IsSpelled P → (rules_required P).found ≡ None →
    ((f : ℕ) (fn : Function) → slice_get P.functions f ≡ Some fn → AllAssigned fn f) → IsSound P
sound-is P spelled none assigned =
    let h = (rules-exact P).sound none in
    passes-sound P (record {
      spelled = spelled;
      names = h.0;
      globals = h.1.0;
      externs = h.1.1.0;
      sizes = h.1.1.1.0;
      main = h.1.1.1.1.0;
      registers = h.1.1.1.1.1.0;
      places = h.1.1.1.1.1.1;
      assigned = assigned;
    })
