-- Lists of uses of registers: how the answer for a part gives the answer for the whole.
use Rattle.std.proofs.Common.{ℕ, zero, suc, ◌+◌, ◌<◌, ◌≤◌, ◌≡◌, List, [], ◌∷◌, ◌++◌, map, drop, length, get_or, All, Result, Ok, Err, refl, sym, ap, ◌∙◌, arith, append_assoc, append-nil}
use Rattle.std.specs.List.{flat_map}
use Rattle.std.proofs.lemmas.List.{at_drop_more, map-append}
use Rattle.std.proofs.Math.ListN.{drop_of_length-le}
use Rattle.std.proofs.lemmas.List.Elements.{All-append}
use Rattle.std.proofs.lemmas.Grind.{flat_map-append}
use Rattle.hip_types.specs.declared.number.Scalar.{Scalar}
use Rattle.hip_tree.specs.declared.block.Phi.{Phi}
use Rattle.hip_tree.specs.declared.instr.Arg.{Arg}
use Rattle.hip_tree.specs.declared.instr.Operand.{Operand}
use Rattle.hip_tree.specs.declared.program.Function.{Function}
use Rattle.hip_globals.specs.Constants.{joined}
use Rattle.hip_sound.specs.Names.{numbered_from}
use Rattle.hip_sound.specs.Registers.{Use, use_of, arg_uses, operand_registers, used_registers}
use Rattle.hip_typing.specs.Seen.AssignedSeen.{AnswersUses, IsFirstOf}
use Rattle.hip_sound.specs.Paths.{IsUnassigned}
use Rattle.hip_sound.specs.Rules.{RegisterUse, UseIsAssigned, use_at, site, phi_register_uses}
use Rattle.hip_typing.specs.Seen.UsesSeen.{use_seen, uses_seen}
use Rattle.hip_typing.specs.declared.places.uses.Uses.{Uses}
use Rattle.hip_typing.specs.declared.assigned.NotAssigned.{NotAssigned}
use Rattle.hip_typing.specs.declared.assigned.NotAssigned.TheVariants as unassigned
use Rattle.hip_sound.specs.declared.point.Point.{Point}
use Rattle.hip_sound.specs.declared.fault.Place.{Place}
use Rattle.hip_sound.specs.declared.fault.Place.TheVariants as places

pub all_of_one : (fn : Function) (u : RegisterUse) → UseIsAssigned fn u → All (UseIsAssigned fn) (u ∷ [])
all_of_one fn u h zero d low = h
all_of_one fn u h (suc k) d low = absurd (omega arith)

pub first_of_one : (fn : Function) (place : Place) (block : ℕ) (point : Point) (name path : List ℕ) → IsUnassigned fn block point name path → IsFirstOf fn (use_at place block point name ∷ []) place path
first_of_one fn place block point name path h = record { before = []; it = use_at place block point name; after = []; is = refl; assigned = λ k d low. absurd (omega arith); at = refl; shown = h }

-- ---- one list after another

all_then : (fn : Function) (xs ys : List RegisterUse) → All (UseIsAssigned fn) xs → All (UseIsAssigned fn) ys → All (UseIsAssigned fn) (xs ++ ys)
all_then fn xs ys first next = All-append (UseIsAssigned fn) xs ys first next

first_after : (fn : Function) (xs ys : List RegisterUse) (place : Place) (path : List ℕ) → All (UseIsAssigned fn) xs → IsFirstOf fn ys place path → IsFirstOf fn (xs ++ ys) place path
first_after fn xs ys place path all is = record {
  before = xs ++ is.before;
  it = is.it;
  after = is.after;
  is = ap (λ zs. xs ++ zs) is.is ∙ sym (append_assoc xs is.before (is.it ∷ is.after));
  assigned = all_then fn xs is.before all is.assigned;
  at = is.at;
  shown = is.shown;
}

first_before : (fn : Function) (xs ys : List RegisterUse) (place : Place) (path : List ℕ) → IsFirstOf fn xs place path → IsFirstOf fn (xs ++ ys) place path
first_before fn xs ys place path is = record {
  before = is.before;
  it = is.it;
  after = is.after ++ ys;
  is = ap (λ zs. zs ++ ys) is.is ∙ append_assoc is.before (is.it ∷ is.after) ys;
  assigned = is.assigned;
  at = is.at;
  shown = is.shown;
}

-- If all uses of the first list are assigned, the answer for the second list is the answer for both lists.
pub answers_then : {T : Type 0} (fn : Function) (r : Result T NotAssigned) (xs ys : List RegisterUse) → All (UseIsAssigned fn) xs → AnswersUses fn r ys → AnswersUses fn r (xs ++ ys)
answers_then fn (Ok v) xs ys all h = all_then fn xs ys all h
answers_then fn (Err (unassigned.Use place path)) xs ys all h = first_after fn xs ys place path all h
answers_then fn (Err unassigned.NoMemory) xs ys all h = tt

-- A refusal of the first list is a refusal of both lists together.
pub answers_first : (T : Type 0) (fn : Function) (e : NotAssigned) (xs ys : List RegisterUse) → AnswersUses {T = T} fn (Err e) xs → AnswersUses {T = T} fn (Err e) (xs ++ ys)
answers_first T fn (unassigned.Use place path) xs ys h = first_before fn xs ys place path h
answers_first T fn unassigned.NoMemory xs ys h = tt

-- ---- the rest of a list, whose answer is that of the whole

pub record Carries (fn : Function) (rest whole : List RegisterUse) : Type 0 where
  pub carries : (r : Result (Unit {0}) NotAssigned) → AnswersUses fn r rest → AnswersUses fn r whole

pub carries_whole : (fn : Function) (whole : List RegisterUse) → Carries fn whole whole
carries_whole fn whole = record { carries = λ r h. h }

-- If the first part of the rest is assigned, the verification goes on with what follows that part.
pub carries_on : (fn : Function) (rest xs later whole : List RegisterUse) → rest ≡ xs ++ later → All (UseIsAssigned fn) xs → Carries fn rest whole → Carries fn later whole
carries_on fn rest xs later whole e all is = record { carries = λ r h. is.carries r (rw e (answers_then fn r xs later all h)) }

-- If the first part of the rest is refused, the whole is refused.
pub carries_refusal : (fn : Function) (rest xs later whole : List RegisterUse) (refused : NotAssigned) → rest ≡ xs ++ later → AnswersUses {T = Unit {0}} fn (Err refused) xs → Carries fn rest whole → AnswersUses {T = Unit {0}} fn (Err refused) whole
carries_refusal fn rest xs later whole refused e h is = is.carries (Err refused) (rw e (answers_first (Unit {0}) fn refused xs later h))

pub carries_end : (fn : Function) (rest whole : List RegisterUse) → rest ≡ [] → Carries fn rest whole → All (UseIsAssigned fn) whole
carries_end fn rest whole e is = is.carries (Ok tt) (rw e (λ k d low. absurd (omega arith)))

-- ---- lists of parts

pub flat_rest : {A B : Type 0} (g : A → List B) (xs : List A) (i : ℕ) (x : A) → i < length xs → x ≡ get_or xs i x → flat_map g (drop i xs) ≡ g x ++ flat_map g (drop (i + 1) xs)
flat_rest g xs i x within is = at_drop_more (λ ys. flat_map g ys) xs i x within ∙ ap (λ y. g y ++ flat_map g (drop (i + 1) xs)) (sym is)

pub numbered_rest : {A B : Type 0} (make : ℕ → A → List B) (xs : List A) (i : ℕ) (x : A) → i < length xs → x ≡ get_or xs i x → joined (numbered_from i make (drop i xs)) ≡ make i x ++ joined (numbered_from (i + 1) make (drop (i + 1) xs))
numbered_rest make xs i x within is = at_drop_more (λ ys. joined (numbered_from i make ys)) xs i x within ∙ ap (λ y. make i y ++ joined (numbered_from (i + 1) make (drop (i + 1) xs))) (sym is)

-- The uses of two lists of operands, one after the other.
pub used_then : (g : List ℕ → RegisterUse) (xs ys : List Use) → map g (used_registers (xs ++ ys)) ≡ map g (used_registers xs) ++ map g (used_registers ys)
used_then g xs ys = ap (map g) (flat_map-append (λ u. operand_registers u.operand) xs ys) ∙ map-append g (used_registers xs) (used_registers ys)

pub used_one : (g : List ℕ → RegisterUse) (o : Operand) (ty : Scalar) → map g (used_registers (use_of o ty ∷ [])) ≡ map g (operand_registers o)
used_one g o ty = ap (map g) (append-nil (operand_registers o))

pub args_rest : (g : List ℕ → RegisterUse) (args : List Arg) (i : ℕ) (a : Arg) → i < length args → a ≡ get_or args i a → map g (used_registers (arg_uses (drop i args))) ≡ map g (operand_registers a.value) ++ map g (used_registers (arg_uses (drop (i + 1) args)))
args_rest g args i a within is =
    at_drop_more (λ ys. map g (used_registers (arg_uses ys))) args i a within
    ∙ map-append g (operand_registers (get_or args i a).value) (used_registers (arg_uses (drop (i + 1) args)))
    ∙ ap (λ (y : Arg). map g (operand_registers y.value) ++ map g (used_registers (arg_uses (drop (i + 1) args)))) (sym is)

pub uses_split : (g : List ℕ → RegisterUse) (us : Uses) → map g (used_registers (uses_seen us)) ≡ map g (used_registers (use_seen us.first)) ++ (map g (used_registers (use_seen us.second)) ++ (map g (used_registers (use_seen us.third)) ++ map g (used_registers (arg_uses us.args.now))))
uses_split g us =
    used_then g (use_seen us.first) (use_seen us.second ++ (use_seen us.third ++ arg_uses us.args.now))
    ∙ ap (λ (zs : List RegisterUse). map g (used_registers (use_seen us.first)) ++ zs)
    (used_then g (use_seen us.second) (use_seen us.third ++ arg_uses us.args.now) ∙ ap (λ (zs : List RegisterUse). map g (used_registers (use_seen us.second)) ++ zs) (used_then g (use_seen us.third) (arg_uses us.args.now)))

-- ---- one step of a loop over a list of parts

abbrev pub args_left : (List ℕ → RegisterUse) → List Arg → List RegisterUse
args_left g args = map g (used_registers (arg_uses args))

-- The uses of numbered parts from one part on.
abbrev pub parts_left : {A : Type 0} → (ℕ → A → List RegisterUse) → List A → ℕ → List RegisterUse
parts_left make xs i = joined (numbered_from i make (drop i xs))

abbrev pub phi_uses_at : Function → ℕ → ℕ → ℕ → Phi → List RegisterUse
phi_uses_at fn f b i p = phi_register_uses fn.blocks (places.Phi (site f b i)) p

module _ (fn : Function) (whole : List RegisterUse) where
  abbrev Refused : NotAssigned → List RegisterUse → Type 0
  Refused e us = AnswersUses {T = Unit {0}} fn (Err e) us

  pub args_on : (g : List ℕ → RegisterUse) (args : List Arg) (i : ℕ) (a : Arg) → i < length args → a ≡ get_or args i a → All (UseIsAssigned fn) (map g (operand_registers a.value)) → Carries fn (args_left g (drop i args)) whole → Carries fn (args_left g (drop (i + 1) args)) whole
  args_on g args i a within is all so_far = carries_on fn (args_left g (drop i args)) (map g (operand_registers a.value)) (args_left g (drop (i + 1) args)) whole (args_rest g args i a within is) all so_far

  pub args_refused : (g : List ℕ → RegisterUse) (args : List Arg) (i : ℕ) (a : Arg) (e : NotAssigned) → i < length args → a ≡ get_or args i a → Refused e (map g (operand_registers a.value)) → Carries fn (args_left g (drop i args)) whole → Refused e whole
  args_refused g args i a e within is h so_far = carries_refusal fn (args_left g (drop i args)) (map g (operand_registers a.value)) (args_left g (drop (i + 1) args)) whole e (args_rest g args i a within is) h so_far

  pub args_end : (g : List ℕ → RegisterUse) (args : List Arg) (i : ℕ) → length args ≤ i → Carries fn (args_left g (drop i args)) whole → All (UseIsAssigned fn) whole
  args_end g args i past so_far = carries_end fn (args_left g (drop i args)) whole (ap (args_left g) (drop_of_length-le args past)) so_far

  pub flat_on : {A : Type 0} (g : A → List RegisterUse) (xs : List A) (i : ℕ) (x : A) → i < length xs → x ≡ get_or xs i x → All (UseIsAssigned fn) (g x) → Carries fn (flat_map g (drop i xs)) whole → Carries fn (flat_map g (drop (i + 1) xs)) whole
  flat_on g xs i x within is all so_far = carries_on fn (flat_map g (drop i xs)) (g x) (flat_map g (drop (i + 1) xs)) whole (flat_rest g xs i x within is) all so_far

  pub flat_refused : {A : Type 0} (g : A → List RegisterUse) (xs : List A) (i : ℕ) (x : A) (e : NotAssigned) → i < length xs → x ≡ get_or xs i x → Refused e (g x) → Carries fn (flat_map g (drop i xs)) whole → Refused e whole
  flat_refused g xs i x e within is h so_far = carries_refusal fn (flat_map g (drop i xs)) (g x) (flat_map g (drop (i + 1) xs)) whole e (flat_rest g xs i x within is) h so_far

  pub flat_end : {A : Type 0} (g : A → List RegisterUse) (xs : List A) (i : ℕ) → length xs ≤ i → Carries fn (flat_map g (drop i xs)) whole → All (UseIsAssigned fn) whole
  flat_end g xs i past so_far = carries_end fn (flat_map g (drop i xs)) whole (ap (flat_map g) (drop_of_length-le xs past)) so_far

  pub parts_on : {A : Type 0} (make : ℕ → A → List RegisterUse) (xs : List A) (i : ℕ) (x : A) → i < length xs → x ≡ get_or xs i x → All (UseIsAssigned fn) (make i x) → Carries fn (parts_left make xs i) whole → Carries fn (parts_left make xs (i + 1)) whole
  parts_on make xs i x within is all so_far = carries_on fn (parts_left make xs i) (make i x) (parts_left make xs (i + 1)) whole (numbered_rest make xs i x within is) all so_far

  pub parts_refused : {A : Type 0} (make : ℕ → A → List RegisterUse) (xs : List A) (i : ℕ) (x : A) (e : NotAssigned) → i < length xs → x ≡ get_or xs i x → Refused e (make i x) → Carries fn (parts_left make xs i) whole → Refused e whole
  parts_refused make xs i x e within is h so_far = carries_refusal fn (parts_left make xs i) (make i x) (parts_left make xs (i + 1)) whole e (numbered_rest make xs i x within is) h so_far

  pub parts_end : {A : Type 0} (make : ℕ → A → List RegisterUse) (xs : List A) (i : ℕ) → length xs ≤ i → Carries fn (parts_left make xs i) whole → All (UseIsAssigned fn) whole
  parts_end make xs i past so_far = carries_end fn (parts_left make xs i) whole (ap (λ ys. joined (numbered_from i make ys)) (drop_of_length-le xs past)) so_far

-- ---- what a place uses, part by part

abbrev in_place : (List ℕ → RegisterUse) → List Use → List RegisterUse
in_place g us = map g (used_registers us)

module _ (fn : Function) (g : List ℕ → RegisterUse) (us : Uses) where
  abbrev AllOf : List Use → Type 0
  AllOf list = All (UseIsAssigned fn) (in_place g list)

  pub third_refused : (e : NotAssigned) → AllOf (use_seen us.first) → AllOf (use_seen us.second) → AnswersUses {T = Unit {0}} fn (Err e) (in_place g (use_seen us.third)) → AnswersUses {T = Unit {0}} fn (Err e) (in_place g (uses_seen us))
  third_refused e a b h =
      rw (uses_split g us)
      (answers_then {T = Unit {0}} fn (Err e) (in_place g (use_seen us.first)) (in_place g (use_seen us.second) ++ (in_place g (use_seen us.third) ++ in_place g (arg_uses us.args.now))) a
      (answers_then {T = Unit {0}} fn (Err e) (in_place g (use_seen us.second)) (in_place g (use_seen us.third) ++ in_place g (arg_uses us.args.now)) b
      (answers_first (Unit {0}) fn e (in_place g (use_seen us.third)) (in_place g (arg_uses us.args.now)) h)))

  pub second_refused : (e : NotAssigned) → AllOf (use_seen us.first) → AnswersUses {T = Unit {0}} fn (Err e) (in_place g (use_seen us.second)) → AnswersUses {T = Unit {0}} fn (Err e) (in_place g (uses_seen us))
  second_refused e a h =
      rw (uses_split g us)
      (answers_then {T = Unit {0}} fn (Err e) (in_place g (use_seen us.first)) (in_place g (use_seen us.second) ++ (in_place g (use_seen us.third) ++ in_place g (arg_uses us.args.now))) a
      (answers_first (Unit {0}) fn e (in_place g (use_seen us.second)) (in_place g (use_seen us.third) ++ in_place g (arg_uses us.args.now)) h))

  pub first_refused : (e : NotAssigned) → AnswersUses {T = Unit {0}} fn (Err e) (in_place g (use_seen us.first)) → AnswersUses {T = Unit {0}} fn (Err e) (in_place g (uses_seen us))
  first_refused e h =
      rw (uses_split g us) (answers_first (Unit {0}) fn e (in_place g (use_seen us.first)) (in_place g (use_seen us.second) ++ (in_place g (use_seen us.third) ++ in_place g (arg_uses us.args.now))) h)

  pub rest_answered : (r : Result (Unit {0}) NotAssigned) → AllOf (use_seen us.first) → AllOf (use_seen us.second) → AllOf (use_seen us.third) → AnswersUses fn r (in_place g (arg_uses us.args.now)) → AnswersUses fn r (in_place g (uses_seen us))
  rest_answered r a b d h =
      rw (uses_split g us)
      (answers_then fn r (in_place g (use_seen us.first)) (in_place g (use_seen us.second) ++ (in_place g (use_seen us.third) ++ in_place g (arg_uses us.args.now))) a
      (answers_then fn r (in_place g (use_seen us.second)) (in_place g (use_seen us.third) ++ in_place g (arg_uses us.args.now)) b
      (answers_then fn r (in_place g (use_seen us.third)) (in_place g (arg_uses us.args.now)) d h)))

-- ---- a block

module _ (fn : Function) (phis instrs end : List RegisterUse) where
  pub second_part_refused : (e : NotAssigned) → All (UseIsAssigned fn) phis → AnswersUses {T = Unit {0}} fn (Err e) instrs → AnswersUses {T = Unit {0}} fn (Err e) (phis ++ instrs ++ end)
  second_part_refused e a h = answers_first (Unit {0}) fn e (phis ++ instrs) end (answers_then {T = Unit {0}} fn (Err e) phis instrs a h)

  pub first_part_refused : (e : NotAssigned) → AnswersUses {T = Unit {0}} fn (Err e) phis → AnswersUses {T = Unit {0}} fn (Err e) (phis ++ instrs ++ end)
  first_part_refused e h = answers_first (Unit {0}) fn e (phis ++ instrs) end (answers_first (Unit {0}) fn e phis instrs h)

  pub last_part_answered : (r : Result (Unit {0}) NotAssigned) → All (UseIsAssigned fn) phis → All (UseIsAssigned fn) instrs → AnswersUses fn r end → AnswersUses fn r (phis ++ instrs ++ end)
  last_part_answered r a b h = answers_then fn r (phis ++ instrs) end (all_then fn phis instrs a b) h

pub all_of_none : (fn : Function) (us : List RegisterUse) → us ≡ [] → All (UseIsAssigned fn) us
all_of_none fn us e = rw e (λ k d low. absurd (omega arith))
