-- Which entries the names of a function have, and what a name that differs from the others denotes.
use Rattle.std.proofs.Common.{ℕ, zero, suc, ◌+◌, ◌<◌, ◌≤◌, ◌≡◌, ◌⊎◌, Bool, true, false, List, [], ◌∷◌, ◌++◌, map, take, length, Option, Some, refl, sym, ap, subst, inl, inr, ⊎_elim, arith}
use Rattle.std.specs.Prelude.{if◌then◌else◌, slice_get}
use Rattle.std.specs.Str.{bytes_eq}
use Rattle.std.proofs.lemmas.List.{map-append, take_all}
use Rattle.std.proofs.lemmas.Bool.{le-leb, leb-true}
use Rattle.std.proofs.lemmas.Slice.Eq.{bytes_eq-Decides}
use Rattle.hip_tree.specs.declared.block.Block.{Block}
use Rattle.hip_tree.specs.declared.block.Phi.{Phi}
use Rattle.hip_tree.specs.declared.instr.Instr.{Instr}
use Rattle.hip_tree.specs.declared.program.Function.{Function}
use Rattle.hip_tree.specs.declared.program.Param.{Param}
use Rattle.hip_typing.specs.Seen.AssignedSeen.{is_there}
use Rattle.hip_globals.specs.Constants.{joined}
use Rattle.hip_sound.specs.Declarations.{instr_declared, body_declared, block_declared, blocks_declared}
use Rattle.hip_typing.specs.Seen.Inner.{entry, entries, inner_entries}
use Rattle.hip_names.specs.Names.{AllDiffer, IsAmong}
use Rattle.hip_sound.specs.Names.{numbered, numbered_from}
use Rattle.hip_sound.specs.Paths.{registers_before, names_of}
use Rattle.hip_sound.specs.Registers.{Register, assigned_by, phi_registers, body_registers, parameter_registers}
use Rattle.hip_names.specs.Tables.{Entry, value_of}
use Rattle.hip_sound.specs.declared.point.Point.{Point}
use Rattle.hip_sound.specs.declared.point.Point.TheVariants.{Before, AtEnd}
use Rattle.hip_typing.specs.declared.tables.inner_table.Inner.{Inner}
use Rattle.hip_typing.specs.declared.tables.inner_table.Inner.TheVariants.{Parameter, Label, Assigned}

-- One of the entries has this name and this value.
abbrev pub IsEntry : List (Entry Inner) → List ℕ → Inner → Type 0
IsEntry [] name v = ⊥
IsEntry (e ∷ es) name v = ((e.name ≡ name) × (e.value ≡ v)) ⊎ IsEntry es name v

entry_is_named : (es : List (Entry Inner)) (name : List ℕ) (v : Inner) → IsEntry es name v → IsAmong (map (λ e. e.name) es) name
entry_is_named [] name v h = absurd h
entry_is_named (e ∷ es) name v (inl h) = inl h.0
entry_is_named (e ∷ es) name v (inr h) = inr (entry_is_named es name v h)

-- ---- what a name denotes is an entry, and if names differ each entry is found

value_by_test : (b : Bool) (e : Entry Inner) (later : Option Inner) (name : List ℕ) (v : Inner) (es : List (Entry Inner)) → bytes_eq e.name name ≡ b
    → (later ≡ Some v → IsEntry es name v) → (if b then Some e.value else later) ≡ Some v → IsEntry (e ∷ es) name v
value_by_test true e later name v es same rest h = inl ((bytes_eq-Decides e.name name).0 same, cc)
value_by_test false e later name v es same rest h = inr (rest h)

pub value_is_entry : (es : List (Entry Inner)) (name : List ℕ) (v : Inner) → value_of es name ≡ Some v → IsEntry es name v
value_is_entry [] name v h = cc
value_is_entry (e ∷ es) name v h = value_by_test (bytes_eq e.name name) e (value_of es name) name v es refl (λ g. value_is_entry es name v g) h

other_by_test : (b : Bool) (e : Entry Inner) (later : Option Inner) (name : List ℕ) (v : Inner) → bytes_eq e.name name ≡ b → (e.name ≡ name → ⊥) → later ≡ Some v → (if b then Some e.value else later) ≡ Some v
other_by_test true e later name v same apart h = absurd (apart ((bytes_eq-Decides e.name name).0 same))
other_by_test false e later name v same apart h = h

pub entry_is_value : (es : List (Entry Inner)) (name : List ℕ) (v : Inner) → AllDiffer (map (λ e. e.name) es) → IsEntry es name v → value_of es name ≡ Some v
entry_is_value [] name v differ h = absurd h
entry_is_value (e ∷ es) name v differ (inl h) = rw ((bytes_eq-Decides e.name name).1 h.0) (ap Some h.1)
entry_is_value (e ∷ es) name v differ (inr h) =
    other_by_test (bytes_eq e.name name) e (value_of es name) name v refl
    (λ same. differ.0 (subst (λ (n : List ℕ). IsAmong (map (λ e. e.name) es) n) (sym same) (entry_is_named es name v h))) (entry_is_value es name v differ.1 h)

-- ---- entries of lists

pub entry_left : (xs ys : List (Entry Inner)) (name : List ℕ) (v : Inner) → IsEntry xs name v → IsEntry (xs ++ ys) name v
entry_left [] ys name v h = absurd h
entry_left (x ∷ xs) ys name v (inl h) = inl h
entry_left (x ∷ xs) ys name v (inr h) = inr (entry_left xs ys name v h)

pub entry_right : (xs ys : List (Entry Inner)) (name : List ℕ) (v : Inner) → IsEntry ys name v → IsEntry (xs ++ ys) name v
entry_right [] ys name v h = h
entry_right (x ∷ xs) ys name v h = inr (entry_right xs ys name v h)

pub entry_cases : (xs ys : List (Entry Inner)) (name : List ℕ) (v : Inner) → IsEntry (xs ++ ys) name v → IsEntry xs name v ⊎ IsEntry ys name v
entry_cases [] ys name v h = inr h
entry_cases (x ∷ xs) ys name v (inl h) = inl (inl h)
entry_cases (x ∷ xs) ys name v (inr h) = ⊎_elim (λ a. inl (inr a)) (λ b. inr b) (entry_cases xs ys name v h)

-- The item that an entry comes from, and its number.
pub record ComesOf {A : Type 0} (n : ℕ) (make : ℕ → A → List (Entry Inner)) (xs : List A) (name : List ℕ) (v : Inner) : Type 0 where
  pub number : ℕ
  pub item : A
  pub here : slice_get xs number ≡ Some item
  pub is : IsEntry (make (n + number) item) name v

comes_first : {A : Type 0} (n : ℕ) (make : ℕ → A → List (Entry Inner)) (x : A) (xs : List A) (name : List ℕ) (v : Inner) → IsEntry (make n x) name v → ComesOf n make (x ∷ xs) name v
comes_first n make x xs name v g = record { number = 0; item = x; here = refl; is = let e : n + 0 ≡ n = omega arith in rw e g }

comes_later : {A : Type 0} (n : ℕ) (make : ℕ → A → List (Entry Inner)) (x : A) (xs : List A) (name : List ℕ) (v : Inner) → ComesOf (n + 1) make xs name v → ComesOf n make (x ∷ xs) name v
comes_later n make x xs name v c = record { number = suc c.number; item = c.item; here = c.here; is = let e : n + suc c.number ≡ n + 1 + c.number = omega arith in rw e c.is }

pub comes_of : {A : Type 0} (n : ℕ) (make : ℕ → A → List (Entry Inner)) (xs : List A) (name : List ℕ) (v : Inner) → IsEntry (joined (numbered_from n make xs)) name v → ComesOf n make xs name v
comes_of n make [] name v h = absurd h
comes_of n make (x ∷ xs) name v h =
    ⊎_elim (λ g. comes_first n make x xs name v g) (λ g. comes_later n make x xs name v (comes_of (n + 1) make xs name v g)) (entry_cases (make n x) (joined (numbered_from (n + 1) make xs)) name v h)

pub goes_into : {A : Type 0} (n : ℕ) (make : ℕ → A → List (Entry Inner)) (xs : List A) (k : ℕ) (x : A) (name : List ℕ) (v : Inner) → slice_get xs k ≡ Some x → IsEntry (make (n + k) x) name v → IsEntry (joined (numbered_from n make xs)) name v
goes_into n make [] k x name v here h = cc
goes_into n make (y ∷ ys) zero x name v here h =
    let e : n + 0 ≡ n = omega arith in
    let same : y ≡ x = cc in
    entry_left (make n y) _ name v (rw same (rw e at h))
goes_into n make (y ∷ ys) (suc k) x name v here h =
    let e : n + suc k ≡ n + 1 + k = omega arith in
    entry_right (make n y) _ name v (goes_into (n + 1) make ys k x name v here (rw e at h))

-- ---- names among others

pub among_left : (xs ys : List (List ℕ)) (name : List ℕ) → IsAmong xs name → IsAmong (xs ++ ys) name
among_left [] ys name h = absurd h
among_left (x ∷ xs) ys name (inl e) = inl e
among_left (x ∷ xs) ys name (inr h) = inr (among_left xs ys name h)

pub among_right : (xs ys : List (List ℕ)) (name : List ℕ) → IsAmong ys name → IsAmong (xs ++ ys) name
among_right [] ys name h = h
among_right (x ∷ xs) ys name h = inr (among_right xs ys name h)

pub among_cases : (xs ys : List (List ℕ)) (name : List ℕ) → IsAmong (xs ++ ys) name → IsAmong xs name ⊎ IsAmong ys name
among_cases [] ys name h = inr h
among_cases (x ∷ xs) ys name (inl e) = inl (inl e)
among_cases (x ∷ xs) ys name (inr h) = ⊎_elim (λ a. inl (inr a)) (λ b. inr b) (among_cases xs ys name h)

named_cases : (xs ys : List Register) (name : List ℕ) → IsAmong (names_of (xs ++ ys)) name → IsAmong (names_of xs) name ⊎ IsAmong (names_of ys) name
named_cases xs ys name h = among_cases (names_of xs) (names_of ys) name (rw (map-append (λ r. r.name) xs ys) at h)

named_left : (xs ys : List Register) (name : List ℕ) → IsAmong (names_of xs) name → IsAmong (names_of (xs ++ ys)) name
named_left xs ys name h = rw (map-append (λ r. r.name) xs ys) (among_left (names_of xs) (names_of ys) name h)

named_right : (xs ys : List Register) (name : List ℕ) → IsAmong (names_of ys) name → IsAmong (names_of (xs ++ ys)) name
named_right xs ys name h = rw (map-append (λ r. r.name) xs ys) (among_right (names_of xs) (names_of ys) name h)

-- ---- the entries of phis, of an instruction, of a body

phi_to : (b n : ℕ) (phis : List Phi) (name : List ℕ) → IsAmong (names_of (phi_registers phis)) name → IsEntry (numbered_from n (entries.phi b) phis) name (Assigned b 0)
phi_to b n [] name h = absurd h
phi_to b n (p ∷ ps) name (inl e) = inl (e, refl)
phi_to b n (p ∷ ps) name (inr h) = inr (phi_to b (n + 1) ps name h)

phi_from : (b n : ℕ) (phis : List Phi) (name : List ℕ) (v : Inner) → IsEntry (numbered_from n (entries.phi b) phis) name v → (Assigned b 0 ≡ v) × IsAmong (names_of (phi_registers phis)) name
phi_from b n [] name v h = absurd h
phi_from b n (p ∷ ps) name v (inl h) = (h.1, inl h.0)
phi_from b n (p ∷ ps) name v (inr h) = let rest = phi_from b (n + 1) ps name v h in (rest.0, inr rest.1)

assigned_to : (rs : List Register) (name : List ℕ) (v : Inner) → IsAmong (names_of rs) name → IsEntry (map (λ r. entry r.name v) rs) name v
assigned_to [] name v h = absurd h
assigned_to (r ∷ rs) name v (inl e) = inl (e, refl)
assigned_to (r ∷ rs) name v (inr h) = inr (assigned_to rs name v h)

assigned_from : (rs : List Register) (name : List ℕ) (v w : Inner) → IsEntry (map (λ r. entry r.name v) rs) name w → (v ≡ w) × IsAmong (names_of rs) name
assigned_from [] name v w h = absurd h
assigned_from (r ∷ rs) name v w (inl h) = (h.1, inl h.0)
assigned_from (r ∷ rs) name v w (inr h) = let rest = assigned_from rs name v w h in (rest.0, inr rest.1)

record BodyEntry (b n : ℕ) (body : List Instr) (name : List ℕ) (bound : ℕ) : Type 0 where
  pub after : ℕ
  pub within : after ≤ bound
  pub is : IsEntry (joined (numbered_from n (instr_declared (entries.instr b)) body)) name (Assigned b after)

body_to : (b n k : ℕ) (body : List Instr) (name : List ℕ) → IsAmong (names_of (body_registers (take k body))) name → BodyEntry b n body name (n + k)
body_to b n zero [] name h = absurd h
body_to b n zero (i ∷ is) name h = absurd h
body_to b n (suc k) [] name h = absurd h
body_to b n (suc k) (i ∷ is) name h =
    ⊎_elim
    (λ g. record { after = n + 1; within = omega arith; is = entry_left (instr_declared (entries.instr b) n i) _ name (Assigned b (n + 1)) (assigned_to (assigned_by i) name (Assigned b (n + 1)) g) })
    (λ g.
    let rest : BodyEntry b (n + 1) is name (n + 1 + k) = body_to b (n + 1) k is name g in
    record { after = rest.after; within = omega (arith, rest.within); is = entry_right (instr_declared (entries.instr b) n i) _ name (Assigned b rest.after) rest.is })
    (named_cases (assigned_by i) (body_registers (take k is)) name h)

record BodyName (b n : ℕ) (body : List Instr) (name : List ℕ) (v : Inner) : Type 0 where
  pub after : ℕ
  pub value : Assigned b after ≡ v
  pub later : n < after
  pub named : (k : ℕ) → after ≤ n + k → IsAmong (names_of (body_registers (take k body))) name

name_first : (n k : ℕ) (i : Instr) (is : List Instr) (name : List ℕ) → IsAmong (names_of (assigned_by i)) name → n + 1 ≤ n + k → IsAmong (names_of (body_registers (take k (i ∷ is)))) name
name_first n zero i is name h low = absurd (omega arith)
name_first n (suc k) i is name h low = named_left (assigned_by i) (body_registers (take k is)) name h

name_later : (n after k : ℕ) (i : Instr) (is : List Instr) (name : List ℕ) → n + 1 < after → ((m : ℕ) → after ≤ n + 1 + m → IsAmong (names_of (body_registers (take m is))) name) → after ≤ n + k → IsAmong (names_of (body_registers (take k (i ∷ is)))) name
name_later n after zero i is name later named low = absurd (omega arith)
name_later n after (suc k) i is name later named low = named_right (assigned_by i) (body_registers (take k is)) name (named k (omega arith))

body_from : (b n : ℕ) (body : List Instr) (name : List ℕ) (v : Inner) → IsEntry (joined (numbered_from n (instr_declared (entries.instr b)) body)) name v → BodyName b n body name v
body_from b n [] name v h = absurd h
body_from b n (i ∷ is) name v h =
    ⊎_elim
    (λ g.
    let one = assigned_from (assigned_by i) name (Assigned b (n + 1)) v g in
    record { after = n + 1; value = one.0; later = omega arith; named = λ k low. name_first n k i is name one.1 low })
    (λ g.
    let rest : BodyName b (n + 1) is name v = body_from b (n + 1) is name v g in
    record { after = rest.after; value = rest.value; later = omega (arith, rest.later); named = λ k low. name_later n rest.after k i is name rest.later rest.named low })
    (entry_cases (instr_declared (entries.instr b) n i) (joined (numbered_from (n + 1) (instr_declared (entries.instr b)) is)) name v h)

-- ---- the entries of a block

-- A register of the block can be used at the point.
pub record IsUsable (b : ℕ) (point : Point) (entries : List (Entry Inner)) (name : List ℕ) : Type 0 where
  pub after : ℕ
  pub there : is_there point after ≡ true
  pub is : IsEntry entries name (Assigned b after)

there_from_start : (point : Point) → is_there point 0 ≡ true
there_from_start (Before k) = le-leb 0 k (omega arith)
there_from_start AtEnd = refl

abbrev body_part : Point → Block → List Instr
body_part (Before k) block = take k block.body
body_part AtEnd block = block.body

body_before_to : (b : ℕ) (point : Point) (block : Block) (name : List ℕ) → IsAmong (names_of (body_registers (body_part point block))) name → IsUsable b point (body_declared (entries.instr b) block.body) name
body_before_to b (Before k) block name h =
    let found : BodyEntry b 0 block.body name (0 + k) = body_to b 0 k block.body name h in
    record { after = found.after; there = le-leb found.after k (omega (arith, found.within)); is = found.is }
body_before_to b AtEnd block name h =
    let found : BodyEntry b 0 block.body name (0 + length block.body) = body_to b 0 (length block.body) block.body name (rw (take_all (length block.body) block.body (omega arith)) h) in
    record { after = found.after; there = refl; is = found.is }

body_before_from : (b : ℕ) (point : Point) (block : Block) (name : List ℕ) (after : ℕ) → ((k : ℕ) → after ≤ 0 + k → IsAmong (names_of (body_registers (take k block.body))) name) → is_there point after ≡ true → IsAmong (names_of (body_registers (body_part point block))) name
body_before_from b (Before k) block name after named there = named k (omega (arith, leb-true after k there))
body_before_from b AtEnd block name after named there =
    let long : after ≤ 0 + (after + length block.body) = omega arith in
    rw (take_all (after + length block.body) block.body (omega arith)) at (named (after + length block.body) long)

registers_before-is : (point : Point) (block : Block) → registers_before point block ≡ phi_registers block.phis ++ body_registers (body_part point block)
registers_before-is (Before k) block = refl
registers_before-is AtEnd block = refl

pub usable_before : (b : ℕ) (point : Point) (block : Block) (name : List ℕ) → IsAmong (names_of (registers_before point block)) name → IsUsable b point (block_declared entries b block) name
usable_before b point block name h =
    ⊎_elim
    (λ g. record { after = 0; there = there_from_start point; is = inr (entry_left (numbered (entries.phi b) block.phis) (body_declared (entries.instr b) block.body) name (Assigned b 0) (phi_to b 0 block.phis name g)) })
    (λ g.
    let found : IsUsable b point (body_declared (entries.instr b) block.body) name = body_before_to b point block name g in
    record { after = found.after; there = found.there; is = inr (entry_right (numbered (entries.phi b) block.phis) (body_declared (entries.instr b) block.body) name (Assigned b found.after) found.is) })
    (named_cases (phi_registers block.phis) (body_registers (body_part point block)) name (rw (registers_before-is point block) at h))

-- A register's entry in a block names this block, and the register can be used at each point after its assignment.
pub record IsAssignedIn (b : ℕ) (block : Block) (name : List ℕ) (d after : ℕ) : Type 0 where
  pub same : d ≡ b
  pub before : (point : Point) → is_there point after ≡ true → IsAmong (names_of (registers_before point block)) name

phi_assigned : (b : ℕ) (block : Block) (name : List ℕ) (d after : ℕ) → IsEntry (numbered (entries.phi b) block.phis) name (Assigned d after) → IsAssignedIn b block name d after
phi_assigned b block name d after h =
    let found = phi_from b 0 block.phis name (Assigned d after) h in
    let e : Assigned b 0 ≡ Assigned d after = found.0 in
    record { same = cc; before = λ point there. rw (registers_before-is point block) (named_left (phi_registers block.phis) (body_registers (body_part point block)) name found.1) }

body_assigned : (b : ℕ) (block : Block) (name : List ℕ) (d after : ℕ) → IsEntry (body_declared (entries.instr b) block.body) name (Assigned d after) → IsAssignedIn b block name d after
body_assigned b block name d after h =
    let found : BodyName b 0 block.body name (Assigned d after) = body_from b 0 block.body name (Assigned d after) h in
    let e : Assigned b found.after ≡ Assigned d after = found.value in
    let same_place : found.after ≡ after = cc in
    record {
      same = cc;
      before = λ point there.
          rw (registers_before-is point block)
          (named_right (phi_registers block.phis) (body_registers (body_part point block)) name (body_before_from b point block name found.after found.named (rw same_place there)));
    }

pub assigned_in : (b : ℕ) (block : Block) (name : List ℕ) (d after : ℕ) → IsEntry (block_declared entries b block) name (Assigned d after) → IsAssignedIn b block name d after
assigned_in b block name d after (inl h) = let e : Label b ≡ Assigned d after = h.1 in cc
assigned_in b block name d after (inr h) =
    ⊎_elim (λ g. phi_assigned b block name d after g) (λ g. body_assigned b block name d after g) (entry_cases (numbered (entries.phi b) block.phis) (body_declared (entries.instr b) block.body) name (Assigned d after) h)

-- An entry of a block that is not its label is the entry of a register.
registers_assign : (b : ℕ) (block : Block) (name : List ℕ) (v : Inner) → IsEntry (numbered (entries.phi b) block.phis ++ body_declared (entries.instr b) block.body) name v → (after : ℕ) × (Assigned b after ≡ v)
registers_assign b block name v h =
    ⊎_elim (λ g. (0, (phi_from b 0 block.phis name v g).0)) (λ g. let found : BodyName b 0 block.body name v = body_from b 0 block.body name v g in (found.after, found.value))
    (entry_cases (numbered (entries.phi b) block.phis) (body_declared (entries.instr b) block.body) name v h)

pub label_in : (b : ℕ) (block : Block) (name : List ℕ) (c : ℕ) → IsEntry (block_declared entries b block) name (Label c) → (block.label ≡ name) × (b ≡ c)
label_in b block name c (inl h) = let e : Label b ≡ Label c = h.1 in (h.0, cc)
label_in b block name c (inr h) = let found = registers_assign b block name (Label c) h in let e : Assigned b found.0 ≡ Label c = found.1 in cc

pub no_parameter_in : (b : ℕ) (block : Block) (name : List ℕ) → IsEntry (block_declared entries b block) name Parameter → ⊥
no_parameter_in b block name (inl h) = let e : Label b ≡ Parameter = h.1 in cc
no_parameter_in b block name (inr h) = let found = registers_assign b block name Parameter h in let e : Assigned b found.0 ≡ Parameter = found.1 in cc

-- ---- the entries of a function

parameter_to : (params : List Param) (name : List ℕ) → IsAmong (names_of (map (λ p. record { name = p.name; ty = Some p.ty }) params)) name → IsEntry (map entries.parameter params) name Parameter
parameter_to [] name h = absurd h
parameter_to (p ∷ ps) name (inl e) = inl (e, refl)
parameter_to (p ∷ ps) name (inr h) = inr (parameter_to ps name h)

parameter_from : (params : List Param) (name : List ℕ) (v : Inner) → IsEntry (map entries.parameter params) name v → (Parameter ≡ v) × IsAmong (names_of (map (λ p. record { name = p.name; ty = Some p.ty }) params)) name
parameter_from [] name v h = absurd h
parameter_from (p ∷ ps) name v (inl h) = (h.1, inl h.0)
parameter_from (p ∷ ps) name v (inr h) = let rest = parameter_from ps name v h in (rest.0, inr rest.1)

pub parameter_is_entry : (fn : Function) (name : List ℕ) → IsAmong (names_of (parameter_registers fn)) name → IsEntry (inner_entries fn) name Parameter
parameter_is_entry fn name h = entry_left (map entries.parameter fn.params) (blocks_declared entries fn.blocks) name Parameter (parameter_to fn.params name h)

pub block_is_in : (fn : Function) (b : ℕ) (block : Block) (name : List ℕ) (v : Inner) → slice_get fn.blocks b ≡ Some block → IsEntry (block_declared entries b block) name v → IsEntry (inner_entries fn) name v
block_is_in fn b block name v here h =
    let e : 0 + b ≡ b = omega arith in
    entry_right (map entries.parameter fn.params) (blocks_declared entries fn.blocks) name v (goes_into 0 (block_declared entries) fn.blocks b block name v here (subst (λ (k : ℕ). IsEntry (block_declared entries k block) name v) (sym e) h))

-- A block that has the entry.
pub record InBlock (fn : Function) (name : List ℕ) (v : Inner) : Type 0 where
  pub number : ℕ
  pub block : Block
  pub here : slice_get fn.blocks number ≡ Some block
  pub is : IsEntry (block_declared entries number block) name v

in_blocks : (fn : Function) (name : List ℕ) (v : Inner) → IsEntry (blocks_declared entries fn.blocks) name v → InBlock fn name v
in_blocks fn name v h =
    let c : ComesOf 0 (block_declared entries) fn.blocks name v = comes_of 0 (block_declared entries) fn.blocks name v h in
    let e : 0 + c.number ≡ c.number = omega arith in
    record { number = c.number; block = c.item; here = c.here; is = subst (λ (k : ℕ). IsEntry (block_declared entries k c.item) name v) e c.is }

pub entry_of_function : (fn : Function) (name : List ℕ) (v : Inner) → IsEntry (inner_entries fn) name v → ((Parameter ≡ v) × IsAmong (names_of (parameter_registers fn)) name) ⊎ InBlock fn name v
entry_of_function fn name v h =
    ⊎_elim (λ g. inl (parameter_from fn.params name v g)) (λ g. inr (in_blocks fn name v g)) (entry_cases (map entries.parameter fn.params) (blocks_declared entries fn.blocks) name v h)
