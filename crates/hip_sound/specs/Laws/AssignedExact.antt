-- Uses of registers, as a list in the order of their places and block by block.
use Rattle.std.specs.Prelude.{ℕ, zero, suc, ◌+◌, ◌≡◌, Bool, true, false, List, [], ◌∷◌, ◌++◌, map, get_or, All, Option, Some, None, option_map, slice_get, cond, if◌then◌else◌}
use Rattle.std.specs.List.{flat_map}
use Rattle.std.specs.Str.{bytes_eq}
use Rattle.std.proofs.Common.{refl, sym, ap, subst, ◌∙◌, arith, append-nil}
use Rattle.std.proofs.lemmas.List.Elements.{All-nil, All-cons, All-head, All-tail, All-append, All-map}
use Rattle.hip_tree.specs.declared.block.Block.{Block}
use Rattle.hip_tree.specs.declared.block.Edge.{Edge}
use Rattle.hip_tree.specs.declared.block.Phi.{Phi}
use Rattle.hip_tree.specs.declared.program.Function.{Function}
use Rattle.hip_globals.specs.Constants.{joined}
use Rattle.hip_names.specs.Names.{number_of}
use Rattle.hip_sound.specs.Names.{numbered_from}
use Rattle.hip_names.specs.Laws.NumberLaws.{number_of-cons}
use Rattle.hip_sound.specs.Paths.{IsAssigned}
use Rattle.hip_sound.specs.Registers.{instr_uses, end_uses, operand_registers, used_registers}
use Rattle.hip_sound.specs.Rules.{UseIsAssigned, AllAssigned, use_at, site, block_number_from, edge_register_uses, phi_register_uses, instr_register_uses, end_register_uses, block_register_uses}
use Rattle.hip_sound.specs.declared.point.Point.TheVariants.{Before, AtEnd}
use Rattle.hip_sound.specs.declared.fault.Place.{Place}
use Rattle.hip_sound.specs.declared.fault.Place.TheVariants as places
use Rattle.hip_sound.specs.Laws.Decided.{all-at, all-made}
use Rattle.hip_names.specs.Laws.NameLaws.{bytes_eq-sym}
use Rattle.hip_sound.specs.Sound.{EdgeIsAssigned, UsesAreAssigned}

-- ---- what holds of all items of lists that are appended

pub all-front : {X : Type 0} (Q : X → Type 0) (xs ys : List X) → All Q (xs ++ ys) → All Q xs
all-front Q [] ys h = All-nil Q
all-front Q (x ∷ xs) ys h = All-cons Q x xs (All-head Q x (xs ++ ys) h)
    (all-front Q xs ys (All-tail Q x (xs ++ ys) h))

pub all-back : {X : Type 0} (Q : X → Type 0) (xs ys : List X) → All Q (xs ++ ys) → All Q ys
all-back Q [] ys h = h
all-back Q (x ∷ xs) ys h = all-back Q xs ys (All-tail Q x (xs ++ ys) h)

all-mapped : {X Y : Type 0} (Q : Y → Type 0) (f : X → Y) (xs : List X) → All Q (map f xs)
    → All (λ x. Q (f x)) xs
all-mapped Q f [] h = All-nil (λ y. Q (f y))
all-mapped Q f (x ∷ xs) h =
    All-cons (λ y. Q (f y)) x xs (All-head Q (f x) (map f xs) h) (all-mapped Q f xs (All-tail Q (f x) (map f xs) h))

all-flat : {X Y : Type 0} (Q : Y → Type 0) (g : X → List Y) (xs : List X) → All Q (flat_map g xs)
    → All (λ x. All Q (g x)) xs
all-flat Q g [] h = All-nil (λ y. All Q (g y))
all-flat Q g (x ∷ xs) h =
    All-cons (λ y. All Q (g y)) x xs (all-front Q (g x) (flat_map g xs) h)
    (all-flat Q g xs (all-back Q (g x) (flat_map g xs) h))

flat-all : {X Y : Type 0} (Q : Y → Type 0) (g : X → List Y) (xs : List X) → All (λ x. All Q (g x)) xs
    → All Q (flat_map g xs)
flat-all Q g [] h = All-nil Q
flat-all Q g (x ∷ xs) h =
    All-append Q (g x) (flat_map g xs) (All-head (λ y. All Q (g y)) x xs h)
    (flat-all Q g xs (All-tail (λ y. All Q (g y)) x xs h))

pub all-joined : {X Y : Type 0} (Q : Y → Type 0) (n : ℕ) (make : ℕ → X → List Y) (xs : List X)
    → All Q (joined (numbered_from n make xs)) → (k : ℕ) (x : X) → slice_get xs k ≡ Some x
    → All Q (make (n + k) x)
all-joined Q n make [] h k x e = cc
all-joined Q n make (y ∷ ys) h zero x e =
    let same : y ≡ x = cc in
    let first : n ≡ n + 0 = omega arith in
    subst (λ m. All Q (make m x)) first (subst (λ z. All Q (make n z)) same
    (all-front Q (make n y) (joined (numbered_from (n + 1) make ys)) h))
all-joined Q n make (y ∷ ys) h (suc k) x e =
    let next : n + 1 + k ≡ n + suc k = omega arith in
    subst (λ m. All Q (make m x)) next (all-joined Q (n + 1) make ys
    (all-back Q (make n y) (joined (numbered_from (n + 1) make ys)) h) k x e)

pub joined-all : {X Y : Type 0} (Q : Y → Type 0) (n : ℕ) (make : ℕ → X → List Y) (xs : List X)
    → ((k : ℕ) (x : X) → slice_get xs k ≡ Some x → All Q (make (n + k) x))
    → All Q (joined (numbered_from n make xs))
joined-all Q n make [] h = All-nil Q
joined-all Q n make (y ∷ ys) h =
    let first : n + 0 ≡ n = omega arith in
    All-append Q (make n y) (joined (numbered_from (n + 1) make ys)) (subst (λ m. All Q (make m y)) first (h 0 y refl))
    (joined-all Q (n + 1) make ys (λ k x e. let next : n + suc k ≡ n + 1 + k = omega arith in
    subst (λ m. All Q (make m x)) next (h (suc k) x e)))

-- ---- numbers of blocks by their label

-- If an optional number plus 1 is a number, the optional number is one too.
pub number_before : (o : Option ℕ) (c : ℕ) → option_map suc o ≡ Some c → (d : ℕ) × (o ≡ Some d)
    × (c ≡ suc d)
number_before None c e = cc
number_before (Some d) c e = (d, refl, cc)

all-numbers : (Q : ℕ → Type 0) (n : ℕ) (bs : List Block) (label : List ℕ)
    → All Q (block_number_from n bs label)
    → (c : ℕ) → number_of (map (λ b. b.label) bs) label ≡ Some c → Q (n + c)
all-numbers Q n [] label h c e = cc
all-numbers Q n (b ∷ bs) label h c e =
    by_test (bytes_eq label b.label) refl c h (sym (number_of-cons b.label (map (λ b. b.label) bs) label) ∙ e)
    (λ g d f. all-numbers Q (n + 1) bs label g d f)
  where
    by_test : (t : Bool) → bytes_eq label b.label ≡ t → (c : ℕ)
        → All Q (if bytes_eq b.label label then n ∷ [] else block_number_from (n + 1) bs label)
        → cond t (Some 0) (option_map suc (number_of (map (λ b. b.label) bs) label)) ≡ Some c →
        (All Q (block_number_from (n + 1) bs label) → (d : ℕ)
        → number_of (map (λ b. b.label) bs) label ≡ Some d
        → Q (n + 1 + d)) → Q (n + c)
    by_test true is c h e rest =
        let there : bytes_eq b.label label ≡ true = bytes_eq-sym b.label label ∙ is in
        let here : All Q (n ∷ []) =
        subst (λ t. All Q (if t then n ∷ [] else block_number_from (n + 1) bs label)) there h in
        let zeroth : 0 ≡ c = cc in
        let at : n ≡ n + c = omega (arith, zeroth) in
        subst Q at (All-head Q n [] here)
    by_test false is c h e rest =
        let there : bytes_eq b.label label ≡ false = bytes_eq-sym b.label label ∙ is in
        let later : All Q (block_number_from (n + 1) bs label) =
        subst (λ t. All Q (if t then n ∷ [] else block_number_from (n + 1) bs label)) there h in
        let d = number_before (number_of (map (λ b. b.label) bs) label) c e in
        let number = d.2 in
        let at : n + 1 + d.0 ≡ n + c = omega (arith, number) in
        subst Q at (rest later d.0 d.1)

numbers-all : (Q : ℕ → Type 0) (n : ℕ) (bs : List Block) (label : List ℕ)
    → ((c : ℕ) → number_of (map (λ b. b.label) bs) label ≡ Some c → Q (n + c))
    → All Q (block_number_from n bs label)
numbers-all Q n [] label h = All-nil Q
numbers-all Q n (b ∷ bs) label h = by_test (bytes_eq b.label label) refl (λ g. numbers-all Q (n + 1) bs label g)
  where
    steps : (t : Bool) → bytes_eq b.label label ≡ t
        → number_of (b.label ∷ map (λ b. b.label) bs) label ≡ cond t (Some 0)
        (option_map suc (number_of (map (λ b. b.label) bs) label))
    steps t is =
        number_of-cons b.label (map (λ b. b.label) bs) label
        ∙ ap (λ t. cond t (Some 0) (option_map suc (number_of (map (λ b. b.label) bs) label)))
        (bytes_eq-sym label b.label ∙ is)

    by_test : (t : Bool) → bytes_eq b.label label ≡ t
        → (((c : ℕ) → number_of (map (λ b. b.label) bs) label ≡ Some c → Q (n + 1 + c))
        → All Q (block_number_from (n + 1) bs label))
        → All Q (if t then n ∷ [] else block_number_from (n + 1) bs
        label)
    by_test true is rest =
        let first : n + 0 ≡ n = omega arith in All-cons Q n [] (subst Q first (h 0 (steps true is))) (All-nil Q)
    by_test false is rest =
        rest (λ c e. let next : n + suc c ≡ n + 1 + c = omega arith in
        subst Q next (h (suc c) (steps false is ∙ ap (option_map suc) e)))

-- ---- uses of a place

edges-sound : (fn : Function) (place : Place) (p : Phi) (e : Edge)
    → All (UseIsAssigned fn) (edge_register_uses fn.blocks place p.ty e) → EdgeIsAssigned fn e
edges-sound fn place p e h c at =
    let each =
    all-flat (UseIsAssigned fn) (λ b. map (use_at place b AtEnd)
    (used_registers (record { operand = e.value; ty = p.ty } ∷ []))) (block_number_from 0 fn.blocks e.label) h in
    let here =
    all-numbers (λ b. All (UseIsAssigned fn)
    (map (use_at place b AtEnd) (used_registers (record { operand = e.value; ty = p.ty } ∷ [])))) 0 fn.blocks
    e.label each c at in
    let number : 0 + c ≡ c = omega arith in
    let of_c =
    subst (λ m. All (UseIsAssigned fn) (map (use_at place m AtEnd)
    (used_registers (record { operand = e.value; ty = p.ty } ∷ [])))) number here in
    subst (λ names. All (IsAssigned fn c AtEnd) names) (append-nil (operand_registers e.value))
    (all-mapped (UseIsAssigned fn) (use_at place c AtEnd)
    (used_registers (record { operand = e.value; ty = p.ty } ∷ [])) of_c)

edges-whole : (fn : Function) (place : Place) (p : Phi) (e : Edge) → EdgeIsAssigned fn e
    → All (UseIsAssigned fn) (edge_register_uses fn.blocks place p.ty e)
edges-whole fn place p e h =
    flat-all (UseIsAssigned fn) (λ b. map (use_at place b AtEnd)
    (used_registers (record { operand = e.value; ty = p.ty } ∷ []))) (block_number_from 0 fn.blocks e.label)
    (numbers-all (λ b. All (UseIsAssigned fn)
    (map (use_at place b AtEnd) (used_registers (record { operand = e.value; ty = p.ty } ∷ [])))) 0 fn.blocks
    e.label
    (λ c at.
    let number : c ≡ 0 + c = omega arith in
    subst (λ m. All (UseIsAssigned fn) (map (use_at place m AtEnd)
    (used_registers (record { operand = e.value; ty = p.ty } ∷ [])))) number
    (All-map (UseIsAssigned fn) (use_at place c AtEnd) (used_registers (record { operand = e.value; ty = p.ty } ∷ []))
    (subst (λ names. All (IsAssigned fn c AtEnd) names) (sym (append-nil (operand_registers e.value))) (h c at)))))

-- ---- uses of a block

block-sound : (fn : Function) (f b : ℕ) (block : Block)
    → All (UseIsAssigned fn) (block_register_uses fn.blocks f b block) → UsesAreAssigned fn b block
block-sound fn f b block h =
    let Q = UseIsAssigned fn in
    let phi_list =
    joined (numbered_from 0 (λ i p. phi_register_uses fn.blocks (places.Phi (site f b i)) p) block.phis) in
    let body_list = joined (numbered_from 0 (instr_register_uses f b) block.body) in
    let both = all-front Q (phi_list ++ body_list) (end_register_uses f b block.end) h in
    record {
      phis = all-made (λ p. All (EdgeIsAssigned fn) p.edges) block.phis
          (λ i p e.
          let number : 0 + i ≡ i = omega arith in
          let here =
          subst (λ m. All Q (phi_register_uses fn.blocks (places.Phi (site f b m)) p)) number
          (all-joined Q 0 (λ i p. phi_register_uses fn.blocks (places.Phi (site f b i)) p) block.phis
          (all-front Q phi_list body_list both) i p e) in
          let each = all-flat Q (edge_register_uses fn.blocks (places.Phi (site f b i)) p.ty) p.edges here in
          λ k d within. edges-sound fn (places.Phi (site f b i)) p (get_or p.edges k d) (each k d within));
      body = λ i instr e.
          let number : 0 + i ≡ i = omega arith in
          let here =
          subst (λ m. All Q (instr_register_uses f b m instr)) number
          (all-joined Q 0 (instr_register_uses f b) block.body (all-back Q phi_list body_list both) i instr e) in
          all-mapped Q (use_at (places.Body (site f b i)) b (Before i)) (used_registers (instr_uses instr)) here;
      last =
          all-mapped Q (use_at (places.End f b) b AtEnd) (used_registers (end_uses block.end))
          (all-back Q (phi_list ++ body_list) (end_register_uses f b block.end) h);
    }

block-whole : (fn : Function) (f b : ℕ) (block : Block) → UsesAreAssigned fn b block
    → All (UseIsAssigned fn) (block_register_uses fn.blocks f b block)
block-whole fn f b block u =
    let Q = UseIsAssigned fn in
    let phi_list =
    joined (numbered_from 0 (λ i p. phi_register_uses fn.blocks (places.Phi (site f b i)) p) block.phis) in
    let body_list = joined (numbered_from 0 (instr_register_uses f b) block.body) in
    All-append Q (phi_list ++ body_list) (end_register_uses f b block.end)
    (All-append Q phi_list body_list
    (joined-all Q 0 (λ i p. phi_register_uses fn.blocks (places.Phi (site f b i)) p) block.phis
    (λ i p e. flat-all Q (edge_register_uses fn.blocks (places.Phi (site f b (0 + i))) p.ty) p.edges
    (λ k d within. edges-whole fn (places.Phi (site f b (0 + i))) p (get_or p.edges k d)
    (all-at (λ p. All (EdgeIsAssigned fn) p.edges) block.phis i p u.phis e k d within))))
    (joined-all Q 0 (instr_register_uses f b) block.body
    (λ i instr e.
    let number : i ≡ 0 + i = omega arith in
    subst (λ m. All Q (instr_register_uses f b m instr)) number
    (All-map Q (use_at (places.Body (site f b i)) b (Before i)) (used_registers (instr_uses instr))
    (u.body i instr e)))))
    (All-map Q (use_at (places.End f b) b AtEnd) (used_registers (end_uses block.end)) u.last)

-- ---- uses of a function

pub assigned-sound : (fn : Function) (f : ℕ) → AllAssigned fn f → (b : ℕ) (block : Block)
    → slice_get fn.blocks b ≡ Some block → UsesAreAssigned fn b block
assigned-sound fn f h b block e =
    let number : 0 + b ≡ b = omega arith in
    block-sound fn f b block (subst (λ m. All (UseIsAssigned fn) (block_register_uses fn.blocks f m block)) number
    (all-joined (UseIsAssigned fn) 0 (block_register_uses fn.blocks f) fn.blocks h b block e))

pub assigned-whole : (fn : Function) (f : ℕ)
    → ((b : ℕ) (block : Block) → slice_get fn.blocks b ≡ Some block → UsesAreAssigned fn b block)
    → AllAssigned fn f
assigned-whole fn f h =
    joined-all (UseIsAssigned fn) 0 (block_register_uses fn.blocks f) fn.blocks
    (λ b block e. let number : b ≡ 0 + b = omega arith in
    subst (λ m. All (UseIsAssigned fn) (block_register_uses fn.blocks f m block)) number
    (block-whole fn f b block (h b block e)))
