-- The names, places and tables of a function, as loops collect them.
use Rattle.std.proofs.Common.{◌≡◌, ℕ, zero, suc, ◌+◌, ◌<◌, ◌≤◌, Bool, true, false, cond, List, [], ◌∷◌, ◌++◌, length, map, get_or, Some, None, slice_get, append_assoc, refl, sym, ap, ◌∙◌, subst, inl, inr, ⊎_elim, arith, eq-or-lt_of_le}
use Rattle.std.specs.List.{flat_map}
use Rattle.std.specs.Str.{bytes_eq}
use Rattle.std.proofs.lemmas.List.{append-nil, length-append, map-append}
use Rattle.hip_types.specs.Distinct.{met}
use Rattle.hip_types.specs.Laws.DistinctLaws.{get_kept}
use Rattle.hip_tree.specs.declared.block.Block.{Block}
use Rattle.hip_tree.specs.declared.block.Phi.{Phi}
use Rattle.hip_tree.specs.declared.program.Param.{Param}
use Rattle.hip_names.specs.Laws.MetLaws.{met-append}
use Rattle.hip_tree.specs.declared.program.Function.{Function}
use Rattle.hip_tree.specs.declared.program.Program.{Program}
use Rattle.hip_code.specs.Entries.{entry, entry_in, entry_of}
use Rattle.hip_code.specs.Frames.{names_at, names_in}
use Rattle.hip_names.specs.declared.table.NameTable.{NameTable}
use Rattle.std.proofs.lemmas.Option.{same_Some, slice_get-get_or, slice_get_within}
use Rattle.hip_names.specs.Names.{AllDiffer, IsAmong, is_among}
use Rattle.hip_names.specs.Laws.NameLaws.{among-sound, among-right}
use Rattle.hip_names.specs.Laws.DifferLaws.{differ_apart, differ_second}
use Rattle.hip_sound.specs.NumberedNames.{function_names}
use Rattle.hip_sound.specs.Laws.Decided.{all-at}
use Rattle.hip_sound.specs.Paths.{names_of}
use Rattle.hip_sound.specs.Registers.{Register, assigned_by, body_registers, block_registers, parameter_registers, phi_registers}
use Rattle.hip_sound.specs.Sound.{IsSound, names_in_block, names_in_function, register_names}
use Rattle.hip_scope.proofs.Growth.{get_last}
use Rattle.hip_scope.proofs.Places.{at_function, entry_at, first_block, next_in, next_of}
use Rattle.hip_scope.specs.Listed.{Lists, RegistersDiffer, SourcesOf}
use Rattle.hip_scope.specs.Scopes.{OfFunctions}
use Rattle.hip_runs.specs.Places.{block_at, blocks_in, blocks_of}
use Rattle.hip_scope.proofs.Sound.{names_differ}
use Rattle.hip_scope.specs.PhiNumbers.{HasTables, NumbersPhis}

-- ---- names that differ are all new

none_there : (b : Bool) → (b ≡ true → ⊥) → b ≡ false
none_there true f = absurd (f refl)
none_there false f = refl

met_differ : (acc xs : List (List ℕ)) → AllDiffer (acc ++ xs) → met bytes_eq acc xs ≡ acc ++ xs
met_differ acc [] d = sym (append-nil acc)
met_differ acc (y ∷ ys) d =
    let new : is_among acc y ≡ false = none_there (is_among acc y) (λ e. differ_apart acc (y ∷ ys) d y (among-sound acc y e) (inl refl)) in
    ap (λ b. met bytes_eq (cond b acc (acc ++ y ∷ [])) ys) new
    ∙ met_differ (acc ++ y ∷ []) ys (subst AllDiffer (sym (append_assoc acc (y ∷ []) ys)) d) ∙ append_assoc acc (y ∷ []) ys

pub all_met : (xs : List (List ℕ)) → AllDiffer xs → met bytes_eq [] xs ≡ xs
all_met xs d = met_differ [] xs d

pub names_each : {A : Type 0} (f : A → List Register) (xs : List A) → names_of (flat_map f xs) ≡ flat_map (λ x. names_of (f x)) xs
names_each f [] = refl
names_each f (x ∷ xs) = map-append (λ (r : Register). r.name) (f x) (flat_map f xs) ∙ ap (λ ns. names_of (f x) ++ ns) (names_each f xs)

pub names_both : (xs ys : List Register) → names_of (xs ++ ys) ≡ names_of xs ++ names_of ys
names_both xs ys = map-append (λ (r : Register). r.name) xs ys

names_map : {A : Type 0} (f : A → Register) (xs : List A) → names_of (map f xs) ≡ map (λ x. (f x).name) xs
names_map f [] = refl
names_map f (x ∷ xs) = ap (λ ns. (f x).name ∷ ns) (names_map f xs)

-- The registers of a block: those of its phis, then those of its body.
pub block_met : (names : List (List ℕ)) (b : Block) →
    met bytes_eq (met bytes_eq names (map (λ p. p.dest) b.phis)) (flat_map (λ i. names_of (assigned_by i)) b.body) ≡ met bytes_eq names (names_of (block_registers b))
block_met names b =
    sym (met-append bytes_eq names (map (λ p. p.dest) b.phis) (flat_map (λ i. names_of (assigned_by i)) b.body))
    ∙ ap (λ ns. met bytes_eq names (ns ++ flat_map (λ i. names_of (assigned_by i)) b.body)) (sym (names_map (λ (p : Phi). record { name = p.dest; ty = Some p.ty }) b.phis))
    ∙ ap (λ ns. met bytes_eq names (names_of (phi_registers b.phis) ++ ns)) (sym (names_each assigned_by b.body))
    ∙ ap (met bytes_eq names) (sym (names_both (phi_registers b.phis) (body_registers b.body)))

-- The registers of a function: the parameters, then those of its blocks.
pub function_met : (fn : Function) → AllDiffer (register_names fn) →
    met bytes_eq (met bytes_eq [] (map (λ p. p.name) fn.params)) (flat_map (λ b. names_of (block_registers b)) fn.blocks) ≡ register_names fn
function_met fn d =
    sym (met-append bytes_eq [] (map (λ p. p.name) fn.params) (flat_map (λ b. names_of (block_registers b)) fn.blocks))
    ∙ ap (λ ns. met bytes_eq [] (ns ++ flat_map (λ b. names_of (block_registers b)) fn.blocks)) (sym (names_map (λ (p : Param). record { name = p.name; ty = Some p.ty }) fn.params))
    ∙ ap (λ ns. met bytes_eq [] (names_of (parameter_registers fn) ++ ns)) (sym (names_each block_registers fn.blocks))
    ∙ ap (met bytes_eq []) (sym (names_both (parameter_registers fn) (flat_map block_registers fn.blocks)))
    ∙ all_met (register_names fn) d

-- ---- what a sound program says of its names

pub functions_differ : (P : Program) → IsSound P → AllDiffer (function_names P.functions)
functions_differ P s = differ_second (map (λ e. e.name) P.externs) (function_names P.functions) (differ_second (map (λ g. g.name) P.globals) _ s.names_differ)

labels_among : (bs : List Block) (q : List ℕ) → IsAmong (map (λ b. b.label) bs) q → IsAmong (flat_map names_in_block bs) q
labels_among [] q h = h
labels_among (b ∷ bs) q (inl e) = inl e
labels_among (b ∷ bs) q (inr t) = inr (among-right (names_of (block_registers b)) (flat_map names_in_block bs) q (labels_among bs q t))

blocks_differ : (bs : List Block) → AllDiffer (flat_map names_in_block bs) → AllDiffer (map (λ b. b.label) bs)
blocks_differ [] d = tt
blocks_differ (b ∷ bs) d = (
  λ t. d.0 (among-right (names_of (block_registers b)) (flat_map names_in_block bs) b.label (labels_among bs b.label t)),
  blocks_differ bs (differ_second (names_of (block_registers b)) (flat_map names_in_block bs) d.1),
)

pub labels_differ : (P : Program) → IsSound P → (f : ℕ) (fn : Function) → slice_get P.functions f ≡ Some fn → AllDiffer (map (λ b. b.label) fn.blocks)
labels_differ P s f fn here =
    let d : AllDiffer (names_in_function fn) = all-at (λ fn. AllDiffer (names_in_function fn)) P.functions f fn s.inner_names_differ here in
    blocks_differ fn.blocks (differ_second (names_of (parameter_registers fn)) (flat_map names_in_block fn.blocks) d)

-- ---- lists of numbers

pub lists_none : {xs : List ℕ} (number : ℕ → ℕ) → xs ≡ [] → Lists xs 0 number
lists_none number e = record { as_long = ap length e; at = λ k lt. absurd (let q : ⊥ = omega (arith, lt) in q) }

pub lists_on : {xs ys : List ℕ} {k : ℕ} (x : ℕ) {number : ℕ → ℕ} → Lists xs k number → ys ≡ xs ++ x ∷ [] → x ≡ number k → Lists ys (k + 1) number
lists_on {xs} {ys} {k} x {number} before e is = record {
  as_long = ap length e ∙ length-append xs (x ∷ []) ∙ ap (λ n. n + 1) before.as_long;
  at = λ j lt. subst (λ l. slice_get l j ≡ Some (number j)) (sym e) (by_place j lt);
}
  where
    last : (j : ℕ) → j ≡ k → slice_get (xs ++ x ∷ []) j ≡ Some (number j)
    last j s =
        subst (λ i. slice_get (xs ++ x ∷ []) i ≡ Some (number i)) (sym s)
        (subst (λ i. slice_get (xs ++ x ∷ []) i ≡ Some (number k)) before.as_long (get_last xs x ∙ ap Some is))

    by_place : (j : ℕ) → j < k + 1 → slice_get (xs ++ x ∷ []) j ≡ Some (number j)
    by_place j lt = ⊎_elim (last j) (λ earlier. get_kept xs (x ∷ []) j (number j) (before.at j earlier)) (eq-or-lt_of_le (omega (arith, lt)))

-- ---- places of blocks

pub item_at : {A : Type 0} (xs : List A) (k : ℕ) (x : A) → k < length xs → x ≡ get_or xs k x → slice_get xs k ≡ Some x
item_at xs k x lt is = slice_get-get_or xs k x lt ∙ ap Some (sym is)

pub entry_next : (bs : List Block) (k start next : ℕ) (b : Block) → k < length bs → b ≡ get_or bs k b → next ≡ start + entry_in bs k → next + suc (length b.body) ≡ start + entry_in bs (k + 1)
entry_next bs k start next b lt is e =
    let n : entry_in bs (suc k) ≡ entry_in bs k + suc (length b.body) = next_in bs k b (item_at bs k b lt is) in
    let m : entry_in bs (k + 1) ≡ entry_in bs (suc k) = ap (entry_in bs) (let q : k + 1 ≡ suc k = omega arith in q) in
    omega (arith, n, m, e)

pub entry_first : (bs : List Block) (start : ℕ) → start ≡ start + entry_in bs 0
entry_first bs start = let f = first_block bs in omega (arith, f)

-- ---- places of functions

pub function_next : (fs : List Function) (k next : ℕ) (fn : Function) → k < length fs → fn ≡ get_or fs k fn → next ≡ entry_of fs k 0 → next + entry_in fn.blocks (length fn.blocks) ≡ entry_of fs (k + 1) 0
function_next fs k next fn lt is e =
    let here = item_at fs k fn lt is in
    let n : entry_of fs (suc k) 0 ≡ entry_of fs k (length fn.blocks) = next_of fs k fn here in
    let a : entry_of fs k (length fn.blocks) ≡ entry_of fs k 0 + entry_in fn.blocks (length fn.blocks) = at_function fs k (length fn.blocks) fn here in
    let m : entry_of fs (k + 1) 0 ≡ entry_of fs (suc k) 0 = ap (λ j. entry_of fs j 0) (let q : k + 1 ≡ suc k = omega arith in q) in
    omega (arith, n, m, a, e)

pub function_first : (fs : List Function) → 0 ≡ entry_of fs 0 0
function_first [] = refl
function_first (f ∷ fs) = sym (first_block f.blocks)

-- ---- sizes

pub size_at : (fs : List Function) (k : ℕ) (fn : Function) → k < length fs → fn ≡ get_or fs k fn → length (register_names fn) ≡ length (names_in (slice_get fs k))
size_at fs k fn lt is = ap (λ o. length (names_in o)) (sym (item_at fs k fn lt is))

-- ---- tables of phis

pub record SourcesTo (sources : List (List (NameTable ℕ))) (bs : List Block) (k : ℕ) : Type 0 where
  pub as_long : length sources ≡ k
  pub at : (b : ℕ) (block : Block) → b < k → slice_get bs b ≡ Some block → HasTables sources b block.phis

pub sources_on : {sources more : List (List (NameTable ℕ))} {bs : List Block} {k : ℕ} (tables : List (NameTable ℕ)) (block : Block) → SourcesTo sources bs k → more ≡ sources ++ tables ∷ [] →
    k < length bs → block ≡ get_or bs k block → NumbersPhis tables block.phis → SourcesTo more bs (k + 1)
sources_on {sources} {more} {bs} {k} tables block before e lt is n = record {
  as_long = ap length e ∙ length-append sources (tables ∷ []) ∙ ap (λ m. m + 1) before.as_long;
  at = λ b x less h. ⊎_elim (now b x h) (λ earlier. kept b x (before.at b x earlier h)) (eq-or-lt_of_le (omega (arith, less)));
}
  where
    kept : (b : ℕ) (x : Block) → HasTables sources b x.phis → HasTables more b x.phis
    kept b x t = record { tables = t.tables; here = subst (λ l. slice_get l b ≡ Some t.tables) (sym e) (get_kept sources (tables ∷ []) b t.tables t.here); numbers = t.numbers }

    last : (b : ℕ) → b ≡ k → slice_get more b ≡ Some tables
    last b s =
        subst (λ l. slice_get l b ≡ Some tables) (sym e)
        (subst (λ i. slice_get (sources ++ tables ∷ []) i ≡ Some tables) (before.as_long ∙ sym s) (get_last sources tables))

    now : (b : ℕ) (x : Block) → slice_get bs b ≡ Some x → b ≡ k → HasTables more b x.phis
    now b x h s =
        let same : block ≡ x = same_Some block x (sym (item_at bs k block lt is) ∙ subst (λ i. slice_get bs i ≡ Some x) s h) in
        record { tables = tables; here = last b s; numbers = subst (λ (y : Block). NumbersPhis tables y.phis) same n }

pub sources_all : {sources : List (List (NameTable ℕ))} {bs : List Block} {k : ℕ} → SourcesTo sources bs k → length bs ≤ k → SourcesOf sources bs
sources_all {sources} {bs} {k} s done = record { at = λ b x h. s.at b x (let w = slice_get_within bs b x h in omega (arith, w, done)) h }

-- ---- the whole program

pub registers_differ_in : (P : Program) → IsSound P → RegistersDiffer P.functions
registers_differ_in P s = record { at = names_differ P s }

pub starts_are : (P : Program) (fs : List Function) (xs : List ℕ) → fs ≡ P.functions → Lists xs (length fs) (λ g. entry_of fs g 0) → OfFunctions P xs (λ g. entry P g 0)
unfolding entry
starts_are P fs xs e h = subst (λ gs. Lists xs (length gs) (λ g. entry_of gs g 0)) e h

pub sizes_are : (P : Program) (fs : List Function) (xs : List ℕ) → fs ≡ P.functions → Lists xs (length fs) (λ g. length (names_in (slice_get fs g))) → OfFunctions P xs (λ g. length (names_at P g))
sizes_are P fs xs e h = subst (λ gs. Lists xs (length gs) (λ g. length (names_in (slice_get gs g)))) e h

-- ---- a function of it

pub is_there : {A : Type 0} (xs : List A) (k : ℕ) → k < length xs → slice_get xs k ≡ None → ⊥
is_there [] k lt e = omega (arith, lt)
is_there (x ∷ xs) zero lt e = let q : ⊥ = cc in q
is_there (x ∷ xs) (suc k) lt e = is_there xs k (omega (arith, lt)) e

pub places_are : (P : Program) (f : ℕ) (fn : Function) (bs : List Block) (start : ℕ) (xs : List ℕ) → slice_get P.functions f ≡ Some fn → bs ≡ fn.blocks → start ≡ entry P f 0 →
    Lists xs (length bs) (λ b. start + entry_in bs b) → Lists xs (length (blocks_of P f)) (λ b. entry P f b)
places_are P f fn bs start xs here e first h =
    let l : Lists xs (length fn.blocks) (λ b. start + entry_in fn.blocks b) = subst (λ cs. Lists xs (length cs) (λ b. start + entry_in cs b)) e h in
    let long : length (blocks_of P f) ≡ length fn.blocks = ap (λ o. length (blocks_in o)) here in
    record {
      as_long = l.as_long ∙ sym long;
      at = λ b lt. l.at b (omega (arith, lt, long)) ∙ ap Some (ap (λ n. n + entry_in fn.blocks b) first ∙ sym (entry_at P f b fn here));
    }

pub sources_are : (P : Program) (f : ℕ) (fn : Function) (bs : List Block) (sources : List (List (NameTable ℕ))) → slice_get P.functions f ≡ Some fn → bs ≡ fn.blocks → SourcesOf sources bs →
    (b : ℕ) (block : Block) → block_at P f b ≡ Some block → HasTables sources b block.phis
sources_are P f fn bs sources here e s b block h =
    let t : SourcesOf sources fn.blocks = subst (SourcesOf sources) e s in t.at b block (subst (λ o. slice_get (blocks_in o) b ≡ Some block) here h)
