-- A generated text is the canonical text of the generated program.
use Rattle.std.proofs.Common.{◌≡◌, ℕ, zero, suc, ◌+◌, ◌%◌, ◌^◌, ◌<◌, ◌≤◌, true, false, List, [], ◌∷◌, ◌++◌, map, codes, refl, sym, ap, ap₂, ◌∙◌, append_assoc, append-nil, arith}
use Rattle.std.specs.Fmt.{decimal}
use Rattle.std.specs.List.{flat_map}
use Rattle.std.proofs.Math.Nat.{mod-eq_of_lt}
use Rattle.std.proofs.lemmas.Bool.{lt-ltb}
use Rattle.std.proofs.lemmas.Fmt.{decimal_digit}
use Rattle.std.proofs.lemmas.Grind.{flat_map-append}
use Rattle.hip_types.specs.Numbers.{bits}
use Rattle.hip_types.specs.declared.number.Bits.{Bits}
use Rattle.hip_types.specs.declared.number.Width.TheVariants.{W32, W64}
use Rattle.hip_types.specs.declared.ty.Ty.TheVariants as types
use Rattle.hip_types.specs.declared.ty.Ty.TheFolds.{fold-roll-Ty}
use Rattle.hip_types.specs.declared.ty.Ty.TheOpen.{Ty-F}
use Rattle.hip_tree.specs.declared.constant.Const.{Const}
use Rattle.hip_tree.specs.declared.constant.Const.TheFolds.{fold-roll-Const, fold_out-ConstGep}
use Rattle.hip_tree.specs.declared.constant.Const.TheOpen.{Const-F}
use Rattle.hip_tree.specs.declared.constant.Const.TheVariants as consts
use Rattle.hip_tree.specs.declared.constant.ConstGep.{ConstGep}
use Rattle.hip_tree.specs.declared.instr.Instr.{Instr}
use Rattle.hip_grammar.specs.Show.{type_step, type_text, literal_text, index_text, after_commas, inbounds_text, const_step, gep_step, typed_step, const_text, instr_text, line_of, global_text, function_text, show}
use Rattle.hip_gen.specs.declared.kinds.GroupKind.{GroupKind}
use Rattle.hip_gen.specs.declared.kinds.GroupKind.TheVariants as kinds
use Rattle.hip_gen.specs.declared.limits.TheConstants.{LARGEST_SIZE, VOLATILE_LENGTH}
use Rattle.hip_gen.specs.Kinds.{kind}
use Rattle.hip_gen.specs.Lines.{element_text, store_line, flush_line, put_line, group_lines, lines_before, first_lines, last_lines, generated_text}
use Rattle.hip_gen.specs.Generated.{array_of, zeroed_array, element, store, flush, put, group_instrs, instrs_before, define_main, program_of, generated_program}

-- ---- constants

-- A literal below 2 ^ 63 is written without a sign.
literal-is : (n : ℕ) → n < 2 ^ 63 → literal_text (bits W64 n) ≡ decimal n
literal-is n h =
    let fits : n < 2 ^ 64 = omega arith in
    rw (mod-eq_of_lt fits, lt-ltb n (2 ^ 63) h) refl

zero_literal : literal_text (bits W64 0) ≡ codes "0"
zero_literal = literal-is 0 (omega arith) ∙ decimal_digit 0 (omega arith)

int-is : (b : Bits) → const_text (consts.Int b) ≡ literal_text b
int-is b =
    ap const_text (sym (consts.rolls-Int b))
    ∙ fold-roll-Const (List ℕ) (List ℕ) (List ℕ) const_step gep_step typed_step
    (Const-F.Int b)

zero-is : const_text consts.Zero ≡ codes "zeroinitializer"
zero-is =
    ap const_text (sym consts.rolls-Zero) ∙ fold-roll-Const (List ℕ) (List ℕ)
    (List ℕ) const_step gep_step typed_step Const-F.Zero

address-is : (name : List ℕ) → const_text (consts.Address name) ≡ codes "@" ++ name
address-is name =
    ap const_text (sym (consts.rolls-Address name))
    ∙ fold-roll-Const (List ℕ) (List ℕ) (List ℕ) const_step gep_step typed_step (Const-F.Address name)

gep-is : (gep : ConstGep) → const_text (consts.Gep gep) ≡ codes "getelementptr "
    ++ (inbounds_text gep.inbounds ++ (codes "("
    ++ (type_text gep.ty ++ (codes ", ptr " ++ (const_text gep.base
    ++ (after_commas (map index_text gep.indices) ++ codes ")"))))))
gep-is gep =
    ap const_text (sym (consts.rolls-Gep gep))
    ∙ fold-roll-Const (List ℕ) (List ℕ) (List ℕ) const_step gep_step typed_step (Const-F.Gep gep)
    ∙ fold_out-ConstGep (List ℕ) (List ℕ) (List ℕ) const_step gep_step typed_step gep

i64-is : type_text (types.Int W64) ≡ codes "i64"
i64-is = ap type_text (sym (types.rolls-Int W64)) ∙ fold-roll-Ty (List ℕ) type_step (Ty-F.Int W64)

array-is : (n : ℕ) → type_text (array_of n) ≡ codes "[" ++ (decimal n ++ codes " x i64]")
array-is n =
    ap type_text (sym (types.rolls-Array n (types.Int W64)))
    ∙ fold-roll-Ty (List ℕ) type_step (Ty-F.Array n (types.Int W64))
    ∙ ap (λ t. codes "[" ++ (decimal n ++ (codes " x " ++ (t ++ codes "]")))) i64-is

number-is : (n : ℕ) → n < 2 ^ 63 → const_text (consts.Int (bits W64 n)) ≡ decimal n
number-is n h = int-is (bits W64 n) ∙ literal-is n h

-- ---- elements

element_joined : (d name e : List ℕ) → codes "getelementptr ("
    ++ ((codes "[" ++ (d ++ codes " x i64]"))
    ++ (codes ", ptr " ++ ((codes "@" ++ name)
    ++ ((codes ", i64 0" ++ (codes ", i64 " ++ (e ++ []))) ++ codes ")")))) ≡
    codes "getelementptr ([" ++ (d ++ (codes " x i64], ptr @" ++ (name ++ (codes ", i64 0, i64 " ++ (e ++ codes ")")))))
element_joined d name e =
    ap (λ t. codes "getelementptr ([" ++ t) (append_assoc d (codes " x i64]") _
    ∙ ap (λ t. d ++ (codes " x i64], ptr @" ++ (name ++ (codes ", i64 0, i64 " ++ t))))
    (append_assoc e [] (codes ")")))

-- The text of an element's address, by the texts of its type, its base and its two indices.
abbrev by_parts : List ℕ → List ℕ → List ℕ → List ℕ → List ℕ
by_parts t b z i =
    codes "getelementptr (" ++ (t ++ (codes ", ptr "
    ++ (b ++ ((codes ", i64 " ++ (z ++ (codes ", i64 " ++ (i ++ [])))) ++ codes ")"))))

pub element-is : (name : List ℕ) (length index : ℕ) → index < 2 ^ 63
    → const_text (element name length index) ≡ element_text name length index
element-is name length index h =
    gep-is (record {
      inbounds = false;
      ty = array_of length;
      base = consts.Address name;
      indices = bits W64 0 ∷ bits W64 index ∷ [];
    })
    ∙ ap₂ (λ t b. by_parts t b (literal_text (bits W64 0)) (literal_text (bits W64 index))) (array-is length)
    (address-is name)
    ∙ ap₂ (λ z i. by_parts (codes "[" ++ (decimal length ++ codes " x i64]")) (codes "@" ++ name) z i) zero_literal
    (literal-is index h)
    ∙ element_joined (decimal length) name (decimal index)

-- ---- lines

-- An instruction as a line of canonical text, with two spaces before it and a line feed after it.
abbrev line : Instr → List ℕ
line i = line_of (instr_text i)

store_joined : (v e : List ℕ) → codes "  "
    ++ ((codes "store " ++ (codes "i64" ++ (codes " " ++ (v ++ (codes ", ptr " ++ (e ++ [])))))) ++ codes "\n")
    ≡ codes "  store i64 " ++ (v ++ (codes ", ptr " ++ (e ++ codes "\n")))
store_joined v e =
    ap (λ t. codes "  store i64 " ++ t) (append_assoc v (codes ", ptr " ++ (e ++ [])) (codes "\n")
    ∙ ap (λ t. v ++ (codes ", ptr " ++ t)) (append_assoc e [] (codes "\n")))

store-is : (c : Const) (e : List ℕ) (value : ℕ) → value < 2 ^ 63 → const_text c ≡ e
    → line (store c value) ≡ store_line e value
store-is c e value h is =
    ap₂ (λ v t. codes "  " ++ ((codes "store "
    ++ (codes "i64" ++ (codes " " ++ (v ++ (codes ", ptr " ++ (t ++ []))))))
    ++ codes "\n")) (number-is value h) is
    ∙ store_joined (decimal value) e

flush_joined : (e : List ℕ) → codes "  " ++ ((codes "call void @llvm.x86.clwb(ptr " ++ ((e ++ []) ++ codes ")"))
    ++ codes "\n") ≡ codes "  call void @llvm.x86.clwb(ptr " ++ (e ++ codes ")\n")
flush_joined e =
    ap (λ t. codes "  call void @llvm.x86.clwb(ptr " ++ t)
    (append_assoc (e ++ []) (codes ")") (codes "\n") ∙ append_assoc e [] (codes ")\n"))

flush-is : (c : Const) (e : List ℕ) → const_text c ≡ e → line (flush c) ≡ flush_line e
flush-is c e is =
    ap (λ t. codes "  " ++ ((codes "call void @llvm.x86.clwb(ptr " ++ ((t ++ []) ++ codes ")")) ++ codes "\n")) is
    ∙ flush_joined e

put_joined : (e v : List ℕ) → codes "  " ++ ((codes "call void @put(ptr "
    ++ ((e ++ (codes ", i64 " ++ (v ++ []))) ++ codes ")")) ++ codes "\n") ≡ codes "  call void @put(ptr "
    ++ (e ++ (codes ", i64 " ++ (v ++ codes ")\n")))
put_joined e v =
    ap (λ t. codes "  call void @put(ptr " ++ t)
    (append_assoc (e ++ (codes ", i64 " ++ (v ++ []))) (codes ")") (codes "\n")
    ∙ append_assoc e (codes ", i64 " ++ (v ++ [])) (codes ")\n")
    ∙ ap (λ t. e ++ (codes ", i64 " ++ t)) (append_assoc v [] (codes ")\n")))

put-is : (c : Const) (e : List ℕ) (value : ℕ) → value < 2 ^ 63 → const_text c ≡ e
    → line (put c value) ≡ put_line e value
put-is c e value h is =
    ap₂ (λ t v. codes "  " ++ ((codes "call void @put(ptr " ++ ((t ++ (codes ", i64 " ++ (v ++ []))) ++ codes ")"))
    ++ codes "\n")) is (number-is value h)
    ∙ put_joined e (decimal value)

-- ---- groups

group-is : (size group : ℕ) (k : GroupKind) → group < LARGEST_SIZE
    → flat_map line (group_instrs size group k) ≡ group_lines size group k
group-is size group kinds.Store h =
    append-nil _ ∙ store-is (element (codes "data") size group) _ (group + 1) (omega arith)
    (element-is (codes "data") size group (omega arith))
group-is size group kinds.FlushedStore h =
    ap₂ (λ s f. s ++ (f ++ [])) (store-is (element (codes "data") size group) _ (group + 1) (omega arith)
    (element-is (codes "data") size group (omega arith)))
    (flush-is (element (codes "data") size group) _ (element-is (codes "data") size group (omega arith)))
    ∙ ap (λ f. group_lines size group kinds.Store ++ f) (append-nil _)
group-is size group kinds.PersistentCall h =
    append-nil _ ∙ put-is (element (codes "data") size group) _ (group + 1) (omega arith)
    (element-is (codes "data") size group (omega arith))
group-is size group kinds.VolatileCall h =
    append-nil _ ∙ put-is (element (codes "temp") VOLATILE_LENGTH (group % VOLATILE_LENGTH)) _ (group + 1)
    (omega arith)
    (element-is (codes "temp") VOLATILE_LENGTH (group % VOLATILE_LENGTH) (omega arith))

groups-are : (seed size : ℕ) (n : ℕ) → n ≤ LARGEST_SIZE
    → flat_map line (instrs_before seed size n) ≡ lines_before seed size n
groups-are seed size zero h = refl
groups-are seed size (suc n) h =
    flat_map-append line (instrs_before seed size n) (group_instrs size n (kind seed n))
    ∙ ap₂ (λ a b. a ++ b) (groups-are seed size n (omega arith)) (group-is size n (kind seed n) (omega arith))

-- ---- programs

data-is : (size : ℕ) → global_text (zeroed_array (codes "data") size true) ≡ codes "@data = global ["
    ++ ((decimal size ++ codes " x i64]") ++ codes " zeroinitializer, section \".pm\"\n")
data-is size =
    ap₂ (λ t z. codes "@data = global " ++ (t ++ (codes " " ++ (z ++ codes ", section \".pm\"\n"))))
    (array-is size) zero-is

temp-is : global_text (zeroed_array (codes "temp") VOLATILE_LENGTH false)
    ≡ codes "@temp = global [8 x i64] zeroinitializer\n"
temp-is =
    ap₂ (λ t z. codes "@temp = global " ++ (t ++ (codes " " ++ (z ++ codes "\n"))))
    (array-is VOLATILE_LENGTH ∙ ap (λ d. codes "[" ++ (d ++ codes " x i64]"))
    (decimal_digit 8 (omega arith))) zero-is

main-is : (body : List Instr) → function_text (define_main body) ≡ codes "define i32 @main() {\nentry:\n"
    ++ (((flat_map line body ++ codes "  ret i32 0\n") ++ []) ++ codes "}\n")
main-is body =
    ap (λ c. codes "define i32 @main() {\nentry:\n"
    ++ (((flat_map line body ++ (codes "  ret i32 " ++ (c ++ codes "\n"))) ++ []) ++ codes "}\n"))
    (int-is (bits W32 0) ∙ decimal_digit 0 (omega arith))

-- The declaration of the flush, and the function `put`.
abbrev put_text : List ℕ
put_text =
    codes "declare void @llvm.x86.clwb(ptr)\ndefine void @put(ptr %p, i64 %v) {\n"
    ++ codes "entry:\n  store i64 %v, ptr %p\n  ret void\n}\n"

-- The text between the number of elements and the groups.
abbrev middle : List ℕ
middle =
    codes " x i64] zeroinitializer, section \".pm\"\n@temp = global [8 x i64] zeroinitializer\n"
    ++ (put_text ++ codes "define i32 @main() {\nentry:\n")

five : (a b c d e : List ℕ) → (((a ++ b) ++ c) ++ d) ++ e ≡ a ++ (b ++ (c ++ (d ++ e)))
five a b c d e = simp append_assoc

last_joined : (groups r c : List ℕ) → (((groups ++ r) ++ []) ++ c) ++ [] ≡ groups ++ (r ++ c)
last_joined groups r c = append-nil _ ∙ ap (λ t. t ++ c) (append-nil (groups ++ r)) ∙ append_assoc groups r c

-- Regroups the text around the digits of the size and the groups.
all_joined : (d groups : List ℕ) →
    ((codes "@data = global [" ++ ((d ++ codes " x i64]") ++ codes " zeroinitializer, section \".pm\"\n"))
    ++ codes "@temp = global [8 x i64] zeroinitializer\n")
    ++ (put_text
    ++ ((codes "define i32 @main() {\nentry:\n" ++ (((groups ++ codes "  ret i32 0\n") ++ []) ++ codes "}\n"))
    ++ [])) ≡
    (codes "@data = global [" ++ (d ++ middle)) ++ (groups ++ last_lines)
all_joined d groups =
    ap (λ t. codes "@data = global [" ++ t)
    (five d (codes " x i64]") (codes " zeroinitializer, section \".pm\"\n")
    (codes "@temp = global [8 x i64] zeroinitializer\n") _
    ∙ ap (λ t. d ++ (middle ++ t)) (last_joined groups (codes "  ret i32 0\n") (codes "}\n"))
    ∙ sym (append_assoc d middle (groups ++ last_lines)))

program-is : (size : ℕ) (body : List Instr)
    → show (program_of size body) ≡ first_lines size ++ (flat_map line body ++ last_lines)
program-is size body =
    ap₂
    (λ (g m : List ℕ). g ++ (put_text ++ (m ++ [])))
    (ap₂ (λ (a b : List ℕ). a ++ (b ++ [])) (data-is size) temp-is) (main-is body)
    ∙ all_joined (decimal size) (flat_map line body)

-- The text by its lines is the canonical text of the program.
pub generated_text-is : (seed size : ℕ) → size ≤ LARGEST_SIZE
    → generated_text seed size ≡ show (generated_program seed size)
generated_text-is seed size h =
    ap (λ (t : List ℕ). first_lines size ++ (t ++ last_lines)) (sym (groups-are seed size size h))
    ∙ sym (program-is size (instrs_before seed size size))
