-- How long the lines of instructions are, and those that a repair inserts.
use Rattle.std.proofs.Common.{◌≡◌, ℕ, ◌+◌, ◌*◌, ◌^◌, ◌<◌, ◌≤◌, Bool, true, false, cond, List, [], ◌++◌, map, length, Option, Some, None, codes, refl, sym, ap, ◌∙◌, arith, length-append}
use Rattle.std.specs.Fmt.{decimal}
use Rattle.std.specs.List.{flat_map}
use Rattle.std.proofs.Math.Nat.{mod-eq_of_lt}
use Rattle.std.proofs.lemmas.Bool.{lt-ltb}
use Rattle.std.proofs.lemmas.Fmt.{decimal_digit}
use Rattle.hip_types.specs.Numbers.{bits}
use Rattle.hip_types.specs.declared.number.Bits.{Bits}
use Rattle.hip_types.specs.declared.number.Scalar.{Scalar}
use Rattle.hip_types.specs.declared.number.Scalar.TheVariants as scalars
use Rattle.hip_types.specs.declared.number.Width.{Width}
use Rattle.hip_types.specs.declared.number.Width.TheVariants.{W1, W8, W16, W32, W64}
use Rattle.hip_tree.specs.declared.constant.Const.TheFolds.{fold-roll-Const}
use Rattle.hip_tree.specs.declared.constant.Const.TheOpen.{Const-F}
use Rattle.hip_tree.specs.declared.constant.Const.TheVariants as consts
use Rattle.hip_tree.specs.declared.instr.Arg.{Arg}
use Rattle.hip_tree.specs.declared.instr.Instr.{Instr}
use Rattle.hip_tree.specs.declared.instr.Instr.TheVariants.{Binary, Compare, Select, Cast, Alloca, Load, Store, Gep, Call}
use Rattle.hip_tree.specs.declared.instr.Operand.{Operand}
use Rattle.hip_tree.specs.declared.instr.Operand.TheVariants.{Fixed}
use Rattle.hip_grammar.specs.Show.{after_commas, align_text, arg_text, assigned_text, const_step, const_text, flags_text, gep_step, inbounds_text, instr_line, instr_text, line_of, literal_text, operand_text, parenthesized, result_text, type_text, typed_step}
use Rattle.hip_grammar.specs.Words.{binary_text, cast_text, pred_text, ret_text, scalar_text, width_text}
use Rattle.hip_runs.specs.Operands.{scalar_size}
use Rattle.hip_repairs.specs.Repaired.{Clone, added_fence, added_flush, clone_name, flush_of, instrs_of, is_wide, line_flush, range_flush, renamed, the_fence}
use Rattle.hip_repair_laws.proofs.Names.{AreShort, clone_name_size}

-- The length of two texts.
pub both : (a b : List ℕ) → length (a ++ b) ≡ length a + length b
both a b = length-append a b

-- What comes behind a text makes the whole as long.
behind : (a b : List ℕ) (n : ℕ) → n ≤ length b → n ≤ length (a ++ b)
behind a b n h = omega (arith, h, both a b)

pub line_size : (t : List ℕ) → length (line_of t) ≡ length t + 3
line_size t = omega (arith, both t (codes "\n"))

-- ---- types and numbers

width_long : (w : Width) → 2 ≤ length (width_text w)
width_long W1 = omega arith
width_long W8 = omega arith
width_long W16 = omega arith
width_long W32 = omega arith
width_long W64 = omega arith

scalar_long : (s : Scalar) → 2 ≤ length (scalar_text s)
scalar_long (scalars.Int w) = width_long w
scalar_long scalars.Ptr = omega arith

ret_long : (r : Option Scalar) → 2 ≤ length (ret_text r)
ret_long None = omega arith
ret_long (Some s) = scalar_long s

literal_is : (n : ℕ) → n < 10 → literal_text (bits W64 n) ≡ decimal n
literal_is n h =
    let fits : n < 2 ^ 64 = omega arith in
    let below : n < 2 ^ 63 = omega arith in
    rw (mod-eq_of_lt fits, lt-ltb n (2 ^ 63) below) refl

int_is : (b : Bits) → const_text (consts.Int b) ≡ literal_text b
int_is b =
    ap const_text (sym (consts.rolls-Int b))
    ∙ fold-roll-Const (List ℕ) (List ℕ) (List ℕ) const_step gep_step typed_step (Const-F.Int b)

-- A digit takes one byte.
digit_size : (n : ℕ) → n < 10 → length (operand_text (Fixed (consts.Int (bits W64 n)))) ≡ 1
digit_size n h = ap length (int_is (bits W64 n) ∙ literal_is n h ∙ decimal_digit n h)

width_below : (w : Width) → scalar_size (scalars.Int w) < 10
width_below W1 = omega arith
width_below W8 = omega arith
width_below W16 = omega arith
width_below W32 = omega arith
width_below W64 = omega arith

scalar_below : (s : Scalar) → scalar_size s < 10
scalar_below (scalars.Int w) = width_below w
scalar_below scalars.Ptr = omega arith

-- ---- instructions of a program

-- A register takes four bytes before what is assigned to it.
assigned_size : (dest rest : List ℕ) → 2 ≤ length rest → 6 ≤ length (assigned_text dest ++ rest)
assigned_size dest rest h = omega (arith, h, both (dest ++ codes " = ") rest, both dest (codes " = "))

store_shape : (t v a n : List ℕ) → length (codes "store " ++ (t ++ (codes " " ++ (v ++ (codes ", ptr " ++ (a ++ n))))))
    ≡ 13 + (length t + (length v + (length a + length n)))
store_shape t v a n =
    omega (arith, both t (codes " " ++ (v ++ (codes ", ptr " ++ (a ++ n)))), both v (codes ", ptr " ++ (a ++ n)), both a n)

store_size : (ty : Scalar) (value addr : Operand) (align : Option ℕ)
    → 18 + length (operand_text addr) ≤ length (instr_line (Store ty value addr align))
store_size ty value addr align =
    omega (
      arith,
      line_size (instr_text (Store ty value addr align)),
      scalar_long ty,
      store_shape (scalar_text ty) (operand_text value) (operand_text addr) (align_text align),
    )

call_shape : (d r c p : List ℕ) → length (d ++ (codes "call " ++ (r ++ (codes " @" ++ (c ++ p)))))
    ≡ 7 + (length d + (length r + (length c + length p)))
call_shape d r c p =
    omega (arith, both d (codes "call " ++ (r ++ (codes " @" ++ (c ++ p)))), both r (codes " @" ++ (c ++ p)), both c p)

-- ---- inserted instructions

line_flush_shape : (a : List ℕ) → length (codes "call void @llvm.x86.clwb(ptr " ++ ((a ++ []) ++ codes ")")) ≡ 30 + length a
line_flush_shape a = omega (arith, both (a ++ []) (codes ")"), both a [])

line_flush_size : (addr : Operand) → length (instr_text (line_flush addr)) ≡ 30 + length (operand_text addr)
line_flush_size addr = line_flush_shape (operand_text addr)

range_flush_shape : (a s : List ℕ)
    → length (codes "call void @pmem_flush(ptr " ++ ((a ++ (codes ", i64 " ++ (s ++ []))) ++ codes ")"))
    ≡ 33 + (length a + length s)
range_flush_shape a s =
    omega (arith, both (a ++ (codes ", i64 " ++ (s ++ []))) (codes ")"), both a (codes ", i64 " ++ (s ++ [])), both s [])

range_flush_size : (addr : Operand) (n : ℕ) → n < 10
    → length (instr_text (range_flush addr n)) ≡ 34 + length (operand_text addr)
range_flush_size addr n h =
    let long : length (instr_text (range_flush addr n))
    ≡ 33 + (length (operand_text addr) + length (operand_text (Fixed (consts.Int (bits W64 n))))) =
    range_flush_shape (operand_text addr) (operand_text (Fixed (consts.Int (bits W64 n)))) in
    omega (arith, long, digit_size n h)

flush_size : (ty : Scalar) (addr : Operand) (b : Bool)
    → length (instr_line (cond b (range_flush addr (scalar_size ty)) (line_flush addr))) ≤ 37 + length (operand_text addr)
flush_size ty addr true =
    omega (arith, line_size (instr_text (range_flush addr (scalar_size ty))), range_flush_size addr (scalar_size ty) (scalar_below ty))
flush_size ty addr false = omega (arith, line_size (instr_text (line_flush addr)), line_flush_size addr)

fence_size : length (instr_line the_fence) ≡ 35
fence_size = refl

-- ---- an instruction with what is inserted after it

-- The lines of these marked instructions.
abbrev pub lines_size : List Instr → ℕ
lines_size is = length (flat_map instr_line is)

-- An instruction of at least 9 bytes, and a fence if one is inserted.
other_grown : (i : Instr) → 6 ≤ length (instr_text i) → (fence : Bool)
    → length (instr_line i) + lines_size (instrs_of (added_fence fence)) ≤ 5 * length (instr_line i)
other_grown i h true = omega (arith, h, line_size (instr_text i), fence_size, both (instr_line the_fence) [])
other_grown i h false = omega arith

store_grown : (ty : Scalar) (value addr : Operand) (align : Option ℕ) (flush fence : Bool)
    → length (instr_line (Store ty value addr align))
    + lines_size (instrs_of (added_flush (Store ty value addr align) flush ++ added_fence fence))
    ≤ 5 * length (instr_line (Store ty value addr align))
store_grown ty value addr align true true =
    omega (
      arith,
      store_size ty value addr align,
      flush_size ty addr (is_wide ty align),
      fence_size,
      both (instr_line (flush_of ty addr align)) (instr_line the_fence ++ []),
      both (instr_line the_fence) [],
    )
store_grown ty value addr align true false =
    omega (
      arith,
      store_size ty value addr align,
      flush_size ty addr (is_wide ty align),
      both (instr_line (flush_of ty addr align)) [],
    )
store_grown ty value addr align false true =
    omega (arith, store_size ty value addr align, fence_size, both (instr_line the_fence) [])
store_grown ty value addr align false false = omega arith

-- The line of a call, by the name of its callee.
abbrev call_line : Option (List ℕ) → Option Scalar → List Arg → List ℕ → List ℕ
call_line dest ret args name = instr_line (Call dest ret name args)

call_line_size : (dest : Option (List ℕ)) (ret : Option Scalar) (args : List Arg) (name : List ℕ)
    → length (call_line dest ret args name)
    ≡ 10 + (length (result_text dest) + (length (ret_text ret) + (length name + length (parenthesized (map arg_text args)))))
call_line_size dest ret args name =
    omega (
      arith,
      line_size (instr_text (Call dest ret name args)),
      call_shape (result_text dest) (ret_text ret) name (parenthesized (map arg_text args)),
    )

call_grown : (clones : List Clone) → AreShort clones → (dest : Option (List ℕ)) (ret : Option Scalar) (callee : List ℕ)
    (args : List Arg) (to_clone fence : Bool)
    → length (instr_line (renamed clones (Call dest ret callee args) to_clone)) + lines_size (instrs_of (added_fence fence))
    ≤ 5 * length (instr_line (Call dest ret callee args))
call_grown clones short dest ret callee args to_clone fence = by_fence fence (by_name to_clone)
  where
    by_name : (b : Bool) → length (call_line dest ret args (cond b (clone_name clones callee) callee))
        ≤ length (call_line dest ret args callee) + 11
    by_name true =
        omega (
          arith,
          call_line_size dest ret args (clone_name clones callee),
          call_line_size dest ret args callee,
          clone_name_size clones short callee,
        )
    by_name false = omega arith

    by_fence : (b : Bool) → length (call_line dest ret args (cond to_clone (clone_name clones callee) callee))
        ≤ length (call_line dest ret args callee) + 11
        → length (call_line dest ret args (cond to_clone (clone_name clones callee) callee))
        + lines_size (instrs_of (added_fence b)) ≤ 5 * length (call_line dest ret args callee)
    by_fence true h =
        omega (arith, h, call_line_size dest ret args callee, ret_long ret, fence_size, both (instr_line the_fence) [])
    by_fence false h = omega (arith, h, call_line_size dest ret args callee, ret_long ret)

-- An instruction, with what is inserted after it, takes at most five times as many bytes.
pub grown : (clones : List Clone) → AreShort clones → (i : Instr) (to_clone flush fence : Bool)
    → length (instr_line (renamed clones i to_clone)) + lines_size (instrs_of (added_flush i flush ++ added_fence fence))
    ≤ 5 * length (instr_line i)
grown clones short (Binary dest op flags w a b) to_clone flush fence =
    other_grown (Binary dest op flags w a b)
    (assigned_size dest (binary_text op ++ (codes " " ++ (flags_text flags ++ (width_text w ++ (codes " "
    ++ (operand_text a ++ (codes ", " ++ operand_text b)))))))
    (behind (binary_text op) (codes " " ++ (flags_text flags ++ (width_text w ++ (codes " "
    ++ (operand_text a ++ (codes ", " ++ operand_text b)))))) 2
    (let inner = behind (flags_text flags) (width_text w ++ (codes " " ++ (operand_text a ++ (codes ", " ++ operand_text b)))) 1
    (behind (width_text w) (codes " " ++ (operand_text a ++ (codes ", " ++ operand_text b))) 1 (omega arith)) in
    omega (arith, inner)))) fence
grown clones short (Compare dest pred ty a b) to_clone flush fence =
    other_grown (Compare dest pred ty a b)
    (assigned_size dest (codes "icmp " ++ (pred_text pred ++ (codes " " ++ (scalar_text ty ++ (codes " "
    ++ (operand_text a ++ (codes ", " ++ operand_text b)))))))
    (omega arith)) fence
grown clones short (Select dest test ty a b) to_clone flush fence =
    other_grown (Select dest test ty a b)
    (assigned_size dest (codes "select i1 " ++ (operand_text test ++ (codes ", " ++ (scalar_text ty ++ (codes " "
    ++ (operand_text a ++ (codes ", " ++ (scalar_text ty ++ (codes " " ++ operand_text b)))))))))
    (omega arith)) fence
grown clones short (Cast dest op from a to) to_clone flush fence =
    other_grown (Cast dest op from a to)
    (assigned_size dest (cast_text op ++ (codes " " ++ (scalar_text from ++ (codes " " ++ (operand_text a
    ++ (codes " to " ++ scalar_text to))))))
    (behind (cast_text op) (codes " " ++ (scalar_text from ++ (codes " " ++ (operand_text a
    ++ (codes " to " ++ scalar_text to))))) 2
    (let inner = behind (scalar_text from) (codes " " ++ (operand_text a ++ (codes " to " ++ scalar_text to))) 1 (omega arith) in
    omega (arith, inner)))) fence
grown clones short (Alloca dest ty align) to_clone flush fence =
    other_grown (Alloca dest ty align)
    (assigned_size dest (codes "alloca " ++ (type_text ty ++ align_text align)) (omega arith)) fence
grown clones short (Load dest ty addr align) to_clone flush fence =
    other_grown (Load dest ty addr align)
    (assigned_size dest (codes "load " ++ (scalar_text ty ++ (codes ", ptr " ++ (operand_text addr ++ align_text align))))
    (omega arith)) fence
grown clones short (Store ty value addr align) to_clone flush fence = store_grown ty value addr align flush fence
grown clones short (Gep dest inbounds ty base indices) to_clone flush fence =
    other_grown (Gep dest inbounds ty base indices)
    (assigned_size dest (codes "getelementptr " ++ (inbounds_text inbounds
    ++ (type_text ty ++ (codes ", ptr "
    ++ (operand_text base ++ after_commas (map arg_text indices))))))
    (omega arith)) fence
grown clones short (Call dest ret callee args) to_clone flush fence = call_grown clones short dest ret callee args to_clone fence
