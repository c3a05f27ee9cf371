-- The tokens of LLVM's text that belong to forms which are not read.
use Rattle.std.specs.Prelude.{ℕ, Bool, false, List, [], ◌∷◌, ◌||◌, ◌&&◌, ◌==◌, codes, if◌then◌else◌}
use Rattle.std.specs.List.{list_all}
use Rattle.std.specs.Str.{bytes_eq}
use Rattle.hip_tokens.specs.Bytes.{byte, is_digit}
use Rattle.hip_tokens.specs.Tokens.{Tok, Word, Odd, At}
use Rattle.hip_grammar.specs.declared.fault.TextFault.{TextFault}
use Rattle.hip_grammar.specs.declared.fault.TextFault.TheVariants as faults

-- `i` and digits, as the name of an integer type.
abbrev pub is_int_name : List ℕ → Bool
is_int_name [] = false
is_int_name (a ∷ []) = false
is_int_name (a ∷ b ∷ bs) = (a == byte "i") && list_all is_digit (b ∷ bs)

-- Whether the word is in the list.
abbrev pub one_of : List (List ℕ) → List ℕ → Bool
one_of [] t = false
one_of (w ∷ ws) t = bytes_eq t w || one_of ws t

-- The floating-point types (LLVM, "Floating-Point Types").
abbrev pub type_words : List (List ℕ)
type_words =
    codes "half" ∷ codes "bfloat" ∷ codes "float" ∷ codes "double" ∷ codes "fp128" ∷ codes "x86_fp80"
    ∷ codes "ppc_fp128" ∷ []

-- Other types and definitions of types, and `label`, which is also read before a target (LLVM, "Type System").
abbrev pub other_type_words : List (List ℕ)
other_type_words =
    codes "metadata" ∷ codes "label" ∷ codes "token" ∷ codes "vector" ∷ codes "opaque" ∷ codes "type" ∷ []

-- Values that are not read, with `c` of a string and `none` of a token, and `freeze` (LLVM, "Constants", "freeze").
abbrev pub constant_words : List (List ℕ)
constant_words = codes "undef" ∷ codes "poison" ∷ codes "freeze" ∷ codes "c" ∷ codes "none" ∷ []

-- Arithmetic and comparisons of floating-point numbers (LLVM, "Binary Operations", "fneg", "fcmp").
abbrev pub float_words : List (List ℕ)
float_words =
    codes "fadd" ∷ codes "fsub" ∷ codes "fmul" ∷ codes "fdiv" ∷ codes "frem" ∷ codes "fneg" ∷ codes "fcmp"
    ∷ []

-- Conversions that the grammar does not have (LLVM, "Conversion Operations").
abbrev pub cast_words : List (List ℕ)
cast_words =
    codes "fptoui" ∷ codes "fptosi" ∷ codes "uitofp" ∷ codes "sitofp" ∷ codes "fpext" ∷ codes "fptrunc"
    ∷ codes "bitcast" ∷ codes "addrspacecast" ∷ []

-- Instructions on vectors and on aggregate values (LLVM, "Vector Operations", "Aggregate Operations").
abbrev pub aggregate_words : List (List ℕ)
aggregate_words =
    codes "extractelement" ∷ codes "insertelement" ∷ codes "shufflevector" ∷ codes "extractvalue"
    ∷ codes "insertvalue" ∷ []

-- Atomic instructions, and `atomic` and `volatile` as words of loads and stores
-- (LLVM, "Memory Access and Addressing Operations").
abbrev pub memory_words : List (List ℕ)
memory_words = codes "atomicrmw" ∷ codes "cmpxchg" ∷ codes "fence" ∷ codes "atomic" ∷ codes "volatile" ∷ []

-- Ends of blocks that the grammar does not have, and `landingpad` and `va_arg`
-- (LLVM, "Terminator Instructions", "Other Operations").
abbrev pub control_words : List (List ℕ)
control_words =
    codes "invoke" ∷ codes "resume" ∷ codes "landingpad" ∷ codes "catchswitch" ∷ codes "cleanupret"
    ∷ codes "callbr"
    ∷ codes "indirectbr" ∷ codes "va_arg" ∷ []

-- Inline assembly, markers before a call, and items of a module that the grammar does not have
-- (LLVM, "call", "High Level Structure").
abbrev pub call_words : List (List ℕ)
call_words =
    codes "asm" ∷ codes "musttail" ∷ codes "notail" ∷ codes "attributes" ∷ codes "module" ∷ codes "comdat"
    ∷ codes "alias" ∷ codes "ifunc" ∷ []

-- Other linkage types, and `thread_local` and `addrspace` (LLVM, "Linkage Types", "Global Variables").
abbrev pub linkage_words : List (List ℕ)
linkage_words =
    codes "external" ∷ codes "extern_weak" ∷ codes "weak" ∷ codes "linkonce" ∷ codes "common"
    ∷ codes "thread_local"
    ∷ codes "addrspace" ∷ []

-- Flags that the grammar does not have (LLVM, "or", "zext", "icmp", "getelementptr").
abbrev pub flag_words : List (List ℕ)
flag_words = codes "disjoint" ∷ codes "nneg" ∷ codes "samesign" ∷ codes "nusw" ∷ []

-- Attributes of parameters, and `nounwind` (LLVM, "Parameter Attributes", "Function Attributes").
abbrev pub attribute_words : List (List ℕ)
attribute_words =
    codes "noundef" ∷ codes "nonnull" ∷ codes "nocapture" ∷ codes "readonly" ∷ codes "writeonly"
    ∷ codes "nounwind" ∷ []

-- Attributes of functions, and `uselistorder` (LLVM, "Function Attributes", "Use-list Order Directives").
abbrev pub function_words : List (List ℕ)
function_words = codes "noinline" ∷ codes "alwaysinline" ∷ codes "optnone" ∷ codes "uselistorder" ∷ []

-- An integer type of any width, or a word of one of these lists, also where the grammar has it at another place,
-- as it has `i64` and `label`.
abbrev pub is_unsupported_word : List ℕ → Bool
is_unsupported_word t =
    is_int_name t || (one_of type_words t || (one_of other_type_words t || (one_of constant_words t
    || (one_of float_words t || (one_of cast_words t || (one_of aggregate_words t || (one_of memory_words t
    || (one_of control_words t || (one_of call_words t || (one_of linkage_words t || (one_of flag_words t
    || (one_of attribute_words t || one_of function_words t))))))))))))

-- `! # < * % @`.
abbrev pub is_unsupported_byte : ℕ → Bool
is_unsupported_byte b =
    (b == byte "!") || (b == byte "#") || (b == byte "<") || (b == byte "*") || (b == byte "%") || (b == byte "@")

-- A word or an odd byte of a form that is not read; no token of another kind is one.
abbrev pub is_unsupported : Tok → Bool
is_unsupported (Word t) = is_unsupported_word t
is_unsupported (Odd b) = is_unsupported_byte b
is_unsupported _ = false

-- The fault of a place that has no reason of its own, by the tokens from it on.
abbrev pub usual : List At → TextFault
usual [] = faults.Syntax
usual (t ∷ ts) = if is_unsupported t.tok then faults.Unsupported else faults.Syntax
