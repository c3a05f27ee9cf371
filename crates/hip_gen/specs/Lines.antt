-- The text of a generated program, line by line. `@data` is an array in persistent memory, and the size is the number
-- of its elements; `@temp` is an array of 8 elements in volatile memory. For each number below the size a group of
-- instructions stores that number plus 1.
use Rattle.std.specs.Prelude.{ℕ, zero, suc, ◌+◌, ◌%◌, List, [], ◌++◌, codes}
use Rattle.std.specs.Fmt.{decimal}
use Rattle.hip_gen.specs.declared.kinds.GroupKind.{GroupKind}
use Rattle.hip_gen.specs.declared.kinds.GroupKind.TheVariants.{Store, FlushedStore, PersistentCall, VolatileCall}
use Rattle.hip_gen.specs.declared.limits.TheConstants.{VOLATILE_LENGTH}
use Rattle.hip_gen.specs.Kinds.{kind}

-- `getelementptr ([LENGTH x i64], ptr @NAME, i64 0, i64 INDEX)`.
abbrev pub element_text : List ℕ → ℕ → ℕ → List ℕ
element_text name length index =
    codes "getelementptr ([" ++ (decimal length ++ (codes " x i64], ptr @" ++ (name ++ (codes ", i64 0, i64 "
    ++ (decimal index ++ codes ")")))))

-- The text of the element of `@data` for a group: the element of its number.
abbrev pub persistent_element : ℕ → ℕ → List ℕ
persistent_element size group = element_text (codes "data") size group

-- The text of the element of `@temp` for a group.
abbrev pub volatile_element : ℕ → List ℕ
volatile_element group = element_text (codes "temp") VOLATILE_LENGTH (group % VOLATILE_LENGTH)

-- `store i64 VALUE, ptr ELEMENT`.
abbrev pub store_line : List ℕ → ℕ → List ℕ
store_line element value = codes "  store i64 " ++ (decimal value ++ (codes ", ptr " ++ (element ++ codes "\n")))

-- `call void @llvm.x86.clwb(ptr ELEMENT)`.
abbrev pub flush_line : List ℕ → List ℕ
flush_line element = codes "  call void @llvm.x86.clwb(ptr " ++ (element ++ codes ")\n")

-- `call void @put(ptr ELEMENT, i64 VALUE)`.
abbrev pub put_line : List ℕ → ℕ → List ℕ
put_line element value =
    codes "  call void @put(ptr " ++ (element ++ (codes ", i64 " ++ (decimal value ++ codes ")\n")))

-- The lines of a group, by its kind.
abbrev pub group_lines : ℕ → ℕ → GroupKind → List ℕ
group_lines size group Store = store_line (persistent_element size group) (group + 1)
group_lines size group FlushedStore =
    store_line (persistent_element size group) (group + 1) ++ flush_line (persistent_element size group)
group_lines size group PersistentCall = put_line (persistent_element size group) (group + 1)
group_lines size group VolatileCall = put_line (volatile_element group) (group + 1)

-- The lines of the groups before one.
abbrev pub lines_before : ℕ → ℕ → ℕ → List ℕ
lines_before seed size zero = []
lines_before seed size (suc group) = lines_before seed size group ++ group_lines size group (kind seed group)

-- The text before the groups.
abbrev pub first_lines : ℕ → List ℕ
first_lines size =
    codes "@data = global [" ++ (decimal size ++ (codes " x i64] zeroinitializer, section \".pm\"\n"
    ++ (codes "@temp = global [8 x i64] zeroinitializer\n"
    ++ (codes "declare void @llvm.x86.clwb(ptr)\n"
    ++ (codes "define void @put(ptr %p, i64 %v) {\n"
    ++ (codes "entry:\n"
    ++ (codes "  store i64 %v, ptr %p\n"
    ++ (codes "  ret void\n"
    ++ (codes "}\n"
    ++ (codes "define i32 @main() {\n"
    ++ codes "entry:\n"))))))))))

-- The text after the groups.
abbrev pub last_lines : List ℕ
last_lines = codes "  ret i32 0\n" ++ codes "}\n"

-- The text for a seed and a size.
abbrev pub generated_text : ℕ → ℕ → List ℕ
generated_text seed size = first_lines size ++ (lines_before seed size size ++ last_lines)
