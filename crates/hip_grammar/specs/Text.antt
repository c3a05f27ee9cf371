-- The grammar of programs: globals, externs, functions and whole texts.
use Rattle.std.specs.Prelude.{ℕ, Bool, true, false, ◌||◌, List, [], ◌∷◌, ◌++◌, Option, Some, None, codes}
use Rattle.hip_tokens.specs.Bytes.{byte}
use Rattle.hip_tokens.specs.Tokens.{Tok}
use Rattle.hip_grammar.specs.Reader.{folded}
use Rattle.hip_grammar.specs.Production.{Production, gives, token, ◌>>=◌, either, repeated, optional, listed, skipped}
use Rattle.hip_tree.specs.declared.block.Block.{Block}
use Rattle.hip_grammar.specs.declared.fault.TextFault.{TextFault}
use Rattle.hip_tree.specs.declared.program.Extern.{Extern}
use Rattle.hip_tree.specs.declared.program.Function.{Function}
use Rattle.hip_tree.specs.declared.program.GlobalVar.{GlobalVar}
use Rattle.hip_tree.specs.declared.program.Param.{Param}
use Rattle.hip_tree.specs.declared.program.Program.{Program}
use Rattle.hip_grammar.specs.Words.{is_word, is_mark, is_global, is_label, comma, a_global, a_local, a_string, a_section, a_word_of, is_word_of, link_word, unnamed_word, linkage_word, target_word, fixed_word}
use Rattle.hip_grammar.specs.Numbers.{an_alignment}
use Rattle.hip_grammar.specs.Grammar.{word, mark, scalar, type, const}
use Rattle.hip_grammar.specs.Bodies.{ret, maybe_align, block}

-- The items of which a text is a list; `source_filename` and `target` are read and dropped.
pub data TextItem : Type 0 where
  GlobalItem : GlobalVar → TextItem
  ExternItem : Extern → TextItem
  FunctionItem : Function → TextItem
  DroppedItem : TextItem

-- "source_filename" "=" STRING
unfoldable pub source_filename : Production TextFault TextItem
source_filename = do
  _ ← word (codes "source_filename")
  _ ← mark (byte "=")
  _ ← token a_string
  gives DroppedItem

-- "target" ("triple" | "datalayout") "=" STRING
unfoldable pub target_item : Production TextFault TextItem
target_item = do
  _ ← word (codes "target")
  _ ← token (a_word_of target_word)
  _ ← mark (byte "=")
  _ ← token a_string
  gives DroppedItem

-- { link | unnamed }
abbrev pub linkages : Production TextFault (Unit {0})
linkages = skipped (is_word_of linkage_word) (token (a_word_of linkage_word))

-- { link }
abbrev pub links : Production TextFault (Unit {0})
links = skipped (is_word_of link_word) (token (a_word_of link_word))

-- ---- globals

-- "section" STRING [ align ], which gives whether the global is persistent, and its alignment
unfoldable pub section : Production TextFault (Bool × Option ℕ)
section = do
  _ ← word (codes "section")
  _ ← token a_section
  n ← maybe_align
  gives (true, n)

-- "align" NUM
unfoldable pub only_align : Production TextFault (Bool × Option ℕ)
only_align = do
  _ ← word (codes "align")
  n ← token an_alignment
  gives (false, Some n)

-- [ "," "section" STRING ] [ align ], where at least one is written: both begin with the comma, which is read once
unfoldable pub placement : Production TextFault (Bool × Option ℕ)
placement = do
  _ ← mark (byte ",")
  either (is_word (codes "section")) section only_align

-- Persistence and alignment as they are written; volatile and without an alignment if nothing is.
abbrev pub placed : Option (Bool × Option ℕ) → Bool × Option ℕ
placed (Some p) = p
placed None = (false, None)

-- [ "," "section" STRING ] [ align ], which gives whether the global is persistent, and its alignment
unfoldable pub place : Production TextFault (Bool × Option ℕ)
place = do
  found ← optional comma placement
  gives (placed found)

-- global = GLOBAL "=" { link | unnamed } ("global" | "constant") type const [ "," "section" STRING ] [ align ]
unfoldable pub global : Production TextFault TextItem
global = do
  name ← token a_global
  _ ← mark (byte "=")
  _ ← linkages
  fixed ← token (a_word_of fixed_word)
  ty ← type
  init ← const ty
  where_it_lies ← place
  gives (GlobalItem (record {
    name = name;
    fixed = fixed;
    ty = ty;
    init = init;
    persistent = where_it_lies.0;
    align = where_it_lies.1;
  }))

-- ---- externs and functions

-- [ unnamed ], with no value
abbrev pub maybe_unnamed : Production TextFault (Option (Unit {0}))
maybe_unnamed = optional (is_word_of unnamed_word) (token (a_word_of unnamed_word))

-- extern = "declare" ret GLOBAL "(" [ scalar { "," scalar } ] ")" [ unnamed ]
unfoldable pub extern_item : Production TextFault TextItem
extern_item = do
  _ ← word (codes "declare")
  result ← ret
  name ← token a_global
  _ ← mark (byte "(")
  params ← listed comma (is_mark (byte ")")) scalar
  _ ← maybe_unnamed
  gives (ExternItem (record { ret = result; name = name; params = params }))

-- param = scalar LOCAL
unfoldable pub param : Production TextFault Param
param = do
  s ← scalar
  name ← token a_local
  gives (record { ty = s; name = name })

-- `block { block }`.
unfoldable pub blocks : Production TextFault (List Block)
blocks = do
  first ← block
  others ← repeated is_label block
  gives (first ∷ others)

-- function = "define" { link } ret GLOBAL "(" [ param { "," param } ] ")" [ unnamed ] "{" block { block } "}"
unfoldable pub function : Production TextFault TextItem
function = do
  _ ← word (codes "define")
  _ ← links
  result ← ret
  name ← token a_global
  _ ← mark (byte "(")
  params ← listed comma (is_mark (byte ")")) param
  _ ← maybe_unnamed
  _ ← mark (byte "{")
  body ← blocks
  _ ← mark (byte "}")
  gives (FunctionItem (record { ret = result; name = name; params = params; blocks = body }))

-- ---- texts

-- `global | extern | function | dropped`.
unfoldable pub item : Production TextFault TextItem
item =
    either is_global global
    (either (is_word (codes "declare")) extern_item
    (either (is_word (codes "define")) function
    (either (is_word (codes "source_filename")) source_filename
    target_item)))

-- Whether the token begins a global, an extern, a function, or what is dropped.
abbrev pub begins_item : Tok → Bool
begins_item t =
    is_global t || (is_word (codes "declare") t || (is_word (codes "define") t || (is_word (codes "source_filename") t
    || is_word (codes "target") t)))

-- The program of a text without items.
abbrev pub no_items : Program
no_items = record { globals = []; externs = []; functions = [] }

-- The item goes to the end of its list; an item that is dropped changes nothing.
abbrev pub with_item : Program → TextItem → Program
with_item p (GlobalItem g) = record p { globals = p.globals ++ g ∷ [] }
with_item p (ExternItem e) = record p { externs = p.externs ++ e ∷ [] }
with_item p (FunctionItem f) = record p { functions = p.functions ++ f ∷ [] }
with_item p DroppedItem = p

-- text = { global | extern | function | dropped }
unfoldable pub text : Production TextFault Program
text = do
  items ← repeated begins_item item
  gives (folded with_item no_items items)
