-- The items of the code.
use Rattle.hip_grammar.specs.Text.{TextItem, GlobalItem, ExternItem, FunctionItem, DroppedItem}
use Rattle.hip_parse.specs.declared.items.Item.{Item as CodeItem}
use Rattle.hip_parse.specs.declared.items.Item.TheVariants as code

-- An item of the code as an item of the grammar.
abbrev pub item_of : CodeItem → TextItem
item_of (code.Global g) = GlobalItem g
item_of (code.Extern e) = ExternItem e
item_of (code.Function f) = FunctionItem f
item_of code.Dropped = DroppedItem
