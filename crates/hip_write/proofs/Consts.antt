-- The texts of a constant's path and of a list's item, opened one level.
use Rattle.std.proofs.Common.{ℕ, ◌≡◌, List, ◌++◌, map, codes}
use Rattle.hip_tree.specs.declared.constant.ConstGep.{ConstGep}
use Rattle.hip_tree.specs.declared.constant.TypedConst.{TypedConst}
use Rattle.hip_tree.specs.declared.constant.Const.TheFolds.{fold_out-ConstGep, fold_out-TypedConst}
use Rattle.hip_grammar.specs.Show.{const_step, gep_step, typed_step, type_text, const_text, gep_text, item_text, inbounds_text, after_commas, index_text}

pub gep_text-is : (gep : ConstGep) → gep_text gep ≡ codes "getelementptr " ++ (inbounds_text gep.inbounds ++ (codes "(" ++ (type_text gep.ty ++ (codes ", ptr " ++ (const_text gep.base ++ (after_commas (map index_text gep.indices) ++ codes ")"))))))
gep_text-is gep = fold_out-ConstGep (List ℕ) (List ℕ) (List ℕ) const_step gep_step typed_step gep

pub item_text-is : (item : TypedConst) → item_text item ≡ type_text item.ty ++ (codes " " ++ const_text item.value)
item_text-is item = fold_out-TypedConst (List ℕ) (List ℕ) (List ℕ) const_step gep_step typed_step item
