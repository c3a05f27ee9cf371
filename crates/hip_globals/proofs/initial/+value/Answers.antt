use Rattle.std.proofs.Common.{rules}
use Rattle.hip_tree.specs.declared.constant.Const as constants
use Rattle.hip_globals.proofs.ConstantParts.{gep_type_fits, gep_base_fits}
use Rattle.hip_globals.proofs.initial.+value.Goals as goal

pub element_of-value_of-requires : goal.element_of-value_of-requires
element_of-value_of-requires t c = (search (rules, constants.the_lemmas), gep_base_fits c.args.gep.now c.requires)

pub element_of-offset_of-requires : goal.element_of-offset_of-requires
element_of-offset_of-requires t c = gep_type_fits c.args.gep.now c.requires
