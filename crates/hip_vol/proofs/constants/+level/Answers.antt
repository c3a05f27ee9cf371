use Rattle.std.proofs.Common.{rules}
use Rattle.hip_tree.specs.declared.constant.Const as constants
use Rattle.hip_globals.proofs.ConstantParts.{gep_type_fits, gep_base_fits}
use Rattle.hip_vol.proofs.constants.+level.Goals as goal

pub element_level-constant_level-requires : goal.element_level-constant_level-requires
element_level-constant_level-requires t c = (search (rules, constants.the_lemmas), gep_base_fits c.args.gep.now c.requires)

pub element_level-offset_of-requires : goal.element_level-offset_of-requires
element_level-offset_of-requires t c = gep_type_fits c.args.gep.now c.requires
