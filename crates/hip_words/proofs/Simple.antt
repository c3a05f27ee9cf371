-- The commands are such that clap's laws hold of them.
use Rattle.std.proofs.Common.{◌≡◌, true, refl}
use Rattle.clap.specs.Words.{is_simple_and_free}
use Rattle.hip_words.specs.Order.{command_of}
use Rattle.hip_words.specs.declared.order.Verb.{Verb}
use Rattle.hip_words.specs.declared.order.Verb.TheVariants as verbs

pub all_simple : (verb : Verb) → is_simple_and_free (command_of verb) ≡ true
all_simple verbs.Run = refl
all_simple verbs.Record = refl
all_simple verbs.Check = refl
all_simple verbs.Repair = refl
all_simple verbs.Rerun = refl
all_simple verbs.Demo = refl
all_simple verbs.Many = refl
all_simple verbs.Crash = refl
all_simple verbs.Thin = refl
