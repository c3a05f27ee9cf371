use Rattle.std.proofs.Common.{◌≡◌, sym, subst, true}
use Rattle.clap.specs.Words.{is_simple_and_free}
use Rattle.hip_words.proofs.Simple.{all_simple}
use Rattle.hip_words.proofs.words.order_by.Goals as goal

pub parse-requires : goal.parse-requires
parse-requires c = subst (λ app. is_simple_and_free app ≡ true) (sym c.in_ok-command_of.ensures) (all_simple c.args.verb)
