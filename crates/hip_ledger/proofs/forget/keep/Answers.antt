use Rattle.std.proofs.Common.{rules}
use Rattle.std.proofs.lemmas.Fn.{filter_same}
use Rattle.hip_ledger.proofs.forget.keep.Goals as goal

pub returns-clause-stores : goal.returns-clause-stores
returns-clause-stores c = filter_same _ _ _ (λ x b f' k. search rules) _ _ c.retain.ensures.filtered
