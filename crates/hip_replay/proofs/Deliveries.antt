-- A text whose end the sink delivers.
use Rattle.std.proofs.Common.{ℕ, List, [], ◌++◌, append-nil, subst}
use Rattle.hip_io.specs.Laws.SinkLaws.{and_then}
use Rattle.hip_io.specs.Sinks.{SinkState, AppendsAll, AppendsPrefix, Writes}
use Rattle.hip_io.specs.declared.sink.Put.TheVariants.{Done, Failed}

pub written_all : {old new : SinkState} {text : List ℕ} → AppendsAll old new text → Writes Done Done old new text
written_all p = record { how = p }

pub written_part : {old new : SinkState} {text : List ℕ} → AppendsPrefix old new text
    → Writes Done Failed old new text
written_part p = record { how = p }

-- Two texts that are appended one after the other are appended together.
pub all_of_both : {old mid new : SinkState} {text more : List ℕ} → AppendsAll old mid text → AppendsAll mid new more
    → AppendsAll old new (text ++ more)
all_of_both {old} {mid} {new} {text} {more} p q =
    let both : Writes Done Done old new (text ++ more) = and_then (written_all p) (written_all q) in both.how

pub part_of_both : {old mid new : SinkState} {text more : List ℕ} → AppendsAll old mid text
    → AppendsPrefix mid new more → AppendsPrefix old new (text ++ more)
part_of_both {old} {mid} {new} {text} {more} p q =
    let both : Writes Done Failed old new (text ++ more) = and_then (written_all p) (written_part q) in both.how

-- A delivery appends nothing.
pub delivers : {old mid new : SinkState} {text : List ℕ} → AppendsAll old mid text → AppendsAll mid new []
    → AppendsAll old new text
delivers {old} {mid} {new} {text} p q = subst (λ t. AppendsAll old new t) (append-nil text) (all_of_both p q)

pub fails_to_deliver : {old mid new : SinkState} {text : List ℕ} → AppendsAll old mid text → AppendsPrefix mid new []
    → AppendsPrefix old new text
fails_to_deliver {old} {mid} {new} {text} p q =
    subst (λ t. AppendsPrefix old new t) (append-nil text) (part_of_both p q)
