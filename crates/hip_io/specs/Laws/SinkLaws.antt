-- Laws of texts that are written one after another.
use Rattle.std.specs.Prelude.{ℕ, ◌≡◌, List, [], ◌++◌, Option, Some, None, option_map}
use Rattle.std.proofs.Common.{refl, append-nil, sym, subst, ap, ◌∙◌, append_assoc, arith}
use Rattle.hip_io.specs.Counts.{Rose}
use Rattle.hip_io.specs.Sinks.{SinkState, AppendsAll, AppendsPrefix, Delivers, HasPut, StaysFailed, writes_from, Writes}
use Rattle.hip_io.specs.declared.sink.Put.{Put}
use Rattle.hip_io.specs.declared.sink.Put.TheVariants.{Done, Failed}

appended : (old : Option (List ℕ)) (s t : List ℕ)
    → option_map (λ b. b ++ t) (option_map (λ b. b ++ s) old) ≡ option_map (λ b. b ++ (s ++ t)) old
appended None s t = refl
appended (Some b) s t = ap (λ (x : List ℕ). Some x) (append_assoc b s t)

appends_both : (old mid new : Option (List ℕ)) (s t : List ℕ) → mid ≡ option_map (λ b. b ++ s) old
    → new ≡ option_map (λ b. b ++ t) mid → new ≡ option_map (λ b. b ++ (s ++ t)) old
appends_both old mid new s t first second =
    subst (λ (m : Option (List ℕ)). new ≡ option_map (λ b. b ++ t) m) first second ∙ appended old s t

all_then_all : (old mid new : SinkState) (s t : List ℕ) → AppendsAll old mid s → AppendsAll mid new t
    → AppendsAll old new (s ++ t)
all_then_all old mid new s t p q = record {
  bytes = appends_both old.bytes mid.bytes new.bytes s t p.bytes q.bytes;
  faults = q.faults ∙ p.faults;
}

all_then_prefix : (old mid new : SinkState) (s t : List ℕ) → AppendsAll old mid s → AppendsPrefix mid new t
    → AppendsPrefix old new (s ++ t)
all_then_prefix old mid new s t p q = record {
  written = s ++ q.written;
  missing = q.missing;
  parts = ap (λ (x : List ℕ). s ++ x) q.parts ∙ sym (append_assoc s q.written q.missing);
  bytes = appends_both old.bytes mid.bytes new.bytes s q.written p.bytes q.bytes;
  later = omega (arith, p.faults, q.later);
  rose = subst (λ (n : ℕ). Rose n new.faults) p.faults q.rose;
}

-- A prefix of the first text is a prefix of both texts together.
pub prefix_of_more : (old new : SinkState) (s t : List ℕ) → AppendsPrefix old new s
    → AppendsPrefix old new (s ++ t)
prefix_of_more old new s t q = record {
  written = q.written;
  missing = q.missing ++ t;
  parts = ap (λ (x : List ℕ). x ++ t) q.parts ∙ append_assoc q.written q.missing t;
  bytes = q.bytes;
  later = q.later;
  rose = q.rose;
}

writes_both : (i j k : Put) (old mid new : SinkState) (s t : List ℕ) → writes_from i j old mid s
    → writes_from j k mid new t → writes_from i k old new (s ++ t)
writes_both Done Done Done old mid new s t p q = all_then_all old mid new s t p q
writes_both Done Done Failed old mid new s t p q = all_then_prefix old mid new s t p q
writes_both Done Failed k old mid new s t p q =
    let same : AppendsPrefix old new s = subst (λ (m : SinkState). AppendsPrefix old m s) (sym q.state) p in
    subst (λ (x : Put). HasPut old new (s ++ t) x) (sym q.answer) (prefix_of_more old new s t same)
writes_both Failed j k old mid new s t p q =
    let rest : StaysFailed k mid new = subst (λ (x : Put). writes_from x k mid new t) p.answer q in
    record { answer = rest.answer; state = rest.state ∙ p.state }

-- Two stages, one after the other, write both texts together.
pub and_then : {i j k : Put} {old mid new : SinkState} {s t : List ℕ} → Writes i j old mid s
    → Writes j k mid new t
    → Writes i k old new (s ++ t)
and_then {i} {j} {k} {old} {mid} {new} {s} {t} p q = record { how = writes_both i j k old mid new s t p.how q.how }

-- A stage may write nothing.
pub writes_nothing : (i : Put) (old : SinkState) → Writes i i old old []
writes_nothing Done old = record { how = record { bytes = keeps old.bytes; faults = refl } }
  where
    keeps : (b : Option (List ℕ)) → b ≡ option_map (λ x. x ++ []) b
    keeps None = refl
    keeps (Some x) = ap (λ (y : List ℕ). Some y) (sym (append-nil x))
writes_nothing Failed old = record { how = record { answer = refl; state = refl } }

pub same_text : {i j : Put} {old new : SinkState} {s t : List ℕ} → s ≡ t → Writes i j old new s
    → Writes i j old new t
same_text {i} {j} {old} {new} {s} {t} e p = subst (λ (x : List ℕ). Writes i j old new x) e p

-- A text is written and then delivered.
pub then_delivers : {i j k : Put} {old mid new : SinkState} {held : ℕ} {s : List ℕ} → Writes i j old mid s
    → Delivers j k mid new held [] → Delivers i k old new held s
then_delivers {i} {j} {k} {old} {mid} {new} {held} {s} p q =
    let both : Writes i k old new (s ++ []) = and_then p (record { how = q.how }) in
    record { how = subst (λ (x : List ℕ). writes_from i k old new x) (append-nil s) both.how; out = q.out }
