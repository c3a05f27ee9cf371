use Rattle.hip_survival.specs.Laws.EachByte.{loose_byte_reported, survives_or_reported}
use Rattle.hip_survival.proofs.laws.checked_bytes_survive_or_are_reported.Goals as goal

pub returns : goal.returns
returns c = record {
  reported = λ P I n range b low high h. loose_byte_reported P I n range b low high h;
  decided = λ P s I v n range e b low high. survives_or_reported P s I v n range e b low high;
}
