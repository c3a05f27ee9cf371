use Rattle.hip_gen.specs.Laws.SoundLaws.{generated_texts_are_read}
use Rattle.hip_gen.proofs.laws.generated_programs_are_sound.Goals as goal

pub returns : goal.returns
returns c = generated_texts_are_read
