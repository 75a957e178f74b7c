use Rattle.indexer.proofs.BuildSoundLemmas.{build_sound}
use Rattle.indexer.proofs.laws.the_calls_of_build_are_sound.Goals as goal

pub returns : goal.returns
returns c = build_sound
