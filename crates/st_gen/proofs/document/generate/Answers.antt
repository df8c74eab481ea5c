use Rattle.st_gen.proofs.SoundTexts.{sound_result}
use Rattle.st_gen.proofs.document.generate.Goals as goal

pub returns-clause-sound : goal.returns-clause-sound
returns-clause-sound c = sound_result c.document.result c.args.pods c.args.seed c.requires c.document.ensures
