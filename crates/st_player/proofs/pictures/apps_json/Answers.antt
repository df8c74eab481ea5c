use Rattle.st_entry.proofs.Plain.{name_plain}
use Rattle.st_player.proofs.pictures.apps_json.Goals as goal

pub text-requires : goal.text-requires
text-requires c = name_plain c.bytes.result.now c.bytes.ensures.spelling
