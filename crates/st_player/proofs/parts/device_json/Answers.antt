use Rattle.st_entry.proofs.Plain.{name_plain}
use Rattle.st_player.proofs.parts.device_json.Goals as goal

pub put_text-requires-clause-text : goal.put_text-requires-clause-text
put_text-requires-clause-text c = name_plain c.bytes.result.now c.bytes.ensures.spelling
