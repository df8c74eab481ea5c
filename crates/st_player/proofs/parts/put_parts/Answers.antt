use Rattle.std.proofs.Common.{rules}
use Rattle.st_player.specs.PictureTexts.{with_other_parts}
use Rattle.st_entry.proofs.Plain.{name_plain}
use Rattle.st_player.proofs.parts.put_parts.Goals as goal

pub put_text-requires-clause-text : goal.put_text-requires-clause-text
put_text-requires-clause-text c = name_plain c.bytes.result.now c.bytes.ensures.spelling

pub returns : goal.returns
unfolding with_other_parts
returns c = search rules
