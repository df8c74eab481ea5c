use Rattle.std.proofs.Common.{◌∙◌, length, ap, arith, refl}
use Rattle.st_player.proofs.joining.write_fitting.Goals as goal

pub returns-then-size-room : goal.returns-then-size-room
returns-then-size-room c = record {
  larger = omega (arith, c.size_in_list-size.ensures, c.if-size-room.true, ap length (c.as_str.ensures.value ∙ c.in_ok-text.ensures.text));
  text_is = refl;
}
