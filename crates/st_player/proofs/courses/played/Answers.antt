use Rattle.std.proofs.Common.{◌≡◌, arith, length}
use Rattle.std.proofs.lemmas.Bool.Decides.{nat_tests}
use Rattle.st_player.proofs.PlayLemmas.{none_gone}
use Rattle.st_player.proofs.courses.played.Goals as goal

pub returns-then-is_empty-clause-playback : goal.returns-then-is_empty-clause-playback
returns-then-is_empty-clause-playback c =
    let none : length c.args.entries.now ≡ 0 = grind (arith, nat_tests, c.is_empty.ensures, c.if-is_empty.true) in
    none_gone c.args.opened.playback c.args.entries.now c.requires.opening none
