use Rattle.std.proofs.Common.{ap, sym, subst}
use Rattle.st_net.specs.Groups.{Group, IsEntityOf}
use Rattle.st_board.specs.Published.{Published}
use Rattle.st_tests_rooms.proofs.boards.read_by_all.Goals as goal

pub read_each-seen-requires : goal.read_each-seen-requires
read_each-seen-requires g c = λ k d lt. subst (λ (q : Group). IsEntityOf q c.args.at) (sym (ap (λ (p : Published). p.group) (c.in_ok-board.ensures.readers k d lt))) c.requires.1
