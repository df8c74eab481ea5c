use Rattle.std.specs.Prelude.{option_map}
use Rattle.st_net.specs.Demands.{first_broken_of}
use Rattle.st_net.specs.Merge.{target_with}
use Rattle.st_event.specs.declared.reply.Cause.TheVariants.{Broken as broken_cause}
use Rattle.st_event.specs.Judge.{first_lack}
use Rattle.st_event.specs.Standing.{sure_in}
use Rattle.st_roll.specs.Refusal.{left_up}
use Rattle.st_roll.proofs.LockLaws.{accepted_still}
use Rattle.st_roll.proofs.laws.accepted_of_all.Goals as goal

pub returns : goal.returns
returns c = λ g st app other rows none accepted.
    accepted_still (first_lack g st.observed (target_with st.target rows) rows) (option_map broken_cause (first_broken_of g (sure_in g st) (left_up g st rows))) st.holder app other rows none accepted
