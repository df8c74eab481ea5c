-- What a withdrawal of an entity comes to, by what a checker keeps.
use Rattle.std.specs.Prelude.{◌≡◌, List, [], ◌∷◌, Option, Some, None}
use Rattle.st_net.specs.declared.entity.Entity.{Entity}
use Rattle.st_net.specs.declared.entity.Row.{Row}
use Rattle.st_net.specs.Entities.{value_of, vars_of}
use Rattle.st_event.specs.declared.reply.Lack.{Lack}
use Rattle.st_event.specs.declared.reply.Reply.{Reply}
use Rattle.st_event.specs.declared.reply.Reply.TheVariants.{Withdrawn as withdrawn_reply, Kept as kept_reply}
use Rattle.st_event.specs.Judge.{lack_at}
use Rattle.st_event.specs.Replies.{governing, rows_back}
use Rattle.st_control.specs.declared.control.withdrawals.Withdrawal.{Withdrawal}
use Rattle.st_control.specs.declared.control.withdrawals.Withdrawal.TheVariants.{Withdrawn, Kept}
use Rattle.st_control.specs.Control.{ControlView, standing_in}

-- rows are due where something lacks, and where there are any
abbrev pub rows_if : Option Lack → List Row → Option (List Row)
rows_if None rows = None
rows_if (Some lack) [] = None
rows_if (Some lack) (row ∷ rows) = Some (row ∷ rows)

-- the rows that a withdrawal of the entity sets: where its governing variable can't be set, those that give its variables their observed
-- values
abbrev pub withdrawal_due : ControlView → Entity → Option (List Row)
withdrawal_due k e = rows_if (lack_at k.group (standing_in k).observed (standing_in k).target e (governing e ((standing_in k).observed e).vals ((standing_in k).target e))) (rows_back e (value_of e ((standing_in k).observed e).vals) ((standing_in k).target e) (vars_of e))

abbrev pub reply_of_withdrawal : Withdrawal → Reply
reply_of_withdrawal (Withdrawn version rows) = withdrawn_reply version rows
reply_of_withdrawal Kept = kept_reply

abbrev pub KeptChangesNothing : Withdrawal → ControlView → ControlView → Type 0
KeptChangesNothing (Withdrawn version rows) old new = Unit {0}
KeptChangesNothing Kept old new = new ≡ old
