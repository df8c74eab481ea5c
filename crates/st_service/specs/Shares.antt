-- How many entries a call adds to a journal at the most: its share.
use Rattle.std.specs.Prelude.{ℕ, ◌*◌, List, length}
use Rattle.st_net.specs.Groups.{Group}
use Rattle.st_net.specs.InOrder.{entities_of}
use Rattle.st_event.specs.declared.act.Act.{Act}
use Rattle.st_event.specs.declared.act.Act.TheVariants.{Propose, Await, Settle, Lock, Unlock, Read, ReadAt, Fail, Poll, Span}
use Rattle.st_event.specs.declared.journal.TheConstants.{MAX_PENDING}
use Rattle.st_wire.specs.declared.line.WireLine.{WireLine}
use Rattle.st_world.specs.Shares.{poll_most, turn_most, update_most}
use Rattle.st_service.specs.declared.work.Part.{Part}
use Rattle.st_service.specs.declared.work.Part.TheVariants.{Whole, Update, Monitor}
use Rattle.st_service.specs.declared.work.Work.{Work}
use Rattle.st_service.specs.declared.work.Work.TheVariants.{OneAct, Commit, Turn}

-- an entity's turn, or a half of it, where a loss plan has these lines
abbrev pub turn_share : Part → List WireLine → ℕ
turn_share Whole lines = turn_most lines
turn_share Update lines = update_most lines
turn_share Monitor lines = poll_most lines

-- a round, or a half of one
abbrev pub round_share : Part → Group → List WireLine → ℕ
round_share part g lines = turn_share part lines * length (entities_of g)

-- an act of an application
abbrev pub act_share : Act → Group → List WireLine → ℕ
act_share (Propose n rows) g lines = 2
act_share (Await n) g lines = MAX_PENDING
act_share (Settle n rounds) g lines = rounds * round_share Whole g lines
act_share (Lock n entity prio) g lines = 1
act_share (Unlock n entity prio) g lines = 1
act_share (Read n entity var) g lines = 0
act_share (ReadAt n version entity var) g lines = 0
act_share (Fail n entity health rows) g lines = 1
act_share (Poll n entity) g lines = poll_most lines
act_share (Span first first_rows second second_rows) g lines = 0

-- a check of a checker
abbrev pub check_share : ℕ
check_share = 1

-- what is entered under one hold
abbrev pub work_share : Work → Group → List WireLine → ℕ
work_share (OneAct act) g lines = act_share act.now g lines
work_share (Commit judged) g lines = check_share
work_share (Turn part entity) g lines = turn_share part lines
