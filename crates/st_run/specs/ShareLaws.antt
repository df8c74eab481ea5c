-- What passes enter for a command is counted in what scripts can make at the most.
use Rattle.std.specs.Prelude.{◌+◌, ◌≤◌, List}
use Rattle.st_net.specs.Groups.{Group}
use Rattle.st_event.specs.declared.act.Act.{Act}
use Rattle.st_wire.specs.declared.line.WireLine.{WireLine}
use Rattle.st_serial.specs.Shares.{share}
use Rattle.st_service.specs.Shares.{act_share}
use Rattle.st_run.specs.Workers.{worker_share}

-- the share of a command on a service, with that of workers for it, is within its term of `most`
abbrev pub SharesAreCounted : Type 0
SharesAreCounted = (act : Act) (g : Group) (lines : List WireLine) → act_share act g lines + worker_share act g lines ≤ share act g lines
