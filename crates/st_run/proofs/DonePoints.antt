-- Scripts that passes have done were carried out: each on each group, and all of them together.
use Rattle.st_run.specs.CarriedLaws.{AllAreCarriedOut, EachIsCarriedOut}
use Rattle.st_run.proofs.PendingLaws.{none_pending}
use Rattle.st_run.proofs.ScriptEntries.{asks_all, has_tickets}
use Rattle.st_run.proofs.ScriptFailures.{fails_as_asked}
use Rattle.st_run.proofs.ScriptPolls.{polls_all}
use Rattle.st_run.proofs.ScriptsInTime.{asks_in_time, settles_all}
use Rattle.st_run.proofs.SeenTickets.{sees_awaited}
use Rattle.st_run.proofs.SeenTruths.{sees_truly}

pub each_is_carried_out : EachIsCarriedOut
each_is_carried_out groups lines rooms scripts passes n entries front a acts p run within whole script pass = record {
  asked = asks_all groups lines rooms scripts passes n entries front a acts p run within whole script pass;
  given = has_tickets groups lines rooms scripts passes n entries front a acts p run within whole script pass;
  timely = asks_in_time groups lines rooms scripts passes n entries front a acts p run within whole script pass;
  settled = settles_all groups lines rooms scripts passes n entries front a acts p run within whole script pass;
  truly = sees_truly groups lines rooms scripts passes n entries front a acts p run within whole script pass;
  awaited = sees_awaited groups lines rooms scripts passes n entries front a acts p run within whole script pass;
}

pub all_are_carried_out : AllAreCarriedOut
all_are_carried_out groups lines rooms scripts passes n entries front run within whole = record {
  decided = none_pending groups lines rooms scripts passes n entries front run within whole;
  failed = fails_as_asked groups lines rooms scripts passes n entries front run within whole;
  polled = polls_all groups lines rooms scripts passes n entries front run within whole;
}
