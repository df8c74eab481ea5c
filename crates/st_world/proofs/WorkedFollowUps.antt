-- What follows an entry, worked: of the two replies that have follow-ups, with and without lines of the loss plan; and of others none.
use Rattle.std.proofs.Common.{◌≡◌, List, [], ◌∷◌, refl}
use Rattle.st_net.specs.declared.entity.Row.{Row}
use Rattle.st_net.specs.Groups.{Group}
use Rattle.st_event.specs.declared.event.Event.TheVariants.{Check, Deliver, Hear}
use Rattle.st_event.specs.declared.journal.Entry.{Entry}
use Rattle.st_event.specs.declared.reply.Reply.{Reply}
use Rattle.st_event.specs.declared.reply.Reply.TheVariants.{Idle, Sent, Settled, Blocked, Begun, Reported}
use Rattle.st_wire.specs.declared.line.WireKind.TheVariants.{Command, Report}
use Rattle.st_wire.specs.declared.line.WireLine.{WireLine}
use Rattle.st_wire.specs.declared.line.WireLine.TheVariants.{Drop, Repeat, Hold}
use Rattle.st_world.specs.Rounds.{follow_ups}

-- a journal whose newest entry has this reply, which alone counts
abbrev behind : Reply → List Entry
behind answer = record { event = Check; reply = answer } ∷ []

-- a command arrives at the turn at which it was sent, and a report at that at which it was made
a_command_arrives : (g : Group) → follow_ups g [] (behind (Sent 1)) ≡ Deliver 1 ∷ []
a_command_arrives g = refl

a_report_is_heard : (g : Group) → follow_ups g [] (behind (Reported 1)) ≡ Hear 1 ∷ []
a_report_is_heard g = refl

-- not one that is dropped, or held back; a line on the other kind, or on another message, changes nothing
a_dropped_command : (g : Group) → follow_ups g (Drop Command 1 ∷ []) (behind (Sent 1)) ≡ []
a_dropped_command g = refl

a_held_report : (g : Group) → follow_ups g (Hold Report 1 2 ∷ []) (behind (Reported 1)) ≡ []
a_held_report g = refl

a_dropped_report : (g : Group) → follow_ups g (Drop Report 1 ∷ []) (behind (Sent 1)) ≡ Deliver 1 ∷ []
a_dropped_report g = refl

another_command : (g : Group) → follow_ups g (Drop Command 1 ∷ []) (behind (Sent 2)) ≡ Deliver 2 ∷ []
another_command g = refl

-- what was held back arrives behind the message of that turn, and so does what is repeated
the_held_report_comes : (g : Group) → follow_ups g (Hold Report 1 2 ∷ []) (behind (Reported 2)) ≡ Hear 2 ∷ Hear 1 ∷ []
the_held_report_comes g = refl

a_command_comes_again : (g : Group) → follow_ups g (Repeat Command 1 2 ∷ []) (behind (Sent 2)) ≡ Deliver 2 ∷ Deliver 1 ∷ []
a_command_comes_again g = refl

-- nothing follows where nothing was sent or made: at the opening, and behind other replies, of which an updater and a monitor meet these
the_opening : (g : Group) (lines : List WireLine) → follow_ups g lines [] ≡ []
the_opening g lines = refl

a_settled_entity : (g : Group) (lines : List WireLine) → follow_ups g lines (behind Settled) ≡ []
a_settled_entity g lines = refl

a_blocked_entity : (g : Group) (lines : List WireLine) (row : Row) → follow_ups g lines (behind (Blocked row)) ≡ []
a_blocked_entity g lines row = refl

a_command_begun : (g : Group) (lines : List WireLine) → follow_ups g lines (behind Begun) ≡ []
a_command_begun g lines = refl

an_idle_check : (g : Group) (lines : List WireLine) → follow_ups g lines (behind Idle) ≡ []
an_idle_check g lines = refl
