-- What a picture says of a refusal: what its receipt names, and of a broken promise the cut that is left.
use Rattle.std.specs.Prelude.{ℕ, Bool, true, false, List, Option, Some, None, codes, option_map}
use Rattle.serde_json.specs.Data.{Data, string, object, Members, no_members, put}
use Rattle.st_net.specs.declared.entity.Entity.{Entity}
use Rattle.st_net.specs.declared.entity.Prio.{Prio}
use Rattle.st_net.specs.declared.entity.Row.{Row}
use Rattle.st_net.specs.declared.promise.BrokenOf.{BrokenOf}
use Rattle.st_net.specs.declared.promise.BrokenOf.TheVariants.{Promise as of_promise}
use Rattle.st_net.specs.declared.promise.Broken.{Broken}
use Rattle.st_net.specs.Groups.{Group}
use Rattle.st_net.specs.InOrder.{place_in}
use Rattle.st_token.specs.Words.{prio_word}
use Rattle.st_entry.specs.Keywords.{kind_word}
use Rattle.st_event.specs.declared.event.Event.{Event}
use Rattle.st_event.specs.declared.event.Event.TheVariants.{Check}
use Rattle.st_event.specs.declared.journal.Entry.{Entry}
use Rattle.st_event.specs.declared.reply.Cause.{Cause}
use Rattle.st_event.specs.declared.reply.Cause.TheVariants.{NotControllable, Locked, Broken as broken_cause}
use Rattle.st_event.specs.declared.reply.Lack.{Lack}
use Rattle.st_event.specs.declared.reply.Lack.TheVariants.{Level, PowerOff}
use Rattle.st_event.specs.declared.reply.Reply.{Reply}
use Rattle.st_event.specs.declared.reply.Receipt.{Receipt}
use Rattle.st_event.specs.declared.reply.Verdict.{Verdict}
use Rattle.st_event.specs.declared.reply.Verdict.TheVariants.{Accepted, Refused}
use Rattle.st_event.specs.Proposals.{pending, first_rows}
use Rattle.st_event.specs.Receipts.{receipt_given}
use Rattle.st_player.specs.Cuts.{Stands, cut_of, is_far_smaller}
use Rattle.st_player.specs.Json.{number_data, numbers_data}

-- the number of the promise that is broken
abbrev pub promise_in : BrokenOf → ℕ
promise_in (of_promise i) = i

-- the members of a broken promise
abbrev pub with_broken : Broken → Members → Members
with_broken broken ms = put (codes "side") (numbers_data broken.side)
    (put (codes "has") (number_data broken.has)
    (put (codes "need") (number_data broken.need)
    (put (codes "promise") (number_data (promise_in broken.of))
    (put (codes "kind") (string (kind_word broken.kind)) ms))))

abbrev pub part_word : Bool → List ℕ
part_word true = codes "far"
part_word false = codes "side"

abbrev pub with_cut : List ℕ → Stands → Members → Members
with_cut side cut ms = put (codes "gone") (numbers_data cut.gone)
    (put (codes "changes") (numbers_data cut.changes)
    (put (codes "out") (numbers_data cut.out)
    (put (codes "left") (numbers_data cut.left)
    (put (codes "part") (string (part_word (is_far_smaller side cut.far)))
    (put (codes "far") (numbers_data cut.far) ms)))))

-- what a row lacks
abbrev pub lack_data : Group → Row → Lack → Data
lack_data g row (Level of level needs) = object (put (codes "needs") (number_data needs)
    (put (codes "has") (number_data level)
    (put (codes "of") (number_data (place_in g of))
    (put (codes "kind") (string (codes "level")) no_members))))
lack_data g row PowerOff = object (put (codes "of") (number_data (place_in g row.entity))
    (put (codes "kind") (string (codes "off")) no_members))

-- the lock that bars an entity
abbrev pub locked_data : Group → Entity → ℕ → Prio → Data
locked_data g e holder prio = object (put (codes "prio") (string (prio_word prio))
    (put (codes "by") (number_data holder)
    (put (codes "of") (number_data (place_in g e))
    (put (codes "kind") (string (codes "locked")) no_members))))

-- the promise that would break while the entities of these rows change
abbrev pub broken_data : Group → List Entry → List Row → Broken → Data
broken_data g past rows broken = object (with_cut broken.side (cut_of g past rows broken) (with_broken broken no_members))

-- a refusal's cause, of rows that were judged behind these entries
abbrev pub cause_data : Group → List Entry → List Row → Cause → Data
cause_data g past rows (NotControllable row lack) = lack_data g row lack
cause_data g past rows (Locked e holder prio) = locked_data g e holder.0 prio
cause_data g past rows (broken_cause broken) = broken_data g past rows broken

-- the cause of a check that refuses
abbrev pub cause_of : Verdict → Option Cause
cause_of (Accepted version) = None
cause_of (Refused cause) = Some cause

abbrev pub cause_given : Option Receipt → Option Cause
cause_given None = None
cause_given (Some receipt) = cause_of receipt.verdict

abbrev pub cause_in : Reply → Option Cause
cause_in reply = cause_given (receipt_given reply)

abbrev pub refusal_of : Event → Reply → Option Cause
refusal_of Check reply = cause_in reply
refusal_of _ reply = None

-- of a check that refuses, why
abbrev pub refused_of : Group → List Entry → Event → Reply → Option Data
refused_of g past event reply = option_map (cause_data g past (first_rows (pending past))) (refusal_of event reply)
