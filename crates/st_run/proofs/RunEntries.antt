-- The entries that a course adds to a journal.
use Rattle.std.proofs.Common.{◌≡◌, ℕ, ◌<◌, Bool, true, false, List, [], ◌∷◌, ◌++◌, length, map, refl, ap, sym, subst, ◌∙◌}
use Rattle.std.specs.Prelude.{reverse, nat_lt, if◌then◌else◌}
use Rattle.std.proofs.lemmas.List.{append_cancel_right, reverse-reverse, reverse-append}
use Rattle.st_net.specs.declared.entity.Entity.{Entity}
use Rattle.st_net.specs.Groups.{Group}
use Rattle.st_event.specs.declared.event.Event.{Event}
use Rattle.st_event.specs.declared.event.Event.TheVariants.{Send, Deliver, Finish, Report as make_report, Hear, Withdraw}
use Rattle.st_event.specs.declared.reply.Reply.{Reply}
use Rattle.st_event.specs.declared.reply.Reply.TheVariants.{Sent, Reported}
use Rattle.st_event.specs.declared.journal.Entry.{Entry}
use Rattle.st_event.specs.declared.journal.TheConstants.{MAX_ENTRIES}
use Rattle.st_event.specs.Services.{entry_after}
use Rattle.st_wire.specs.declared.line.WireKind.TheVariants.{Command as command_kind, Report as report_kind}
use Rattle.st_wire.specs.declared.line.WireLine.{WireLine}
use Rattle.st_wire.specs.Deliveries.{deliveries}
use Rattle.st_world.specs.Rounds.{Course, course_from, enter, enter_all, follow_ups_of, follow_ups, enter_told, is_called_back, send_turn, update_turn, poll, turn}
use Rattle.st_net.proofs.Tests.{less_is}
use Rattle.st_world.proofs.RunLaws.{entered}
use Rattle.st_run.proofs.DidLaws.{Each, each_append}

-- an event that stopped nothing was entered
pub record WasEntered (g : Group) (course : Course) (event : Event) (new : List Entry) : Type 0 where
  pub went : course.stopped ≡ false
  pub room : length course.past < MAX_ENTRIES
  pub is : new ≡ entry_after g course.past event ∷ course.past

went_on : (g : Group) (course : Course) (event : Event) (new : List Entry) (stopped room : Bool) → course.stopped ≡ stopped → nat_lt (length course.past) MAX_ENTRIES ≡ room → entered course (entry_after g course.past event) stopped room ≡ record { past = new; stopped = false } → WasEntered g course event new
went_on g course event new true room is fits e = let no : course.stopped ≡ false = ap (λ (r : Course). r.stopped) e in let both : true ≡ false = sym is ∙ no in absurd (cc both)
went_on g course event new false true is fits e = record { went = is; room = less_is (length course.past) MAX_ENTRIES fits; is = sym (ap (λ (r : Course). r.past) e) }
went_on g course event new false false is fits e = let no : true ≡ false = ap (λ (r : Course). r.stopped) e in absurd (cc no)

pub was_entered : (g : Group) (course : Course) (event : Event) (new : List Entry) → enter g course event ≡ record { past = new; stopped = false } → WasEntered g course event new
was_entered g course event new e = went_on g course event new course.stopped (nat_lt (length course.past) MAX_ENTRIES) refl refl e

-- a course added entries whose events have a property
pub record Only (P : Event → Type 0) (past : List Entry) (course : Course) : Type 0 where
  pub more : List Entry
  pub all : course.past ≡ more ++ past
  pub each : Each (λ e. P e.event) more

pub only_none : (P : Event → Type 0) (past : List Entry) → Only P past (course_from past)
only_none P past = record { more = []; all = refl; each = tt }

only_entered : (P : Event → Type 0) (past : List Entry) (course : Course) (entry : Entry) (stopped room : Bool) → P entry.event → Only P past course → Only P past (entered course entry stopped room)
only_entered P past course entry true room p o = o
only_entered P past course entry false true p o = record { more = entry ∷ o.more; all = ap (λ es. entry ∷ es) o.all; each = (p, o.each) }
only_entered P past course entry false false p o = record { more = o.more; all = o.all; each = o.each }

pub only_enter : (P : Event → Type 0) (g : Group) (past : List Entry) (course : Course) (event : Event) → P event → Only P past course → Only P past (enter g course event)
only_enter P g past course event p o = only_entered P past course (entry_after g course.past event) course.stopped (nat_lt (length course.past) MAX_ENTRIES) p o

only_all : (P : Event → Type 0) (g : Group) (past : List Entry) (course : Course) (events : List Event) → Each P events → Only P past course → Only P past (enter_all g course events)
only_all P g past course [] p o = o
only_all P g past course (event ∷ events) p o = only_all P g past (enter g course event) events p.1 (only_enter P g past course event p.0 o)

-- what the events of turns have
pub record OfTurns (P : Event → Type 0) : Type 0 where
  pub send : (e : Entity) → P (Send e)
  pub deliver : (n : ℕ) → P (Deliver n)
  pub finish : (e : Entity) → P (Finish e)
  pub report : (e : Entity) → P (make_report e)
  pub hear : (n : ℕ) → P (Hear n)
  pub withdraw : (e : Entity) → P (Withdraw e)

each_map : (P : Event → Type 0) (f : ℕ → Event) (ns : List ℕ) → ((n : ℕ) → P (f n)) → Each P (map f ns)
each_map P f [] p = tt
each_map P f (n ∷ ns) p = (p n, each_map P f ns p)

each_follow_up_of : (P : Event → Type 0) (g : Group) (lines : List WireLine) (past : List Entry) (reply : Reply) → OfTurns P → Each P (follow_ups_of g lines past reply)
each_follow_up_of P g lines past (Sent n) t = each_map P Deliver (deliveries lines command_kind n) t.deliver
each_follow_up_of P g lines past (Reported n) t = each_map P Hear (deliveries lines report_kind n) t.hear
each_follow_up_of P g lines past _ t = tt

each_follow_up : (P : Event → Type 0) (g : Group) (lines : List WireLine) (past : List Entry) → OfTurns P → Each P (follow_ups g lines past)
each_follow_up P g lines [] t = tt
each_follow_up P g lines (entry ∷ past) t = each_follow_up_of P g lines (entry ∷ past) entry.reply t

only_told : (P : Event → Type 0) (g : Group) (lines : List WireLine) (past : List Entry) (course : Course) (event : Event) → OfTurns P → P event → Only P past course → Only P past (enter_told g lines course event)
only_told P g lines past course event t p o =
    let next = enter g course event in
    only_all P g past next (follow_ups g lines next.past) (each_follow_up P g lines next.past t) (only_enter P g past course event p o)

pub only_poll : (P : Event → Type 0) (g : Group) (lines : List WireLine) (past : List Entry) (course : Course) (e : Entity) → OfTurns P → Only P past course → Only P past (poll g lines course e)
only_poll P g lines past course e t o = only_told P g lines past course (make_report e) t (t.report e) o

only_called : (P : Event → Type 0) (g : Group) (past : List Entry) (course : Course) (e : Entity) (called : Bool) → OfTurns P → Only P past course → Only P past (if called then enter g course (Withdraw e) else course)
only_called P g past course e true t o = only_enter P g past course (Withdraw e) (t.withdraw e) o
only_called P g past course e false t o = o

only_send : (P : Event → Type 0) (g : Group) (lines : List WireLine) (past : List Entry) (course : Course) (e : Entity) → OfTurns P → Only P past course → Only P past (send_turn g lines course e)
only_send P g lines past course e t o =
    let told = enter_told g lines course (Send e) in
    only_called P g past told e (is_called_back g told.past e) t (only_told P g lines past course (Send e) t (t.send e) o)

pub only_update : (P : Event → Type 0) (g : Group) (lines : List WireLine) (past : List Entry) (course : Course) (e : Entity) → OfTurns P → Only P past course → Only P past (update_turn g lines course e)
only_update P g lines past course e t o = only_enter P g past (send_turn g lines course e) (Finish e) (t.finish e) (only_send P g lines past course e t o)

pub only_turn : (P : Event → Type 0) (g : Group) (lines : List WireLine) (past : List Entry) (course : Course) (e : Entity) → OfTurns P → Only P past course → Only P past (turn g lines course e)
only_turn P g lines past course e t o = only_poll P g lines past (update_turn g lines course e) e t (only_update P g lines past course e t o)

-- what each item of a list has, each of its reverse has
pub each_reverse : {X : Type 0} (P : X → Type 0) (xs : List X) → Each P xs → Each P (reverse xs)
each_reverse P [] e = tt
each_reverse P (x ∷ xs) e = subst (Each P) (sym (reverse-append (x ∷ []) xs)) (each_append P (reverse xs) (x ∷ []) (each_reverse P xs e.1) (e.0, tt))

-- entries that a course added to a journal, the oldest first
pub only_made : (P : Event → Type 0) (past : List Entry) (course : Course) (es : List Entry) → course.past ≡ reverse es ++ past → Only P past course → Each (λ e. P e.event) es
only_made P past course es is o =
    let same : reverse es ≡ o.more = append_cancel_right (reverse es) o.more past (sym is ∙ o.all) in
    subst (Each (λ e. P e.event)) (ap reverse (sym same) ∙ reverse-reverse es) (each_reverse (λ e. P e.event) o.more o.each)
