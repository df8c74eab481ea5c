-- The reports that were made, and the commands that were sent.
use Rattle.std.proofs.Common.{◌≡◌, ℕ, ◌+◌, List, [], ◌∷◌, Option, Some, None, refl, subst, inl, inr, arith}
use Rattle.std.specs.Prelude.{Bool, true, false, ◌&&◌, nat_lt, if◌then◌else◌, ◌⊎◌}
use Rattle.st_net.specs.declared.entity.Entity.{Entity}
use Rattle.st_net.specs.declared.message.Command.{Command}
use Rattle.st_net.specs.declared.message.Report.{Report}
use Rattle.st_event.specs.declared.event.Event.{Event}
use Rattle.st_event.specs.declared.event.Event.TheVariants.{Send, Deliver, Report as make_report, Hear}
use Rattle.st_event.specs.declared.reply.Reply.{Reply}
use Rattle.st_event.specs.declared.reply.Reply.TheVariants.{Sent}
use Rattle.st_event.specs.declared.journal.Entry.{Entry}
use Rattle.st_net.specs.Entities.{is_same_entity}
use Rattle.st_net.specs.Groups.{Group}
use Rattle.st_event.specs.Proposals.{target}
use Rattle.st_net.specs.Merge.{vals_in}
use Rattle.st_net.specs.Numbered.{nth}
use Rattle.st_net.specs.Agents.{report_by}
use Rattle.st_event.specs.Moments.{heard, command_of, told, commands_after, reports_after, stamp, commands, fence, busy, vals, health, number, reports}
use Rattle.st_net.specs.Reports.{opening_report, later_report}
use Rattle.st_event.specs.Observed.{observed}
use Rattle.st_net.proofs.Tests.{nth_last, both, same_entity}

-- no number is one of an empty list
pub names_none : {M : Type 0} (n : ℕ) (x : M) → nth [] n ≡ Some x → ⊥
names_none n x is = grind arith

-- what an agent would report
abbrev pub report_now : Group → List Entry → Entity → Report
report_now g past e = report_by e (number past e + 1) (fence g past e) (busy g past e) (vals g past e) (health g past e)

-- the event makes this report, where an agent would report so
abbrev pub Makes : Event → (Entity → Report) → Report → Type 0
Makes (make_report e) now r = r ≡ now e
Makes _ now r = ⊥

-- the report is an opening one, or was made
abbrev pub IsMade : Group → List Entry → Report → Type 0
IsMade g [] r = r ≡ opening_report g r.entity
IsMade g (entry ∷ past) r = IsMade g past r ⊎ Makes entry.event (report_now g past) r

pub makes_last : (event : Event) (now : Entity → Report) (before : List Report) (n : ℕ) (r : Report) → nth (reports_after event now before) n ≡ Some r → (nth before n ≡ Some r) ⊎ Makes event now r
makes_last (make_report e) now before n r is = nth_last before (now e) r n is
makes_last _ now before n r is = inl is

made_from : (g : Group) (past : List Entry) (entry : Entry) (n : ℕ) (r : Report) → ((nth (reports g past) n ≡ Some r) ⊎ Makes entry.event (report_now g past) r) → (nth (reports g past) n ≡ Some r → IsMade g past r) → IsMade g (entry ∷ past) r
made_from g past entry n r (inl is) before = inl (before is)
made_from g past entry n r (inr makes) before = inr makes

-- a report with a number was made
pub numbered_made : (g : Group) (past : List Entry) (n : ℕ) (r : Report) → nth (reports g past) n ≡ Some r → IsMade g past r
numbered_made g [] n r is = absurd (names_none n r is)
numbered_made g (entry ∷ past) n r is = made_from g past entry n r (makes_last entry.event (report_now g past) (reports g past) n r is) (numbered_made g past n r)

heard_made_at : (g : Group) (past : List Entry) (event : Event) (r : Report) → heard event (nth (reports g past)) ≡ Some r → IsMade g past r
heard_made_at g past (Hear n) r is = numbered_made g past n r is
heard_made_at g past _ r is = cc

-- a report that is heard was made
pub heard_made : (g : Group) (past : List Entry) (event : Event) (r : Report) → heard event (nth (reports g past)) ≡ Some r → IsMade g past r
heard_made g past event r is = heard_made_at g past event r is

-- the report that is observed was made, and is one of the entity
pub record IsOwn (g : Group) (past : List Entry) (e : Entity) (r : Report) : Type 0 where
  pub made : IsMade g past r
  pub own : r.entity ≡ e

own_if : (g : Group) (past : List Entry) (e : Entity) (r kept : Report) (b : Bool) → (is_same_entity r.entity e && nat_lt kept.number r.number) ≡ b → IsMade g past r → IsOwn g past e kept → IsOwn g past e (if b then r else kept)
own_if g past e r kept true is made own = record { made = made; own = same_entity r.entity e (both (is_same_entity r.entity e) (nat_lt kept.number r.number) is).0 }
own_if g past e r kept false is made own = own

own_later : (g : Group) (past : List Entry) (e : Entity) (kept : Report) (o : Option Report) → ((r : Report) → o ≡ Some r → IsMade g past r) → IsOwn g past e kept → IsOwn g past e (later_report e o kept)
own_later g past e kept None made own = own
own_later g past e kept (Some r) made own = own_if g past e r kept (is_same_entity r.entity e && nat_lt kept.number r.number) refl (made r refl) own

own_more : (g : Group) (past : List Entry) (entry : Entry) (e : Entity) (r : Report) → IsOwn g past e r → IsOwn g (entry ∷ past) e r
own_more g past entry e r own = record { made = inl own.made; own = own.own }

pub observed_own : (g : Group) (past : List Entry) (e : Entity) → IsOwn g past e (observed g past e)
observed_own g [] e = record { made = refl; own = refl }
observed_own g (entry ∷ past) e = own_more g past entry e (observed g (entry ∷ past) e) (own_later g past e (observed g past e) (heard entry.event (nth (reports g past))) (heard_made g past entry.event) (observed_own g past e))

-- what a command would be
abbrev pub command_now : Group → List Entry → Entity → Command
command_now g past e = record { entity = e; stamp = stamp g past e; vals = vals_in g (target g past) e }

abbrev pub Sends : Event → (Entity → Command) → Command → Type 0
Sends (Send e) now c = c ≡ now e
Sends _ now c = ⊥

-- the command was sent
abbrev pub IsSent : Group → List Entry → Command → Type 0
IsSent g [] c = ⊥
IsSent g (entry ∷ past) c = IsSent g past c ⊎ Sends entry.event (command_now g past) c

pub sends_last : (event : Event) (reply : Reply) (now : Entity → Command) (before : List Command) (n : ℕ) (c : Command) → nth (commands_after event reply now before) n ≡ Some c → (nth before n ≡ Some c) ⊎ Sends event now c
sends_last (Send e) (Sent k) now before n c is = nth_last before (now e) c n is
sends_last (Send e) _ now before n c is = inl is
sends_last _ reply now before n c is = inl is

sent_from : (g : Group) (past : List Entry) (entry : Entry) (n : ℕ) (c : Command) → ((nth (commands g past) n ≡ Some c) ⊎ Sends entry.event (command_now g past) c) → (nth (commands g past) n ≡ Some c → IsSent g past c) → IsSent g (entry ∷ past) c
sent_from g past entry n c (inl is) before = inl (before is)
sent_from g past entry n c (inr sends) before = inr sends

pub numbered_sent : (g : Group) (past : List Entry) (n : ℕ) (c : Command) → nth (commands g past) n ≡ Some c → IsSent g past c
numbered_sent g [] n c is = absurd (names_none n c is)
numbered_sent g (entry ∷ past) n c is = sent_from g past entry n c (sends_last entry.event entry.reply (command_now g past) (commands g past) n c is) (numbered_sent g past n c)

-- a command that is delivered was sent, to this entity
pub record IsTold (g : Group) (past : List Entry) (e : Entity) (c : Command) : Type 0 where
  pub sent : IsSent g past c
  pub own : c.entity ≡ e

told_if : (g : Group) (past : List Entry) (e : Entity) (d c : Command) (b : Bool) → is_same_entity d.entity e ≡ b → IsSent g past d → (if b then Some d else None) ≡ Some c → IsTold g past e c
told_if g past e d c true same sent is = let it : d ≡ c = cc in record { sent = subst (λ (x : Command). IsSent g past x) it sent; own = subst (λ (x : Command). x.entity ≡ e) it (same_entity d.entity e same) }
told_if g past e d c false same sent is = cc

told_of : (g : Group) (past : List Entry) (e : Entity) (o : Option Command) (c : Command) → ((d : Command) → o ≡ Some d → IsSent g past d) → command_of e o ≡ Some c → IsTold g past e c
told_of g past e None c sent is = cc
told_of g past e (Some d) c sent is = told_if g past e d c (is_same_entity d.entity e) refl (sent d refl) is

told_at : (g : Group) (past : List Entry) (e : Entity) (event : Event) (c : Command) → told e event (nth (commands g past)) ≡ Some c → IsTold g past e c
told_at g past e (Deliver n) c is = told_of g past e (nth (commands g past) n) c (numbered_sent g past n) is
told_at g past e _ c is = cc

pub told_sent : (g : Group) (past : List Entry) (e : Entity) (event : Event) (c : Command) → told e event (nth (commands g past)) ≡ Some c → IsTold g past e c
told_sent g past e event c is = told_at g past e event c is
