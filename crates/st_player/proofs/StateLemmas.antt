-- The states of entities, by what a world is asked for.
use Rattle.std.proofs.Common.{◌≡◌, ◌∙◌, ℕ, ◌+◌, ◌≤◌, true, false, Bool, Option, Some, None, List, [], ◌∷◌, length, refl, sym, ap, arith}
use Rattle.std.specs.Prelude.{◌&&◌, ◌||◌, ◌==◌, not, nat_le, nat_lt, if◌then◌else◌}
use Rattle.std.proofs.lemmas.Bool.Decides.{nat_tests}
use Rattle.st_net.specs.declared.entity.Entity.{Entity}
use Rattle.st_net.specs.declared.entity.Row.{Row}
use Rattle.st_net.specs.declared.entity.Vals.{Vals}
use Rattle.st_net.specs.declared.entity.Var.{Var}
use Rattle.st_net.specs.Groups.{Group}
use Rattle.st_net.specs.Agents.{agent_level}
use Rattle.st_net.specs.Levels.{carries, level_of}
use Rattle.st_event.specs.declared.event.Event.TheVariants.{Send}
use Rattle.st_event.specs.declared.journal.Entry.{Entry}
use Rattle.st_event.specs.declared.reply.Lack.{Lack}
use Rattle.st_event.specs.declared.reply.Reply.TheVariants.{Settled, Blocked, Sent}
use Rattle.st_event.specs.Agents.{agent_of, agent_from}
use Rattle.st_event.specs.Moments.{commands, number, is_fail_of, is_report_of, busy, vals, health, fence, work}
use Rattle.st_event.specs.Observed.{observed, is_settled, failed_since}
use Rattle.st_event.specs.Proposals.{target}
use Rattle.st_event.specs.Judge.{lack_at}
use Rattle.st_event.specs.Replies.{reply, blocked_or_sent, governing, row_to}
use Rattle.st_event.specs.Standing.{Standing, standing_of, wires_of, reply_in}
use Rattle.st_control.specs.Control.{ControlView, Sends, standing_in, reply_of_send}
use Rattle.st_control.specs.declared.send.SendStep.{SendStep}
use Rattle.st_player.specs.declared.state.Knowledge.TheVariants as known
use Rattle.st_player.specs.Inside.{carriage_in, last_fail, is_since}
use Rattle.st_player.specs.declared.state.Carriage.TheVariants.{Busy, Up, Off, Failed, Drained}
use Rattle.st_player.specs.States.{carriage_of, greatest, is_blocked, knowledge_of, works_of}

-- what a checker would send an entity is what a Send calls for
pub sends_reply : (g : Group) (past : List Entry) (e : Entity) (k : ControlView) (step : SendStep) → k.group ≡ g → standing_in k ≡ standing_of g past → Sends k e step → reply_of_send (length (commands g past)) step ≡ reply g past (Send e)
sends_reply g past e k step group standing sends =
    sends.reply (wires_of g past) 0
    ∙ ap (λ (h : Group). reply_in h (standing_in k) (wires_of g past) 0 (Send e)) group
    ∙ ap (λ (s : Standing). reply_in g s (wires_of g past) 0 (Send e)) standing

-- what a reply to a Send says of whether the entity is settled
settled_by : (b : Bool) (lack : Option Lack) (row : Row) (n : ℕ) → Settled ≡ (if b then Settled else blocked_or_sent lack row n) → b ≡ true
settled_by true lack row n h = refl
settled_by false None row n h = absurd cc
settled_by false (Some l) row n h = absurd cc

blocked_by : (b : Bool) (lack : Option Lack) (row at : Row) (n : ℕ) → Blocked at ≡ (if b then Settled else blocked_or_sent lack row n) → (b ≡ false) × (is_blocked (if b then Settled else blocked_or_sent lack row n) ≡ true)
blocked_by true lack row at n h = absurd cc
blocked_by false None row at n h = absurd cc
blocked_by false (Some l) row at n h = (refl, refl)

sent_by : (b : Bool) (lack : Option Lack) (row : Row) (m n : ℕ) → Sent m ≡ (if b then Settled else blocked_or_sent lack row n) → (b ≡ false) × (is_blocked (if b then Settled else blocked_or_sent lack row n) ≡ false)
sent_by true lack row m n h = absurd cc
sent_by false None row m n h = (refl, refl)
sent_by false (Some l) row m n h = absurd cc

-- the variable that a command of an entity waits for, what it lacks, and its row
abbrev waits_for : Group → List Entry → Entity → Var
waits_for g past e = governing e (observed g past e).vals (target g past e)

abbrev lacks : Group → List Entry → Entity → Option Lack
lacks g past e = lack_at g (observed g past) (target g past) e (waits_for g past e)

abbrev row_for : Group → List Entry → Entity → Row
row_for g past e = row_to e (waits_for g past e) (target g past e)

sure_case : (s c b : Bool) → s ≡ true → c ≡ true → known.Sure ≡ (if s && c then known.Sure else (if s then known.Settled else (if b then known.Blocked else known.Waiting)))
sure_case true true b p q = refl
sure_case true false b p q = absurd cc
sure_case false c b p q = absurd cc

settled_case : (s c b : Bool) → s ≡ true → c ≡ false → known.Settled ≡ (if s && c then known.Sure else (if s then known.Settled else (if b then known.Blocked else known.Waiting)))
settled_case true true b p q = absurd cc
settled_case true false b p q = refl
settled_case false c b p q = absurd cc

blocked_case : (s c b : Bool) → s ≡ false → b ≡ true → known.Blocked ≡ (if s && c then known.Sure else (if s then known.Settled else (if b then known.Blocked else known.Waiting)))
blocked_case true c b p q = absurd cc
blocked_case false c true p q = refl
blocked_case false c false p q = absurd cc

waiting_case : (s c b : Bool) → s ≡ false → b ≡ false → known.Waiting ≡ (if s && c then known.Sure else (if s then known.Settled else (if b then known.Blocked else known.Waiting)))
waiting_case true c b p q = absurd cc
waiting_case false c true p q = absurd cc
waiting_case false c false p q = refl

abbrev seen_carries : Group → List Entry → Entity → Bool
seen_carries g past e = carries e (observed g past e).vals (observed g past e).level

pub is_sure : (g : Group) (past : List Entry) (e : Entity) → Settled ≡ reply g past (Send e) → seen_carries g past e ≡ true → known.Sure ≡ knowledge_of g past e
is_sure g past e is up =
    sure_case (is_settled g past e) (seen_carries g past e) (is_blocked (reply g past (Send e)))
    (settled_by (is_settled g past e) (lacks g past e) (row_for g past e) (length (commands g past)) is) up

pub is_still : (g : Group) (past : List Entry) (e : Entity) → Settled ≡ reply g past (Send e) → seen_carries g past e ≡ false → known.Settled ≡ knowledge_of g past e
is_still g past e is down =
    settled_case (is_settled g past e) (seen_carries g past e) (is_blocked (reply g past (Send e)))
    (settled_by (is_settled g past e) (lacks g past e) (row_for g past e) (length (commands g past)) is) down

pub is_barred : (g : Group) (past : List Entry) (e : Entity) (row : Row) → Blocked row ≡ reply g past (Send e) → known.Blocked ≡ knowledge_of g past e
is_barred g past e row is =
    let says = blocked_by (is_settled g past e) (lacks g past e) (row_for g past e) row (length (commands g past)) is in
    blocked_case (is_settled g past e) (seen_carries g past e) (is_blocked (reply g past (Send e))) says.0 says.1

pub is_on_its_way : (g : Group) (past : List Entry) (e : Entity) (n : ℕ) → Sent n ≡ reply g past (Send e) → known.Waiting ≡ knowledge_of g past e
is_on_its_way g past e n is =
    let says = sent_by (is_settled g past e) (lacks g past e) (row_for g past e) n (length (commands g past)) is in
    waiting_case (is_settled g past e) (seen_carries g past e) (is_blocked (reply g past (Send e))) says.0 says.1

-- a failure that stands since then is the last one, as reports are only counted on
last_fail_low : (past : List Entry) (e : Entity) (from : ℕ) → is_since (last_fail past e) from ≡ true → from ≤ number past e
last_fail_low [] e from h = absurd cc
last_fail_low (entry ∷ past) e from h = by_event (is_fail_of e entry.event) (is_report_of e entry.event) h (last_fail_low past e from)
  where
    by_event : (fails reports : Bool) → is_since (if fails then Some (number past e) else last_fail past e) from ≡ true → (is_since (last_fail past e) from ≡ true → from ≤ number past e) → from ≤ (if reports then number past e + 1 else number past e)
    by_event true true h low = grind (arith, nat_tests)
    by_event true false h low = grind (arith, nat_tests)
    by_event false true h low = let l = low h in omega arith
    by_event false false h low = low h

fail_since : (here : Bool) (made from : ℕ) (last : Option ℕ) (before : Bool) → before ≡ is_since last from → (is_since last from ≡ true → from ≤ made) → ((here && nat_le from made) || before) ≡ is_since (if here then Some made else last) from
fail_since false made from last before is low = is
fail_since true made from last before is low = or_below (nat_le from made) before made from refl (λ was. low (sym is ∙ was))
  where
    or_below : (a b : Bool) (made from : ℕ) → nat_le from made ≡ a → (b ≡ true → from ≤ made) → (a || b) ≡ a
    or_below true b made from is low = refl
    or_below false true made from is low = absurd (let f : from ≤ made = low refl in grind (arith, nat_tests))
    or_below false false made from is low = refl

pub untold_is : (past : List Entry) (e : Entity) (from : ℕ) → failed_since past e from ≡ is_since (last_fail past e) from
untold_is [] e from = refl
untold_is (entry ∷ past) e from = fail_since (is_fail_of e entry.event) (number past e) from (last_fail past e) (failed_since past e from) (untold_is past e from) (last_fail_low past e from)

-- how an agent is, by its parts
carriage_at : (e : Entity) (values : Vals) (level fenced : ℕ) (b : Bool) (doing : Vals) (made : ℕ) → carriage_in e (agent_from values level fenced b doing made)
    ≡ (if b then Busy else (if not b && carries e values (level_of e values level b) then Up else (if values.v0 == 0 then Off else (if nat_lt (level_of e values level b) (greatest e) then Failed else Drained))))
carriage_at e values level fenced true doing made = refl
carriage_at e values level fenced false doing made = refl

pub carriage_is : (g : Group) (past : List Entry) (e : Entity) → carriage_in e (agent_of g past e) ≡ carriage_of g past e
carriage_is g past e = carriage_at e (vals g past e) (health g past e) (fence g past e) (busy g past e) (work g past e) (number past e)

works_at : (e : Entity) (values : Vals) (level fenced : ℕ) (b : Bool) (doing : Vals) (made : ℕ) → agent_level e (agent_from values level fenced b doing made) ≡ level_of e values level b
works_at e values level fenced true doing made = refl
works_at e values level fenced false doing made = refl

pub works_is : (g : Group) (past : List Entry) (e : Entity) → agent_level e (agent_of g past e) ≡ works_of g past e
works_is g past e = works_at e (vals g past e) (health g past e) (fence g past e) (busy g past e) (work g past e) (number past e)
