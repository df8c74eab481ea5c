-- Stamps only grow, and no command and no fence is from the future.
use Rattle.std.proofs.Common.{◌≡◌, ℕ, ◌≤◌, List, [], ◌∷◌, length, Option, Some, None, refl, ap, inl, inr, arith}
use Rattle.std.specs.Prelude.{Bool, true, false, ◌&&◌, ◌||◌, if◌then◌else◌, ◌⊎◌}
use Rattle.st_net.specs.declared.entity.Entity.{Entity}
use Rattle.st_net.specs.declared.message.Command.{Command}
use Rattle.st_event.specs.declared.event.Event.{Event}
use Rattle.st_event.specs.declared.event.Event.TheVariants.{Send}
use Rattle.st_event.specs.declared.journal.Entry.{Entry}
use Rattle.st_net.specs.Groups.{Group}
use Rattle.st_event.specs.Proposals.{target, pending, first_rows, overlay_in}
use Rattle.st_net.specs.Merge.{vals_in}
use Rattle.st_net.specs.Numbered.{nth}
use Rattle.st_event.specs.Moments.{heard, is_altered_by, renews, is_taken, told, fence_after, stamp, commands, fence, reports}
use Rattle.st_event.proofs.Made.{IsSent, Sends, command_now, told_sent}

-- whether the entry gives the entity a new stamp
abbrev pub is_stamped : Group → List Entry → Entry → Entity → Bool
is_stamped g past entry e = is_altered_by g (target g past) (overlay_in entry.event entry.reply (first_rows (pending past))) e || (is_taken entry.reply && renews (heard entry.event (nth (reports g past))) e (stamp g past e) (vals_in g (target g past) e))

if_at_most : (b : Bool) (m n k : ℕ) → m ≤ k → n ≤ k → (if b then m else n) ≤ k
if_at_most true m n k p q = p
if_at_most false m n k p q = q

if_at_least : (b : Bool) (m n k : ℕ) → k ≤ m → k ≤ n → k ≤ (if b then m else n)
if_at_least true m n k p q = p
if_at_least false m n k p q = q

-- a stamp is the number of an entry that there is
pub stamp_small : (g : Group) (past : List Entry) (e : Entity) → stamp g past e ≤ length past
stamp_small g [] e = omega arith
stamp_small g (entry ∷ past) e =
    let before = stamp_small g past e in
    if_at_most (is_stamped g past entry e) _ _ _ (omega arith) (omega arith)

-- a stamp never falls
pub stamp_grows : (g : Group) (past : List Entry) (entry : Entry) (e : Entity) → stamp g past e ≤ stamp g (entry ∷ past) e
stamp_grows g past entry e =
    let before = stamp_small g past e in
    if_at_least (is_stamped g past entry e) _ _ _ (omega arith) (omega arith)

sends_past : (g : Group) (past : List Entry) (event : Event) (c : Command) → Sends event (command_now g past) c → c.stamp ≤ stamp g past c.entity
sends_past g past (Send e) c is = rw is (omega arith)
sends_past g past _ c is = absurd is

sent_past_from : (g : Group) (past : List Entry) (entry : Entry) (c : Command) → (IsSent g past c ⊎ Sends entry.event (command_now g past) c) → (IsSent g past c → c.stamp ≤ stamp g past c.entity) → c.stamp ≤ stamp g (entry ∷ past) c.entity
sent_past_from g past entry c (inl sent) before = let most = before sent in let grows = stamp_grows g past entry c.entity in omega (arith, most, grows)
sent_past_from g past entry c (inr sends) before = let most = sends_past g past entry.event c sends in let grows = stamp_grows g past entry c.entity in omega (arith, most, grows)

-- the stamp of a command that was sent is at most its entity's
pub sent_past : (g : Group) (past : List Entry) (c : Command) → IsSent g past c → c.stamp ≤ stamp g past c.entity
sent_past g [] c sent = absurd sent
sent_past g (entry ∷ past) c sent = sent_past_from g past entry c sent (sent_past g past c)

pub fence_grows : (o : Option Command) (before : ℕ) → before ≤ fence_after o before
fence_grows None before = omega arith
fence_grows (Some c) before = omega arith

fence_most : (o : Option Command) (before most : ℕ) → before ≤ most → ((c : Command) → o ≡ Some c → c.stamp ≤ most) → fence_after o before ≤ most
fence_most None before most low told = low
fence_most (Some c) before most low told = let one = told c refl in omega (arith, one)

told_past : (g : Group) (past : List Entry) (entry : Entry) (e : Entity) (c : Command) → told e entry.event (nth (commands g past)) ≡ Some c → c.stamp ≤ stamp g (entry ∷ past) e
told_past g past entry e c is =
    let told = told_sent g past e entry.event c is in
    let most = sent_past g past c told.sent in
    let own : stamp g past c.entity ≡ stamp g past e = ap (stamp g past) told.own in
    let grows = stamp_grows g past entry e in
    omega (arith, most, own, grows)

-- the fence is at most the stamp
pub fence_small : (g : Group) (past : List Entry) (e : Entity) → fence g past e ≤ stamp g past e
fence_small g [] e = omega arith
fence_small g (entry ∷ past) e =
    let before = fence_small g past e in
    let grows = stamp_grows g past entry e in
    fence_most (told e entry.event (nth (commands g past))) (fence g past e) (stamp g (entry ∷ past) e) (omega (arith, before, grows)) (told_past g past entry e)
