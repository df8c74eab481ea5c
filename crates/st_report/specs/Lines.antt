-- What a report says, as lists of lines of words: of groups by their journals, and of what applications read by their logs.
use Rattle.std.specs.Prelude.{ℕ, ◌+◌, Bool, true, false, not, ◌==◌, List, [], ◌∷◌, ◌++◌, map, flat_map, reverse, decimal, slice_index_or}
use Rattle.std.specs.List.{filter}
use Rattle.st_net.specs.declared.entity.AppId.{AppId}
use Rattle.st_net.specs.declared.entity.Entity.{Entity}
use Rattle.st_net.specs.declared.entity.Entity.TheVariants.{Device}
use Rattle.st_net.specs.declared.entity.Var.{Var}
use Rattle.st_net.specs.Entities.{value_of, vars_of}
use Rattle.st_net.specs.Groups.{Group, no_group, name_of, opening_of}
use Rattle.st_net.specs.InOrder.{entities_of}
use Rattle.st_net.specs.Promises.{is_broken}
use Rattle.st_event.specs.declared.act.Log.{Log}
use Rattle.st_event.specs.declared.act.LogEntry.{LogEntry}
use Rattle.st_event.specs.declared.event.Event.{Event}
use Rattle.st_event.specs.declared.event.Event.TheVariants.{Lock, Unlock}
use Rattle.st_event.specs.declared.event.Proposal.{Proposal}
use Rattle.st_event.specs.declared.journal.Entry.{Entry}
use Rattle.st_event.specs.declared.reply.Reply.{Reply}
use Rattle.st_event.specs.declared.reply.Reply.TheVariants.{Withdrawn}
use Rattle.st_event.specs.declared.reply.Verdict.{Verdict}
use Rattle.st_event.specs.History.{History}
use Rattle.st_event.specs.Observed.{actual}
use Rattle.st_event.specs.Proposals.{proposals, verdicts, target}
use Rattle.st_entry.specs.Causes.{verdict_words}
use Rattle.st_entry.specs.Entries.{event_words, reply_words}
use Rattle.st_entry.specs.Saws.{saw_words}
use Rattle.st_entry.specs.Words.{Words, app_word, variable, assignment, assignment_words}
use Rattle.st_world.specs.Rounds.{unsettled}
use Rattle.st_world.specs.World.{WorldView}

-- the groups of worlds, each with its journal
abbrev pub histories : List WorldView → List History
histories worlds = map (λ world. world.history) worlds

-- whether an event asks for a lock or gives one back
abbrev pub is_lock_event : Event → Bool
is_lock_event (Lock app e prio) = true
is_lock_event (Unlock app e prio) = true
is_lock_event _ = false

-- each such entry with its reply, of entries with the oldest first
abbrev pub locks_among : Group → List (List ℕ) → List Entry → List Words
locks_among g apps entries = map (λ entry. event_words g apps entry.event ++ reply_words g apps entry.reply) (filter (λ entry. is_lock_event entry.event) entries)

abbrev pub lock_words : Group → List (List ℕ) → List Entry → List Words
lock_words g apps past = locks_among g apps (reverse past)

-- each decided ticket with its application and its verdict, of tickets that are numbered from here
abbrev pub decided_words : Group → List (List ℕ) → ℕ → List Proposal → List Verdict → List Words
decided_words g apps ticket ps [] = []
decided_words g apps ticket [] (v ∷ vs) = []
decided_words g apps ticket (p ∷ ps) (v ∷ vs) = (decimal ticket ∷ app_word apps p.app ∷ verdict_words g apps v) ∷ decided_words g apps (ticket + 1) ps vs

abbrev pub receipt_words : Group → List (List ℕ) → List Entry → List Words
receipt_words g apps past = decided_words g apps 1 (proposals past) (verdicts past)

-- what a reply withdraws: the version that it makes, and its rows
abbrev pub back_words : Group → Reply → List Words
back_words g (Withdrawn version rows) = (decimal version ∷ assignment_words g rows) ∷ []
back_words g _ = []

-- what each entry withdraws, of entries with the oldest first
abbrev pub withdrawn_among : Group → List Entry → List Words
withdrawn_among g entries = flat_map (λ entry. back_words g entry.reply) entries

abbrev pub withdrawn_words : Group → List Entry → List Words
withdrawn_words g past = withdrawn_among g (reverse past)

-- each variable whose target is not its opening value, with the target
abbrev pub changed_vars : Group → (Entity → Var → ℕ) → Entity → List Var
changed_vars g target e = filter (λ var. not (target e var == value_of e (opening_of g e) var)) (vars_of e)

abbrev pub changed_words : Group → (Entity → Var → ℕ) → Entity → List Words
changed_words g target e = map (λ var. assignment g (record { entity = e; var = var; value = target e var }) ∷ []) (changed_vars g target e)

abbrev pub target_words : Group → List Entry → List Words
target_words g past = flat_map (changed_words g (target g past)) (entities_of g)

-- the name of each entity that is not settled
abbrev pub unsettled_words : Group → List Entry → List Words
unsettled_words g past = map (λ e. name_of g e ∷ []) (unsettled g past)

-- the two ends of each promise that held at the opening and does not hold now
abbrev pub lost_words : Group → List Entry → List Words
lost_words g past = map (λ p. name_of g (Device p.a) ∷ name_of g (Device p.b) ∷ []) (filter (is_broken g (actual g []) (actual g past)) g.promises)

-- the group of a number; one of no name and no entities where there are not so many
abbrev pub group_at : List History → ℕ → Group
group_at groups n = (slice_index_or groups n (record { group = no_group; past = [] })).group

-- each entry of each log: the application, the group, the variable and what was seen of it
abbrev pub seen_words : List History → List (List ℕ) → AppId → LogEntry → Words
seen_words groups apps app entry = app_word apps app ∷ (group_at groups entry.group).name ∷ variable (group_at groups entry.group) entry.entity entry.var ∷ saw_words entry.saw

abbrev pub read_words : List History → List (List ℕ) → List Log → List Words
read_words groups apps logs = flat_map (λ log. map (seen_words groups apps log.app) log.entries) logs
