-- What a report counts.
use Rattle.std.specs.Prelude.{ℕ, Bool, true, false, List, count_by}
use Rattle.st_net.specs.declared.entity.Entity.{Entity}
use Rattle.st_net.specs.Groups.{Group}
use Rattle.st_net.specs.Promises.{is_kept}
use Rattle.st_event.specs.declared.journal.Entry.{Entry}
use Rattle.st_event.specs.declared.reply.Reply.{Reply}
use Rattle.st_event.specs.declared.reply.Reply.TheVariants.{Stale, Old}

abbrev pub is_stale : Reply → Bool
is_stale (Stale fence) = true
is_stale _ = false

abbrev pub is_old : Reply → Bool
is_old (Old kept) = true
is_old _ = false

-- how many commands and how many reports came too late
abbrev pub stale_count : List Entry → ℕ
stale_count past = count_by (λ entry. is_stale entry.reply) past

abbrev pub old_count : List Entry → ℕ
old_count past = count_by (λ entry. is_old entry.reply) past

-- how many promises hold while these entities are up
abbrev pub kept_count : Group → (Entity → Bool) → ℕ
kept_count g up = count_by (is_kept g up) g.promises
