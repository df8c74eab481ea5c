-- What a text comes to: its page, or the first fault, as a replay tells it.
use Rattle.std.specs.Prelude.{◌≡◌, ℕ, List, [], ◌++◌, map, Result, Ok, Err}
use Rattle.serde_json.specs.Written.{compact_text}
use Rattle.st_net.specs.declared.parts.Parts.{Parts}
use Rattle.st_token.specs.declared.fault.LineFault.{LineFault}
use Rattle.st_serial.specs.Kept.{groups_of}
use Rattle.st_replay.specs.Replaying.{AreLegal, IsFirstIllegal, Replay, app_names, replay_of}
use Rattle.st_replay.specs.Statuses.{status_line}
use Rattle.st_replay.specs.declared.status.Status.{Status}
use Rattle.st_replay.specs.declared.status.Status.TheVariants as ends
use Rattle.st_player.specs.declared.playing.Played.{Played}
use Rattle.st_player.specs.declared.head.style.TheConstants.{STYLE}
use Rattle.st_player.specs.declared.head.body.TheConstants.{BODY}
use Rattle.st_player.specs.declared.script.data.TheConstants.{DATA}
use Rattle.st_player.specs.declared.script.layout.TheConstants.{LAYOUT}
use Rattle.st_player.specs.declared.script.labels.TheConstants.{LABELS}
use Rattle.st_player.specs.declared.script.drawing.TheConstants.{DRAWING}
use Rattle.st_player.specs.declared.script.words.TheConstants.{WORDS}
use Rattle.st_player.specs.declared.script.lists.TheConstants.{LISTS}
use Rattle.st_player.specs.declared.script.listing.TheConstants.{LISTING}
use Rattle.st_player.specs.declared.script.timeline.TheConstants.{TIMELINE}
use Rattle.st_player.specs.declared.script.moving.TheConstants.{MOVING}
use Rattle.st_player.specs.declared.script.printing.TheConstants.{PRINTING}
use Rattle.st_player.specs.declared.script.start.TheConstants.{START}
use Rattle.st_player.specs.Pictures.{picture}

-- the page up to its data, and behind it
unfoldable pub page_head : List ℕ
page_head = STYLE.now ++ BODY.now

unfoldable pub page_script : List ℕ
page_script = DATA.now ++ LAYOUT.now ++ LABELS.now ++ DRAWING.now ++ WORDS.now ++ LISTS.now ++ LISTING.now ++ TIMELINE.now ++ MOVING.now ++ PRINTING.now ++ START.now

-- the page with this data
unfoldable pub page_with : List ℕ → List ℕ
page_with data_text = page_head ++ data_text ++ page_script

-- the page that shows a run behind the first entries of each journal
abbrev pub page_of : ℕ → Replay → List ℕ
page_of from run = page_with (compact_text (picture (app_names run.doc) from (groups_of run.doc) (map (λ journal. journal.entries) run.journals)))

-- a run comes to its page where each journal is legal, and else to the line of the first entry that is not
abbrev pub PlaysRun : ℕ → Replay → Status → List ℕ → Type 0
PlaysRun from run ends.Ok text = AreLegal (groups_of run.doc) run.journals × (text ≡ page_of from run)
PlaysRun from run (ends.Illegal group entry) text = IsFirstIllegal (groups_of run.doc) run.journals group entry × (text ≡ status_line run.doc.groups (ends.Illegal group entry))
PlaysRun from run _ text = ⊥

-- a fault comes to its line, where the groups of the document are these
pub record IsFault (groups : List Parts) (status : Status) (played : Played) : Type 0 where
  pub status_is : played.status ≡ status
  pub text_is : played.text ≡ status_line groups status

-- a text comes to what its run does, or to the line of its first bad line
abbrev pub PlaysRead : ℕ → Result Replay LineFault → Played → Type 0
PlaysRead from (Ok run) played = PlaysRun from run played.status played.text
PlaysRead from (Err fault) played = IsFault [] (ends.BadInput fault.line fault.kind) played

abbrev pub Plays : ℕ → List ℕ → Played → Type 0
Plays from bytes played = PlaysRead from (replay_of bytes) played
