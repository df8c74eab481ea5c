-- What a text comes to, by what its document and its journals come to.
use Rattle.std.proofs.Common.{◌≡◌, ◌∙◌, ℕ, List, [], ◌++◌, ap, sym, subst}
use Rattle.std.specs.Prelude.{Result, Ok}
use Rattle.st_net.specs.declared.parts.Parts.{Parts}
use Rattle.st_net.specs.Groups.{Group}
use Rattle.st_event.specs.declared.journal.Journal.{Journal}
use Rattle.st_token.specs.declared.fault.LineFault.{LineFault}
use Rattle.st_token.specs.Steps.{◌>>=◌}
use Rattle.st_grammar.specs.declared.doc.Doc.{Doc}
use Rattle.st_journal.specs.JournalReading.{AreJournalsOf, journals_in}
use Rattle.st_serial.specs.Kept.{groups_of}
use Rattle.st_replay.specs.declared.replaying.Again.{Again}
use Rattle.st_replay.specs.declared.replaying.Again.TheVariants.{Worlds, Illegal}
use Rattle.st_replay.specs.Again.{IsAgain}
use Rattle.st_replay.specs.Replaying.{AreLegal, IsFirstIllegal, Replay, app_names, journal_bytes, journal_line, replay_with}
use Rattle.st_replay.proofs.Replays.{again_legal, one_each}
use Rattle.st_player.specs.declared.playing.Played.{Played}
use Rattle.st_io.specs.declared.reading.ReadEnd.{ReadEnd}
use Rattle.st_io.specs.Input.{ReadsInput}
use Rattle.st_replay.specs.declared.status.Status.{Status}
use Rattle.st_replay.specs.declared.status.Status.TheVariants as ends
use Rattle.st_replay.specs.Statuses.{status_line}
use Rattle.st_player.specs.Calls.{ComesOf, ComesOfSource, Stream}
use Rattle.st_player.specs.Playing.{IsFault, PlaysRead, PlaysRun}

-- the journals that a document was read with, or their fault
pub journals_play : (from : ℕ) (bytes : List ℕ) (doc : Doc) (groups : List Group) (read : Result (List Journal) LineFault) (played : Played) → groups ≡ groups_of doc
    → journals_in groups (app_names doc) (journal_line doc.journal_at) (journal_bytes doc.journal_at bytes) ≡ read
    → PlaysRead from (read >>= λ (js : List Journal). Ok (record { doc = doc; journals = js })) played → PlaysRead from (replay_with bytes doc) played
journals_play from bytes doc groups read played same is plays =
    let whole : replay_with bytes doc ≡ (read >>= λ (js : List Journal). Ok (record { doc = doc; journals = js })) =
    ap (λ (gs : List Group). journals_in gs (app_names doc) (journal_line doc.journal_at) (journal_bytes doc.journal_at bytes) >>= λ (js : List Journal). Ok (record { doc = doc; journals = js })) (sym same)
    ∙ ap (λ (r : Result (List Journal) LineFault). r >>= λ (js : List Journal). Ok (record { doc = doc; journals = js })) is in
    subst (λ (r : Result Replay LineFault). PlaysRead from r played) (sym whole) plays

-- journals that were gone through again are legal, or their first entry that is not was found
abbrev pub IsWell : Doc → List Journal → Again → Type 0
IsWell doc journals (Worlds worlds) = AreLegal (groups_of doc) journals
IsWell doc journals (Illegal group entry) = IsFirstIllegal (groups_of doc) journals group entry

pub went_well : (doc : Doc) (topos : List Group) (journals : List Journal) (came : Again) → topos ≡ groups_of doc → AreJournalsOf 0 topos journals → IsAgain topos journals came → IsWell doc journals came
went_well doc topos journals (Worlds worlds) same each is =
    subst (λ (gs : List Group). AreLegal gs journals) same (again_legal topos journals worlds.items (one_each 0 topos journals each) is.0 is.1)
went_well doc topos journals (Illegal group entry) same each is = subst (λ (gs : List Group). IsFirstIllegal gs journals group entry) same is

-- the line of the first entry that is not legal
pub illegal_plays : (from : ℕ) (doc : Doc) (journals : List Journal) (group entry : ℕ) (groups : List Parts) (played : Played) → groups ≡ doc.groups → IsFirstIllegal (groups_of doc) journals group entry → IsFault groups (ends.Illegal group entry) played
    → PlaysRun from (record { doc = doc; journals = journals }) played.status played.text
illegal_plays from doc journals group entry groups played same first is =
    subst (λ (s : Status). PlaysRun from (record { doc = doc; journals = journals }) s played.text) (sym is.status_is)
    (first, is.text_is ∙ ap (λ (ps : List Parts). status_line ps (ends.Illegal group entry)) same)

-- what a source comes to that was read so
pub source_comes : (from : ℕ) (old new : Stream) (bytes : List ℕ) (end : ReadEnd) (played : Played) → ReadsInput old.bytes new.bytes old.faults new.faults bytes end → ComesOf from bytes end played → ComesOfSource from old new played
source_comes from old new bytes end played read comes = record { bytes = bytes; end = end; read = read; comes = comes }

-- a text of three pieces
pub three_words : (none one two all first second third a b d : List ℕ) → none ≡ [] → one ≡ none ++ first → two ≡ one ++ second → all ≡ two ++ third → first ≡ a → second ≡ b → third ≡ d → all ≡ (a ++ b) ++ d
three_words none one two all first second third a b d none_is one_is two_is all_is first_is second_is third_is =
    let begun : one ≡ first = one_is ∙ ap (λ (t : List ℕ). t ++ first) none_is in
    all_is ∙ ap (λ (t : List ℕ). t ++ third) (two_is ∙ ap (λ (t : List ℕ). t ++ second) begun)
    ∙ ap (λ (t : List ℕ). (t ++ second) ++ third) first_is ∙ ap (λ (t : List ℕ). (a ++ t) ++ third) second_is ∙ ap (λ (t : List ℕ). (a ++ b) ++ t) third_is
