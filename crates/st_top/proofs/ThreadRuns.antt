-- What threads made of a document is a run that can be printed, and so replayed.
use Rattle.std.proofs.Common.{◌≡◌, ℕ, zero, suc, ◌+◌, ◌<◌, List, [], ◌∷◌, length, Option, Some, refl, ap, sym, ◌∙◌, arith}
use Rattle.std.specs.Prelude.{All, reverse, slice_get, slice_index_or}
use Rattle.std.proofs.lemmas.List.{length-map}
use Rattle.st_net.specs.Groups.{Group}
use Rattle.st_event.specs.declared.act.Log.{Log}
use Rattle.st_event.specs.declared.event.Event.{Event}
use Rattle.st_event.specs.declared.event.Event.TheVariants.{Submit, Check, Lock, Unlock, Send, Deliver, Finish, Report as make_report, Hear, Fail, Withdraw}
use Rattle.st_event.specs.declared.journal.Journal.{Journal}
use Rattle.st_event.specs.Legal.{IsLegal}
use Rattle.st_grammar.specs.declared.doc.Doc.{Doc}
use Rattle.st_grammar.specs.declared.doc.Script.{Script}
use Rattle.st_grammar.specs.Sound.{IsSoundDoc}
use Rattle.st_journal.specs.ReadingBack.{AreNumbered, HasSmallNumber, IsAsked, IsByApp}
use Rattle.st_serial.specs.Kept.{AreKept, groups_of}
use Rattle.st_run.specs.Running.{HasOwnRequests, HasSmallNumber as has_small, HasSmallNumbers, IsByOneOf, IsRunOf}
use Rattle.st_replay.specs.Replaying.{app_names}
use Rattle.st_top.specs.PrintedRuns.{IsRun, RunsByThreadsAreReplayed}
use Rattle.st_top.proofs.PlayedRuns.{numbered_at}
use Rattle.st_top.proofs.PrintedRuns.{printed_runs_are_replayed}

-- a request by one of so many applications is by one of these
by_app : (apps : List (List ℕ)) (count : ℕ) (event : Event) → length apps ≡ count → IsByOneOf count event → IsByApp apps event
by_app apps count (Submit app rows) same by = omega (arith, same, by)
by_app apps count Check same by = tt
by_app apps count (Lock app entity prio) same by = omega (arith, same, by)
by_app apps count (Unlock app entity prio) same by = omega (arith, same, by)
by_app apps count (Send entity) same by = tt
by_app apps count (Deliver n) same by = tt
by_app apps count (Finish entity) same by = tt
by_app apps count (make_report entity) same by = tt
by_app apps count (Hear n) same by = tt
by_app apps count (Fail entity vals health) same by = tt
by_app apps count (Withdraw entity) same by = tt

small_number : (event : Event) → has_small event → HasSmallNumber event
small_number (Submit app rows) small = tt
small_number Check small = tt
small_number (Lock app entity prio) small = tt
small_number (Unlock app entity prio) small = tt
small_number (Send entity) small = tt
small_number (Deliver n) small = small
small_number (Finish entity) small = tt
small_number (make_report entity) small = tt
small_number (Hear n) small = small
small_number (Fail entity vals health) small = tt
small_number (Withdraw entity) small = tt

asked_all : (doc : Doc) (journal : Journal) → HasOwnRequests doc journal → HasSmallNumbers journal → All (IsAsked (app_names doc)) journal.entries
asked_all doc journal ours small k d low = record {
  app = by_app (app_names doc) (length doc.apps) (slice_index_or journal.entries k d).event (length-map doc.apps (λ (script : Script). script.name)) (ours k d low);
  number = small_number (slice_index_or journal.entries k d).event (small k d low);
}

-- journals whose numbers are those of their places are numbered
numbered_from : (n : ℕ) (journals : List Journal) → ((k : ℕ) (j : Journal) → k < length journals → (slice_index_or journals k j).group ≡ n + k) → AreNumbered n journals
numbered_from n [] numbers = tt
numbered_from n (journal ∷ journals) numbers = (
  omega (arith, numbers 0 journal (omega arith)),
  numbered_from (n + 1) journals (λ k j low. omega (arith, numbers (suc k) j (omega (arith, low)))),
)

-- the group of a place, and the legal journal there
pub record IsLegalAt (groups : List Group) (k : ℕ) (journal : Journal) : Type 0 where
  pub group : Group
  pub at : slice_get groups k ≡ Some group
  pub legal : IsLegal group (reverse journal.entries)

pub legal_here : (groups : List Group) (journals : List Journal) (k : ℕ) (j : Journal) → AreKept groups journals → k < length journals → IsLegalAt groups k (slice_index_or journals k j)
legal_here [] [] k j kept low = absurd (omega (arith, low))
legal_here [] (journal ∷ journals) k j kept low = absurd kept
legal_here (g ∷ groups) [] k j kept low = absurd kept
legal_here (g ∷ groups) (journal ∷ journals) zero j kept low = record { group = g; at = refl; legal = kept.0.legal }
legal_here (g ∷ groups) (journal ∷ journals) (suc k) j kept low =
    let rest = legal_here groups journals k j kept.1 (omega (arith, low)) in
    record { group = rest.group; at = rest.at; legal = rest.legal }

-- so what threads made of a sound document is a run
run_of_threads : (doc : Doc) (full : Option ℕ) (journals : List Journal) (logs : List Log) → IsSoundDoc doc → IsRunOf doc full journals logs → IsRun doc journals
run_of_threads doc full journals logs sound run =
    let number : Journal → ℕ = λ j. j.group in
    let each : length journals ≡ length doc.groups = sym (length-map journals number) ∙ run.groups.0 in
    let numbers : (k : ℕ) (j : Journal) → k < length journals → (slice_index_or journals k j).group ≡ k =
    λ k j low. numbered_at journals (length doc.groups) k j run.groups (omega (arith, each, low)) in
    record {
      sound = sound;
      numbered = numbered_from 0 journals (λ k j low. omega (arith, numbers k j low));
      each = each;
      legal = λ k j low.
          let journal = slice_index_or journals k j in
          let there = legal_here (groups_of doc) journals k j run.kept low in
          record {
            group = there.group;
            at = ap (slice_get (groups_of doc)) (numbers k j low) ∙ there.at;
            legal = there.legal;
            asked = asked_all doc journal (run.ours k j low) (run.small k j low);
          };
    }

pub runs_by_threads_are_replayed : RunsByThreadsAreReplayed
runs_by_threads_are_replayed doc full journals logs sound run few = printed_runs_are_replayed doc journals (run_of_threads doc full journals logs sound run) few
