-- A checker with another count of runs stands as before.
use Rattle.std.proofs.Common.{◌≡◌, ℕ, ◌+◌, List, ◌∷◌, length, All, refl, subst, arith}
use Rattle.std.specs.Prelude.{Bool, true, false, nat_lt, Result, Ok, Err, IfOk, if◌then◌else◌}
use Rattle.st_net.specs.Groups.{Group}
use Rattle.st_net.specs.Ranges.{RowsFit}
use Rattle.st_net.specs.declared.entity.Row.{Row}
use Rattle.st_net.specs.declared.entity.AppId.{AppId}
use Rattle.st_event.specs.declared.event.Event.{Event}
use Rattle.st_event.specs.declared.event.Event.TheVariants.{Submit}
use Rattle.st_event.specs.declared.journal.TheConstants.{MAX_PENDING}
use Rattle.st_store.specs.declared.pending.Put.{Put}
use Rattle.st_store.specs.declared.pending.Put.TheVariants.{Ticket, Full}
use Rattle.st_store.specs.Store.{StoreView, put_answer, store_put}
use Rattle.st_event.specs.declared.event.Proposal.{Proposal}
use Rattle.st_event.specs.declared.reply.Reply.{Reply}
use Rattle.st_control.specs.Control.{ControlView, Moves, with_runs, reply_of_put}
use Rattle.st_control.specs.Inside.{FitsGroup}

moves_from : (k : ControlView) (n : ℕ) (new : ControlView) (entry : ℕ) (event : Event) (answer : Reply) → Moves (with_runs k n) new entry event answer → Moves k new entry event answer
moves_from k n new entry event answer moves = record { reply = moves.reply; standing = moves.standing; group = moves.group; versions = moves.versions }

-- what was done from such a checker, as the entry of an equal number
pub moves_as : (k judged new : ControlView) (n given entry : ℕ) (event : Event) (answer : Reply) → judged ≡ with_runs k n → given ≡ entry → Moves judged new given event answer → Moves k new entry event answer
moves_as k judged new n given entry event answer same number moves = moves_from k n new entry event answer (rw (← same, ← number) moves)

-- the first of proposals that fit fits
pub first_fits : (g : Group) (pending : List Proposal) (p : Proposal) (rest : List Proposal) → All (FitsGroup g) pending → pending ≡ p ∷ rest → RowsFit g p.rows
first_fits g pending p rest fits is = let here : All (FitsGroup g) (p ∷ rest) = subst (λ (ps : List Proposal). All (FitsGroup g) ps) is fits in here 0 p (omega arith)

-- a proposal that is put is answered as a Submit calls for
put_at : (k : ControlView) (app : AppId) (rows : List Row) (n : ℕ) (few : Bool) → nat_lt (length k.store.pending) MAX_PENDING ≡ few → (let put = if few then Ticket (k.store.tickets + 1) else Full (length k.store.pending) in Moves k (record k { store = store_put put k.store (record { app = app; rows = rows }) }) n (Submit app rows) (reply_of_put put))
put_at k app rows n true is = record { reply = λ w. rw is refl; standing = λ w. refl; group = refl; versions = refl }
put_at k app rows n false is = record { reply = λ w. rw is refl; standing = λ w. refl; group = refl; versions = refl }

put_moves : (k : ControlView) (new : StoreView) (app : AppId) (rows : List Row) (put : Put) (n : ℕ) → put ≡ put_answer k.store → new ≡ store_put put k.store (record { app = app; rows = rows }) → Moves k (record k { store = new }) n (Submit app rows) (reply_of_put put)
put_moves k new app rows put n answer is = rw (is, answer) (put_at k app rows n (nat_lt (length k.store.pending) MAX_PENDING) refl)

pub put_ok : {E : Type 0} (k : ControlView) (new : StoreView) (app : AppId) (rows : List Row) (r : Result Put E) → IfOk r (λ put. put ≡ put_answer k.store) → IfOk r (λ put. new ≡ store_put put k.store (record { app = app; rows = rows })) → IfOk r (λ put. (n : ℕ) → Moves k (record k { store = new }) n (Submit app rows) (reply_of_put put))
put_ok k new app rows (Ok put) answer is = λ n. put_moves k new app rows put n answer is
put_ok k new app rows (Err e) answer is = tt
