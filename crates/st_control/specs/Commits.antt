-- What a checker gives at the begin of a check, and what the commit of a judgement does.
use Rattle.std.specs.Prelude.{◌≡◌, ℕ, ◌+◌, ◌≤◌, [], length, Some}
use Rattle.st_net.specs.Numbered.{nth}
use Rattle.st_event.specs.declared.event.Event.TheVariants.{Check}
use Rattle.st_event.specs.declared.reply.Reply.TheVariants.{Decided as decided_reply}
use Rattle.st_control.specs.declared.control.commits.Begin.{Begin}
use Rattle.st_control.specs.declared.control.commits.Begin.TheVariants.{Basis, Idle}
use Rattle.st_control.specs.declared.control.commits.Commit.{Commit}
use Rattle.st_control.specs.declared.control.commits.Commit.TheVariants.{Decided, Gone}
use Rattle.st_control.specs.Basis.{IsBasisOf}
use Rattle.st_control.specs.Control.{ControlView, Moves}

-- a basis, or no proposal is pending
abbrev pub Begins : ControlView → Begin → Type 0
Begins k (Basis basis) = IsBasisOf k basis
Begins k Idle = k.store.pending ≡ []

-- the ticket was given, and each lower ticket is decided
pub record MayCommit (k : ControlView) (ticket : ℕ) : Type 0 where
  pub given : ticket ≤ k.store.tickets
  pub lower : ticket ≤ length k.store.decided + 1

-- the oldest proposal has the ticket and gets the verdict that is called for, whatever was judged; or this entry had decided the ticket
abbrev pub Commits : ControlView → ControlView → ℕ → ℕ → Commit → Type 0
Commits old new n ticket (Decided receipt) = (receipt.ticket ≡ ticket) × Moves old new n Check (decided_reply receipt)
Commits old new n ticket (Gone entry) = (nth old.store.decided ticket ≡ Some entry) × (new ≡ old)
