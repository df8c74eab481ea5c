-- Which numbers name no message.
use Rattle.std.proofs.Common.{◌≡◌, ℕ, zero, suc, ◌<◌, ◌≤◌, List, [], ◌∷◌, length, Option, Some, None, refl, inl, inr, arith}
use Rattle.std.specs.Prelude.{Bool, true, false, ◌==◌, nat_lt, pred, slice_get, if◌then◌else◌}
use Rattle.std.proofs.lemmas.Bool.Decides.{nat_tests}
use Rattle.st_net.specs.declared.entity.Entity.{Entity}
use Rattle.st_net.specs.declared.message.Command.{Command}
use Rattle.st_net.specs.declared.message.Report.{Report}
use Rattle.st_event.specs.declared.event.Event.TheVariants.{Deliver, Hear}
use Rattle.st_event.specs.declared.reply.Reply.TheVariants.{Begun, Stale, NoSuch, Taken, Old}
use Rattle.st_event.specs.declared.journal.Entry.{Entry}
use Rattle.st_net.specs.Groups.{Group}
use Rattle.st_net.specs.Numbered.{nth}
use Rattle.st_event.specs.Moments.{commands, fence, reports}
use Rattle.st_event.specs.Observed.{observed}
use Rattle.st_event.specs.Replies.{deliver_reply, hear_reply}
use Rattle.st_event.specs.Laws.{IsNoNumber, NamesNone}

past_end : {X : Type 0} (xs : List X) (k : ℕ) → slice_get xs k ≡ None → length xs ≤ k
past_end [] k none = omega arith
past_end (x ∷ xs) zero none = cc
past_end (x ∷ xs) (suc k) none = let more = past_end xs k none in omega (arith, more)

none_past_end : {X : Type 0} (xs : List X) (k : ℕ) → length xs ≤ k → slice_get xs k ≡ None
none_past_end [] k low = refl
none_past_end (x ∷ xs) zero low = absurd (omega arith)
none_past_end (x ∷ xs) (suc k) low = none_past_end xs k (omega arith)

no_number_at : {X : Type 0} (xs : List X) (n : ℕ) (b : Bool) → (n == 0) ≡ b → (if b then None else slice_get xs (pred n)) ≡ None → IsNoNumber (length xs) n
no_number_at xs n true is none = inl (grind (arith, nat_tests))
no_number_at xs zero false is none = inl refl
no_number_at xs (suc n) false is none = let end = past_end xs n none in inr (omega (arith, end))

no_number : {X : Type 0} (xs : List X) (n : ℕ) → nth xs n ≡ None → IsNoNumber (length xs) n
no_number xs n none = no_number_at xs n (n == 0) refl none

above_at : {X : Type 0} (xs : List X) (n : ℕ) (b : Bool) → length xs < n → (if b then None else slice_get xs (pred n)) ≡ None
above_at xs n true above = refl
above_at xs n false above = none_past_end xs (pred n) (omega arith)

none_at : {X : Type 0} (xs : List X) (n : ℕ) → IsNoNumber (length xs) n → nth xs n ≡ None
none_at xs n (inl zero_is) = rw zero_is refl
none_at xs n (inr above) = above_at xs n (n == 0) above

begun_or_stale : (b : Bool) (stale sent : ℕ) → (if b then Begun else Stale stale) ≡ NoSuch sent → ⊥
begun_or_stale true stale sent is = cc
begun_or_stale false stale sent is = cc

no_command : (fence : Entity → ℕ) (sent : ℕ) (o : Option Command) → deliver_reply fence sent o ≡ NoSuch sent → o ≡ None
no_command fence sent None is = refl
no_command fence sent (Some c) is = absurd (begun_or_stale (nat_lt (fence c.entity) c.stamp) (fence c.entity) sent is)

taken_or_old : (b : Bool) (kept made : ℕ) → (if b then Taken else Old kept) ≡ NoSuch made → ⊥
taken_or_old true kept made is = cc
taken_or_old false kept made is = cc

no_report : (observed : Entity → Report) (made : ℕ) (o : Option Report) → hear_reply observed made o ≡ NoSuch made → o ≡ None
no_report observed made None is = refl
no_report observed made (Some r) is = absurd (taken_or_old (nat_lt (observed r.entity).number r.number) (observed r.entity).number made is)

pub no_such_command : (g : Group) (past : List Entry) (n : ℕ) → NamesNone g past (Deliver n) (commands g past) n
no_such_command g past n = record {
  names = (no_number (commands g past) n, none_at (commands g past) n);
  told = ((λ is. no_command (fence g past) (length (commands g past)) (nth (commands g past) n) is), (λ none. rw none refl));
}

pub no_such_report : (g : Group) (past : List Entry) (n : ℕ) → NamesNone g past (Hear n) (reports g past) n
no_such_report g past n = record {
  names = (no_number (reports g past) n, none_at (reports g past) n);
  told = ((λ is. no_report (observed g past) (length (reports g past)) (nth (reports g past) n) is), (λ none. rw none refl));
}
