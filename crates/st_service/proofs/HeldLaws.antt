-- What a pass can rely on after a hold of a room's lock: a legal journal, a reader that has all overlays of the journal, and units for what the pass made.
use Rattle.std.proofs.Common.{◌≡◌, ℕ, ◌+◌, List, length, ap, sym, subst, arith, length-append}
use Rattle.std.specs.Prelude.{Result, Ok, Err, IfOk, OnOk, OnErr}
use mathlib.Core.List.{IsPrefix}
use Rattle.st_net.specs.declared.entity.Row.{Row}
use Rattle.st_net.specs.Groups.{Group}
use Rattle.st_event.specs.declared.journal.Entry.{Entry}
use Rattle.st_event.specs.Legal.{IsLegal}
use Rattle.st_event.specs.Proposals.{overlays}
use Rattle.st_service.specs.Lines.{numbers}
use Rattle.st_service.specs.Made.{Made, past_in}
use Rattle.st_service.specs.Puts.{Puts}
use Rattle.st_service.proofs.Lines.{length_numbers}

-- a front that is taught a legal journal is legal
pub legal_taught : (g h : Group) (front : List Made) (past : List Entry) → past_in front ≡ past → h ≡ g → IsLegal h past → IsLegal g (past_in front)
legal_taught g h front past is same legal = subst (λ (xs : List Entry). IsLegal g xs) (sym is) (subst (λ (k : Group). IsLegal k past) same legal)

-- a reader that has the overlays of a journal has those of the front that is taught
pub reads_taught : {T E : Type 0} (r : Result T E) (front : List Made) (past : List Entry) (reader : List (List Row)) → past_in front ≡ past → OnOk r (IsPrefix (overlays past) reader) → IfOk r (λ _. IsPrefix (overlays (past_in front)) reader)
reads_taught (Ok x) front past reader is begins = subst (λ (xs : List Entry). IsPrefix (overlays xs) reader) (sym is) begins
reads_taught (Err error) front past reader is begins = tt

-- the units that were handed over are those of the places that were added
pub puts_share : (number : ℕ) (es : List Entry) (mid before : List Made) (was : List ℕ) (after : List Made) (now : List ℕ) (old new : ℕ) → Puts number es mid before was after now → new ≡ old + length es → new + length was ≡ old + length now
puts_share number es mid before was after now old new p is =
    omega (arith, is, ap length p.2, length-append was (numbers (length mid) (length es)), length_numbers (length mid) (length es))

-- what holds of an answer for want of memory
pub on_err : {T E P : Type 0} (r : Result T E) → P → OnErr r P
on_err (Ok x) h = tt
on_err (Err e) h = h

-- what holds anyway holds whatever is answered
pub on_any : {T E P : Type 0} (r : Result T E) → P → OnOk r P
on_any (Ok x) h = h
on_any (Err e) h = tt

pub if_any : {T E P : Type 0} (r : Result T E) → P → IfOk r (λ _. P)
if_any (Ok x) h = h
if_any (Err e) h = tt

-- what follows of an answer from what is known of it
pub ok_also : {T E : Type 0} {P Q : T → Type 0} (r : Result T E) → IfOk r P → ((x : T) → P x → Q x) → IfOk r Q
ok_also (Ok x) p f = f x p
ok_also (Err e) p f = tt
