-- The parts and the units of the ledger come to what the passes, the rooms and the service's own share have.
use Rattle.std.proofs.Common.{◌≡◌, ℕ, ◌<◌, List, length, get_or, refl, sym, ap, subst, ◌∙◌, arith}
use Rattle.st_service.specs.Opened.{IsFresh}
use Rattle.st_service.specs.Passes.{Holder}
use Rattle.st_service.proofs.FreshLaws.{written_back}
use Rattle.st_service.proofs.start.Service+J+L+ref+R.start.Goals as goal

pub overflow_add-passes : goal.overflow_add-passes
overflow_add-passes g c = omega (arith, c.requires.few.1)

pub open-book-requires-clause-name : goal.open-book-requires-clause-name
open-book-requires-clause-name g c = c.requires.ledger.0

pub open-book-requires-clause-parts : goal.open-book-requires-clause-parts
open-book-requires-clause-parts g c = c.requires.ledger.1

pub overflow_mul-len : goal.overflow_mul-len
overflow_mul-len g c = omega (arith, c.len.ensures, c.args.worlds.ok.0, c.requires.few.0)

pub add-requires : goal.add-requires
add-requires g c = omega (arith, c.open-book.ensures.parts, c.requires.ledger.1, c.requires.parts)

pub new_passes-requires : goal.new_passes-requires
new_passes-requires g c = record { parts = omega (arith, c.add.ensures.parts, c.open-book.ensures.parts, c.requires.ledger.1, c.requires.parts) }

pub open_all-requires-clause-lines : goal.open_all-requires-clause-lines
open_all-requires-clause-lines g c = c.requires.lines

pub open_all-requires-clause-worlds : goal.open_all-requires-clause-worlds
open_all-requires-clause-worlds g c = c.requires.worlds

pub open_all-requires-clause-units : goal.open_all-requires-clause-units
open_all-requires-clause-units g c =
    let left = c.in_ok-all.ensures.parts in (
      omega (arith, left.0, c.add.ensures.parts, c.open-book.ensures.parts, c.requires.ledger.1, c.requires.parts),
      omega (arith, left.1, c.add.ensures.amount, c.open-book.ensures.amount, c.len.ensures, c.args.worlds.ok.0),
    )

pub open_all-requires-clause-few : goal.open_all-requires-clause-few
open_all-requires-clause-few g c = let many = ap length c.deref_mut.ensures.value in (c.requires.few.0, omega (arith, many, c.in_ok-all.ensures.count, c.requires.few.1))

pub open_all-requires-clause-fresh : goal.open_all-requires-clause-fresh
open_all-requires-clause-fresh g c =
    subst (λ (ps : List Holder). (n : ℕ) (p : Holder) → n < length ps → IsFresh n 0 (get_or ps n p)) (sym c.deref_mut.ensures.value) c.in_ok-all.ensures.fresh

pub invariant_of-new : goal.invariant_of-new
invariant_of-new g c = record { part = c.in_ok-rooms.ensures.units }

pub overflow_cast-service : goal.overflow_cast-service
overflow_cast-service g c = omega (arith, c.requires.few.1)

pub invariant_of-service : goal.invariant_of-service
invariant_of-service g c =
    let rooms = c.in_ok-rooms.ensures.rooms in
    record {
      parts = omega (arith, c.close-total.ensures.parts, c.requires.ledger.1, c.requires.parts, rooms);
      amount = omega (arith, c.close-total.ensures.amount, c.add.ensures.total, c.open-book.ensures.total, c.len.ensures, c.args.worlds.ok.0, rooms);
      few = omega (arith, rooms, c.requires.few.0);
      apps_first = omega arith;
    }

pub returns-clause-rooms : goal.returns-clause-rooms
returns-clause-rooms g c = c.in_ok-rooms.ensures.rooms

pub returns-clause-passes : goal.returns-clause-passes
returns-clause-passes g c =
    let all = c.in_ok-all.all in
    let len : all.len ≡ length all.items = omega (arith, all.ok.0) in
    let same = c.open_all.ensures.count ∙ ap length c.deref_mut.ensures.value in
    (refl, refl, ap length (written_back all.items c.open_all.new.passes all.len len same) ∙ (same ∙ c.in_ok-all.ensures.count))

pub returns-clause-fresh : goal.returns-clause-fresh
returns-clause-fresh g c =
    let all = c.in_ok-all.all in
    let len : all.len ≡ length all.items = omega (arith, all.ok.0) in
    let same = c.open_all.ensures.count ∙ ap length c.deref_mut.ensures.value in
    let back = written_back all.items c.open_all.new.passes all.len len same in
    subst (λ (ps : List Holder). (n : ℕ) (p : Holder) → n < length ps → IsFresh n (length c.args.worlds.items) (get_or ps n p)) (sym back) c.in_ok-rooms.ensures.fresh
