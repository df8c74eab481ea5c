-- Each journal is that of its group, legal, and what the line of its room says.
use Rattle.std.proofs.Common.{◌≡◌, ℕ, ◌<◌, List, ◌∷◌, ◌++◌, [], length, get_or, reverse, ap, sym, subst, ◌∙◌, arith, length-append}
use Rattle.st_net.specs.Groups.{Group, IsSound}
use Rattle.st_event.specs.declared.journal.Entry.{Entry}
use Rattle.st_event.specs.declared.journal.Journal.{Journal}
use Rattle.st_event.specs.Legal.{IsLegal}
use Rattle.st_service.specs.declared.close.Shut.{Shut}
use Rattle.st_service.specs.Lines.{flat}
use Rattle.st_service.specs.Made.{past_in}
use Rattle.st_service.proofs.ClosingLaws.{both_more, next_at, next_low, next_all, none_left}
use Rattle.st_service.proofs.Mines.{items_more, numbered_more}
use Rattle.st_service.proofs.close.take_journals.Goals as goal

pub loop-room-preserved : goal.loop-room-preserved
loop-room-preserved g c =
    let shut = c.args.shut.items in
    let ys = c.loop-room.yielded in
    let room = c.in-Some.room in
    let rest = c.next.new.self.rest.items in
    let journals = c.loop-room.journals.items in
    let j : Journal = c.into_journal.result in
    let inv = c.loop-room.invariant in
    let next : shut ≡ ys ++ room ∷ rest = inv.all ∙ ap (λ (l : List (Shut g.row.J.Denot g.row.H.Denot g.J.Naming)). ys ++ l) c.in-Some.ensures.steps.0 in
    let number : room.group ≡ length ys = ap (λ (s : Shut g.row.J.Denot g.row.H.Denot g.J.Naming). s.group) (sym (next_at shut ys rest room room next)) ∙ c.requires.groups (length ys) room (next_low shut ys rest room next) in
    let at : room.group ≡ length journals = number ∙ sym inv.count in
    let group : room.ended.history.group ≡ g.J.Naming.group (length journals) = room.group_is ∙ ap g.J.Naming.group at in
    let past : reverse j.entries ≡ room.ended.history.past = c.into_journal.ensures.entries in
    let legal : IsLegal (g.J.Naming.group (length journals)) (reverse j.entries) × IsSound (g.J.Naming.group (length journals)) =
    subst (λ (h : Group). IsLegal h (reverse j.entries) × IsSound h) group (subst (λ (es : List Entry). IsLegal room.ended.history.group es) (sym past) c.is_legal.ensures.legal, c.is_legal.ensures.sound) in
    let items : c.push.new.self.items ≡ journals ++ j ∷ [] = c.in_ok-push.ensures.items in
    record {
      all = next_all shut ys c.loop-room.room-iterator.rest.items rest room inv.all c.in-Some.ensures.steps.0;
      count = omega (arith, inv.count, ap length items, length-append journals (j ∷ []), length-append ys (room ∷ []));
      groups = subst (λ (l : List Journal). (k : ℕ) (d : Journal) → k < length l → (get_or l k d).group ≡ k) (sym items) (numbered_more (λ (x : Journal). x.group) journals j inv.groups (c.into_journal.ensures.group ∙ at));
      legal = subst (λ (l : List Journal). (k : ℕ) (d : Journal) → k < length l → IsLegal (g.J.Naming.group k) (reverse (get_or l k d).entries) × IsSound (g.J.Naming.group k)) (sym items)
          (items_more (λ (k : ℕ) (x : Journal). IsLegal (g.J.Naming.group k) (reverse x.entries) × IsSound (g.J.Naming.group k)) journals j inv.legal legal);
      entries = subst (λ (l : List Journal). (k : ℕ) (d : Journal) (e : Shut g.row.J.Denot g.row.H.Denot g.J.Naming) → k < length l → past_in (flat (get_or (ys ++ room ∷ []) k e).line.log) ≡ reverse (get_or l k d).entries) (sym items)
          (both_more (λ (k : ℕ) (x : Journal) (s : Shut g.row.J.Denot g.row.H.Denot g.J.Naming). past_in (flat s.line.log) ≡ reverse x.entries) journals ys j room (sym inv.count) inv.entries (room.kept ∙ sym past));
    }

pub returns-clause-count : goal.returns-clause-count
returns-clause-count g c =
    let none : length c.loop-room.room-iterator.rest.items ≡ 0 = omega (arith, c.in-None.ensures.steps.0) in
    let done = none_left c.args.shut.items c.loop-room.yielded c.loop-room.room-iterator.rest.items c.loop-room.invariant.all none in
    omega (arith, c.loop-room.invariant.count, ap length done)

pub returns-clause-groups : goal.returns-clause-groups
returns-clause-groups g c = c.loop-room.invariant.groups

pub returns-clause-legal : goal.returns-clause-legal
returns-clause-legal g c = c.loop-room.invariant.legal

pub returns-clause-entries : goal.returns-clause-entries
returns-clause-entries g c =
    let none : length c.loop-room.room-iterator.rest.items ≡ 0 = omega (arith, c.in-None.ensures.steps.0) in
    let done = none_left c.args.shut.items c.loop-room.yielded c.loop-room.room-iterator.rest.items c.loop-room.invariant.all none in
    subst (λ (l : List (Shut g.row.J.Denot g.row.H.Denot g.J.Naming)). (k : ℕ) (d : Journal) (e : Shut g.row.J.Denot g.row.H.Denot g.J.Naming) → k < length c.loop-room.journals.items → past_in (flat (get_or l k e).line.log) ≡ reverse (get_or c.loop-room.journals.items k d).entries) done c.loop-room.invariant.entries
