use Rattle.std.proofs.Common.{◌≡◌, ◌+◌, ℕ, List, inl, inr, length, refl, ap, sym, subst, ◌∙◌, arith, length-append}
use Rattle.std.specs.Prelude.{IfOk, IsErr, Result}
use Rattle.std.proofs.lemmas.Result.{IfOk-from_err}
use mathlib.Core.List.{IsPrefix}
use Rattle.st_net.specs.Groups.{Group}
use Rattle.st_event.specs.declared.journal.Entry.{Entry}
use Rattle.st_event.proofs.Accepting.{legal_within}
use Rattle.st_board.specs.Published.{Published}
use Rattle.st_world.specs.declared.world.rounds.Going.{Going}
use Rattle.st_event.proofs.Prefixes.{prefix_self}
use Rattle.st_line.specs.Lines.{Reached}
use Rattle.st_service.specs.declared.line.Batch.{Batch}
use Rattle.st_service.specs.Lines.{flat}
use Rattle.st_service.specs.Made.{IsMine, past_in}
use Rattle.st_service.specs.Puts.{Enters}
use Rattle.st_service.specs.Shares.{work_share}
use Rattle.st_service.specs.Tickets.{latest_in}
use Rattle.st_service.specs.Works.{MayDo, WorkFits, course_at}
use Rattle.st_service.proofs.Lines.{flat_prefix, puts_same}
use Rattle.st_service.proofs.HoldLaws.{taken, held, enters_all, enters_part, puts_grows, look_grows, length_past}
use Rattle.st_service.proofs.HeldLaws.{if_any, legal_taught, reads_taught, puts_share, on_any, on_err}
use Rattle.st_service.proofs.OffLockLaws.{may_later}
use Rattle.st_service.proofs.locked.Locked.work.Goals as goal

pub returns-in_err-still_open-clause-group : goal.returns-in_err-still_open-clause-group
returns-in_err-still_open-clause-group g c = refl

pub returns-in_err-still_open-clause-place : goal.returns-in_err-still_open-clause-place
returns-in_err-still_open-clause-place g c = (refl, refl)

pub returns-in_err-still_open-clause-share : goal.returns-in_err-still_open-clause-share
returns-in_err-still_open-clause-share g c = (refl, refl)

pub returns-in_err-still_open-clause-entered : goal.returns-in_err-still_open-clause-entered
returns-in_err-still_open-clause-entered g c = IfOk-from_err c.from_residual.result _ c.from_residual.ensures.0

pub returns-in_err-still_open-clause-refused : goal.returns-in_err-still_open-clause-refused
returns-in_err-still_open-clause-refused g c = on_err c.from_residual.result (inl (refl, refl))

pub returns-in_err-still_open-clause-journal : goal.returns-in_err-still_open-clause-journal
returns-in_err-still_open-clause-journal g c = IfOk-from_err c.from_residual.result _ c.from_residual.ensures.0

pub returns-in_err-still_open-clause-open : goal.returns-in_err-still_open-clause-open
returns-in_err-still_open-clause-open g c = IfOk-from_err c.from_residual.result _ c.from_residual.ensures.0

pub returns-in_err-still_open-clause-shut : goal.returns-in_err-still_open-clause-shut
returns-in_err-still_open-clause-shut g c = λ shut. refl

pub returns-in_err-still_open-clause-spent : goal.returns-in_err-still_open-clause-spent
returns-in_err-still_open-clause-spent g c = λ was is. absurd (cc (was, is))

pub returns-in_err-still_open-clause-grows : goal.returns-in_err-still_open-clause-grows
returns-in_err-still_open-clause-grows g c =
    let place = c.args.place.now in
    look_grows _ (flat place.seen.log) (flat place.seen.log) place.mine.items place.mine.items (prefix_self (flat place.seen.log)) refl

pub returns-in_err-still_open-clause-legal : goal.returns-in_err-still_open-clause-legal
returns-in_err-still_open-clause-legal g c = λ legal. legal

pub returns-in_err-still_open-clause-reader : goal.returns-in_err-still_open-clause-reader
returns-in_err-still_open-clause-reader g c = prefix_self c.args.place.now.reader.proposals

pub returns-in_err-still_open-clause-reads : goal.returns-in_err-still_open-clause-reads
returns-in_err-still_open-clause-reads g c = IfOk-from_err c.from_residual.result _ c.from_residual.ensures.0

pub most_of-requires : goal.most_of-requires
most_of-requires g c = subst (λ (h : Group). WorkFits c.args.work h) (sym c.args.self.now.group_is) c.requires.fits

pub invariant_of-place : goal.invariant_of-place
invariant_of-place g c =
    let place = c.args.place.now in
    record {
      named = place.named;
      made = subst (λ (mine : List ℕ). IsMine place.number (flat place.seen.log) mine) (sym c.reserve.ensures.items) place.made;
      asked = place.asked ∙ ap (λ (mine : List ℕ). latest_in (flat place.seen.log) mine) (sym c.reserve.ensures.items);
      reads = place.reads;
      reads_group = place.reads_group;
    }

pub invariant_of-self : goal.invariant_of-self
invariant_of-self g c =
    let room = c.args.self.now in
    record {
      of_group = room.of_group;
      group_is = room.group_is;
      lines_are = room.lines_are;
      board_is = room.board_is;
      kept = room.kept;
      left = room.left;
    }

pub returns-in_err-reserve-clause-group : goal.returns-in_err-reserve-clause-group
returns-in_err-reserve-clause-group g c = refl

pub returns-in_err-reserve-clause-place : goal.returns-in_err-reserve-clause-place
returns-in_err-reserve-clause-place g c = (refl, refl)

pub returns-in_err-reserve-clause-share : goal.returns-in_err-reserve-clause-share
returns-in_err-reserve-clause-share g c = (refl, ap (λ (mine : List ℕ). c.args.share.now.amount + length mine) (sym c.reserve.ensures.items))

pub returns-in_err-reserve-clause-entered : goal.returns-in_err-reserve-clause-entered
returns-in_err-reserve-clause-entered g c = IfOk-from_err c.from_residual-in_err-reserve.result _ c.from_residual-in_err-reserve.ensures.0

pub returns-in_err-reserve-clause-refused : goal.returns-in_err-reserve-clause-refused
returns-in_err-reserve-clause-refused g c = on_err c.from_residual-in_err-reserve.result (inl (refl, c.reserve.ensures.items))

pub returns-in_err-reserve-clause-journal : goal.returns-in_err-reserve-clause-journal
returns-in_err-reserve-clause-journal g c = IfOk-from_err c.from_residual-in_err-reserve.result _ c.from_residual-in_err-reserve.ensures.0

pub returns-in_err-reserve-clause-open : goal.returns-in_err-reserve-clause-open
returns-in_err-reserve-clause-open g c = IfOk-from_err c.from_residual-in_err-reserve.result _ c.from_residual-in_err-reserve.ensures.0

pub returns-in_err-reserve-clause-shut : goal.returns-in_err-reserve-clause-shut
returns-in_err-reserve-clause-shut g c = λ shut. refl

pub returns-in_err-reserve-clause-spent : goal.returns-in_err-reserve-clause-spent
returns-in_err-reserve-clause-spent g c = λ was is. absurd (cc (was, is))

pub returns-in_err-reserve-clause-grows : goal.returns-in_err-reserve-clause-grows
returns-in_err-reserve-clause-grows g c =
    let place = c.args.place.now in
    look_grows _ (flat place.seen.log) (flat place.seen.log) place.mine.items c.reserve.new.self.items (prefix_self (flat place.seen.log)) c.reserve.ensures.items

pub returns-in_err-reserve-clause-legal : goal.returns-in_err-reserve-clause-legal
returns-in_err-reserve-clause-legal g c = λ legal. legal

pub returns-in_err-reserve-clause-reader : goal.returns-in_err-reserve-clause-reader
returns-in_err-reserve-clause-reader g c = prefix_self c.args.place.now.reader.proposals

pub returns-in_err-reserve-clause-reads : goal.returns-in_err-reserve-clause-reads
returns-in_err-reserve-clause-reads g c = IfOk-from_err c.from_residual-in_err-reserve.result _ c.from_residual-in_err-reserve.ensures.0

pub work-going-requires-clause-open : goal.work-going-requires-clause-open
work-going-requires-clause-open g c = c.in_ok-still_open.ensures

pub work-going-requires-clause-may : goal.work-going-requires-clause-may
work-going-requires-clause-may g c =
    let room = c.args.self.now in
    subst (λ (past : List Entry). MayDo c.args.work past) room.kept (may_later c.args.work (flat c.args.place.now.seen.log) (flat room.makers.line.log) (flat_prefix c.args.place.now.seen.log room.makers.line.log c.has_all.ensures.begins) c.requires.may)

pub work-going-requires-clause-fits : goal.work-going-requires-clause-fits
work-going-requires-clause-fits g c = subst (λ (h : Group). WorkFits c.args.work h) (sym c.args.self.now.group_is) c.requires.fits

pub since-entries-requires : goal.since-entries-requires
since-entries-requires g c = omega (arith, c.count-from.ensures.count, ap length c.work-going.ensures.adds.all, length-append c.work-going.ensures.adds.more c.args.self.now.room.history.past)

pub take_in-requires-clause-group : goal.take_in-requires-clause-group
take_in-requires-clause-group g c = c.requires.group ∙ (sym c.args.self.now.of_group ∙ sym c.has_all.ensures.same.0)

pub take_in-requires-clause-behind : goal.take_in-requires-clause-behind
take_in-requires-clause-behind g c = subst (λ (s : Reached Batch). IsPrefix c.args.place.now.seen.log s.log) (sym c.has_all.ensures.same.1) c.has_all.ensures.begins

pub take_in-requires-clause-part : goal.take_in-requires-clause-part
take_in-requires-clause-part g c = c.requires.part

pub take_in-requires-clause-own : goal.take_in-requires-clause-own
take_in-requires-clause-own g c =
    let room = c.args.self.now in
    let place = c.args.place.now in
    let old = room.room.history in
    let new = c.work-going.new.self.history in
    let es = c.since-entries.result.now in
    let most = work_share c.args.work old.group room.room.lines in
    let t = taken place.number most c.count-from.result old.past new.past es c.work-going.ensures.adds c.count-from.ensures.count c.since-entries.ensures in
    t.own

pub take_in-requires-clause-from : goal.take_in-requires-clause-from
take_in-requires-clause-from g c =
    let room = c.args.self.now in
    c.count-from.ensures.count ∙ (sym (ap length room.kept) ∙ (length_past (flat room.makers.line.log) ∙ ap (λ (s : Reached Batch). length (flat s.log)) (sym c.has_all.ensures.same.1)))

pub take_in-requires-clause-few : goal.take_in-requires-clause-few
take_in-requires-clause-few g c =
    let room = c.args.self.now in
    let place = c.args.place.now in
    let old = room.room.history in
    let new = c.work-going.new.self.history in
    let es = c.since-entries.result.now in
    let most = work_share c.args.work old.group room.room.lines in
    let t = taken place.number most c.count-from.result old.past new.past es c.work-going.ensures.adds c.count-from.ensures.count c.since-entries.ensures in
    let within = legal_within new.group new.past c.is_legal.ensures.legal in
    omega (arith, within, t.count, c.count-from.ensures.count)

pub take_in-requires-clause-units : goal.take_in-requires-clause-units
take_in-requires-clause-units g c =
    let room = c.args.self.now in
    let place = c.args.place.now in
    let old = room.room.history in
    let new = c.work-going.new.self.history in
    let es = c.since-entries.result.now in
    let most = work_share c.args.work old.group room.room.lines in
    let t = taken place.number most c.count-from.result old.past new.past es c.work-going.ensures.adds c.count-from.ensures.count c.since-entries.ensures in
    let within = legal_within new.group new.past c.is_legal.ensures.legal in
    omega (arith, within, t.count, room.left, ap (λ u. u.amount) c.has_all.ensures.same.2)

pub take_in-requires-clause-spare : goal.take_in-requires-clause-spare
take_in-requires-clause-spare g c =
    let room = c.args.self.now in
    let place = c.args.place.now in
    let old = room.room.history in
    let new = c.work-going.new.self.history in
    let es = c.since-entries.result.now in
    let most = work_share c.args.work old.group room.room.lines in
    let t = taken place.number most c.count-from.result old.past new.past es c.work-going.ensures.adds c.count-from.ensures.count c.since-entries.ensures in
    let within = legal_within new.group new.past c.is_legal.ensures.legal in
    let enough = c.most_of.ensures (length es) t.few (omega (arith, within, t.count)) in
    omega (arith, enough, c.in_ok-reserve.ensures.ok, c.reserve.ensures.len)

pub invariant_of-self-2 : goal.invariant_of-self-2
invariant_of-self-2 g c =
    let room = c.args.self.now in
    let place = c.args.place.now in
    let old = room.room.history in
    let new = c.work-going.new.self.history in
    let es = c.since-entries.result.now in
    let most = work_share c.args.work old.group room.room.lines in
    let q = c.take_in.new.place in
    let h = held place.number most c.count-from.result old.past new.past es (flat room.makers.line.log) (flat place.seen.log) place.mine.items c.reserve.new.self.items (flat q.seen.log) q.mine.items
    room.kept c.work-going.ensures.adds c.count-from.ensures.count c.since-entries.ensures c.reserve.ensures.items (puts_same place.number es _ _ _ _ _ _ c.has_all.ensures.same.1 c.take_in.ensures.puts) in
    let left : c.take_in.new.self.units.amount + length new.past ≡ 200000 = omega (arith, c.take_in.ensures.units.0, room.left, h.taken.count, ap (λ u. u.amount) c.has_all.ensures.same.2) in
    record {
      of_group = c.take_in.ensures.group ∙ (c.has_all.ensures.same.0 ∙ room.of_group);
      group_is = c.work-going.ensures.room.group ∙ room.group_is;
      lines_are = c.work-going.ensures.room.lines ∙ room.lines_are;
      board_is = c.work-going.ensures.room.board ∙ room.board_is;
      kept = ap (λ l. past_in (flat l)) (sym c.take_in.ensures.journal) ∙ h.line;
      left = left;
    }

pub returns-clause-group : goal.returns-clause-group
returns-clause-group g c = refl

pub returns-clause-place : goal.returns-clause-place
returns-clause-place g c = (c.take_in.ensures.place.0, c.take_in.ensures.place.1)

pub returns-clause-share : goal.returns-clause-share
returns-clause-share g c =
    let room = c.args.self.now in
    let place = c.args.place.now in
    let old = room.room.history in
    let new = c.work-going.new.self.history in
    let es = c.since-entries.result.now in
    let most = work_share c.args.work old.group room.room.lines in
    let q = c.take_in.new.place in
    let h = held place.number most c.count-from.result old.past new.past es (flat room.makers.line.log) (flat place.seen.log) place.mine.items c.reserve.new.self.items (flat q.seen.log) q.mine.items
    room.kept c.work-going.ensures.adds c.count-from.ensures.count c.since-entries.ensures c.reserve.ensures.items (puts_same place.number es _ _ _ _ _ _ c.has_all.ensures.same.1 c.take_in.ensures.puts) in
    (c.take_in.ensures.parts, puts_share place.number es (flat room.makers.line.log) (flat place.seen.log) place.mine.items (flat q.seen.log) q.mine.items c.args.share.now.amount c.take_in.new.share.amount h.puts c.take_in.ensures.units.1)

pub returns-clause-shut : goal.returns-clause-shut
returns-clause-shut g c = λ shut. absurd (cc (shut, c.in_ok-still_open.ensures))

pub returns-clause-grows : goal.returns-clause-grows
returns-clause-grows g c =
    let room = c.args.self.now in
    let place = c.args.place.now in
    let old = room.room.history in
    let new = c.work-going.new.self.history in
    let es = c.since-entries.result.now in
    let most = work_share c.args.work old.group room.room.lines in
    let q = c.take_in.new.place in
    let h = held place.number most c.count-from.result old.past new.past es (flat room.makers.line.log) (flat place.seen.log) place.mine.items c.reserve.new.self.items (flat q.seen.log) q.mine.items
    room.kept c.work-going.ensures.adds c.count-from.ensures.count c.since-entries.ensures c.reserve.ensures.items (puts_same place.number es _ _ _ _ _ _ c.has_all.ensures.same.1 c.take_in.ensures.puts) in
    rw (← room.group_is, ← room.lines_are) (puts_grows place.number most es (flat room.makers.line.log) (flat place.seen.log) place.mine.items (flat q.seen.log) q.mine.items h.taken.few h.puts)

pub returns-clause-legal : goal.returns-clause-legal
returns-clause-legal g c =
    let room = c.args.self.now in
    let place = c.args.place.now in
    let old = room.room.history in
    let new = c.work-going.new.self.history in
    let es = c.since-entries.result.now in
    let most = work_share c.args.work old.group room.room.lines in
    let q = c.take_in.new.place in
    let h = held place.number most c.count-from.result old.past new.past es (flat room.makers.line.log) (flat place.seen.log) place.mine.items c.reserve.new.self.items (flat q.seen.log) q.mine.items
    room.kept c.work-going.ensures.adds c.count-from.ensures.count c.since-entries.ensures c.reserve.ensures.items (puts_same place.number es _ _ _ _ _ _ c.has_all.ensures.same.1 c.take_in.ensures.puts) in
    λ _. legal_taught (g.J.Naming.group room.group) new.group (flat q.seen.log) new.past h.line (c.work-going.ensures.room.group ∙ room.group_is) c.is_legal.ensures.legal

pub tell-requires-clause-book : goal.tell-requires-clause-book
tell-requires-clause-book g c =
    let room = c.args.self.now in
    let place = c.args.place.now in
    ap (λ (p : Published). p.book) c.take_in.ensures.place.2 ∙ (place.reads ∙ (ap g.J.Naming.board c.requires.group ∙ (sym room.board_is ∙ sym c.work-going.ensures.room.board)))

pub tell-requires-clause-open : goal.tell-requires-clause-open
tell-requires-clause-open g c =
    c.work-going.ensures.open

pub invariant_of-self-3 : goal.invariant_of-self-3
invariant_of-self-3 g c =
    let room = c.args.self.now in
    let place = c.args.place.now in
    let old = room.room.history in
    let new = c.work-going.new.self.history in
    let es = c.since-entries.result.now in
    let most = work_share c.args.work old.group room.room.lines in
    let q = c.take_in.new.place in
    let h = held place.number most c.count-from.result old.past new.past es (flat room.makers.line.log) (flat place.seen.log) place.mine.items c.reserve.new.self.items (flat q.seen.log) q.mine.items
    room.kept c.work-going.ensures.adds c.count-from.ensures.count c.since-entries.ensures c.reserve.ensures.items (puts_same place.number es _ _ _ _ _ _ c.has_all.ensures.same.1 c.take_in.ensures.puts) in
    let left : c.take_in.new.self.units.amount + length new.past ≡ 200000 = omega (arith, c.take_in.ensures.units.0, room.left, h.taken.count, ap (λ u. u.amount) c.has_all.ensures.same.2) in
    record {
      of_group = c.take_in.ensures.group ∙ (c.has_all.ensures.same.0 ∙ room.of_group);
      group_is = c.work-going.ensures.room.group ∙ room.group_is;
      lines_are = c.work-going.ensures.room.lines ∙ room.lines_are;
      board_is = c.work-going.ensures.room.board ∙ room.board_is;
      kept = ap (λ l. past_in (flat l)) (sym c.take_in.ensures.journal) ∙ h.line;
      left = left;
    }

pub invariant_of-place-2 : goal.invariant_of-place-2
invariant_of-place-2 g c =
    let q = c.take_in.new.place in
    record {
      named = q.named;
      made = q.made;
      asked = q.asked;
      reads = c.tell.ensures.board.0 ∙ q.reads;
      reads_group = c.tell.ensures.board.1 ∙ q.reads_group;
    }

pub returns-clause-journal : goal.returns-clause-journal
returns-clause-journal g c =
    let room = c.args.self.now in
    let place = c.args.place.now in
    let old = room.room.history in
    let new = c.work-going.new.self.history in
    let es = c.since-entries.result.now in
    let most = work_share c.args.work old.group room.room.lines in
    let q = c.take_in.new.place in
    let h = held place.number most c.count-from.result old.past new.past es (flat room.makers.line.log) (flat place.seen.log) place.mine.items c.reserve.new.self.items (flat q.seen.log) q.mine.items
    room.kept c.work-going.ensures.adds c.count-from.ensures.count c.since-entries.ensures c.reserve.ensures.items (puts_same place.number es _ _ _ _ _ _ c.has_all.ensures.same.1 c.take_in.ensures.puts) in
    if_any c.tell.result h.line

pub returns-clause-open : goal.returns-clause-open
returns-clause-open g c =
    on_any c.tell.result c.in_ok-still_open.ensures

pub returns-clause-spent : goal.returns-clause-spent
returns-clause-spent g c =
    λ was is.
    let refused = c.work-going.ensures.spent is in
    (refused.0, subst (λ (r : Result Going _). IsErr r) (sym c.tell.ensures.same) refused.1)

pub returns-clause-entered : goal.returns-clause-entered
returns-clause-entered g c =
    let room = c.args.self.now in
    let place = c.args.place.now in
    let old = room.room.history in
    let new = c.work-going.new.self.history in
    let es = c.since-entries.result.now in
    let most = work_share c.args.work old.group room.room.lines in
    let q = c.take_in.new.place in
    let h = held place.number most c.count-from.result old.past new.past es (flat room.makers.line.log) (flat place.seen.log) place.mine.items c.reserve.new.self.items (flat q.seen.log) q.mine.items
    room.kept c.work-going.ensures.adds c.count-from.ensures.count c.since-entries.ensures c.reserve.ensures.items (puts_same place.number es _ _ _ _ _ _ c.has_all.ensures.same.1 c.take_in.ensures.puts) in
    let course : List Entry → _ = course_at place.number c.args.work old.group room.room.lines in
    subst (λ (r : Result Going _). IfOk r (λ going. Enters (course_at place.number c.args.work (g.J.Naming.group room.group) (g.J.Naming.lines room.group)) going place.number (flat room.makers.line.log) (flat place.seen.log) place.mine.items (flat q.seen.log) q.mine.items)) (sym c.tell.ensures.same)
    (rw (← room.group_is, ← room.lines_are) (enters_all c.work-going.result course place.number most old.past new.past es (flat room.makers.line.log) (flat place.seen.log) place.mine.items (flat q.seen.log) q.mine.items c.work-going.ensures.ok c.work-going.ensures.full h.taken room.kept h.puts))

pub returns-clause-refused : goal.returns-clause-refused
returns-clause-refused g c =
    let room = c.args.self.now in
    let place = c.args.place.now in
    let old = room.room.history in
    let new = c.work-going.new.self.history in
    let es = c.since-entries.result.now in
    let most = work_share c.args.work old.group room.room.lines in
    let q = c.take_in.new.place in
    let h = held place.number most c.count-from.result old.past new.past es (flat room.makers.line.log) (flat place.seen.log) place.mine.items c.reserve.new.self.items (flat q.seen.log) q.mine.items
    room.kept c.work-going.ensures.adds c.count-from.ensures.count c.since-entries.ensures c.reserve.ensures.items (puts_same place.number es _ _ _ _ _ _ c.has_all.ensures.same.1 c.take_in.ensures.puts) in
    let course : List Entry → _ = course_at place.number c.args.work old.group room.room.lines in
    on_err c.tell.result (inr (rw (← room.group_is, ← room.lines_are) (enters_part course place.number most old.past new.past es (flat room.makers.line.log) (flat place.seen.log) place.mine.items (flat q.seen.log) q.mine.items c.work-going.ensures.part h.taken room.kept h.puts)))

pub returns-clause-reader : goal.returns-clause-reader
returns-clause-reader g c =
    subst (λ (r : Published). IsPrefix r.proposals c.tell.new.reader.proposals) c.take_in.ensures.place.2 c.tell.ensures.later

pub returns-clause-reads : goal.returns-clause-reads
returns-clause-reads g c =
    let room = c.args.self.now in
    let place = c.args.place.now in
    let old = room.room.history in
    let new = c.work-going.new.self.history in
    let es = c.since-entries.result.now in
    let most = work_share c.args.work old.group room.room.lines in
    let q = c.take_in.new.place in
    let h = held place.number most c.count-from.result old.past new.past es (flat room.makers.line.log) (flat place.seen.log) place.mine.items c.reserve.new.self.items (flat q.seen.log) q.mine.items
    room.kept c.work-going.ensures.adds c.count-from.ensures.count c.since-entries.ensures c.reserve.ensures.items (puts_same place.number es _ _ _ _ _ _ c.has_all.ensures.same.1 c.take_in.ensures.puts) in
    reads_taught c.tell.result (flat q.seen.log) new.past c.tell.new.reader.proposals h.line c.tell.ensures.reads
