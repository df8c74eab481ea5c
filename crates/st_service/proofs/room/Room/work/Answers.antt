use Rattle.std.proofs.Common.{◌≡◌, ◌≢◌, ◌≤◌, true, false, length, refl, ap, sym, subst, ◌∙◌, arith, length-append}
use Rattle.std.specs.Prelude.{reverse}
use Rattle.st_event.specs.Proposals.{overlays, first_rows, pending}
use Rattle.st_service.specs.Laid.{laid_by}
use Rattle.st_service.specs.Rooms.{RoomView, WasRefused}
use Rattle.st_service.specs.Shares.{work_share}
use Rattle.st_service.specs.Works.{WorkFits}
use Rattle.st_service.proofs.CourseLaws.{decided, decides, laid_are, lays, work-ran, same_version, next_version}
use Rattle.st_service.proofs.RoomLaws.{went_from, adds_from, refused_more, work_full, room_stands, room_publishes, room_spends, next_few, rows_fit}
use Rattle.st_service.proofs.room.Room.work.Goals as goal

pub invariant_of-self : goal.invariant_of-self
invariant_of-self g c =
    let old = c.self.inside.world in
    let new = c.enter-going.new.world in
    let went = went_from c.enter-going.result c.args.number c.args.work old new c.self.inside.held.board c.self.inside.spent c.args.self.now c.self.view_is c.enter-going.ensures.ok c.enter-going.ensures.err c.requires.fits in
    let same : length (overlays new.history.past) ≡ length (overlays old.history.past) = sym c.version_of.ensures ∙ (c.if-version_of-version.true ∙ c.version_of-version.ensures) in
    let decides_them : lays c.args.work ≡ decided → c.in_ok-rows.rows ≡ first_rows (pending old.history.past) = λ is. c.in_ok-rows.ensures (decides c.args.work is) ∙ ap (λ (r : RoomView). first_rows (pending r.history.past)) (sym c.self.view_is) in
    room_stands old.history new.history c.self.inside.held.board c.self.inside.spent c.enter-going.ensures.setting.group
    (same_version (lays c.args.work) c.args.number (work_share c.args.work old.history.group old.lines) old.history.past new.history.past c.in_ok-rows.rows went decides_them same) c.self.invariant

pub invariant_of-self-in-Ok : goal.invariant_of-self-in-Ok
invariant_of-self-in-Ok g c =
    let old = c.self.inside.world in
    let new = c.enter-going.new.world in
    let board = c.self.inside.held.board in
    let went = went_from c.enter-going.result c.args.number c.args.work old new c.self.inside.held.board c.self.inside.spent c.args.self.now c.self.view_is c.enter-going.ensures.ok c.enter-going.ensures.err c.requires.fits in
    let apart : length (overlays new.history.past) ≢ length (overlays old.history.past) = λ e. c.if-version_of-version.false (c.version_of.ensures ∙ (e ∙ sym c.version_of-version.ensures)) in
    let decides_them : lays c.args.work ≡ decided → c.in_ok-rows.rows ≡ first_rows (pending old.history.past) = λ is. c.in_ok-rows.ensures (decides c.args.work is) ∙ ap (λ (r : RoomView). first_rows (pending r.history.past)) (sym c.self.view_is) in
    let laid = laid_by (reverse went.more) c.in_ok-rows.rows in
    let next = next_version (lays c.args.work) c.args.number (work_share c.args.work old.history.group old.lines) old.history.past new.history.past c.in_ok-rows.rows went decides_them apart in
    let rows : c.laid_rows-laid.result.now ≡ laid = c.laid_rows-laid.ensures ∙ laid_are c.entries_since.result.now went.more c.as_slice.result.now c.in_ok-rows.rows (c.entries_since.ensures.since went.more old.history.past went.all (sym c.entries-before.ensures.count)) c.as_slice.ensures in
    let going : c.self.inside.spent ≡ false = ap (λ (r : RoomView). r.spent) c.self.view_is ∙ c.requires.open in
    room_publishes old.history new.history board c.publish.new.self c.self.inside.spent laid c.laid_rows-laid.result.now c.enter-going.ensures.setting.group next rows c.in-Ok.ensures.ok going c.self.invariant

pub invariant_of-self-in-Err : goal.invariant_of-self-in-Err
invariant_of-self-in-Err g c =
    let old = c.self.inside.world in
    let new = c.enter-going.new.world in
    let went = went_from c.enter-going.result c.args.number c.args.work old new c.self.inside.held.board c.self.inside.spent c.args.self.now c.self.view_is c.enter-going.ensures.ok c.enter-going.ensures.err c.requires.fits in
    let apart : length (overlays new.history.past) ≢ length (overlays old.history.past) = λ e. c.if-version_of-version.false (c.version_of.ensures ∙ (e ∙ sym c.version_of-version.ensures)) in
    let decides_them : lays c.args.work ≡ decided → c.in_ok-rows.rows ≡ first_rows (pending old.history.past) = λ is. c.in_ok-rows.ensures (decides c.args.work is) ∙ ap (λ (r : RoomView). first_rows (pending r.history.past)) (sym c.self.view_is) in
    let laid = laid_by (reverse went.more) c.in_ok-rows.rows in
    let next = next_version (lays c.args.work) c.args.number (work_share c.args.work old.history.group old.lines) old.history.past new.history.past c.in_ok-rows.rows went decides_them apart in
    room_spends old.history new.history c.self.inside.held.board c.publish.new.self c.self.inside.spent laid c.enter-going.ensures.setting.group next c.in-Err.ensures.err c.self.invariant

pub entries_since-requires : goal.entries_since-requires
entries_since-requires g c =
    let old = c.self.inside.world in
    let new = c.enter-going.new.world in
    let went = went_from c.enter-going.result c.args.number c.args.work old new c.self.inside.held.board c.self.inside.spent c.args.self.now c.self.view_is c.enter-going.ensures.ok c.enter-going.ensures.err c.requires.fits in
    omega (arith, c.entries-before.ensures.count, ap length went.all, length-append went.more old.history.past)

pub publish-requires-clause-fits : goal.publish-requires-clause-fits
publish-requires-clause-fits g c =
    let old = c.self.inside.world in
    let new = c.enter-going.new.world in
    let went = went_from c.enter-going.result c.args.number c.args.work old new c.self.inside.held.board c.self.inside.spent c.args.self.now c.self.view_is c.enter-going.ensures.ok c.enter-going.ensures.err c.requires.fits in
    let apart : length (overlays new.history.past) ≢ length (overlays old.history.past) = λ e. c.if-version_of-version.false (c.version_of.ensures ∙ (e ∙ sym c.version_of-version.ensures)) in
    let decides_them : lays c.args.work ≡ decided → c.in_ok-rows.rows ≡ first_rows (pending old.history.past) = λ is. c.in_ok-rows.ensures (decides c.args.work is) ∙ ap (λ (r : RoomView). first_rows (pending r.history.past)) (sym c.self.view_is) in
    let laid = laid_by (reverse went.more) c.in_ok-rows.rows in
    let next = next_version (lays c.args.work) c.args.number (work_share c.args.work old.history.group old.lines) old.history.past new.history.past c.in_ok-rows.rows went decides_them apart in
    let rows : c.laid_rows-laid.result.now ≡ laid = c.laid_rows-laid.ensures ∙ laid_are c.entries_since.result.now went.more c.as_slice.result.now c.in_ok-rows.rows (c.entries_since.ensures.since went.more old.history.past went.all (sym c.entries-before.ensures.count)) c.as_slice.ensures in
    rows_fit new.history.group c.self.inside.held.board.group old.history.past new.history.past laid c.laid_rows-laid.result.now (c.self.invariant.group ∙ sym c.enter-going.ensures.setting.group) rows next c.is_legal.ensures.sound c.is_legal.ensures.legal

pub publish-requires-clause-room : goal.publish-requires-clause-room
publish-requires-clause-room g c =
    let old = c.self.inside.world in
    let new = c.enter-going.new.world in
    let went = went_from c.enter-going.result c.args.number c.args.work old new c.self.inside.held.board c.self.inside.spent c.args.self.now c.self.view_is c.enter-going.ensures.ok c.enter-going.ensures.err c.requires.fits in
    let apart : length (overlays new.history.past) ≢ length (overlays old.history.past) = λ e. c.if-version_of-version.false (c.version_of.ensures ∙ (e ∙ sym c.version_of-version.ensures)) in
    let decides_them : lays c.args.work ≡ decided → c.in_ok-rows.rows ≡ first_rows (pending old.history.past) = λ is. c.in_ok-rows.ensures (decides c.args.work is) ∙ ap (λ (r : RoomView). first_rows (pending r.history.past)) (sym c.self.view_is) in
    let laid = laid_by (reverse went.more) c.in_ok-rows.rows in
    let next = next_version (lays c.args.work) c.args.number (work_share c.args.work old.history.group old.lines) old.history.past new.history.past c.in_ok-rows.rows went decides_them apart in
    let going : c.self.inside.spent ≡ false = ap (λ (r : RoomView). r.spent) c.self.view_is ∙ c.requires.open in
    next_few new.history.group old.history new.history c.self.inside.held.board c.self.inside.spent laid next c.is_legal.ensures.legal going c.self.invariant

pub returns-in_err-rows-clause-spent : goal.returns-in_err-rows-clause-spent
returns-in_err-rows-clause-spent g c = λ is. absurd (cc (c.requires.open, is))

pub returns-then-version_of-version-clause-spent : goal.returns-then-version_of-version-clause-spent
returns-then-version_of-version-clause-spent g c =
    let going : c.self.inside.spent ≡ false = ap (λ (r : RoomView). r.spent) c.self.view_is ∙ c.requires.open in
    λ is. absurd (cc (going, is))

pub returns-in-Ok-clause-spent : goal.returns-in-Ok-clause-spent
returns-in-Ok-clause-spent g c =
    let going : c.self.inside.spent ≡ false = ap (λ (r : RoomView). r.spent) c.self.view_is ∙ c.requires.open in
    λ is. absurd (cc (going, is))

pub returns-clause-spent : goal.returns-clause-spent
returns-clause-spent g c =
    let old = c.self.inside.world in
    let new = c.enter-going.new.world in
    let board = c.self.inside.held.board in
    let went = went_from c.enter-going.result c.args.number c.args.work old new c.self.inside.held.board c.self.inside.spent c.args.self.now c.self.view_is c.enter-going.ensures.ok c.enter-going.ensures.err c.requires.fits in
    let apart : length (overlays new.history.past) ≢ length (overlays old.history.past) = λ e. c.if-version_of-version.false (c.version_of.ensures ∙ (e ∙ sym c.version_of-version.ensures)) in
    let decides_them : lays c.args.work ≡ decided → c.in_ok-rows.rows ≡ first_rows (pending old.history.past) = λ is. c.in_ok-rows.ensures (decides c.args.work is) ∙ ap (λ (r : RoomView). first_rows (pending r.history.past)) (sym c.self.view_is) in
    let laid = laid_by (reverse went.more) c.in_ok-rows.rows in
    let next = next_version (lays c.args.work) c.args.number (work_share c.args.work old.history.group old.lines) old.history.past new.history.past c.in_ok-rows.rows went decides_them apart in
    let going : c.self.inside.spent ≡ false = ap (λ (r : RoomView). r.spent) c.self.view_is ∙ c.requires.open in
    let after : RoomView = record { history = new.history; lines = new.lines; published = c.publish.new.self; spent = true } in
    let refused : WasRefused (record { history = old.history; lines = old.lines; published = board; spent = c.self.inside.spent }) after =
    record { board = c.in-Err.ensures.err; more = refused_more old.history new.history board c.self.inside.spent laid next going c.self.invariant } in
    λ is. (subst (λ (r : RoomView). WasRefused r after) c.self.view_is refused, refl)

pub returns-in_err-rows-clause-part : goal.returns-in_err-rows-clause-part
returns-in_err-rows-clause-part g c =
    let h = c.args.self.now in
    let ran = work-ran c.args.work c.args.number h.history.group h.lines h.history.past c.requires.fits in
    (ran.more, ran.all)

pub returns-then-version_of-version-clause-full : goal.returns-then-version_of-version-clause-full
returns-then-version_of-version-clause-full g c =
    let old = c.self.inside.world in
    let new = c.enter-going.new.world in
    let fits : WorkFits c.args.work old.history.group = subst (λ (r : RoomView). WorkFits c.args.work r.history.group) (sym c.self.view_is) c.requires.fits in
    work_full c.enter-going.result c.args.number c.args.work old new c.enter-going.ensures.ok fits c.is_legal.ensures.legal

pub returns-in-Ok-clause-full : goal.returns-in-Ok-clause-full
returns-in-Ok-clause-full g c =
    let old = c.self.inside.world in
    let new = c.enter-going.new.world in
    let fits : WorkFits c.args.work old.history.group = subst (λ (r : RoomView). WorkFits c.args.work r.history.group) (sym c.self.view_is) c.requires.fits in
    work_full c.enter-going.result c.args.number c.args.work old new c.enter-going.ensures.ok fits c.is_legal.ensures.legal

pub returns-then-version_of-version-clause-adds : goal.returns-then-version_of-version-clause-adds
returns-then-version_of-version-clause-adds g c =
    let old = c.self.inside.world in
    let new = c.enter-going.new.world in
    adds_from c.enter-going.result c.args.number c.args.work old new c.self.inside.held.board c.self.inside.spent c.args.self.now c.self.view_is c.enter-going.ensures.ok c.enter-going.ensures.err c.requires.fits

pub returns-in-Ok-clause-adds : goal.returns-in-Ok-clause-adds
returns-in-Ok-clause-adds g c =
    let old = c.self.inside.world in
    let new = c.enter-going.new.world in
    adds_from c.enter-going.result c.args.number c.args.work old new c.self.inside.held.board c.self.inside.spent c.args.self.now c.self.view_is c.enter-going.ensures.ok c.enter-going.ensures.err c.requires.fits

pub returns-clause-adds : goal.returns-clause-adds
returns-clause-adds g c =
    let old = c.self.inside.world in
    let new = c.enter-going.new.world in
    adds_from c.enter-going.result c.args.number c.args.work old new c.self.inside.held.board c.self.inside.spent c.args.self.now c.self.view_is c.enter-going.ensures.ok c.enter-going.ensures.err c.requires.fits
