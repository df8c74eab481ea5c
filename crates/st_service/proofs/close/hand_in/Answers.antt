-- A pass stands in each room: its place there was as the pass had it, until it was taught, and the room's line is as it was.
use Rattle.std.proofs.Common.{below_more, ◌≡◌, ℕ, ◌<◌, length, map, get_or, ap, sym, subst, ◌∙◌, arith}
use Rattle.std.proofs.lemmas.List.{length-map, length-set, get_or-set_other, get_or_default}
use Rattle.st_line.specs.Lines.{Reached}
use Rattle.st_service.specs.declared.close.Shut.{Shut}
use Rattle.st_service.specs.declared.line.Batch.{Batch}
use Rattle.st_service.specs.declared.place.Place.{Place}
use Rattle.st_service.specs.Closed.{Stands}
use Rattle.st_service.specs.Lines.{flat}
use Rattle.st_service.specs.Made.{IsMine}
use Rattle.st_service.specs.Passes.{Holder}
use Rattle.st_service.proofs.ClosingLaws.{mapped_at, mapped_long, place_stands}
use Rattle.st_service.proofs.Mines.{kept_all}
use Rattle.st_service.proofs.close.hand_in.Goals as goal

-- room and place are of the number that the loop is at
pub stand_in-requires : goal.stand_in-requires
stand_in-requires g c =
    let group = λ (t : Shut g.row.J.Denot g.row.H.Denot g.J.Naming). t.group in
    let places = c.pass.inside.places.items in
    let rooms = c.loop-group.shut in
    let shut = c.args.shut.now in
    let n = c.loop-group.group in
    let inv = c.loop-group.invariant in
    let x = c.index_mut.result.now in
    let s = c.index-shut-group.result in
    let low : n < length shut = omega (arith, c.loop-group-test.true) in
    let fronts : map (λ (q : Place g.row.J.Denot g.J.Naming). flat q.seen.log) places ≡ c.args.pass.fronts = ap (λ (h : Holder). h.fronts) c.pass.view_is in
    let there : n < length places = omega (arith, c.requires.rooms, ap length fronts, length-map places (λ (q : Place g.row.J.Denot g.J.Naming). flat q.seen.log), low) in
    let at : x ≡ get_or places n x = c.index_mut.ensures.value ∙ inv.left n x (omega arith) in
    let number : (get_or rooms n s).group ≡ n = mapped_at group rooms shut n s inv.groups low ∙ c.requires.groups n s low in
    record { group = number ∙ sym (ap (λ (q : Place g.row.J.Denot g.J.Naming). q.group) at ∙ (c.pass.invariant.0 n x there).0) }

-- the place that was written was as it had been in the pass, and so was the room
pub loop-group-preserved : goal.loop-group-preserved
loop-group-preserved g c =
    let log = λ (q : Place g.row.J.Denot g.J.Naming). flat q.seen.log in
    let mine = λ (q : Place g.row.J.Denot g.J.Naming). q.mine.items in
    let reader = λ (q : Place g.row.J.Denot g.J.Naming). q.reader in
    let group = λ (t : Shut g.row.J.Denot g.row.H.Denot g.J.Naming). t.group in
    let line = λ (t : Shut g.row.J.Denot g.row.H.Denot g.J.Naming). t.line in
    let places = c.pass.inside.places.items in
    let now = c.loop-group.places.items in
    let rooms = c.loop-group.shut in
    let n = c.loop-group.group in
    let inv = c.loop-group.invariant in
    let x = c.index_mut.result.now in
    let new = c.stand_in.new.place in
    let shut = c.args.shut.now in
    let s = get_or rooms n c.index-shut-group.result in
    let low : n < length shut = omega (arith, c.loop-group-test.true) in
    let here : n < length rooms = omega (arith, low, mapped_long group rooms shut inv.groups) in
    let room : s ≡ get_or rooms n s = get_or_default rooms n c.index-shut-group.result s here in
    let front = flat s.line.log in
    let fronts : map log places ≡ c.args.pass.fronts = ap (λ (h : Holder). h.fronts) c.pass.view_is in
    let there : n < length places = omega (arith, c.requires.rooms, ap length fronts, length-map places log, low) in
    let at : x ≡ get_or places n x = c.index_mut.ensures.value ∙ inv.left n x (omega arith) in
    let number : x.number ≡ c.pass.inside.number = ap (λ (q : Place g.row.J.Denot g.J.Naming). q.number) at ∙ (c.pass.invariant.0 n x there).1 in
    let own : IsMine c.pass.inside.number front x.mine.items = subst (λ (p : ℕ). IsMine p front x.mine.items) number c.stand_in.ensures.mine in
    let stand : Stands c.args.pass front n = subst (λ (h : Holder). Stands h front n) c.pass.view_is
    (place_stands log mine reader c.pass.inside.number c.pass.inside.log places x n front there at c.stand_in.ensures.begins own c.stand_in.ensures.reads) in
    let same : (d : Shut g.row.J.Denot g.row.H.Denot g.J.Naming) → s.line ≡ (get_or shut n d).line = λ d. ap line (get_or_default rooms n c.index-shut-group.result d here) ∙ mapped_at line rooms shut n d inv.lines low in
    record {
      count = length-set now n new ∙ inv.count;
      left = λ j d over. get_or-set_other now n j new d (λ same. omega (arith, same, over)) ∙ inv.left j d (omega (arith, over));
      groups = kept_all group rooms n s c.stand_in.new.shut room c.stand_in.ensures.same.0 ∙ inv.groups;
      lines = kept_all line rooms n s c.stand_in.new.shut room c.stand_in.ensures.same.1 ∙ inv.lines;
      stands = λ k d lt. below_more (λ (i : ℕ). Stands c.args.pass (flat (get_or shut i d).line.log) i) n (λ i less. inv.stands i d less)
          (subst (λ (r : Reached Batch). Stands c.args.pass (flat r.log) n) (same d) stand) k lt;
    }
