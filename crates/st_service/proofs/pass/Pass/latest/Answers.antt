-- The ticket that a pass keeps of a room is the latest that its front gives it, and was given.
use Rattle.std.proofs.Common.{ℕ, ◌≡◌, ◌<◌, length, List, [], map, get_or, sym, ap, subst, ◌∙◌, arith}
use Rattle.std.specs.Prelude.{Option, IfSome}
use Rattle.std.proofs.lemmas.List.{length-map}
use Rattle.st_event.specs.Legal.{IsLegal}
use Rattle.st_service.specs.declared.place.Place.{Place}
use Rattle.st_service.specs.Lines.{flat}
use Rattle.st_service.specs.Made.{Made, past_in}
use Rattle.st_service.specs.Passes.{Holder, front_at, mine_at}
use Rattle.st_service.specs.Works.{IsGiven}
use Rattle.st_service.proofs.GivenLaws.{latest_given}
use Rattle.st_service.proofs.Mines.{read_at}
use Rattle.st_service.proofs.pass.Pass.latest.Goals as goal

pub returns-clause-latest : goal.returns-clause-latest
returns-clause-latest g c =
    let log = λ (q : Place g.row.J.Denot g.J.Naming). flat q.seen.log in
    let mine = λ (q : Place g.row.J.Denot g.J.Naming). q.mine.items in
    let places = c.self.inside.places.items in
    let n = c.args.group in
    let here = c.index.result.now in
    let fronts : map log places ≡ c.args.self.now.fronts = ap (λ (h : Holder). h.fronts) c.self.view_is in
    let mines : map mine places ≡ c.args.self.now.mines = ap (λ (h : Holder). h.mines) c.self.view_is in
    let there : n < length places = omega (arith, c.requires, ap length fronts, length-map places log) in
    let front : front_at c.args.self.now.fronts n ≡ flat here.seen.log = ap (λ (l : List (List Made)). get_or l n []) (sym fronts) ∙ read_at log places n here there c.index.ensures in
    let numbers : mine_at c.args.self.now.mines n ≡ here.mine.items = ap (λ (l : List (List ℕ)). get_or l n []) (sym mines) ∙ read_at mine places n here there c.index.ensures in
    rw (front, numbers) here.asked

pub returns-clause-given : goal.returns-clause-given
returns-clause-given g c =
    let log = λ (q : Place g.row.J.Denot g.J.Naming). flat q.seen.log in
    let places = c.self.inside.places.items in
    let n = c.args.group in
    let here = c.index.result.now in
    let at = c.index.ensures in
    let fronts : map log places ≡ c.args.self.now.fronts = ap (λ (h : Holder). h.fronts) c.self.view_is in
    let there : n < length places = omega (arith, c.requires, ap length fronts, length-map places log) in
    let front : front_at c.args.self.now.fronts n ≡ flat here.seen.log = ap (λ (l : List (List Made)). get_or l n []) (sym fronts) ∙ read_at log places n here there at in
    let legal : IsLegal (g.J.Naming.group n) (past_in (flat here.seen.log)) = subst (λ (q : Place g.row.J.Denot g.J.Naming). IsLegal (g.J.Naming.group n) (past_in (flat q.seen.log))) (sym at) (c.self.invariant.0 n here there).2 in
    let given = latest_given (g.J.Naming.group n) (flat here.seen.log) here.mine.items legal in
    rw front (subst (λ (o : Option ℕ). IfSome o (λ ticket. IsGiven ticket (past_in (flat here.seen.log)))) (sym here.asked) given)
