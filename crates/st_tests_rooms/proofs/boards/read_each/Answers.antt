use Rattle.std.proofs.Common.{◌≡◌, ◌+◌, ◌<◌, ◌++◌, ◌∷◌, [], List, All, get_or, length, ap, sym, subst, ◌∙◌, arith, length-append}
use Rattle.std.proofs.lemmas.List.{get_or-append-add}
use Rattle.std.proofs.lemmas.List.Elements.{All-take}
use Rattle.st_net.specs.Groups.{IsEntityOf}
use Rattle.st_board.specs.Published.{Published}
use Rattle.st_tests_rooms.proofs.boards.read_each.Goals as goal

pub read_once-reader-requires : goal.read_once-reader-requires
read_once-reader-requires c =
    let rest = c.pop.new.self.items in
    let reader = c.in-Some.reader in
    let items : c.loop.readers.items ≡ rest ++ reader ∷ [] = c.in-Some.ensures.items in
    let count : length rest + 0 < length c.loop.readers.items = omega (arith, ap length items, length-append rest (reader ∷ [])) in
    let last = ap (λ (xs : List Published). get_or xs (length rest + 0) reader) items ∙ get_or-append-add rest (reader ∷ []) 0 reader in
    subst (λ (r : Published). IsEntityOf r.group c.args.at) last (c.loop.invariant (length rest + 0) reader count)

pub loop-preserved : goal.loop-preserved
loop-preserved c =
    let P : Published → Type 0 = λ r. IsEntityOf r.group c.args.at in
    subst (All P) (sym c.in-Some.ensures.rest) (All-take P _ c.loop.readers.items c.loop.invariant)
