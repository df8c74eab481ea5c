-- The journals of a closed service are whole.
use Rattle.std.proofs.Common.{◌≡◌, ℕ, ◌<◌, List, [], length, map, get_or, reverse, sum_by, true, ap, sym, subst, ◌∙◌, arith}
use Rattle.std.proofs.lemmas.List.{get_or-map, length-map}
use Rattle.st_line.specs.Lines.{Reached}
use Rattle.st_service.specs.declared.close.Shut.{Shut}
use Rattle.st_service.specs.declared.line.Batch.{Batch}
use Rattle.st_service.specs.Asked.{all_asked}
use Rattle.st_service.specs.Closed.{Stands, entered}
use Rattle.st_service.specs.Lines.{flat}
use Rattle.st_service.specs.Made.{Made, past_in}
use Rattle.st_service.specs.Passes.{Holder, front_at}
use Rattle.st_service.proofs.ClosingLaws.{AreLong, AllStand, mapped_at, mapped_long, stand_mapped, sum_by_map, whole_at}
use Rattle.st_service.proofs.FreshLaws.{written_back}
use Rattle.st_service.proofs.Mines.{item_at}
use Rattle.st_service.proofs.service.Service.close.Goals as goal

-- the amounts that came back are the total, so all passes together have as many places as there are entries
pub returns-clause-whole : goal.returns-clause-whole
returns-clause-whole g c =
    let self = c.args.self in
    let passes = c.args.passes.items in
    let shut = c.in_ok-shut.shut.items in
    let log = λ (s : Shut g.row.J.Denot g.row.H.Denot g.J.Naming). flat s.line.log in
    let fronts = map log shut in
    let ended = c.in_ok-shut.ensures in
    let handed = c.in_ok-logs.ensures in
    let taken = c.in_ok-journals.ensures in
    let line = λ (s : Shut g.row.J.Denot g.row.H.Denot g.J.Naming). s.line in
    let now = c.hand_in_all.new.shut in
    let same = c.deref_mut.ensures.value in
    let lines : map line now ≡ map line shut = c.hand_in_all.ensures.lines ∙ ap (map line) same in
    let v = c.in_ok-shut.shut in
    let len : v.len ≡ length v.items = omega (arith, v.ok.0) in
    let back = written_back v.items now v.len len (mapped_long line now shut lines) in
    let many : length fronts ≡ length shut = length-map shut log in
    let amount = c.audit.ensures.whole (omega (arith, ended.parts, handed.parts, c.into_inner-own.result.part.0, self.parts, c.requires.all)) in
    let sums : sum_by entered passes ≡ sum_by length fronts = omega (arith, amount, ended.units, handed.amount, c.into_inner-own.result.part.1, self.amount, sum_by_map log length shut) in
    let long : AreLong passes (length fronts) = λ n p ln. handed.lengths n p ln ∙ (ap length same ∙ sym many) in
    let stands : AllStand passes fronts = stand_mapped log passes shut
    (subst (λ (l : List (Shut g.row.J.Denot g.row.H.Denot g.J.Naming)). (n : ℕ) (p : Holder) (k : ℕ) (d : Shut g.row.J.Denot g.row.H.Denot g.J.Naming) → n < length passes → k < length l → Stands (get_or passes n p) (log (get_or l k d)) k) same handed.stands) in
    λ k j lt.
    let low : k < length shut = omega (arith, taken.count, lt, ap length back, mapped_long line now shut lines) in
    let it = item_at shut k low in
    let front : front_at fronts k ≡ log (get_or shut k it.0) = get_or-map log shut k it.0 [] low in
    let legal = taken.legal k j lt in (
      front_at fronts k,
      whole_at (g.J.Naming.group k) passes fronts k (get_or c.in_ok-journals.journals.items k j).entries c.requires.numbers long stands sums (omega (arith, low, many))
          (ap past_in front ∙ (ap (λ (r : Reached Batch). past_in (flat r.log)) (sym (mapped_at line now shut k it.0 lines low)) ∙ subst (λ (ss : List (Shut g.row.J.Denot g.row.H.Denot g.J.Naming)). past_in (flat (get_or ss k it.0).line.log) ≡ reverse (get_or c.in_ok-journals.journals.items k j).entries) back (taken.entries k j it.0 lt))) legal.0 legal.1 (subst (λ (l : List Made). all_asked l ≡ true) (sym front) (get_or shut k it.0).asked),
    )

pub take_journals-requires-clause-groups : goal.take_journals-requires-clause-groups
take_journals-requires-clause-groups g c =
    let group = λ (s : Shut g.row.J.Denot g.row.H.Denot g.J.Naming). s.group in
    let v = c.in_ok-shut.shut in
    let len : v.len ≡ length v.items = omega (arith, v.ok.0) in
    let now = c.hand_in_all.new.shut in
    let groups : map group now ≡ map group v.items = c.hand_in_all.ensures.groups ∙ ap (map group) c.deref_mut.ensures.value in
    let same = mapped_long group now v.items groups in
    subst (λ (ss : List (Shut g.row.J.Denot g.row.H.Denot g.J.Naming)). (k : ℕ) (d : Shut g.row.J.Denot g.row.H.Denot g.J.Naming) → k < length ss → (get_or ss k d).group ≡ k) (sym (written_back v.items now v.len len same))
    (λ k d lt. let low : k < length v.items = omega (arith, lt, same) in mapped_at group now v.items k d groups low ∙ c.in_ok-shut.ensures.groups k d low)

pub take_journals-requires-clause-few : goal.take_journals-requires-clause-few
take_journals-requires-clause-few g c =
    let group = λ (s : Shut g.row.J.Denot g.row.H.Denot g.J.Naming). s.group in
    let v = c.in_ok-shut.shut in
    let len : v.len ≡ length v.items = omega (arith, v.ok.0) in
    let same = mapped_long group c.hand_in_all.new.shut v.items (c.hand_in_all.ensures.groups ∙ ap (map group) c.deref_mut.ensures.value) in
    omega (arith, ap length (written_back v.items c.hand_in_all.new.shut v.len len same), same, c.in_ok-shut.ensures.count, c.args.self.few)

pub returns-clause-journals : goal.returns-clause-journals
returns-clause-journals g c =
    let group = λ (s : Shut g.row.J.Denot g.row.H.Denot g.J.Naming). s.group in
    let v = c.in_ok-shut.shut in
    let len : v.len ≡ length v.items = omega (arith, v.ok.0) in
    let same = mapped_long group c.hand_in_all.new.shut v.items (c.hand_in_all.ensures.groups ∙ ap (map group) c.deref_mut.ensures.value) in
    omega (arith, c.in_ok-journals.ensures.count, ap length (written_back v.items c.hand_in_all.new.shut v.len len same), same, c.in_ok-shut.ensures.count)
