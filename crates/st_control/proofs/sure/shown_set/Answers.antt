use Rattle.std.proofs.Common.{◌≡◌, ℕ, List, ap, rules}
use Rattle.std.specs.Prelude.{Bool, ◌&&◌, Result, Ok, Err, IfOk}
use Rattle.st_net.specs.declared.entity.Entity.{Entity}
use Rattle.st_net.specs.declared.message.Report.{Report}
use Rattle.st_net.specs.Groups.{Group}
use Rattle.st_net.specs.Sets.{Marks, MarksOf, is_in, is_of}
use Rattle.st_overlay.specs.Values.{Values}
use Rattle.st_control.specs.declared.settled.Shown.{Shown}
use Rattle.st_control.specs.Sure.{shown_by, MarksShown}
use Rattle.st_control.proofs.sure.shown_set.Goals as goal

marked : {E : Type 0} (shown : Shown) (g : Group) (observed : List Report) (stamps : List ℕ) (values : Values) (result : Result Marks E) → IfOk result (MarksOf g) → IfOk result (λ set. is_in set ≡ (λ e. is_of g e && shown_by shown g observed stamps values e)) → IfOk result (MarksShown shown g observed stamps values)
marked shown g observed stamps values (Ok set) marks is = record { marks = marks; shown_is = λ e. ap (λ (s : Entity → Bool). s e) is }
marked shown g observed stamps values (Err e) marks is = marks

pub returns : goal.returns
returns c =
    let g = c.args.topo.now in
    marked c.args.shown g c.args.observed.now c.args.stamps.now c.args.table.now c.passing.result c.passing.ensures.of
    (c.passing.ensures.passing (shown_by c.args.shown g c.args.observed.now c.args.stamps.now c.args.table.now) (λ e b own post. search rules))
