use Rattle.std.proofs.Common.{◌∙◌, ◌∷◌, [], refl, ap, sym}
use Rattle.std.specs.Prelude.{flat_map}
use Rattle.std.proofs.lemmas.List.{take_all}
use Rattle.st_text.specs.Words.{spaced}
use Rattle.st_net.specs.declared.entity.Entity.{Entity}
use Rattle.st_net.specs.Groups.{name_of}
use Rattle.st_report.proofs.Adding.{flat_next}
use Rattle.st_report.proofs.Gathered.{names_are}
use Rattle.st_report.proofs.state.name_lines.Goals as goal

pub loop-entity-init : goal.loop-entity-init
loop-entity-init c = c.new-lines.ensures

pub loop-entity-preserved : goal.loop-entity-preserved
loop-entity-preserved c =
    flat_next (λ (e : Entity). spaced (name_of c.args.topo.now e ∷ []) ∷ []) c.args.entities.now c.loop-entity.entity-index _ _ [] c.loop-entity.lines c.add_name.new.lines c.loop-entity-test.true refl c.loop-entity.invariant c.in_ok-add_name.ensures

pub returns : goal.returns
returns c = c.loop-entity.invariant ∙ (ap (flat_map (λ (e : Entity). spaced (name_of c.args.topo.now e ∷ []) ∷ [])) (take_all c.loop-entity.entity-index c.args.entities.now c.loop-entity-test.false) ∙ sym (names_are c.args.topo.now c.args.entities.now))
