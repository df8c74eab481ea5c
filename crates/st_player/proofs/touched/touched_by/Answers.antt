use Rattle.std.proofs.Common.{◌∙◌, ap, sym}
use Rattle.std.specs.Option.{option_copied}
use Rattle.st_player.proofs.Altered.{leaves_unaltered, overlay_fits}
use Rattle.st_player.proofs.Untouched.{leaves_all, leaves_others}
use Rattle.st_player.proofs.touched.touched_by.Goals as goal

pub altered-requires : goal.altered-requires
altered-requires c =
    let h = c.args.world.now.history in
    let laid = sym c.overlay_of.ensures ∙ ap option_copied c.in-Some.is in
    overlay_fits h.group h.past c.args.entry.now c.in-Some.rows.now c.is_legal.ensures.sound c.is_legal.ensures.legal c.requires laid

pub returns-in-Some : goal.returns-in-Some
returns-in-Some c =
    let laid = sym c.overlay_of.ensures ∙ ap option_copied c.in-Some.is in
    leaves_unaltered c.args.world.now.history c.args.entry.now c.in-Some.rows.now c.in_ok-set.set c.is_legal.ensures.sound c.is_legal.ensures.legal c.requires laid c.in_ok-set.ensures.of c.in_ok-set.ensures.altered

pub returns-in-Some-moved_by : goal.returns-in-Some-moved_by
returns-in-Some-moved_by c =
    let none = sym c.overlay_of.ensures ∙ ap option_copied c.in_default.is in
    leaves_others c.args.world.now.history c.args.entry.now c.in-Some-moved_by.entity c.is_legal.ensures.legal c.requires none (sym c.moved_by.ensures ∙ c.in-Some-moved_by.is)

pub returns-in-None : goal.returns-in-None
returns-in-None c =
    let none = sym c.overlay_of.ensures ∙ ap option_copied c.in_default.is in
    leaves_all c.args.world.now.history c.args.entry.now none (sym c.moved_by.ensures ∙ c.in-None.is)
