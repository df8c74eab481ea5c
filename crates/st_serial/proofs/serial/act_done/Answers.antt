use Rattle.std.proofs.Common.{◌<◌, length, set, sym, ◌∙◌, ap}
use Rattle.st_serial.proofs.Runs.{logged_one}
use Rattle.st_serial.proofs.Worlds.{world_there, world_fits, world_read, world_acted}
use Rattle.st_serial.proofs.serial.act_done.Goals as goal

pub seen_by-requires : goal.seen_by-requires
seen_by-requires c = world_fits c.args.act.now c.args.worlds.now c.group_number-group.result c.index-worlds-group.result c.group_number-group.ensures c.requires.fits

pub act-requires : goal.act-requires
act-requires c = world_fits c.args.act.now c.args.worlds.now c.group_number-group.result c.index-worlds-group.result c.group_number-group.ensures c.requires.fits

pub returns-in_ok-add-in-Some : goal.returns-in_ok-add-in-Some
returns-in_ok-add-in-Some c =
    let ws = c.args.worlds.now in
    let n = c.group_number-group.result in
    let low : n < length ws = world_there c.args.act.now ws n c.group_number-group.ensures c.requires.fits in
    world_read c.args.app c.args.act.now ws c.args.logs.now (set c.args.logs.now c.args.app.0 c.add.new.self) n c.index-worlds-group.result c.in-Some.entry c.group_number-group.ensures low (sym c.in-Some.is ∙ c.seen_by.ensures)
    (ap (set c.args.logs.now c.args.app.0) c.in_ok-add-in-Some.ensures.ok ∙ logged_one c.args.app.0 c.in-Some.entry c.args.logs.now c.index-logs-app.result c.requires.app)

pub returns-in_ok-act-in-None : goal.returns-in_ok-act-in-None
returns-in_ok-act-in-None c =
    let ws = c.args.worlds.now in
    let n = c.group_number-group.result in
    let low : n < length ws = world_there c.args.act.now ws n c.group_number-group.ensures c.requires.fits in
    world_acted c.args.app c.args.act.now ws c.args.logs.now n c.index-worlds-group.result c.act.new.self c.in_ok-act-in-None.field-0 c.full_at.result c.group_number-group.ensures low (sym c.in-None.is ∙ c.seen_by.ensures) c.act.ensures.setting c.in_ok-act-in-None.ensures.ok c.full_at.ensures
