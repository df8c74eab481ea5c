use Rattle.serde_json.specs.View.{view}
use Rattle.st_player.proofs.SafeLemmas.{put_or_not}
use Rattle.st_player.proofs.safe_json.JsonObject.put.Goals as goal

pub invariant_of-self : goal.invariant_of-self
invariant_of-self c =
    put_or_not c.put.result c.self.inside.members.entries c.put.new.map.entries c.args.key.now (view c.json.inside.value) c.requires c.json.invariant c.self.invariant c.put.ensures.ok c.put.ensures.err
