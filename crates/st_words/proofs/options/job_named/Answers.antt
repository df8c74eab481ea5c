use Rattle.std.proofs.Common.{refl, codes}
use Rattle.st_words.proofs.Rules.{other_text}
use Rattle.st_words.proofs.options.job_named.Goals as goal

-- no command has this name
pub returns-in_default : goal.returns-in_default
returns-in_default c =
    let name = c.args.command.now in
    rw (
      other_text name (codes "serial") c.in_default.not-serial,
      other_text name (codes "run") c.in_default.not-run,
      other_text name (codes "replay") c.in_default.not-replay,
      other_text name (codes "check") c.in_default.not-check,
      other_text name (codes "roll") c.in_default.not-roll,
      other_text name (codes "revert") c.in_default.not-revert,
      other_text name (codes "gen") c.in_default.not-gen,
      other_text name (codes "demo") c.in_default.not-demo,
    ) refl
