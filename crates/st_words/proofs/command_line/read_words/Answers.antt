use Rattle.std.proofs.Common.{◌≡◌, ◌∙◌, ⊎_elim, ap, sym, subst, true, map}
use Rattle.std.specs.Prelude.{string_bytes}
use Rattle.clap.specs.Kinds.{IsAmong}
use Rattle.clap.specs.Matches.{found_of}
use Rattle.clap.specs.Simple.{App, app_of, is_simple, matches_of}
use Rattle.clap.specs.Values.{kind_of}
use Rattle.clap.specs.Faults.{fault_of, is_simple_and_free}
use Rattle.st_words.specs.CommandLine.{flat_app}
use Rattle.st_words.proofs.Rules.{flat_is_simple, flat_is_free}
use Rattle.st_words.proofs.Asked.{asked_ok, asked_none}
use Rattle.st_words.proofs.command_line.read_words.Goals as goal

pub returns-in-Ok : goal.returns-in-Ok
returns-in-Ok c =
    let words = map string_bytes c.args.words.now in
    let app : app_of c.in_ok-command.command ≡ flat_app = c.in_ok-command.ensures in
    let free = subst (λ (a : App). is_simple_and_free a ≡ true) (sym app) flat_is_free in
    let fine = sym (ap (λ (a : App). fault_of a words) app) ∙ c.in-Ok.ensures.kinds free in
    let rows = (c.in-Ok.ensures.matches (ap is_simple app ∙ flat_is_simple)).0 ∙ ap (λ (a : App). matches_of a words) app in
    c.job_of.ensures ∙ asked_ok words (found_of c.in-Ok.matches) fine rows

pub returns : goal.returns
returns c =
    let words = map string_bytes c.args.words.now in
    let app : app_of c.in_ok-command.command ≡ flat_app = c.in_ok-command.ensures in
    let free = subst (λ (a : App). is_simple_and_free a ≡ true) (sym app) flat_is_free in
    ⊎_elim (λ memory. absurd (c.in_default.not-OutOfMemory (c.kind.ensures ∙ memory)))
    (λ among. asked_none words (kind_of c.in-Err.error) (subst (λ (a : App). IsAmong (kind_of c.in-Err.error) (fault_of a words)) app among))
    (c.in-Err.ensures.kinds free)
