use Rattle.std.proofs.Common.{rules, ap₂, ◌≡◌, ◌∙◌, codes}
use Rattle.std.proofs.lemmas.Result.{IfOk-weaker}
use Rattle.clap.specs.Words.{app_of, rule_of, with_rule}
use Rattle.st_words.specs.CommandLine.{option_arg, command_arg, bare_app}
use Rattle.st_words.proofs.command_line.flat_command.Goals as goal

pub returns : goal.returns
returns c =
    let form_is : rule_of c.long-form.result ≡ option_arg (codes "form") = search rules in
    let pods_is : rule_of c.long-pods.result ≡ option_arg (codes "pods") = search rules in
    let seed_is : rule_of c.long-seed.result ≡ option_arg (codes "seed") = search rules in
    let to_is : rule_of c.long-to.result ≡ option_arg (codes "to") = search rules in
    let word_is : rule_of c.required-word.result ≡ command_arg = search rules in
    let bare_is : app_of c.disable_help_flag-command.result ≡ bare_app = search rules in
    let one = c.in_ok-command.ensures.shape (search rules) ∙ ap₂ with_rule bare_is form_is in
    let two = c.in_ok-command-2.ensures.shape (search rules) ∙ ap₂ with_rule one pods_is in
    let three = c.in_ok-command-3.ensures.shape (search rules) ∙ ap₂ with_rule two seed_is in
    let four = c.in_ok-command-4.ensures.shape (search rules) ∙ ap₂ with_rule three to_is in
    IfOk-weaker c.arg-5.result _ _ (λ command adds. adds.shape (search rules) ∙ ap₂ with_rule four word_is) c.arg-5.ensures
