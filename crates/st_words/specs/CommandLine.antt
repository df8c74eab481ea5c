-- Inside: the command that `clap` is given, and the texts that it gives back. The grammar speaks of neither.
use Rattle.std.specs.Prelude.{Some, true, codes, ℕ, List, Option, option_map, option_to_list}
use Rattle.std.specs.Borrow.{Bor}
use Rattle.clap.specs.Simple.{App, new_app, new_rule, with_rule, on_top}
use Rattle.clap.specs.Walk.{Rule}
use Rattle.clap.specs.Matches.{first_value}
use Rattle.clap.specs.declared.parser.matches.Found.{Found}
use Rattle.st_words.specs.declared.job.Job.{Job}
use Rattle.st_words.specs.declared.options.Options.{Options}
use Rattle.st_words.specs.Grammar.{Text}
use Rattle.st_words.specs.Jobs.{Given, given_by, job_of}

-- the values of an option that is given at most once
abbrev pub values_in : Option (Bor (List ℕ)) → List Text
values_in text = option_to_list (option_map (λ t. t.now) text)

-- the values of each option, each given at most once
abbrev pub given : Options → Given
given options = record {
  form = values_in options.form;
  pods = values_in options.pods;
  seed = values_in options.seed;
  to = values_in options.to;
}

-- an option with one text
abbrev pub option_arg : Text → Rule
option_arg name = record (new_rule name) { long = Some name }

-- the further word
abbrev pub command_arg : Rule
command_arg = record (new_rule (codes "command")) { required = true }

abbrev pub bare_app : App
bare_app = on_top (λ s. record s { no_binary_name = true; disable_help_flag = true }) (new_app (codes "statesman"))

abbrev pub with_option : App → Text → App
with_option app name = with_rule app (option_arg name)

abbrev pub flat_app : App
flat_app = with_rule (with_option (with_option (with_option (with_option bare_app (codes "form")) (codes "pods")) (codes "seed")) (codes "to")) command_arg

-- what the texts that were found ask for
abbrev pub job_found : Found → Option Job
job_found found = job_of (given_by (λ name. option_to_list (first_value found name))) (option_to_list (first_value found (codes "command")))
