-- Lists of words, computed: what the grammar takes, and for each of its rules words that break this rule and no other.
use Rattle.std.proofs.Common.{◌≡◌, true, false, List, [], ◌∷◌, refl, codes, Some, None}
use Rattle.st_words.specs.declared.job.Form.TheVariants as form
use Rattle.st_words.specs.declared.job.Pods.TheVariants.{Four, Ten}
use Rattle.st_words.specs.declared.job.Job.TheVariants.{Serial, Run, Replay, Check, Roll, Revert, Gen, Demo}
use Rattle.st_words.specs.Grammar.{Text, option, further, parts_of}
use Rattle.st_words.specs.Jobs.{only, job_asked}

-- lists of one to four words
abbrev one : Text → List Text
one a = a ∷ []

abbrev two : Text → Text → List Text
two a b = a ∷ b ∷ []

abbrev three : Text → Text → Text → List Text
three a b c = a ∷ b ∷ c ∷ []

abbrev five : Text → Text → Text → Text → Text → List Text
five a b c d e = a ∷ b ∷ c ∷ d ∷ e ∷ []

-- ---- what is taken

serial_alone : job_asked (one (codes "serial")) ≡ Some (Serial form.Text)
serial_alone = refl

run_as_json : job_asked (three (codes "run") (codes "--form") (codes "json")) ≡ Some (Run form.Json)
run_as_json = refl

option_first : job_asked (three (codes "--form") (codes "replay") (codes "replay")) ≡ Some (Replay form.Replay)
option_first = refl

option_as_one_word : job_asked (two (codes "--form=json") (codes "serial")) ≡ Some (Serial form.Json)
option_as_one_word = refl

check_alone : job_asked (one (codes "check")) ≡ Some Check
check_alone = refl

gen_alone : job_asked (one (codes "gen")) ≡ Some (Gen (record { pods = Four; seed = 0 }))
gen_alone = refl

demo_of_ten : job_asked (five (codes "--seed") (codes "7") (codes "demo") (codes "--pods") (codes "10")) ≡ Some (Demo (record { pods = Ten; seed = 7 }))
demo_of_ten = refl

greatest_seed : job_asked (two (codes "gen") (codes "--seed=4294967295")) ≡ Some (Gen (record { pods = Four; seed = 4294967295 }))
greatest_seed = refl

roll_to : job_asked (three (codes "roll") (codes "--to") (codes "2")) ≡ Some (Roll 2)
roll_to = refl

revert_to_the_opening : job_asked (two (codes "--to=0") (codes "revert")) ≡ Some (Revert 0)
revert_to_the_opening = refl

greatest_number_to : job_asked (two (codes "revert") (codes "--to=4294967295")) ≡ Some (Revert 4294967295)
greatest_number_to = refl

command_behind_dashes : job_asked (three (codes "--form=text") (codes "--") (codes "serial")) ≡ Some (Serial form.Text)
command_behind_dashes = refl

dashes_at_the_end : job_asked (two (codes "serial") (codes "--")) ≡ Some (Serial form.Text)
dashes_at_the_end = refl

-- ---- at most one of each option

form_twice : job_asked (three (codes "serial") (codes "--form=text") (codes "--form=text")) ≡ None
form_twice = refl

pods_twice : job_asked (five (codes "gen") (codes "--pods") (codes "4") (codes "--pods") (codes "4")) ≡ None
pods_twice = refl

seed_in_both_spellings : job_asked (codes "gen" ∷ codes "--seed" ∷ codes "0" ∷ codes "--seed=0" ∷ []) ≡ None
seed_in_both_spellings = refl

to_twice : job_asked (three (codes "roll") (codes "--to=1") (codes "--to=1")) ≡ None
to_twice = refl

to_in_both_spellings : job_asked (codes "revert" ∷ codes "--to" ∷ codes "1" ∷ codes "--to=2" ∷ []) ≡ None
to_in_both_spellings = refl

-- ---- exactly one further word, and a command

no_words : job_asked [] ≡ None
no_words = refl

no_command : job_asked (one (codes "--form=text")) ≡ None
no_command = refl

command_twice : job_asked (two (codes "serial") (codes "serial")) ≡ None
command_twice = refl

second_further_word_behind_dashes : job_asked (three (codes "serial") (codes "--") (codes "serial")) ≡ None
second_further_word_behind_dashes = refl

empty_word_too : job_asked (two (codes "serial") []) ≡ None
empty_word_too = refl

no_such_command : job_asked (one (codes "status")) ≡ None
no_such_command = refl

help_is_no_command : job_asked (one (codes "help")) ≡ None
help_is_no_command = refl

two_commands_to : job_asked (three (codes "roll") (codes "revert") (codes "--to=1")) ≡ None
two_commands_to = refl

number_as_a_further_word : job_asked (two (codes "roll") (codes "2")) ≡ None
number_as_a_further_word = refl

command_in_capitals : job_asked (one (codes "Serial")) ≡ None
command_in_capitals = refl

-- ---- an option is written in full, and has a value

no_such_option : job_asked (two (codes "serial") (codes "--from=text")) ≡ None
no_such_option = refl

shortened_option : job_asked (two (codes "serial") (codes "--for=text")) ≡ None
shortened_option = refl

short_option : job_asked (three (codes "serial") (codes "-f") (codes "text")) ≡ None
short_option = refl

help_option : job_asked (two (codes "serial") (codes "--help")) ≡ None
help_option = refl

short_help_option : job_asked (two (codes "serial") (codes "-h")) ≡ None
short_help_option = refl

version_option : job_asked (two (codes "serial") (codes "--version")) ≡ None
version_option = refl

dash_alone : job_asked (two (codes "serial") (codes "-")) ≡ None
dash_alone = refl

value_left_out : job_asked (two (codes "serial") (codes "--form")) ≡ None
value_left_out = refl

number_left_out : job_asked (two (codes "roll") (codes "--to")) ≡ None
number_left_out = refl

lengthened_option : job_asked (two (codes "roll") (codes "--too=1")) ≡ None
lengthened_option = refl

-- a value of its own does not begin with a dash, not even as a part
dashed_value_in_one_word : parts_of (one (codes "--form=-")) ≡ Some (option (codes "form") (codes "-") ∷ [])
dashed_value_in_one_word = refl

dashed_value_of_its_own : parts_of (two (codes "--form") (codes "-")) ≡ None
dashed_value_of_its_own = refl

value_behind_dashes : job_asked (codes "serial" ∷ codes "--form" ∷ codes "--" ∷ codes "text" ∷ []) ≡ None
value_behind_dashes = refl

-- ---- `--` once, and no option after it

option_behind_dashes : parts_of (three (codes "--") (codes "serial") (codes "--form=text")) ≡ Some (further (codes "serial") ∷ further (codes "--form=text") ∷ [])
option_behind_dashes = refl

option_behind_dashes_is_refused : job_asked (three (codes "--") (codes "serial") (codes "--form=text")) ≡ None
option_behind_dashes_is_refused = refl

dashes_twice : job_asked (three (codes "--") (codes "--") (codes "serial")) ≡ None
dashes_twice = refl

-- ---- what the values are

no_such_form : job_asked (two (codes "serial") (codes "--form=xml")) ≡ None
no_such_form = refl

empty_form : job_asked (two (codes "serial") (codes "--form=")) ≡ None
empty_form = refl

odd_pods : job_asked (two (codes "gen") (codes "--pods=5")) ≡ None
odd_pods = refl

two_pods : job_asked (two (codes "gen") (codes "--pods=2")) ≡ None
two_pods = refl

twelve_pods : job_asked (two (codes "gen") (codes "--pods=12")) ≡ None
twelve_pods = refl

pods_with_a_zero : job_asked (two (codes "gen") (codes "--pods=04")) ≡ None
pods_with_a_zero = refl

seed_past_its_range : job_asked (two (codes "gen") (codes "--seed=4294967296")) ≡ None
seed_past_its_range = refl

seed_of_eleven_digits : job_asked (two (codes "gen") (codes "--seed=00000000001")) ≡ None
seed_of_eleven_digits = refl

seed_with_a_zero : job_asked (two (codes "gen") (codes "--seed=01")) ≡ None
seed_with_a_zero = refl

seed_with_a_sign : job_asked (two (codes "gen") (codes "--seed=+1")) ≡ None
seed_with_a_sign = refl

empty_seed : job_asked (two (codes "gen") (codes "--seed=")) ≡ None
empty_seed = refl

to_past_its_range : job_asked (two (codes "roll") (codes "--to=4294967296")) ≡ None
to_past_its_range = refl

to_past_its_range_in_revert : job_asked (two (codes "revert") (codes "--to=4294967296")) ≡ None
to_past_its_range_in_revert = refl

to_with_a_zero : job_asked (two (codes "roll") (codes "--to=02")) ≡ None
to_with_a_zero = refl

to_with_a_sign : job_asked (two (codes "revert") (codes "--to=+1")) ≡ None
to_with_a_sign = refl

to_in_letters : job_asked (two (codes "roll") (codes "--to=two")) ≡ None
to_in_letters = refl

empty_to : job_asked (two (codes "revert") (codes "--to=")) ≡ None
empty_to = refl

-- ---- an option that has to be given

roll_without_to : job_asked (one (codes "roll")) ≡ None
roll_without_to = refl

revert_without_to : job_asked (one (codes "revert")) ≡ None
revert_without_to = refl

-- ---- which options go with which command

-- `only` asks of each option that is not named whether it is absent
none_given : only [] (record { form = []; pods = []; seed = []; to = [] }) ≡ true
none_given = refl

one_named_and_given : only (codes "form" ∷ []) (record { form = one (codes "text"); pods = []; seed = []; to = [] }) ≡ true
one_named_and_given = refl

named_and_not_given : only (codes "pods" ∷ codes "seed" ∷ []) (record { form = []; pods = []; seed = one (codes "0"); to = [] }) ≡ true
named_and_not_given = refl

given_and_not_named : only (codes "to" ∷ []) (record { form = []; pods = []; seed = one (codes "0"); to = one (codes "1") }) ≡ false
given_and_not_named = refl

given_where_none_is_named : only [] (record { form = []; pods = []; seed = []; to = one (codes "1") }) ≡ false
given_where_none_is_named = refl

serial_with_to : job_asked (three (codes "serial") (codes "--to") (codes "1")) ≡ None
serial_with_to = refl

serial_with_pods : job_asked (three (codes "serial") (codes "--pods") (codes "4")) ≡ None
serial_with_pods = refl

serial_with_seed : job_asked (three (codes "serial") (codes "--seed") (codes "0")) ≡ None
serial_with_seed = refl

run_with_to : job_asked (three (codes "run") (codes "--to") (codes "1")) ≡ None
run_with_to = refl

run_with_pods : job_asked (three (codes "run") (codes "--pods") (codes "4")) ≡ None
run_with_pods = refl

run_with_seed : job_asked (three (codes "run") (codes "--seed") (codes "0")) ≡ None
run_with_seed = refl

replay_with_to : job_asked (three (codes "replay") (codes "--to") (codes "1")) ≡ None
replay_with_to = refl

replay_with_pods : job_asked (three (codes "replay") (codes "--pods") (codes "4")) ≡ None
replay_with_pods = refl

replay_with_seed : job_asked (three (codes "replay") (codes "--seed") (codes "0")) ≡ None
replay_with_seed = refl

check_with_to : job_asked (three (codes "check") (codes "--to") (codes "1")) ≡ None
check_with_to = refl

check_with_form : job_asked (three (codes "check") (codes "--form") (codes "text")) ≡ None
check_with_form = refl

check_with_pods : job_asked (three (codes "check") (codes "--pods") (codes "4")) ≡ None
check_with_pods = refl

check_with_seed : job_asked (three (codes "check") (codes "--seed") (codes "0")) ≡ None
check_with_seed = refl

roll_with_form : job_asked (three (codes "roll") (codes "--to=1") (codes "--form=text")) ≡ None
roll_with_form = refl

roll_with_pods : job_asked (three (codes "roll") (codes "--to=1") (codes "--pods=4")) ≡ None
roll_with_pods = refl

roll_with_seed : job_asked (three (codes "roll") (codes "--to=1") (codes "--seed=0")) ≡ None
roll_with_seed = refl

revert_with_form : job_asked (three (codes "revert") (codes "--to=1") (codes "--form=text")) ≡ None
revert_with_form = refl

revert_with_pods : job_asked (three (codes "revert") (codes "--to=1") (codes "--pods=4")) ≡ None
revert_with_pods = refl

revert_with_seed : job_asked (three (codes "revert") (codes "--to=1") (codes "--seed=0")) ≡ None
revert_with_seed = refl

-- with a form in the place of the number
roll_with_form_alone : job_asked (two (codes "roll") (codes "--form=text")) ≡ None
roll_with_form_alone = refl

gen_with_to : job_asked (three (codes "gen") (codes "--to") (codes "1")) ≡ None
gen_with_to = refl

demo_with_to : job_asked (three (codes "demo") (codes "--to") (codes "1")) ≡ None
demo_with_to = refl

gen_with_form : job_asked (three (codes "gen") (codes "--form") (codes "text")) ≡ None
gen_with_form = refl

demo_with_form : job_asked (three (codes "demo") (codes "--form") (codes "text")) ≡ None
demo_with_form = refl
