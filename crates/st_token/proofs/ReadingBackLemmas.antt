-- The laws of specs/ReadingBack.
use Rattle.std.proofs.Common.{[]}
use Rattle.st_token.specs.ReadingBack.{ReadsNamesAgain, ReadsNumbersAgain, ReadsLocksAgain, ReadsEntitiesAgain, ReadsVariablesAgain, ReadsAssignmentsAgain, ReadsValuesAgain, ReadsOwnValuesAgain, FindsByName, ReadsRowsAgain}
use Rattle.st_token.proofs.FoundNames.{named}
use Rattle.st_token.proofs.PrintedTokens.{name_word, number_is_word, prio_is_word, value_is_word, assignment_is_word, variable_is_word, known_name_again, entity_again, number_again, prio_again, ranged, assigned_again, value_again, assignment_again, variable_again}
use Rattle.st_token.proofs.PrintedRows.{rows_again, free_of_none}

pub names_again : ReadsNamesAgain
names_again = λ names name place spelled at. record { word_is = name_word name spelled; read_is = known_name_again names name place spelled at }

pub numbers_again : ReadsNumbersAgain
numbers_again = λ n less. record { word_is = number_is_word n less; read_is = number_again n less }

pub locks_again : ReadsLocksAgain
locks_again = λ prio. record { word_is = prio_is_word prio; read_is = prio_again prio }

pub entities_again : ReadsEntitiesAgain
entities_again = λ find name e n. record { word_is = name_word name n.spelled; read_is = entity_again find name e n.spelled n.found }

pub variables_again : ReadsVariablesAgain
variables_again = λ find name e v n is. record { word_is = variable_is_word name v n.spelled; read_is = variable_again find name e v n.spelled n.found is }

pub assignments_again : ReadsAssignmentsAgain
assignments_again = λ find name row n range. record {
  word_is = assignment_is_word name row.var row.value n.spelled (ranged row.entity row.var row.value range).1;
  read_is = assignment_again find name row.entity row.var row.value n.spelled n.found range;
}

pub values_again : ReadsValuesAgain
values_again = λ row range. record { word_is = value_is_word row.var row.value (ranged row.entity row.var row.value range).1; read_is = assigned_again row.entity row.var row.value range }

pub own_values_again : ReadsOwnValuesAgain
own_values_again = λ e v n range. record { word_is = value_is_word v n (ranged e v n range).1; read_is = value_again e v n range }

pub finds_by_name : FindsByName
finds_by_name = λ g e s low. named g e s low

pub rows_back : ReadsRowsAgain
rows_back = λ find name rows fits apart. rows_again find name [] rows fits apart (free_of_none rows)
