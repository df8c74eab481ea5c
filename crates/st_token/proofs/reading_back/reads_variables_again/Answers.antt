use Rattle.st_token.proofs.ReadingBackLemmas.{entities_again, variables_again, assignments_again, values_again, own_values_again, finds_by_name}
use Rattle.st_token.proofs.reading_back.reads_variables_again.Goals as goal

pub returns-clause-entities : goal.returns-clause-entities
returns-clause-entities c = entities_again

pub returns-clause-variables : goal.returns-clause-variables
returns-clause-variables c = variables_again

pub returns-clause-assignments : goal.returns-clause-assignments
returns-clause-assignments c = assignments_again

pub returns-clause-values : goal.returns-clause-values
returns-clause-values c = values_again

pub returns-clause-own_values : goal.returns-clause-own_values
returns-clause-own_values c = own_values_again

pub returns-clause-finds : goal.returns-clause-finds
returns-clause-finds c = finds_by_name
