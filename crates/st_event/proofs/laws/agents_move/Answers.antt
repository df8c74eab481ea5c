use Rattle.st_event.proofs.AgentSteps.{agent_of-next}
use Rattle.st_event.proofs.laws.agents_move.Goals as goal

pub returns : goal.returns
returns c = agent_of-next
