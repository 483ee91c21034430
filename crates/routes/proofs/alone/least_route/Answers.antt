use Rattle.routes.proofs.Searching.{searches_are_right, ended_searches_are_right}
use Rattle.routes.proofs.alone.least_route.Goals as goal

pub returns-clause-searches : goal.returns-clause-searches
returns-clause-searches g c = searches_are_right

pub returns-clause-ended : goal.returns-clause-ended
returns-clause-ended g c = ended_searches_are_right
