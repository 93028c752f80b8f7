use Rattle.code_map.proofs.Examples.{literal_is_left_out, copies_are_owned, joins_are_owned}
use Rattle.code_map.proofs.laws.examples_have_owners.Goals as goal

pub returns-clause-literal : goal.returns-clause-literal
returns-clause-literal c = literal_is_left_out

pub returns-clause-copies : goal.returns-clause-copies
returns-clause-copies c = copies_are_owned

pub returns-clause-joins : goal.returns-clause-joins
returns-clause-joins c = joins_are_owned
