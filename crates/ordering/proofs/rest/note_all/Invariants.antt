use Rattle.std.proofs.Common.{◌≡◌, ◌++◌, take}
use Rattle.rounds.specs.Turns.{by}
use Rattle.ordering.proofs.rest.note_all.Given as goal

abbrev pub invariant-loop-token : goal.invariant-loop-token
invariant-loop-token g l = l.events.items ≡ l.fn.events.items ++ by l.element (take l.token-index l.tokens)
