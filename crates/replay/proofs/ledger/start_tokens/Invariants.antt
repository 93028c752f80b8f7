use Rattle.std.proofs.Common.{◌≡◌, ◌+◌, take}
use Rattle.replay.specs.Entering.{start_tokens}
use Rattle.replay.proofs.ledger.start_tokens.Given as goal

abbrev pub invariant-loop-input : goal.invariant-loop-input
invariant-loop-input g l = record {
  items : l.tokens.items ≡ start_tokens l.main (take l.input-index l.inputs);
  ip : l.ip ≡ l.main + l.input-index;
}
