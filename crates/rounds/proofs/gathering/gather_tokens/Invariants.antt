use Rattle.std.proofs.Common.{◌≡◌, ◌++◌, [], length, take}
use Rattle.rounds.specs.Rounds.{lanes_held, lanes_fixed, tokens_sent, events_noted, halts_in}
use Rattle.rounds.proofs.gathering.gather_tokens.Given as goal

abbrev pub invariant-loop-at : goal.invariant-loop-at
invariant-loop-at g l = record {
  fixed : lanes_fixed l.turners ≡ lanes_fixed l.fn.turners;
  lanes : lanes_held l.turners ≡ lanes_held l.fn.turners;
  noted : events_noted l.turners ≡ events_noted l.fn.turners;
  halts : halts_in l.turners ≡ halts_in l.fn.turners;
  tokens : l.tokens.items ++ tokens_sent l.turners ≡ l.fn.tokens.items ++ tokens_sent l.fn.turners;
  cleared : tokens_sent (take l.at l.turners) ≡ [];
  count : length l.turners ≡ length l.fn.turners;
}
