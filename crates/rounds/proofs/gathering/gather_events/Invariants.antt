use Rattle.std.proofs.Common.{◌≡◌, ◌++◌, [], length, take}
use Rattle.rounds.specs.Rounds.{lanes_held, lanes_fixed, tokens_sent, events_noted, halts_in}
use Rattle.rounds.proofs.gathering.gather_events.Given as goal

abbrev pub invariant-loop-at : goal.invariant-loop-at
invariant-loop-at g l = record {
  fixed : lanes_fixed l.turners ≡ lanes_fixed l.fn.turners;
  lanes : lanes_held l.turners ≡ lanes_held l.fn.turners;
  sent : tokens_sent l.turners ≡ tokens_sent l.fn.turners;
  halts : halts_in l.turners ≡ halts_in l.fn.turners;
  events : l.all.events.items ++ events_noted l.turners ≡ l.fn.all.events.items ++ events_noted l.fn.turners;
  cleared : events_noted (take l.at l.turners) ≡ [];
  count : length l.turners ≡ length l.fn.turners;
}
