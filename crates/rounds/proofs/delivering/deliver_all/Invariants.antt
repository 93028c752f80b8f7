use Rattle.std.proofs.Common.{◌≡◌, length, drop}
use Rattle.std.specs.Prelude.{All}
use Rattle.schedule.specs.State.{AllFrom, IsAt, IsNearIn, delivered}
use Rattle.rounds.specs.Rounds.{lanes_held, lanes_fixed, tokens_sent, events_noted, halts_in}
use Rattle.rounds.proofs.delivering.deliver_all.Given as goal

abbrev pub invariant-loop-place : goal.invariant-loop-place
invariant-loop-place g l = record {
  same : delivered (drop l.place l.tokens.items) (lanes_held l.turners.items) ≡ delivered l.tokens.items (lanes_held l.fn.turners.items);
  at : AllFrom (IsAt l.elements) 0 (lanes_held l.turners.items);
  fixed : lanes_fixed l.turners.items ≡ lanes_fixed l.fn.turners.items;
  near : All (IsNearIn (lanes_fixed l.fn.turners.items)) (drop l.place l.tokens.items);
  sent : tokens_sent l.turners.items ≡ tokens_sent l.fn.turners.items;
  noted : events_noted l.turners.items ≡ events_noted l.fn.turners.items;
  halts : halts_in l.turners.items ≡ halts_in l.fn.turners.items;
  count : length l.turners.items ≡ length l.fn.turners.items;
}
