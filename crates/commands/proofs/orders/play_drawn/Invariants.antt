use Rattle.std.proofs.Common.{◌≡◌, ◌*◌, ◌≤◌}
use Rattle.commands.specs.Ordered.{number_after}
use Rattle.commands.proofs.PlayedOn.{PlayedSo}
use Rattle.commands.proofs.orders.play_drawn.Given as goal

abbrev pub invariant-loop-time : goal.invariant-loop-time
invariant-loop-time g l = record {
  few : l._time ≤ 1024;
  number : l.number ≡ number_after (4096 * l._time) l.first;
  so_far : PlayedSo l.elements l.first l._time l.fn.machine l.machine;
}
