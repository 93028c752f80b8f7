use Rattle.std.proofs.Common.{◌≡◌, ◌+◌, ◌*◌, ◌^◌, ◌≤◌, length, drop}
use Rattle.schedule.specs.State.{tokens_in}
use Rattle.schedule.specs.Turns.{others}
use Rattle.rounds.specs.Rounds.{lanes_held}
use Rattle.rounds.proofs.rounds.ordinary.Given as goal

abbrev pub invariant-loop-place : goal.invariant-loop-place
invariant-loop-place g l = record {
  exact : l.tokens + length (tokens_in (drop l.place (lanes_held l.turners))) ≡ others (lanes_held l.turners);
  few : l.tokens ≤ l.place * 2 ^ 64;
  within : l.place ≤ length l.turners;
}
