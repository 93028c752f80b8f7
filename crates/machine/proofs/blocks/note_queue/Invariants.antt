use Rattle.std.proofs.Common.{◌≡◌, ◌++◌, take, drop}
use Rattle.ordering.specs.Noted.{Noted, noted_in}
use Rattle.machine.proofs.blocks.note_queue.Given as goal

abbrev pub invariant-loop-behind : goal.invariant-loop-behind
invariant-loop-behind g l = noted_in l.notes ≡ (let n : Noted = record {
  taken = (noted_in l.fn.notes).taken;
  made = (noted_in l.fn.notes).made
      ++ take l.behind (drop l.from l.queue.items);
  blocks = (noted_in l.fn.notes).blocks;
} in n)
