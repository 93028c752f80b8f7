use Rattle.std.proofs.Common.{◌≡◌, ◌++◌, take}
use Rattle.ordering.specs.Noted.{Noted, noted_in}
use Rattle.machine.proofs.blocks.note_sent.Given as goal

abbrev pub invariant-loop-token : goal.invariant-loop-token
invariant-loop-token g l = noted_in l.notes ≡ (let n : Noted = record {
  taken = (noted_in l.fn.notes).taken;
  made = (noted_in l.fn.notes).made
      ++ take l.token-index l.sent;
  blocks = (noted_in l.fn.notes).blocks;
} in n)
