use Rattle.std.proofs.Common.{◌≡◌, ◌++◌, take}
use Rattle.ordering.specs.Noted.{Noted, noted_in}
use Rattle.machine.specs.Runners.{tokens_of}
use Rattle.machine.proofs.blocks.note_taken.Given as goal

abbrev pub invariant-loop-entry : goal.invariant-loop-entry
invariant-loop-entry g l = noted_in l.notes
    ≡ (let n : Noted = record {
      taken = (noted_in l.fn.notes).taken ++ tokens_of (take l.entry-index l.log);
      made = (noted_in l.fn.notes).made;
      blocks = (noted_in l.fn.notes).blocks;
    } in n)
