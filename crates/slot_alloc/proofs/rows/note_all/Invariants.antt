use Rattle.std.proofs.Common.{◌≡◌, drop}
use Rattle.slot_alloc.specs.Words.{row_from}
use Rattle.slot_alloc.proofs.rows.note_all.Given as goal

abbrev pub invariant-loop-place : goal.invariant-loop-place
invariant-loop-place g l = row_from l.row l.flows l.place (drop l.place l.instrs) ≡ row_from l.fn.row l.flows 0 l.instrs
