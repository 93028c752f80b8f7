use Rattle.std.proofs.Common.{length}
use Rattle.json_text.specs.Json.{filled, pieces_text}
use Rattle.json_text.proofs.Steps.{Walked}
use Rattle.json_text.proofs.slot.send_filled.Given as goal

abbrev pub invariant-loop-piece : goal.invariant-loop-piece
invariant-loop-piece g l =
    Walked (filled l.template l.words) (pieces_text l.pieces l.left) (g.W.Write.contents l.fn.writer) (g.W.Write.contents l.writer)

abbrev pub decreases-loop-piece : goal.decreases-loop-piece
decreases-loop-piece g l = length l.pieces
