use Rattle.std.proofs.Common.{◌≡◌, drop}
use Rattle.surface.specs.Tokens.{comment_len}
use Rattle.surface_tokens.proofs.CommentEnds.{later}
use Rattle.surface_tokens.proofs.comments.comment_len.Given as goal

abbrev pub invariant-loop-at : goal.invariant-loop-at
invariant-loop-at l = later l.at (comment_len (drop l.at l.text)) ≡ comment_len l.text
