use Rattle.std.proofs.Common.{◌≡◌, ◌<◌, ℕ, List, ap, false, length, drop, codes, sym, ◌∙◌, arith}
use Rattle.source.specs.Tokens.{begins}
use Rattle.surface_tokens.proofs.CommentEnds.{ends_later}
use Rattle.surface_tokens.proofs.Slices.{slice_from}
use Rattle.surface_tokens.proofs.comments.comment_len.Goals as goal

pub loop-at-preserved : goal.loop-at-preserved
loop-at-preserved c =
    let text = c.args.text.now in
    let at = c.loop-at.at in
    let lt : at < length text = omega (arith, c.loop-at-test.true) in
    let further : begins (codes "*/") (drop at text) ≡ false =
    ap (λ (xs : List ℕ). begins (codes "*/") xs) (sym (slice_from at text)) ∙ sym c.ends_comment.ensures ∙ c.if-ends_comment.false in
    ends_later text at lt further c.loop-at.invariant
