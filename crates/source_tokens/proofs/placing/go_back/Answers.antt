use Rattle.std.proofs.Common.{◌≡◌, ◌≤◌, true, length, ap, ◌∙◌, arith}
use Rattle.source.specs.Tokens.{position}
use Rattle.source_tokens.proofs.Placed.{reached}
use Rattle.source_tokens.proofs.placing.go_back.Goals as goal

pub returns-then-not-same_line-clause-reached : goal.returns-then-not-same_line-clause-reached
returns-then-not-same_line-clause-reached c =
    let text = c.args.program.now in
    let e : c.loop-i.i ≡ c.args.end = omega arith in
    let h : c.args.end ≤ length text = omega (arith, c.requires.from.within) in
    reached text c.args.end c.loop-i.line c.column_at-column.result h (c.loop-i.invariant.line ∙ ap (λ i. (position text i).line) e) c.column_at-column.ensures

pub returns-else-not-same_line-clause-reached : goal.returns-else-not-same_line-clause-reached
returns-else-not-same_line-clause-reached c =
    let text = c.args.program.now in
    let e : c.loop-i.i ≡ c.args.end = omega arith in
    let h : c.args.end ≤ length text = omega (arith, c.requires.from.within) in
    let same : c.loop-i.same_line ≡ true = search c.if-not-same_line.false in
    reached text c.args.end c.loop-i.line c.loop-i.column h (c.loop-i.invariant.line ∙ ap (λ i. (position text i).line) e)
    (c.loop-i.invariant.column same ∙ ap (λ i. (position text i).column) e)
