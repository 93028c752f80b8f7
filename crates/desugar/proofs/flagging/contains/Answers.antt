use Rattle.std.proofs.Common.{◌∙◌, ◌+◌, sym, drop, arith}
use Rattle.desugar.proofs.Stacks.{passed_over}
use Rattle.desugar.proofs.flagging.contains.Goals as goal

pub loop-depth-preserved : goal.loop-depth-preserved
loop-depth-preserved g c =
    let names = c.args.names.now in
    let depth = c.loop-depth.depth in
    sym (passed_over names (drop (depth + 1) names) c.args.name c.args.count depth _ (omega arith) c.in-Some.ensures c.if-other-name.false) ∙ c.loop-depth.invariant
