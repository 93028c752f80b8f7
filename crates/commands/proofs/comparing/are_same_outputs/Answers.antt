use Rattle.std.proofs.Common.{rules}
use Rattle.commands.proofs.Decided.{lists_decide, options_decide}
use Rattle.commands.proofs.comparing.are_same_outputs.Goals as goal

pub returns : goal.returns
returns c = lists_decide _ c.eq.result c.args.a.now c.args.b.now c.eq.ensures (options_decide _ (λ x y. search rules))
