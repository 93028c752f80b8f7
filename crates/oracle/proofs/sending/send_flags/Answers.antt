use Rattle.std.proofs.Common.{ap, sym, ◌∙◌, ◌++◌, ◌+◌, ◌-◌}
use Rattle.oracle.specs.Sending.{flag_tokens}
use Rattle.oracle.proofs.Counting.{flags_more}
use Rattle.oracle.proofs.sending.send_flags.Goals as goal

pub loop-i-preserved : goal.loop-i-preserved
loop-i-preserved g c =
    let i = c.loop-i.i in
    flags_more c.args.sent.now i c.args.inputs (c.args.fresh.now.items ++ flag_tokens c.args.sent.now 1 c.args.inputs) c.loop-i.fresh.items
    c.loop-i-test.true c.loop-i.invariant
    ∙ ap (λ y. y ++ flag_tokens c.args.sent.now (i + 1 + 1) (c.args.inputs - (i + 1))) (sym c.in_ok-push.ensures)
