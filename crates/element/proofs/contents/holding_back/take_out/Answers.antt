use Rattle.std.proofs.Common.{◌≡◌, ◌∙◌, ◌-◌, length, arith}
use Rattle.std.specs.Prelude.{vec_len}
use Rattle.element.proofs.Aside.{out_of_last_two}
use Rattle.element.proofs.contents.holding_back.take_out.Goals as goal

pub returns-then-len-at-le2-clause-items : goal.returns-then-len-at-le2-clause-items
returns-then-len-at-le2-clause-items g c =
    let xs = c.args.tokens.now.items in
    let n = length xs - 1 in
    let long : vec_len c.args.tokens.now ≡ length xs = c.args.tokens.now.ok.0 in
    let len = c.len.ensures in
    let low = c.requires in
    let few = c.if-len-at-le2.true in
    c.swap_remove.ensures.items
    ∙ out_of_last_two xs c.args.at n c.swap_remove.result (omega arith) (omega arith) (omega arith)
