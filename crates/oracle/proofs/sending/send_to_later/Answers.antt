use Rattle.std.proofs.Common.{◌≡◌, ◌≤◌, ◌+◌, ◌-◌, ◌++◌, OnOk, drop, sym, ap, ◌∙◌, subst, arith}
use Rattle.std.proofs.lemmas.List.{take_rest}
use Rattle.oracle.specs.Sending.{node_tokens}
use Rattle.oracle.proofs.Earlier.{skipped}
use Rattle.oracle.proofs.sending.send_to_later.Goals as goal

pub returns : goal.returns
returns g c =
    let x = c.args.sent.now in
    let n = c.args.node in
    let p = c.args.port in
    let m = c.args.inputs in
    let nodes = c.args.nodes.now in
    let low = c.if-node-inputs.false in
    let here : m + (n - m + 1) ≡ n + 1 = omega (arith, low) in
    let within : m + (n - m + 1) ≤ n + 1 = omega (arith, here) in
    let rest = skipped x n p (n - m + 1) m nodes c.requires.ordered within ∙ ap (λ j. node_tokens x n p j (drop (n - m + 1) nodes)) here
    ∙ ap (node_tokens x n p (n + 1)) (sym (take_rest nodes (n - m + 1))) in
    subst (λ ts. OnOk c.send_to_nodes-2.result (c.send_to_nodes-2.new.fresh.items ≡ c.args.fresh.now.items ++ ts)) (sym rest) c.send_to_nodes-2.ensures
