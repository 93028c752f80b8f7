use Rattle.std.proofs.Common.{◌≡◌, ◌++◌, Some, OnOk, slice_get, ap, sym, ◌∙◌, subst}
use Rattle.oracle.specs.Lines.{inputs_in, inputs_at}
use Rattle.oracle.specs.Uses.{listed_in, row_at, used_tokens}
use Rattle.oracle.proofs.Used.{sent_to_uses}
use Rattle.oracle.proofs.state.send_at.Goals as goal

pub returns-in-Some : goal.returns-in-Some
returns-in-Some g c =
    let x = c.args.sent.now in
    let i = c.args.invocation.now in
    let n = c.args.node in
    let p = c.args.port in
    let bs = c.args.checked.now.blocks in
    let us = c.in-Some.listed.now in
    let at : row_at (slice_get (listed_in bs) i.block) n ≡ Some us
    = ap (λ table. row_at (slice_get table i.block) n) (sym c.requires.listed) ∙ sym c.in-Some.ensures in
    let inputs : c.input_count-inputs.result ≡ inputs_in (slice_get bs i.block)
    = c.input_count-inputs.ensures ∙ ap (λ graph. inputs_at graph i.block) c.graph.ensures.same in
    subst (λ ts. OnOk c.send_to_uses.result (c.send_to_uses.new.fresh.items ≡ c.args.fresh.now.items ++ ts))
    (ap (λ k. used_tokens x i.made k p us) inputs ∙ sent_to_uses x i.made n p bs i.block us at) c.send_to_uses.ensures
