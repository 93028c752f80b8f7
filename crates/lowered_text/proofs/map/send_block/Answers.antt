use Rattle.std.proofs.Common.{◌≡◌, ◌∙◌, ap, refl, ℕ, List, ◌+◌, get_or, Err}
use Rattle.std.proofs.lemmas.Option.{slice_get-get_or}
use Rattle.std.proofs.lemmas.Result.{err_from_is_err_and}
use Rattle.sink.specs.Numbered.{numbered}
use Rattle.sink.proofs.Sent.{sends_from, sends_other, sends_same}
use Rattle.sink.proofs.Numbered.{more, stop, done}
use Rattle.source.specs.Tokens.{position}
use Rattle.source_tokens.specs.Placing.{seen_at}
use Rattle.lowering.specs.Built.{Places}
use Rattle.lowered_text.specs.Texts.{node_line}
use Rattle.lowered_text.proofs.map.send_block.Goals as goal

-- the line that is sent is that of the node
pub sent_line : (program : List ℕ) (block line inputs n at : ℕ) (z : _) → n ≡ inputs → seen_at z ≡ position program at
    → node_line block (n + line) (seen_at z) ≡ node_line block (inputs + line) (position program at)
sent_line program block line inputs n at z e f =
    ap (λ (m : ℕ). node_line block (m + line) (seen_at z)) e ∙ ap (node_line block (inputs + line)) f

pub returns-in_err-send_node-clause-lines : goal.returns-in_err-send_node-clause-lines
returns-in_err-send_node-clause-lines g c =
    let p = err_from_is_err_and c.from_residual.result c.from_residual.ensures.1 in
    let l = c.loop-line in
    let items : List ℕ = c.deref-at-items.result.now in
    let inputs : ℕ = c.args.places.now.inputs in
    let f : ℕ → ℕ → List ℕ = λ line at. node_line c.args.block (inputs + line) (position c.args.program.now at) in
    let x : ℕ = get_or items l.line 0 in
    let eq = sent_line c.args.program.now c.args.block l.line inputs c.from.result x c.reach-place.result
    (c.from.ensures ∙ ap (λ (z : Places). z.inputs) c.places.view_is) c.reach-place.ensures.position in
    let nodes = c.deref-at-items.ensures.value ∙ ap (λ (z : Places). z.nodes) c.places.view_is in
    rw p.1 (sends_same (Err p.0) _ _ _ _ (ap (numbered f 0) nodes) (stop f l.line items x p.0 _ _ _
    (slice_get-get_or items l.line 0 c.loop-line-test.true) l.invariant.appended
    (sends_other c.in_err-send_node.field-0.0 p.0 _ _ (f l.line x) (sends_same (Err c.in_err-send_node.field-0.0) _ _ _ (f l.line x) eq
    c.in_err-send_node.ensures))))

pub loop-line-preserved : goal.loop-line-preserved
loop-line-preserved g c =
    let l = c.loop-line in
    let items : List ℕ = c.deref-at-items.result.now in
    let inputs : ℕ = c.args.places.now.inputs in
    let f : ℕ → ℕ → List ℕ = λ line at. node_line c.args.block (inputs + line) (position c.args.program.now at) in
    let x : ℕ = get_or items l.line 0 in
    let eq = sent_line c.args.program.now c.args.block l.line inputs c.from.result x c.reach-place.result
    (c.from.ensures ∙ ap (λ (z : Places). z.inputs) c.places.view_is) c.reach-place.ensures.position in
    record {
      appended = more f l.line items x _ _ _ (slice_get-get_or items l.line 0 c.loop-line-test.true) l.invariant.appended
          (sends_from c.send_node.result _ _ (f l.line x) c.in_ok-send_node.was (sends_same c.send_node.result _ _ _ (f l.line x) eq c.send_node.ensures));
      reached = c.reach-place.ensures.reached;
    }

pub returns-clause-lines : goal.returns-clause-lines
returns-clause-lines g c =
    let l = c.loop-line in
    let items : List ℕ = c.deref-at-items.result.now in
    let inputs : ℕ = c.args.places.now.inputs in
    let f : ℕ → ℕ → List ℕ = λ line at. node_line c.args.block (inputs + line) (position c.args.program.now at) in
    let nodes = c.deref-at-items.ensures.value ∙ ap (λ (z : Places). z.nodes) c.places.view_is in
    sends_same _ _ _ _ _ (ap (numbered f 0) nodes) (done f l.line items _ tt _ _ refl c.loop-line-test.false l.invariant.appended)
