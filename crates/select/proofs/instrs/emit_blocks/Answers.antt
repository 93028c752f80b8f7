use Rattle.std.proofs.Common.{◌≡◌, [], ◌∷◌, ◌++◌, ap, ◌∙◌, arith}
use Rattle.std.specs.Prelude.{Some, None, slice_get}
use Rattle.semantics.specs.Program.{CodeBlock}
use Rattle.semantics.specs.Sharing.{placed_instrs}
use Rattle.semantics.specs.Placed.{needed, placed_blocks}
use Rattle.semantics.specs.Versions.{version_number}
use Rattle.select.specs.Emitted.{emitted_instrs, emitted_block, emitted_blocks}
use Rattle.select.proofs.Steps.{blocks_step, blocks_end, slots_end}
use Rattle.select.proofs.instrs.emit_blocks.Goals as goal

pub returns-in_default : goal.returns-in_default
returns-in_default g c =
    let none : slice_get c.args.slots.now c.loop-number.number ≡ None = grind arith in
    slots_end (version_number c.args.version) c.loop-number.number c.loop-number.emitted.items
    (emitted_blocks (version_number c.args.version) (placed_blocks c.args.slots.now c.args.blocks.now)) c.args.slots.now c.args.blocks.now none
    c.loop-number.invariant

pub loop-number-preserved : goal.loop-number-preserved
loop-number-preserved g c =
    let v = version_number c.args.version in
    let b = c.index-blocks-number.result in
    let there : slice_get c.args.slots.now c.loop-number.number ≡ Some c.in-Some.list.now = grind arith in
    let x : CodeBlock = record {
      inputs = c.block.inside.inputs;
      outputs = c.block.inside.outputs;
      slots = c.needed.result;
      instrs =
          c.in_ok-instrs.instrs.items;
    } in
    let made : c.push.new.self.items ≡ c.loop-number.emitted.items ++ x ∷ [] = c.in_ok-push.ensures.items in
    let instrs : c.in_ok-instrs.instrs.items ≡ emitted_instrs v (placed_instrs c.in-Some.list.now b.instrs)
    = c.in_ok-instrs.ensures ∙ ap (λ is. emitted_instrs v (placed_instrs c.in-Some.list.now is)) (c.deref.ensures.value ∙ ap (λ y. y.instrs) c.block.view_is) in
    let same : x ≡ emitted_block v (record b { slots = needed c.in-Some.list.now; instrs = placed_instrs c.in-Some.list.now b.instrs })
    = ap (λ n. record x { slots = n }) c.needed.ensures ∙ ap (λ is. record x { slots = needed c.in-Some.list.now; instrs = is }) instrs
    ∙ ap (λ (y : CodeBlock). record {
      inputs = y.inputs;
      outputs = y.outputs;
      slots = needed c.in-Some.list.now;
      instrs = emitted_instrs v
          (placed_instrs c.in-Some.list.now b.instrs);
    }) c.block.view_is in
    blocks_step v c.loop-number.number c.loop-number.emitted.items c.push.new.self.items
    (emitted_blocks v (placed_blocks c.args.slots.now c.args.blocks.now)) c.args.slots.now c.args.blocks.now c.in-Some.list.now b x
    c.loop-number-test.true c.index-blocks-number.is there made same c.loop-number.invariant

pub returns : goal.returns
returns g c =
    let h = c.loop-number-test.false in
    blocks_end (version_number c.args.version) c.loop-number.number c.loop-number.emitted.items
    (emitted_blocks (version_number c.args.version) (placed_blocks c.args.slots.now c.args.blocks.now)) c.args.slots.now c.args.blocks.now
    (omega (arith, h)) c.loop-number.invariant
