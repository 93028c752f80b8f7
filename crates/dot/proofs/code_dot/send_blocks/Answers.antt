use Rattle.std.proofs.Common.{◌≡◌, arith, refl, sym, ◌∙◌}
use Rattle.std.specs.Prelude.{None, slice_get}
use Rattle.std.proofs.lemmas.Result.{err_from_is_err_and}
use Rattle.lemmas.proofs.Options.{option_map_none, option_map_some}
use Rattle.semantics.specs.Program.{first_of}
use Rattle.object_view.specs.Reading.{block_shown}
use Rattle.dot.specs.CodeDot.{code_block_dot}
use Rattle.sink.proofs.Sent.{sends_from, sends_other}
use Rattle.sink.proofs.Numbered.{more, stop, done, outside}
use Rattle.dot.proofs.code_dot.send_blocks.Goals as goal

pub returns-in_default : goal.returns-in_default
returns-in_default g c =
    let p = c.args.object.now.code.program in
    let is : slice_get p.blocks c.loop-place.place ≡ None = option_map_none (block_shown (first_of p c.loop-place.place))
    (slice_get p.blocks c.loop-place.place) (sym c.block.ensures ∙ c.in_default.is) in
    outside code_block_dot c.loop-place.place p.blocks _ tt _ _ refl is c.loop-place.invariant

pub returns-in_err-send_block : goal.returns-in_err-send_block
returns-in_err-send_block g c =
    let p = err_from_is_err_and c.from_residual.result c.from_residual.ensures.1 in
    let q = c.args.object.now.code.program in
    let n = c.loop-place.place in
    let b = option_map_some (block_shown (first_of q n)) (slice_get q.blocks n) c.in-Some.block (sym c.block.ensures ∙ c.in-Some.is) in
    rw p.1 (stop code_block_dot n q.blocks b.0 p.0 _ _ _ b.1 c.loop-place.invariant (sends_other c.in_err-send_block.field-0.0 p.0 _ _ _
    (c.in_err-send_block.ensures b.0 (b.1, b.2))))

pub loop-place-preserved : goal.loop-place-preserved
loop-place-preserved g c =
    let q = c.args.object.now.code.program in
    let n = c.loop-place.place in
    let b = option_map_some (block_shown (first_of q n)) (slice_get q.blocks n) c.in-Some.block (sym c.block.ensures ∙ c.in-Some.is) in
    more code_block_dot n q.blocks b.0 _ _ _ b.1 c.loop-place.invariant (sends_from _ _ _ _ c.in_ok-send_block.was (c.send_block.ensures b.0 (b.1, b.2)))

pub returns : goal.returns
returns g c = done code_block_dot c.loop-place.place c.args.object.now.code.program.blocks _ tt _ _ refl
    (omega (arith, c.loop-place-test.false, c.block_count-place-end.ensures)) c.loop-place.invariant
