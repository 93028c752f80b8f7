use Rattle.std.proofs.Common.{ℕ, List, Option, Err, ap}
use Rattle.std.proofs.lemmas.Result.{err_from_is_err_and}
use Rattle.object_view.specs.declared.object.BlockView.{BlockView}
use Rattle.disassembler.specs.Listing.{instr_line, block_line}
use Rattle.sink.specs.Numbered.{numbered}
use Rattle.sink.proofs.Sent.{sends_from, sends_other, sends_less, sends_more, sends_same}
use Rattle.disassembler.proofs.listing.list_block.Goals as goal

pub returns-in_err-list_block_line : goal.returns-in_err-list_block_line
returns-in_err-list_block_line g c = λ b at.
    let p = err_from_is_err_and c.from_residual.result c.from_residual.ensures.1 in
    let t1 : List ℕ = block_line c.args.number b.inputs b.outputs b.slots in
    let t2 : List ℕ = numbered instr_line 0 b.instrs in
    let w0 : Option (List ℕ) = g.W.Write.contents c.args.writer.now in
    let w1 : Option (List ℕ) = g.W.Write.contents c.list_block_line.new.writer in
    rw p.1 (sends_less p.0 w0 w1 t1 t2 (sends_other c.in_err-list_block_line.field-0.0 p.0 w0 w1 t1
    (sends_same (Err c.in_err-list_block_line.field-0.0) w0 w1 _ t1 (ap (λ (v : BlockView). block_line c.args.number v.inputs v.outputs v.slots)
    at.1) c.in_err-list_block_line.ensures)))

pub returns : goal.returns
returns g c = λ b at.
    let t1 : List ℕ = block_line c.args.number b.inputs b.outputs b.slots in
    let t2 : List ℕ = numbered instr_line 0 b.instrs in
    let w0 : Option (List ℕ) = g.W.Write.contents c.args.writer.now in
    let w1 : Option (List ℕ) = g.W.Write.contents c.list_block_line.new.writer in
    let w2 : Option (List ℕ) = g.W.Write.contents c.list_instrs.new.writer in
    sends_more c.list_instrs.result w0 w1 w2 t1 t2 (sends_from c.list_block_line.result w0 w1 t1 c.in_ok-list_block_line.was
    (sends_same c.list_block_line.result w0 w1 _ t1 (ap (λ (v : BlockView). block_line c.args.number v.inputs v.outputs v.slots) at.1)
    c.list_block_line.ensures)) (c.list_instrs.ensures c.args.number b at)
