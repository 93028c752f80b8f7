use Rattle.std.proofs.Common.{◌++◌, ℕ, List, Option, Err}
use Rattle.std.proofs.lemmas.Result.{err_from_is_err_and}
use Rattle.disassembler.specs.Listing.{head_line, block_lines, array_line}
use Rattle.sink.specs.Numbered.{numbered}
use Rattle.sink.proofs.Sent.{appends_then, sends_from, sends_more, sends_less, sends_other}
use Rattle.disassembler.proofs.listing.list.Goals as goal

pub returns-in_err-list_head : goal.returns-in_err-list_head
returns-in_err-list_head g c =
    let p = err_from_is_err_and c.from_residual.result c.from_residual.ensures.1 in
    let t1 : List ℕ = head_line c.args.object.now.version c.args.object.now.code.program.main in
    let t2 : List ℕ = numbered block_lines 0 c.args.object.now.code.program.blocks in
    let t3 : List ℕ = numbered array_line 0 c.args.object.now.code.program.arrays in
    let w0 : Option (List ℕ) = g.W.Write.contents c.args.writer.now in
    let w1 : Option (List ℕ) = g.W.Write.contents c.list_head.new.writer in
    rw p.1 (sends_less p.0 w0 w1 (t1 ++ t2) t3 (sends_less p.0 w0 w1 t1 t2 (sends_other c.in_err-list_head.field-0.0 p.0 w0 w1 t1 c.in_err-list_head.ensures)))

pub returns-in_err-list_blocks : goal.returns-in_err-list_blocks
returns-in_err-list_blocks g c =
    let p = err_from_is_err_and c.from_residual-in_err-list_blocks.result c.from_residual-in_err-list_blocks.ensures.1 in
    let t1 : List ℕ = head_line c.args.object.now.version c.args.object.now.code.program.main in
    let t2 : List ℕ = numbered block_lines 0 c.args.object.now.code.program.blocks in
    let t3 : List ℕ = numbered array_line 0 c.args.object.now.code.program.arrays in
    let w0 : Option (List ℕ) = g.W.Write.contents c.args.writer.now in
    let w1 : Option (List ℕ) = g.W.Write.contents c.list_head.new.writer in
    let w2 : Option (List ℕ) = g.W.Write.contents c.list_blocks.new.writer in
    rw p.1 (sends_less p.0 w0 w2 (t1 ++ t2) t3 (sends_more (Err p.0) w0 w1 w2 t1 t2 (sends_from c.list_head.result w0 w1 t1 c.in_ok-list_head.was
    c.list_head.ensures) (sends_other c.in_err-list_blocks.field-0.0 p.0 w1 w2 t2 c.in_err-list_blocks.ensures)))

pub returns : goal.returns
returns g c =
    let t1 : List ℕ = head_line c.args.object.now.version c.args.object.now.code.program.main in
    let t2 : List ℕ = numbered block_lines 0 c.args.object.now.code.program.blocks in
    let t3 : List ℕ = numbered array_line 0 c.args.object.now.code.program.arrays in
    let w0 : Option (List ℕ) = g.W.Write.contents c.args.writer.now in
    let w1 : Option (List ℕ) = g.W.Write.contents c.list_head.new.writer in
    let w2 : Option (List ℕ) = g.W.Write.contents c.list_blocks.new.writer in
    let w3 : Option (List ℕ) = g.W.Write.contents c.list_arrays.new.writer in
    sends_more c.list_arrays.result w0 w2 w3 (t1 ++ t2) t3
    (appends_then w0 w1 w2 t1 t2 (sends_from c.list_head.result w0 w1 t1 c.in_ok-list_head.was c.list_head.ensures)
    (sends_from c.list_blocks.result w1 w2 t2 c.in_ok-list_blocks.was c.list_blocks.ensures)) c.list_arrays.ensures
