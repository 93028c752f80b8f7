use Rattle.std.proofs.Common.{ℕ, List, Option}
use Rattle.std.proofs.lemmas.Result.{err_from_is_err_and}
use Rattle.disassembler.specs.Listing.{literal_line, listing}
use Rattle.sink.specs.Numbered.{numbered}
use Rattle.sink.proofs.Sent.{sends_from, sends_other, sends_less, sends_more}
use Rattle.disassembler.proofs.listing.list_with_literals.Goals as goal

pub returns-in_err-list : goal.returns-in_err-list
returns-in_err-list g c =
    let p = err_from_is_err_and c.from_residual.result c.from_residual.ensures.1 in
    let t1 : List ℕ = listing c.args.object.now.version c.args.object.now.code.program in
    let t2 : List ℕ = numbered literal_line 0 c.args.object.now.code.literals in
    let w0 : Option (List ℕ) = g.W.Write.contents c.args.writer.now in
    let w1 : Option (List ℕ) = g.W.Write.contents c.list.new.writer in
    rw p.1 (sends_less p.0 w0 w1 t1 t2 (sends_other c.in_err-list.field-0.0 p.0 w0 w1 t1 c.in_err-list.ensures))

pub returns : goal.returns
returns g c =
    let t1 : List ℕ = listing c.args.object.now.version c.args.object.now.code.program in
    let t2 : List ℕ = numbered literal_line 0 c.args.object.now.code.literals in
    let w0 : Option (List ℕ) = g.W.Write.contents c.args.writer.now in
    let w1 : Option (List ℕ) = g.W.Write.contents c.list.new.writer in
    let w2 : Option (List ℕ) = g.W.Write.contents c.list_table.new.writer in
    sends_more c.list_table.result w0 w1 w2 t1 t2 (sends_from c.list.result w0 w1 t1 c.in_ok-list.was c.list.ensures) c.list_table.ensures
