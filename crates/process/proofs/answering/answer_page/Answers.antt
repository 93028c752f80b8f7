use Rattle.std.proofs.Common.{List, ℕ, subst}
use Rattle.mapped.specs.Paned.{PrintsFilePage}
use Rattle.process.proofs.answering.answer_page.Goals as goal

pub returns-in-Ok : goal.returns-in-Ok
returns-in-Ok g c =
    let old = g.W.Write.contents c.args.writer.now in
    let new = g.W.Write.contents c.print_file_page.new.writer in
    rw c.in-Ok.is
    (subst (λ (xs : List ℕ). PrintsFilePage c.print_file_page.result old new c.args.bytes.now xs c.args.options.now c.args.last) c.deref.ensures.value
    c.print_file_page.ensures)
