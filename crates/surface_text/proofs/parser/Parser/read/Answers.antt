use Rattle.surface_text.specs.Outcomes.{lexeme_named}
use Rattle.surface_text.specs.Running.{state, onward, IsBlamed}
use Rattle.std.proofs.Common.{false, sym, subst}
use Rattle.surface_text.proofs.Acting.{blames}
use Rattle.surface_text.proofs.parser.Parser.read.Goals as goal

pub returns-in-Err-clause-took : goal.returns-in-Err-clause-took
returns-in-Err-clause-took g c = λ names.
    let l = lexeme_named names c.args.lexeme in
    let old = c.args.self.now in
    let r = onward false c.args.at l (state names old.stack.items old.words.items) in
    subst (λ kind. IsBlamed names old.stack.items l kind r) (sym c.kind_or.ensures)
    (blames names old.stack.items l c.in-Err.stopped.kind c.unexpected-unexpected.result r (c.in-Err.ensures.took names) (c.unexpected-unexpected.ensures names))
