use Rattle.std.proofs.Common.{◌∙◌, arith}
use Rattle.surface_text.proofs.Acting.{ends, same_fault}
use Rattle.surface_text.proofs.parser.Parser.finish.Goals as goal

pub returns-in-Err : goal.returns-in-Err
returns-in-Err g c = λ names end.
    same_fault _ _ _ (c.loop-symbol.invariant names end) (c.in-Err.ensures.ends names end c.loop-symbol.self.stack.items c.in-Some.ensures.items)

pub loop-symbol-preserved : goal.loop-symbol-preserved
loop-symbol-preserved g c = λ names end.
    c.loop-symbol.invariant names end ∙ c.in_default-end.ensures.ends names end c.loop-symbol.self.stack.items c.in-Some.ensures.items

pub returns : goal.returns
returns g c = λ names end. c.loop-symbol.invariant names end
    ∙ ends names end c.loop-symbol.self.stack.items c.loop-symbol.self.words.items (omega (arith, c.in_default.ensures.cases.0))
