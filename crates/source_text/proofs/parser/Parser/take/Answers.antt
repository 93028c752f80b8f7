use Rattle.std.proofs.Common.{refl, ◌∙◌}
use Rattle.source_text.specs.Outcomes.{lexeme_named, reaction_named}
use Rattle.source_text.proofs.Acting.{met, chosen, not_chosen, same_kind}
use Rattle.source_text.proofs.parser.Parser.take.Goals as goal

pub returns-in-Err-clause-took : goal.returns-in-Err-clause-took
returns-in-Err-clause-took g c = λ names.
    let l = lexeme_named names c.args.lexeme in
    let meets = met names c.args.at l c.loop-symbol.self.stack.items c.pop.new.self.items c.in-Some.symbol c.loop-symbol.self.words.items
    (reaction_named names c.react-reaction.result c.react-reaction.new.pushes) c.in-Some.ensures.items (c.react-reaction.ensures.does names) in
    same_kind _ _ _ _ (c.loop-symbol.invariant.same names ∙ meets) refl (c.in-Err.ensures.acts names c.args.at l)

pub returns-then-taken-clause-took : goal.returns-then-taken-clause-took
returns-then-taken-clause-took g c = λ names.
    let l = lexeme_named names c.args.lexeme in
    let meets = met names c.args.at l c.loop-symbol.self.stack.items c.pop.new.self.items c.in-Some.symbol c.loop-symbol.self.words.items
    (reaction_named names c.react-reaction.result c.react-reaction.new.pushes) c.in-Some.ensures.items (c.react-reaction.ensures.does names) in
    c.loop-symbol.invariant.same names ∙ meets ∙ chosen c.in-Ok.taken _ _ _ (c.in-Ok.ensures.acts names c.args.at l) c.if-taken.true

pub loop-symbol-preserved : goal.loop-symbol-preserved
loop-symbol-preserved g c = record {
  shallow = c.in-Ok.ensures.shallow;
  same = λ names.
      let l = lexeme_named names c.args.lexeme in
      let meets = met names c.args.at l c.loop-symbol.self.stack.items c.pop.new.self.items c.in-Some.symbol c.loop-symbol.self.words.items
      (reaction_named names c.react-reaction.result c.react-reaction.new.pushes) c.in-Some.ensures.items (c.react-reaction.ensures.does names) in
      c.loop-symbol.invariant.same names ∙ meets ∙ not_chosen c.in-Ok.taken _ _ _ (c.in-Ok.ensures.acts names c.args.at l) c.if-taken.false;
}
