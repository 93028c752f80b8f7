use Rattle.std.proofs.Common.{refl, ap, ◌∙◌}
use Rattle.surface_text.specs.Outcomes.{lexeme_named, reaction_named}
use Rattle.surface_text.specs.Running.{state, after_act}
use Rattle.surface_text.proofs.Acting.{met, same_kind}
use Rattle.surface_text.proofs.parser.Parser.take.Goals as goal

pub returns-in-Err-clause-took : goal.returns-in-Err-clause-took
returns-in-Err-clause-took g c = λ names.
    let l = lexeme_named names c.args.lexeme in
    let meets = met names c.loop-symbol.lacking c.args.at l c.loop-symbol.self.stack.items c.pop.new.self.items c.in-Some.symbol c.loop-symbol.self.words.items
    (reaction_named names c.in-Some-react_below.reaction c.react_below.new.pushes) c.in-Some.ensures.items (c.in-Some-react_below.ensures.does names) in
    same_kind _ _ _ _ (c.loop-symbol.invariant.same names ∙ meets) refl (c.in-Err.ensures.acts names c.args.at l)

pub returns-in-Taken-clause-took : goal.returns-in-Taken-clause-took
returns-in-Taken-clause-took g c = λ names.
    let l = lexeme_named names c.args.lexeme in
    let meets = met names c.loop-symbol.lacking c.args.at l c.loop-symbol.self.stack.items c.pop.new.self.items c.in-Some.symbol c.loop-symbol.self.words.items
    (reaction_named names c.in-Some-react_below.reaction c.react_below.new.pushes) c.in-Some.ensures.items (c.in-Some-react_below.ensures.does names) in
    c.loop-symbol.invariant.same names ∙ meets ∙ c.in-Ok.ensures.acts names c.args.at l
    ∙ ap (λ acted. after_act acted c.args.at l (state names c.act.new.self.stack.items c.act.new.self.words.items)) c.in-Taken.is

pub loop-symbol-preserved-in-Passed : goal.loop-symbol-preserved-in-Passed
loop-symbol-preserved-in-Passed g c = record {
  shallow = c.in-Ok.ensures.shallow;
  same = λ names.
      let l = lexeme_named names c.args.lexeme in
      let meets = met names c.loop-symbol.lacking c.args.at l c.loop-symbol.self.stack.items c.pop.new.self.items c.in-Some.symbol c.loop-symbol.self.words.items
      (reaction_named names c.in-Some-react_below.reaction c.react_below.new.pushes) c.in-Some.ensures.items (c.in-Some-react_below.ensures.does names) in
      c.loop-symbol.invariant.same names ∙ meets ∙ c.in-Ok.ensures.acts names c.args.at l
      ∙ ap (λ acted. after_act acted c.args.at l (state names c.act.new.self.stack.items c.act.new.self.words.items)) c.in-Passed.is;
}

pub loop-symbol-preserved : goal.loop-symbol-preserved
loop-symbol-preserved g c = record {
  shallow = c.in-Ok.ensures.shallow;
  same = λ names.
      let l = lexeme_named names c.args.lexeme in
      let meets = met names c.loop-symbol.lacking c.args.at l c.loop-symbol.self.stack.items c.pop.new.self.items c.in-Some.symbol c.loop-symbol.self.words.items
      (reaction_named names c.in-Some-react_below.reaction c.react_below.new.pushes) c.in-Some.ensures.items (c.in-Some-react_below.ensures.does names) in
      c.loop-symbol.invariant.same names ∙ meets ∙ c.in-Ok.ensures.acts names c.args.at l
      ∙ ap (λ acted. after_act acted c.args.at l (state names c.act.new.self.stack.items c.act.new.self.words.items)) c.in-Lacked.is;
}
