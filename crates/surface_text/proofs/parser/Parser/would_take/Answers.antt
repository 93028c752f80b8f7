use Rattle.std.proofs.Common.{All, [], ◌∷◌, ap, sym, subst, ◌∙◌, arith}
use Rattle.lemmas.proofs.Alls.{all_left}
use Rattle.law_surface_text.specs.Automaton.{advance}
use Rattle.law_surface_text.specs.Named.{named_stack}
use Rattle.surface_text.specs.Outcomes.{lexeme_named, IsShallow}
use Rattle.surface_text.proofs.Acting.{tried, tries, tries_nothing}
use Rattle.surface_text.proofs.parser.Parser.would_take.Goals as goal

pub returns-in-Takes : goal.returns-in-Takes
returns-in-Takes g c = λ names.
    let l = lexeme_named names c.args.lexeme in
    let rest = c.loop-symbol.rest.now in
    let below = c.in-Some.below.now in
    sym (c.loop-symbol.invariant.same names
    ∙ tries names c.loop-symbol.lacking l rest below c.in-Some.symbol.now c.in-Some-react_below.reaction c.react_below.new.pushes
    c.in-Some.ensures.cases.0 (c.in-Some-react_below.ensures.does names)
    ∙ ap (λ o. tried o (λ lacks. advance 200 (named_stack names below) lacks 0 l)) c.in-Takes.is)

pub returns-in-Refuses : goal.returns-in-Refuses
returns-in-Refuses g c = λ names.
    let l = lexeme_named names c.args.lexeme in
    let rest = c.loop-symbol.rest.now in
    let below = c.in-Some.below.now in
    sym (c.loop-symbol.invariant.same names
    ∙ tries names c.loop-symbol.lacking l rest below c.in-Some.symbol.now c.in-Some-react_below.reaction c.react_below.new.pushes
    c.in-Some.ensures.cases.0 (c.in-Some-react_below.ensures.does names)
    ∙ ap (λ o. tried o (λ lacks. advance 200 (named_stack names below) lacks 0 l)) c.in-Refuses.is)

pub loop-symbol-preserved-in-Passes : goal.loop-symbol-preserved-in-Passes
loop-symbol-preserved-in-Passes g c = record {
  shallow = all_left IsShallow c.in-Some.below.now (c.in-Some.symbol.now ∷ [])
      (subst (All IsShallow) c.in-Some.ensures.cases.0 c.loop-symbol.invariant.shallow);
  same = λ names.
      let l = lexeme_named names c.args.lexeme in
      let rest = c.loop-symbol.rest.now in
      let below = c.in-Some.below.now in
      c.loop-symbol.invariant.same names
      ∙ tries names c.loop-symbol.lacking l rest below c.in-Some.symbol.now c.in-Some-react_below.reaction c.react_below.new.pushes
      c.in-Some.ensures.cases.0 (c.in-Some-react_below.ensures.does names)
      ∙ ap (λ o. tried o (λ lacks. advance 200 (named_stack names below) lacks 0 l)) c.in-Passes.is;
}

pub loop-symbol-preserved : goal.loop-symbol-preserved
loop-symbol-preserved g c = record {
  shallow = all_left IsShallow c.in-Some.below.now (c.in-Some.symbol.now ∷ [])
      (subst (All IsShallow) c.in-Some.ensures.cases.0 c.loop-symbol.invariant.shallow);
  same = λ names.
      let l = lexeme_named names c.args.lexeme in
      let rest = c.loop-symbol.rest.now in
      let below = c.in-Some.below.now in
      c.loop-symbol.invariant.same names
      ∙ tries names c.loop-symbol.lacking l rest below c.in-Some.symbol.now c.in-Some-react_below.reaction c.react_below.new.pushes
      c.in-Some.ensures.cases.0 (c.in-Some-react_below.ensures.does names)
      ∙ ap (λ o. tried o (λ lacks. advance 200 (named_stack names below) lacks 0 l)) c.in-Lacks.is;
}

pub returns : goal.returns
returns g c = λ names. sym (c.loop-symbol.invariant.same names
    ∙ tries_nothing names c.loop-symbol.lacking (lexeme_named names c.args.lexeme) c.loop-symbol.rest.now (omega (arith, c.in_default.ensures.cases)))
