use Rattle.std.proofs.Common.{◌++◌, reverse, ap, ap₂, ◌∙◌}
use Rattle.surface_text.specs.Running.{below_of}
use Rattle.surface_text.proofs.Acting.{acts_takes, stays_shallow}
use Rattle.surface_text.proofs.parser.Parser.act.Goals as goal

pub returns-in_ok-push_symbols-in-Takes-clause-acts : goal.returns-in_ok-push_symbols-in-Takes-clause-acts
returns-in_ok-push_symbols-in-Takes-clause-acts g c = λ names at l.
    let old = c.args.self.now in
    let r = c.args.reaction in
    let stack = c.in_ok-push_symbols-in-Takes.ensures.stack
    ∙ ap₂ (λ t u. t ++ reverse u)
    (c.in_ok-push_below-in-Takes.ensures.stack ∙ ap (λ t. t ++ below_of r.below) (c.push_words.ensures.stack ∙ c.push_word.ensures.stack))
    c.as_slice-in-Takes.ensures in
    let words = c.push_symbols.ensures.words ∙ c.push_below.ensures.words ∙ c.in_ok-push_words-in-Takes.ensures.words
    ∙ ap₂ (λ t u. t ++ u) c.in_ok-push_word.ensures.words c.as_slice.ensures in
    acts_takes names at l old.stack.items old.words.items r c.args.pushes.now c.in-Takes.needed c.push_symbols.new.self.stack.items
    c.push_symbols.new.self.words.items
    c.in-Takes.is c.if-needed-gt-LIMIT.false stack words

pub returns-in_ok-push_symbols-in-Takes-clause-shallow : goal.returns-in_ok-push_symbols-in-Takes-clause-shallow
returns-in_ok-push_symbols-in-Takes-clause-shallow g c =
    let old = c.args.self.now in
    let r = c.args.reaction in
    let stack = c.in_ok-push_symbols-in-Takes.ensures.stack
    ∙ ap₂ (λ t u. t ++ reverse u)
    (c.in_ok-push_below-in-Takes.ensures.stack ∙ ap (λ t. t ++ below_of r.below) (c.push_words.ensures.stack ∙ c.push_word.ensures.stack))
    c.as_slice-in-Takes.ensures in
    stays_shallow old.stack.items c.push_symbols.new.self.stack.items r c.args.pushes.now c.in-Takes.needed c.in-Takes.is c.if-needed-gt-LIMIT.false stack
    c.requires.stack c.requires.reaction
