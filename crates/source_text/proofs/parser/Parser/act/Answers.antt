use Rattle.std.proofs.Common.{◌++◌, reverse, ap, ap₂, ◌∙◌}
use Rattle.std.specs.Prelude.{option_to_list}
use Rattle.source_text.proofs.Acting.{acts_takes, stays_shallow}
use Rattle.source_text.proofs.parser.Parser.act.Goals as goal

pub returns-in_ok-push_symbols-in-Takes-clause-acts : goal.returns-in_ok-push_symbols-in-Takes-clause-acts
returns-in_ok-push_symbols-in-Takes-clause-acts g c = λ names at l.
    let old = c.args.self.now in
    let r = c.args.reaction in
    let stack = c.in_ok-push_symbols-in-Takes.ensures.stack
    ∙ ap₂ (λ t u. t ++ reverse u)
    (c.in_ok-push_symbol-in-Takes.ensures.stack ∙ ap (λ t. t ++ option_to_list r.below) (c.push_words.ensures.stack ∙ c.push_word.ensures.stack))
    c.as_slice-in-Takes.ensures in
    let words = c.push_symbols.ensures.words ∙ c.push_symbol.ensures.words ∙ c.in_ok-push_words-in-Takes.ensures.words
    ∙ ap₂ (λ t u. t ++ u) c.in_ok-push_word.ensures.words c.as_slice.ensures in
    acts_takes names at l old.stack.items old.words.items r c.args.pushes.now c.push_symbols.new.self.stack.items
    c.push_symbols.new.self.words.items
    c.in-Takes.is stack words

pub returns-in_ok-push_symbols-in-Takes-clause-shallow : goal.returns-in_ok-push_symbols-in-Takes-clause-shallow
returns-in_ok-push_symbols-in-Takes-clause-shallow g c =
    let old = c.args.self.now in
    let r = c.args.reaction in
    let stack = c.in_ok-push_symbols-in-Takes.ensures.stack
    ∙ ap₂ (λ t u. t ++ reverse u)
    (c.in_ok-push_symbol-in-Takes.ensures.stack ∙ ap (λ t. t ++ option_to_list r.below) (c.push_words.ensures.stack ∙ c.push_word.ensures.stack))
    c.as_slice-in-Takes.ensures in
    stays_shallow old.stack.items c.push_symbols.new.self.stack.items r c.args.pushes.now c.in-Takes.is stack c.requires.stack
    c.requires.reaction
