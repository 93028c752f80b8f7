use Rattle.std.proofs.Common.{◌≡◌, refl, sym, ◌∙◌, [], ◌∷◌}
use Rattle.tags.specs.declared.token.Word.{Word}
use Rattle.semantics.specs.Machine.{answer}
use Rattle.istructure.specs.declared.FetchAnswer.{FetchAnswer}
use Rattle.element.specs.Holding.{Holding, held_in, taken, with_part}
use Rattle.element.specs.Changed.{with_cells}
use Rattle.element.proofs.Acting.{acts, acts_none}
use Rattle.element.proofs.Changing.{fetch_changes}
use Rattle.element.proofs.contents.Contents.fetches.Goals as goal

pub returns-in-Now-clause-did : goal.returns-in-Now-clause-did
returns-in-Now-clause-did g c = λ yes p sound near.
    let old : Holding = held_in c.args.self.now in
    let t = c.args.token.now in
    let cells = c.fetch_within.new.self in
    let cont = c.in-Back.cont in
    let word : t.word ≡ Word.Back cont = sym c.word.ensures ∙ sym c.unpack.ensures ∙ c.in-Back.is in
    let changes = fetch_changes p old.part t c.args.cell cont (FetchAnswer.Now c.in-Now.value) cells sound.part c.requires.address word near
    c.requires.here tt c.in-Now.ensures.exact c.in-Now.ensures.event in
    acts p old old (taken (with_part old (with_cells old.part cells)) c.args.at) (held_in c.answers.new.self) c.args.at t
    (answer cont (Word.Val c.in-Now.value) ∷ []) (with_cells old.part cells) c.args.sent.now.items c.args.sent.now.items
    c.answers.new.sent.items
    refl refl changes refl c.answers.ensures.held c.answers.ensures.sent

pub returns-in-Deferred-clause-did : goal.returns-in-Deferred-clause-did
returns-in-Deferred-clause-did g c = λ yes p sound near.
    let old : Holding = held_in c.args.self.now in
    let t = c.args.token.now in
    let cells = c.fetch_within.new.self in
    let cont = c.in-Back.cont in
    let word : t.word ≡ Word.Back cont = sym c.word.ensures ∙ sym c.unpack.ensures ∙ c.in-Back.is in
    let changes = fetch_changes p old.part t c.args.cell cont FetchAnswer.Deferred cells sound.part c.requires.address word near c.requires.here tt
    c.in-Deferred.ensures.exact c.in-Deferred.ensures.event in
    acts_none p old old (held_in c.is_taken.new.self) c.args.at t (with_cells old.part cells) c.args.sent.now.items c.args.sent.now.items
    refl refl changes c.is_taken.ensures.held
