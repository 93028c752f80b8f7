use Rattle.std.proofs.Common.{◌≡◌, ◌∙◌, ap, subst, ◌∷◌, ◌++◌, []}
use Rattle.tags.specs.declared.token.Word.{Word}
use Rattle.tags.specs.declared.token.Token.{Token}
use Rattle.semantics.specs.Machine.{answer}
use Rattle.istructure.specs.declared.FetchAnswer.{FetchAnswer}
use Rattle.istructure.specs.Answered.{FetchedAt}
use Rattle.istructure.specs.Holds.{FetchIsEvent}
use Rattle.element.specs.Holding.{Holding, held_in, shape_of, taken, queued, elsewhere, with_part}
use Rattle.element.specs.Changed.{with_cells}
use Rattle.element.proofs.Acting.{acts, acts_none}
use Rattle.element.proofs.Changing.{fetch_changes}
use Rattle.element.proofs.contents.Contents.at_fetch.Goals as goal

pub returns-in-Now : goal.returns-in-Now
returns-in-Now g c = λ p sound near.
    let old : Holding = held_in c.args.self.now in
    let mid : Holding = held_in c.make_room.new.self in
    let same : mid ≡ old = c.make_room.ensures.held in
    let cells = c.fetch.new.self in
    let a = FetchAnswer.Now c.in-Now.value in
    let cont = c.in-Back.cont in
    let x = c.args.cell in
    let at = subst (λ (m : Holding). FetchedAt m.part.cells x cont a cells) same c.in-Now.ensures.exact in
    let event = subst (λ (m : Holding). FetchIsEvent m.part.cells x cont a cells) same c.in-Now.ensures.event in
    let changes = fetch_changes p old.part c.args.token x cont a cells sound.part c.requires.address c.in-Back.is near c.requires.here tt at event in
    let second = c.take.ensures.held ∙ ap (λ (m : Holding). taken (with_part mid (with_cells m.part cells)) c.args.at) same in
    let new = subst (λ (t : Token). held_in c.send.new.self ≡ queued (held_in c.take.new.self) (t ∷ [])) c.answer.ensures c.send.ensures.held in
    let sent = subst (λ (t : Token). c.send.new.sent.items ≡ c.make_room.new.sent.items ++ elsewhere (shape_of c.take.new.self) (t ∷ []))
    c.answer.ensures c.send.ensures.sent in
    acts p old mid (held_in c.take.new.self) (held_in c.send.new.self) c.args.at c.args.token (answer cont (Word.Val c.in-Now.value) ∷ [])
    (with_cells old.part cells) c.args.sent.now.items c.make_room.new.sent.items c.send.new.sent.items
    same c.make_room.ensures.sent changes second new sent

pub returns-in-Deferred : goal.returns-in-Deferred
returns-in-Deferred g c = λ p sound near.
    let old : Holding = held_in c.args.self.now in
    let mid : Holding = held_in c.make_room.new.self in
    let same : mid ≡ old = c.make_room.ensures.held in
    let cells = c.fetch.new.self in
    let a = FetchAnswer.Deferred in
    let cont = c.in-Back.cont in
    let x = c.args.cell in
    let at = subst (λ (m : Holding). FetchedAt m.part.cells x cont a cells) same c.in-Deferred.ensures.exact in
    let event = subst (λ (m : Holding). FetchIsEvent m.part.cells x cont a cells) same c.in-Deferred.ensures.event in
    let changes = fetch_changes p old.part c.args.token x cont a cells sound.part c.requires.address c.in-Back.is near c.requires.here tt at event in
    let new = c.take-in-Deferred.ensures.held ∙ ap (λ (m : Holding). taken (with_part mid (with_cells m.part cells)) c.args.at) same in
    acts_none p old mid (held_in c.take-in-Deferred.new.self) c.args.at c.args.token (with_cells old.part cells) c.args.sent.now.items
    c.make_room.new.sent.items
    same c.make_room.ensures.sent changes new
