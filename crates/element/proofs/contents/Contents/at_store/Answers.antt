use Rattle.std.proofs.Common.{◌≡◌, ◌∙◌, ap, subst, List, ◌∷◌, ◌++◌, []}
use Rattle.std.specs.Prelude.{vec_capacity}
use Rattle.tags.specs.declared.token.Cont.{Cont}
use Rattle.tags.specs.declared.token.Token.{Token}
use Rattle.semantics.specs.Machine.{answers}
use Rattle.istructure.specs.declared.StoreAnswer.{StoreAnswer}
use Rattle.istructure.specs.Answered.{StoredAt}
use Rattle.istructure.specs.Holds.{StoreIsEvent}
use Rattle.element.specs.Holding.{Holding, held_in, shape_of, taken, queued, elsewhere, with_part, cleared}
use Rattle.element.specs.Changed.{with_cells}
use Rattle.element.proofs.Acting.{acts_stored, with_answered}
use Rattle.element.proofs.Changing.{store_changes}
use Rattle.element.proofs.contents.Contents.at_store.Goals as goal

pub returns-in-Stored : goal.returns-in-Stored
returns-in-Stored g c = λ p sound near.
    let old : Holding = held_in c.args.self.now in
    let mid : Holding = held_in c.make_room.new.self in
    let same : mid ≡ old = c.make_room.ensures.held in
    let cells = c.store.new.self in
    let cont = c.in-Back.cont in
    let x = c.args.cell in
    let v = c.args.value.now in
    let listed = c.store.new.answers.items in
    let room = vec_capacity c.make_room.new.self.answered in
    let none : mid.answered ≡ [] = ap (λ (m : Holding). m.answered) same ∙ sound.answered in
    let at_mid = subst (λ (cs : List Cont). StoredAt mid.part.cells x v room cs StoreAnswer.Stored cells listed) none c.in-Stored.ensures.exact in
    let at = subst (λ (m : Holding). StoredAt m.part.cells x v room [] StoreAnswer.Stored cells listed) same at_mid in
    let event_mid = subst (λ (cs : List Cont). StoreIsEvent mid.part.cells x v StoreAnswer.Stored cells cs listed) none c.in-Stored.ensures.event in
    let event = subst (λ (m : Holding). StoreIsEvent m.part.cells x v StoreAnswer.Stored cells [] listed) same event_mid in
    let changes = store_changes p old.part c.args.token x v cont room cells listed sound.part c.requires.address c.in-Back.is near c.requires.here at event in
    let second = c.take.ensures.held ∙ ap (λ (m : Holding). taken (with_answered (with_part mid (with_cells m.part cells)) listed) c.args.at) same in
    let listed_is : c.take.new.self.answered.items ≡ listed = ap (λ (h : Holding). h.answered) second in
    let new = subst (λ (t : Token). held_in c.send.new.self ≡ queued (held_in c.answer_all.new.self) (t ∷ [])) c.answer.ensures c.send.ensures.held in
    let sent = subst (λ (t : Token). c.send.new.sent.items ≡ c.answer_all.new.sent.items ++ elsewhere (shape_of c.answer_all.new.self) (t ∷ []))
    c.answer.ensures c.send.ensures.sent in
    let third = subst (λ (cs : List Cont). held_in c.answer_all.new.self ≡ cleared (queued (held_in c.take.new.self) (answers cs v))) listed_is
    c.answer_all.ensures.held in
    let half = subst (λ (cs : List Cont). c.answer_all.new.sent.items ≡ c.make_room.new.sent.items
    ++ elsewhere (shape_of c.take.new.self) (answers cs v)) listed_is c.answer_all.ensures.sent in
    acts_stored p old mid (held_in c.take.new.self) (held_in c.answer_all.new.self) (held_in c.send.new.self) c.args.at c.args.token listed cont v
    (with_cells old.part cells)
    c.args.sent.now.items c.make_room.new.sent.items c.answer_all.new.sent.items c.send.new.sent.items
    same sound.answered c.make_room.ensures.sent changes second third new half sent
