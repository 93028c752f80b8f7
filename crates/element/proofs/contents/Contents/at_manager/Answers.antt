use Rattle.std.proofs.Common.{◌≡◌, ◌∙◌, ap, refl, subst, ℕ, ◌∷◌, ◌++◌, [], Option, Some, None, Ok}
use Rattle.tags.specs.declared.token.Word.{Word}
use Rattle.tags.specs.declared.token.Token.{Token}
use Rattle.semantics.specs.Machine.{answer}
use Rattle.element.specs.Holding.{Holding, held_in, shape_of, taken, queued, elsewhere, with_part}
use Rattle.element.specs.Changed.{with_manager, IsRequested}
use Rattle.element.proofs.Acting.{acts, acts_none}
use Rattle.element.proofs.Changing.{requested}
use Rattle.element.proofs.contents.Contents.at_manager.Goals as goal

pub returns-in-Ok-Some : goal.returns-in-Ok-Some
returns-in-Ok-Some g c = λ p sound near.
    let old : Holding = held_in c.args.self.now in
    let mid : Holding = held_in c.make_room.new.self in
    let same : mid ≡ old = c.make_room.ensures.held in
    let cont = c.in-Back.cont in
    let manager = c.request.new.manager in
    let asked = subst (λ (r : Option ℕ). IsRequested mid.part.manager cont (Ok r) manager) c.in-Ok-Some.field-0-is c.in-Ok-Some.ensures in
    let at = subst (λ (m : Holding). IsRequested m.part.manager cont (Ok (Some c.in-Ok-Some.frame)) manager) same asked in
    let changes = requested p old.part c.args.token cont old.part.manager manager (Some c.in-Ok-Some.frame) sound.part c.requires.address c.in-Back.is
    near c.requires.served refl at in
    let second = c.take.ensures.held ∙ ap (λ (m : Holding). taken (with_part mid (with_manager m.part manager)) c.args.at) same in
    let new = subst (λ (t : Token). held_in c.send.new.self ≡ queued (held_in c.take.new.self) (t ∷ [])) c.answer.ensures c.send.ensures.held in
    let sent = subst (λ (t : Token). c.send.new.sent.items ≡ c.make_room.new.sent.items ++ elsewhere (shape_of c.take.new.self) (t ∷ []))
    c.answer.ensures c.send.ensures.sent in
    acts p old mid (held_in c.take.new.self) (held_in c.send.new.self) c.args.at c.args.token (answer cont (Word.Frame c.in-Ok-Some.frame) ∷ [])
    (with_manager old.part manager) c.args.sent.now.items c.make_room.new.sent.items c.send.new.sent.items
    same c.make_room.ensures.sent changes second new sent

pub returns-in-Ok-None : goal.returns-in-Ok-None
returns-in-Ok-None g c = λ p sound near.
    let old : Holding = held_in c.args.self.now in
    let mid : Holding = held_in c.make_room.new.self in
    let same : mid ≡ old = c.make_room.ensures.held in
    let cont = c.in-Back.cont in
    let manager = c.request.new.manager in
    let asked = subst (λ (r : Option ℕ). IsRequested mid.part.manager cont (Ok r) manager) c.in-Ok-None.field-0-is c.in-Ok-None.ensures in
    let at = subst (λ (m : Holding). IsRequested m.part.manager cont (Ok None) manager) same asked in
    let changes = requested p old.part c.args.token cont old.part.manager manager None sound.part c.requires.address c.in-Back.is near
    c.requires.served refl at in
    let new = c.take-in-Ok-None.ensures.held ∙ ap (λ (m : Holding). taken (with_part mid (with_manager m.part manager)) c.args.at) same in
    acts_none p old mid (held_in c.take-in-Ok-None.new.self) c.args.at c.args.token (with_manager old.part manager) c.args.sent.now.items
    c.make_room.new.sent.items
    same c.make_room.ensures.sent changes new
