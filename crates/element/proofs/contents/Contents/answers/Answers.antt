use Rattle.std.proofs.Common.{◌≡◌, sym, ◌∙◌, ap, subst, ◌<◌, [], ◌∷◌, ◌++◌, arith}
use Rattle.tags.specs.declared.token.Token.{Token}
use Rattle.element.specs.Parts.{Shape}
use Rattle.element.specs.Holding.{Holding, held_in, shape_of, taken, queued, elsewhere}
use Rattle.element.proofs.contents.Contents.answers.Goals as goal

pub send_packed-requires-clause-some : goal.send_packed-requires-clause-some
send_packed-requires-clause-some g c =
    let shape : shape_of c.take.new.self ≡ shape_of c.args.self.now = ap (λ (h : Holding). h.part.shape) c.take.ensures.held in
    subst (λ (z : Shape). z.element < z.elements) (sym shape) c.requires.some

pub send_packed-requires-clause-sent_room : goal.send_packed-requires-clause-sent_room
send_packed-requires-clause-sent_room g c = λ no. let spare = c.requires.sent_spare no in omega (arith, spare)

pub returns-clause-held : goal.returns-clause-held
returns-clause-held g c =
    subst (λ (t : Token). held_in c.send_packed.new.self ≡ queued (taken (held_in c.args.self.now) c.args.at) (t ∷ [])) (c.pack.ensures ∙ c.answer.ensures)
    (c.send_packed.ensures.held ∙ ap (λ (h : Holding). queued h (c.pack.result ∷ [])) c.take.ensures.held)

pub returns-clause-sent : goal.returns-clause-sent
returns-clause-sent g c =
    let before = c.args.sent.now.items in
    let shape : shape_of c.take.new.self ≡ shape_of c.args.self.now = ap (λ (h : Holding). h.part.shape) c.take.ensures.held in
    subst (λ (t : Token). c.send_packed.new.sent.items ≡ before ++ elsewhere (shape_of c.args.self.now) (t ∷ [])) (c.pack.ensures ∙ c.answer.ensures)
    (c.send_packed.ensures.sent ∙ ap (λ (z : Shape). before ++ elsewhere z (c.pack.result ∷ [])) shape)
