use Rattle.std.proofs.Common.{sym, subst, ℕ, ◌<◌, List, [], length}
use Rattle.tags.specs.declared.token.Token.{Token}
use Rattle.element.specs.Acts.{Acts}
use Rattle.element.specs.Holding.{Holding, held_in}
use Rattle.element.specs.Steps.{Does}
use Rattle.element.specs.ByDepth.{TakesByDepth, AreAside, whole}
use Rattle.element.proofs.Aside.{grant_acts}
use Rattle.element.proofs.contents.Contents.grants_first.Goals as goal

pub returns-clause-did : goal.returns-clause-did
returns-clause-did g c = λ _.
    let p = g.C.Instructions.program c.args.code.now in
    let h : Holding = held_in c.args.self.now in
    let new : Holding = held_in c.acts_elsewhere.new.self in
    let aside = c.args.aside.now.items in
    let t = c.index.result.now in
    let low : c.best-at.result < length aside = subst (λ (l : List Token). c.best-at.result < length l) c.deref.ensures.value c.best-at.ensures in
    let acts = subst (λ (x : Holding). Acts p x 0 t c.args.sent.now.items new c.acts_elsewhere.new.sent.items) c.offer.ensures.held
    (c.acts_elsewhere.ensures.did c.if-not-acts_elsewhere.false) in
    let all = grant_acts p h new aside c.best-at.result t c.args.sent.now.items c.acts_elsewhere.new.sent.items c.requires.one c.requires.are c.requires.none
    low c.index.ensures acts in
    subst (λ (ts : List Token). (pick : ℕ) × TakesByDepth (whole aside h).queue pick × Does p (whole aside h) pick [] (whole ts new) [])
    (sym c.take_out.ensures.items) all.1

pub returns-clause-are : goal.returns-clause-are
returns-clause-are g c =
    let p = g.C.Instructions.program c.args.code.now in
    let h : Holding = held_in c.args.self.now in
    let new : Holding = held_in c.acts_elsewhere.new.self in
    let aside = c.args.aside.now.items in
    let t = c.index.result.now in
    let low : c.best-at.result < length aside = subst (λ (l : List Token). c.best-at.result < length l) c.deref.ensures.value c.best-at.ensures in
    let acts = subst (λ (x : Holding). Acts p x 0 t c.args.sent.now.items new c.acts_elsewhere.new.sent.items) c.offer.ensures.held
    (c.acts_elsewhere.ensures.did c.if-not-acts_elsewhere.false) in
    let all = grant_acts p h new aside c.best-at.result t c.args.sent.now.items c.acts_elsewhere.new.sent.items c.requires.one c.requires.are c.requires.none
    low c.index.ensures acts in
    subst (λ (ts : List Token). AreAside p ts new) (sym c.take_out.ensures.items) all.0

pub returns-clause-sent : goal.returns-clause-sent
returns-clause-sent g c =
    let p = g.C.Instructions.program c.args.code.now in
    let h : Holding = held_in c.args.self.now in
    let new : Holding = held_in c.acts_elsewhere.new.self in
    let aside = c.args.aside.now.items in
    let t = c.index.result.now in
    let low : c.best-at.result < length aside = subst (λ (l : List Token). c.best-at.result < length l) c.deref.ensures.value c.best-at.ensures in
    let acts = subst (λ (x : Holding). Acts p x 0 t c.args.sent.now.items new c.acts_elsewhere.new.sent.items) c.offer.ensures.held
    (c.acts_elsewhere.ensures.did c.if-not-acts_elsewhere.false) in
    let all = grant_acts p h new aside c.best-at.result t c.args.sent.now.items c.acts_elsewhere.new.sent.items c.requires.one c.requires.are c.requires.none
    low c.index.ensures acts in
    all.2
