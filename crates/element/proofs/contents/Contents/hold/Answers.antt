use Rattle.std.proofs.Common.{sym, subst, List, [], ◌∷◌, ◌++◌}
use Rattle.tags.specs.declared.token.Token.{Token}
use Rattle.element.specs.Holding.{Holding, held_in}
use Rattle.element.specs.ByDepth.{AreAside}
use Rattle.element.proofs.Aside.{hold_aside}
use Rattle.element.proofs.contents.Contents.hold.Goals as goal

pub returns-clause-are : goal.returns-clause-are
returns-clause-are g c = λ p are.
    let h : Holding = held_in c.args.self.now in
    let aside = c.args.aside.now.items in
    let t = c.packed-token.result in
    let all = hold_aside p aside h t c.requires.some c.packed-token.ensures c.requires.asks are in
    subst (λ (ts : List Token). AreAside p ts (held_in c.take.new.self)) (sym c.push_reserved.ensures.items)
    (subst (λ (x : Holding). AreAside p (aside ++ t ∷ []) x) (sym c.take.ensures.held) all)
