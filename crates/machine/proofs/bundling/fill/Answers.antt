use Rattle.std.proofs.Common.{◌≡◌, sym, subst, ◌<◌, ◌+◌, [], ◌∷◌, ◌++◌, List, length, take, arith}
use Rattle.std.proofs.lemmas.List.{append-nil, take_more}
use Rattle.tags.specs.declared.token.Token.{Token}
use Rattle.machine.specs.Runners.{KeepsTokens, Fits}
use Rattle.machine.proofs.Keeping.{keeps_both, still_fits}
use Rattle.machine.proofs.bundling.fill.Goals as goal

pub keep-requires-clause-near : goal.keep-requires-clause-near
keep-requires-clause-near g c =
    let test = c.loop-at-test.true in
    let low : c.loop-at.at < length c.args.sent.now = omega (arith, test) in
    let n = c.args.elements in
    let all = c.args.unposted.now.items in
    let token = c.index-sent-at.result in
    still_fits n all c.loop-at.unposted.items (take c.loop-at.at c.args.sent.now) token c.loop-at.invariant
    (subst (λ (t : Token). Fits n all t) (sym c.index-sent-at.is) (c.requires.near c.loop-at.at token low))

pub loop-at-preserved : goal.loop-at-preserved
loop-at-preserved g c =
    let test = c.loop-at-test.true in
    let low : c.loop-at.at < length c.args.sent.now = omega (arith, test) in
    let sent = c.args.sent.now in
    let token = c.index-sent-at.result in
    let more : take (c.loop-at.at + 1) sent ≡ take c.loop-at.at sent ++ token ∷ [] = subst (λ (t : Token). take (c.loop-at.at + 1) sent
    ≡ take c.loop-at.at sent ++ t ∷ []) (sym c.index-sent-at.is) (take_more sent c.loop-at.at token low) in
    subst (λ (l : List Token). KeepsTokens c.args.elements c.args.unposted.now.items c.keep.new.unposted.items l) (sym more)
    (keeps_both c.args.elements c.args.unposted.now.items c.loop-at.unposted.items c.keep.new.unposted.items (take c.loop-at.at sent) (token ∷ [])
    c.loop-at.invariant c.in-Ok.ensures.ok)

pub returns-in_default-clause-keeps : goal.returns-in_default-clause-keeps
returns-in_default-clause-keeps g c =
    let front = take c.loop-at.at c.args.sent.now in
    subst (λ (l : List Token). KeepsTokens c.args.elements c.args.unposted.now.items c.keep.new.unposted.items l) (append-nil front)
    (keeps_both c.args.elements c.args.unposted.now.items c.loop-at.unposted.items c.keep.new.unposted.items front [] c.loop-at.invariant
    c.in_default.ensures.err)
