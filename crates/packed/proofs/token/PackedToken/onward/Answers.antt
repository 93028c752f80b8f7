use Rattle.std.proofs.Common.{◌≡◌, ◌+◌, ◌*◌, ◌<◌, ap, ◌∙◌, get_or, subst, arith}
use Rattle.tags.specs.declared.token.Token.{Token}
use Rattle.packed.specs.PackedTokens.{port_state, to_place, token_from, AreWordsOf}
use Rattle.packed.proofs.TokensBack.{instr_token}
use Rattle.packed.proofs.token.PackedToken.onward.Goals as goal

pub returns : goal.returns
returns c = λ f ip p is.
    let x = get_or c.words-words.result 0 0 in
    let y = get_or c.words-words.result 1 0 in
    let are : AreWordsOf (port_state c.args.port) c.args.word.now x y = subst (λ s. AreWordsOf s c.args.word.now x y) c.state_of.ensures
    c.words-words.ensures.words in
    let own : c.self.inside.place ≡ ip + 4294967296 * f = c.self.invariant.place ∙ ap to_place (ap (λ (t : Token). t.to) c.self.view_is ∙ is) in
    let less : ip + c.args.ahead < 4294967296 = c.requires.1 f ip p is in
    let place : c.self.inside.place + c.from.result ≡ (ip + c.args.ahead) + 4294967296 * f = omega (arith, c.from.ensures) in
    ap (λ k. token_from x y k 0) place ∙ instr_token f (ip + c.args.ahead) x y c.args.port c.args.word.now less are c.words-words.ensures.word
