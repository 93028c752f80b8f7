use Rattle.std.proofs.Common.{◌≡◌, ◌+◌, ◌*◌, ap, ◌∙◌, get_or, subst, arith, refl}
use Rattle.tags.specs.declared.token.To.{To}
use Rattle.packed.specs.PackedTokens.{port_state, token_from, AreWordsOf, AreTokenWordsOf}
use Rattle.packed.proofs.TokensBack.{instr_token, token_words_back}
use Rattle.packed.proofs.token.PackedToken.to_instr.Goals as goal

are : (c : goal.After-from-2) → AreWordsOf (port_state c.args.port) c.args.word.now (get_or c.words-words.result 0 0) (get_or c.words-words.result 1 0)
are c = subst (λ s. AreWordsOf s c.args.word.now (get_or c.words-words.result 0 0) (get_or c.words-words.result 1 0)) c.state_of.ensures
    c.words-words.ensures.words

place : (c : goal.After-from-2) → c.from.result + 4294967296 * c.from-2.result ≡ c.args.ip + 4294967296 * c.args.frame
place c = omega (arith, c.from.ensures, c.from-2.ensures)

back : (c : goal.After-from-2) → token_from (get_or c.words-words.result 0 0) (get_or c.words-words.result 1 0)
    (c.from.result + 4294967296 * c.from-2.result) 0 ≡ record { to = To.Instr c.args.frame c.args.ip c.args.port; word = c.args.word.now }
back c =
    ap (λ p. token_from (get_or c.words-words.result 0 0) (get_or c.words-words.result 1 0) p 0) (place c)
    ∙ instr_token c.args.frame c.args.ip _ _ c.args.port c.args.word.now (omega (arith, c.ranges.ip.fits)) (are c) c.words-words.ensures.word

pub returns : goal.returns
returns c = back c

words : (c : goal.After-from-2) → AreTokenWordsOf (record { to = To.Instr c.args.frame c.args.ip c.args.port; word = c.args.word.now })
    (get_or c.words-words.result 0 0) (get_or c.words-words.result 1 0) (c.from.result + 4294967296 * c.from-2.result) 0
words c = record { head = (are c).head; body = (are c).body; place = place c; value = refl }

pub invariant_of-result : goal.invariant_of-result
invariant_of-result c = token_words_back (record { to = To.Instr c.args.frame c.args.ip c.args.port; word = c.args.word.now }) _ _ _ _ (back c) (words c)
