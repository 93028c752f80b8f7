use Rattle.std.proofs.Common.{◌≡◌, ap, ◌∙◌, get_or}
use Rattle.packed.specs.Packing.{head_of, word_parts}
use Rattle.packed.specs.PackedTokens.{token_from, AreTokenWordsOf}
use Rattle.packed.proofs.TokensBack.{token_back, token_words_back}
use Rattle.packed.proofs.token.PackedToken.pack.Goals as goal

are : (c : goal.After-words-words) → AreTokenWordsOf c.args.token (get_or c.words-words.result 0 0) (get_or c.words-words.result 1 0)
    c.of-address.result.place c.of-address.result.value
are c = record {
  head =
      ap (λ ws. get_or ws 0 0) c.words-words.ensures ∙ ap (λ f. head_of c.of-address.result.state f) c.of_word.ensures.fields
      ∙ ap (λ s. head_of s (word_parts c.args.token.word)) c.of-address.ensures.state;
  body = ap (λ ws. get_or ws 1 0) c.words-words.ensures ∙ ap (λ f. f.body) c.of_word.ensures.fields;
  place = c.of-address.ensures.place;
  value = c.of-address.ensures.value;
}

back : (c : goal.After-words-words) → token_from (get_or c.words-words.result 0 0) (get_or c.words-words.result 1 0) c.of-address.result.place
    c.of-address.result.value ≡ c.args.token
back c = token_back c.args.token _ _ _ _ (record { to = c.of-address.ensures.there; word = c.of_word.ensures.there }) (are c)

pub returns : goal.returns
returns c = back c

pub invariant_of-result : goal.invariant_of-result
invariant_of-result c = token_words_back c.args.token _ _ _ _ (back c) (are c)
