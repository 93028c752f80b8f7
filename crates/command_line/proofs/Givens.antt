-- One word of the walk over the words after a command that may name a file.
use Rattle.std.proofs.Common.{◌≡◌, ◌+◌, ◌-◌, ◌<◌, ap, ◌∙◌, ℕ, suc, List, [], ◌∷◌, length, get_or, take, drop, map, Option, None, refl, sym, arith}
use Rattle.command_line.specs.Words.{Text}
use Rattle.command_line.specs.Files.{after_word, all_given, found_or, given_of, option_value, value_found, word_given}
use Rattle.command_line.specs.declared.Command.{Command}
use Rattle.command_line.specs.declared.given.Given.{Given}
use Rattle.command_line.specs.declared.given.Walk.{Walk}
use Rattle.command_line.specs.declared.given.Walked.{Walked}
use Rattle.command_line.proofs.Walks.{rest_after, word_at}

pub at_end : (c : Command) (walk : Walk) → given_of c walk [] ≡ all_given c walk walk.file
unfolding given_of
at_end c walk = refl

-- how the words after one are read: by what it says
one_given : (c : Command) (walk : Walk) (words rest : List Text) (word : Text) (k : Walked) (a : Given)
    → words ≡ word ∷ rest → k ≡ word_given c walk word rest → given_of c walk words ≡ a → after_word k (λ on. given_of c on rest) ≡ a
unfolding given_of
one_given c walk words rest word k a e s h = ap (λ n. after_word n (λ on. given_of c on rest)) s ∙ sym (ap (given_of c walk) e) ∙ h

-- the word at place i, which is read with a slice of the words after it
pub word_of : {X : Type 0} (f : X → Text) (xs : List X) (i : ℕ) (x : X) → i < length xs → x ≡ get_or xs i x
    → (c : Command) (walk : Walk) (word : Text) (k : Walked) (a : Given) → f x ≡ word
    → k ≡ word_given c walk word (map f (take (length xs - (i + 1)) (drop (i + 1) xs)))
    → given_of c walk (drop i (map f xs)) ≡ a → after_word k (λ on. given_of c on (drop (suc i) (map f xs))) ≡ a
word_of f xs i x lt at c walk word k a is read h =
    let next : i + 1 ≡ suc i = omega arith in
    let rest = rest_after f xs (i + 1) ∙ ap (λ (n : ℕ). drop n (map f xs)) next in
    one_given c walk (drop i (map f xs)) (drop (suc i) (map f xs)) (f x) k a (word_at f xs i x lt at)
    (read ∙ ap (word_given c walk word) rest ∙ ap (λ w. word_given c walk w (drop (suc i) (map f xs))) (sym is)) h

-- THE VALUE OF AN OPTION: what the word at place i, which is read with a slice of the words after it, settles
pub no_value : (name : Text) → option_value name [] ≡ None
unfolding option_value
no_value name = refl

one_found : (name : Text) (words rest : List Text) (word : Text) (k : Option (Option Text)) (a : Option Text)
    → words ≡ word ∷ rest → k ≡ value_found name word rest → option_value name words ≡ a → found_or k (option_value name rest) ≡ a
unfolding option_value
one_found name words rest word k a e s h = ap (λ n. found_or n (option_value name rest)) s ∙ sym (ap (option_value name) e) ∙ h

pub found_at : {X : Type 0} (f : X → Text) (xs : List X) (i : ℕ) (x : X) → i < length xs → x ≡ get_or xs i x
    → (name word : Text) (k : Option (Option Text)) (a : Option Text) → f x ≡ word
    → k ≡ value_found name word (map f (take (length xs - (i + 1)) (drop (i + 1) xs)))
    → option_value name (drop i (map f xs)) ≡ a → found_or k (option_value name (drop (suc i) (map f xs))) ≡ a
found_at f xs i x lt at name word k a is read h =
    let next : i + 1 ≡ suc i = omega arith in
    let rest = rest_after f xs (i + 1) ∙ ap (λ (n : ℕ). drop n (map f xs)) next in
    one_found name (drop i (map f xs)) (drop (suc i) (map f xs)) (f x) k a (word_at f xs i x lt at)
    (read ∙ ap (value_found name word) rest ∙ ap (λ w. value_found name w (drop (suc i) (map f xs))) (sym is)) h
