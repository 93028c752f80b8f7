-- One word of the walk over the words after a command.
use Rattle.std.proofs.Common.{◌≡◌, ◌<◌, ◌≤◌, ◌-◌, ap, ◌∙◌, ℕ, zero, suc, List, [], ◌∷◌, length, get_or, Option, refl, sym, arith, take, drop, map}
use Rattle.std.proofs.lemmas.List.{drop_all, take_all, length-drop, length-map}
use Rattle.command_line.specs.Words.{Text, after_step, asked_of, ended, with_input, with_inputs, word_met}
use Rattle.command_line.specs.declared.Asked.{Asked}
use Rattle.command_line.specs.declared.Command.{Command}
use Rattle.command_line.specs.declared.inputs.Inputs.{Inputs}
use Rattle.command_line.specs.declared.options.Collected.{Collected}
use Rattle.command_line.specs.declared.options.OptionName.{OptionName}
use Rattle.command_line.specs.declared.options.Step.{Step}

-- the words from place i on begin with the word there
pub word_at : {X : Type 0} (f : X → Text) (xs : List X) (i : ℕ) (x : X) → i < length xs → x ≡ get_or xs i x → drop i (map f xs) ≡ f x ∷ drop (suc i) (map f xs)
word_at f [] i x lt is = absurd (omega arith)
word_at f (y ∷ ys) zero x lt is = ap (λ z. f z ∷ map f ys) (sym is)
word_at f (y ∷ ys) (suc i) x lt is = word_at f ys i x (omega arith) is

-- what is after a place, as a slice of it
map_rest : {X : Type 0} (f : X → Text) (n : ℕ) (xs : List X) → map f (drop n xs) ≡ drop n (map f xs)
map_rest f zero xs = refl
map_rest f (suc n) [] = refl
map_rest f (suc n) (x ∷ xs) = map_rest f n xs

pub rest_after : {X : Type 0} (f : X → Text) (xs : List X) (n : ℕ) → map f (take (length xs - n) (drop n xs)) ≡ drop n (map f xs)
rest_after f xs n =
    let left : length (drop n xs) ≡ length xs - n = length-drop n xs in
    ap (map f) (take_all (length xs - n) (drop n xs) (omega (arith, left))) ∙ map_rest f n xs

pub none_after : {X : Type 0} (f : X → Text) (xs : List X) (i : ℕ) → length xs ≤ i → drop i (map f xs) ≡ []
none_after f xs i le = drop_all i (map f xs) (rw (length-map xs f) le)

pub at_last : (c : Command) (g : Collected) (ins : Inputs) (w : Option OptionName) → asked_of c g ins w [] ≡ ended c g ins w
unfolding asked_of
at_last c g ins w = refl

-- how the words after one are read: by what it says
pub one_step : (c : Command) (g : Collected) (ins : Inputs) (w : Option OptionName) (words rest : List Text) (word : Text) (k : Step) (a : Asked)
    → words ≡ word ∷ rest → k ≡ word_met c g w word → asked_of c g ins w words ≡ a → after_step c g ins k word rest (λ m all v. asked_of c m all v rest) ≡ a
unfolding asked_of
one_step c g ins w words rest word k a e s h =
    ap (λ n. after_step c g ins n word rest (λ m all v. asked_of c m all v rest)) s ∙ sym (ap (asked_of c g ins w) e) ∙ h

-- one input of those after `--`
pub one_more : (ins more : Inputs) (words rest : List Text) (word : Text) (a : Inputs)
    → words ≡ word ∷ rest → more ≡ with_input ins word → with_inputs ins words ≡ a → with_inputs more rest ≡ a
unfolding with_inputs
one_more ins more words rest word a e m h = ap (λ n. with_inputs n rest) m ∙ sym (ap (with_inputs ins) e) ∙ h

pub no_more : (ins : Inputs) → with_inputs ins [] ≡ ins
unfolding with_inputs
no_more ins = refl

-- what was read is determined by equal parts
pub told_by : (c : Command) (g more : Collected) (ins all : Inputs) (w waits : Option OptionName) (words rest : List Text) (a : Asked)
    → g ≡ more → ins ≡ all → w ≡ waits → words ≡ rest → asked_of c more all waits rest ≡ a → asked_of c g ins w words ≡ a
told_by c g more ins all w waits words rest a e f h k q =
    ap (λ x. asked_of c x ins w words) e ∙ ap (λ x. asked_of c more x w words) f ∙ ap (λ x. asked_of c more all x words) h
    ∙ ap (asked_of c more all waits) k ∙ q
