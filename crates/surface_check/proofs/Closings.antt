-- Which calls are strict, from the last word to the first.
use Rattle.std.specs.Prelude.{◌≡◌, refl, ℕ, zero, suc, Bool, false, List, [], ◌∷◌, drop, slice_index_or}
use Rattle.std.proofs.Common.{◌∙◌, sym}
use Rattle.source.specs.declared.word.Word.{Word as CoreWord}
use Rattle.source.specs.declared.word.Word.TheVariants as core_word
use Rattle.surface.specs.declared.word.Word.{Word}
use Rattle.surface.specs.declared.word.Word.TheVariants as word
use Rattle.surface_check.specs.Evaluates.{strict_ahead, core_ahead, word_ahead}
use Rattle.surface_check.specs.Machine.{closing, core_closing, word_closing, first_or_false}

deeper : (bs : List Bool) (n : ℕ) → slice_index_or bs (suc n) false ≡ slice_index_or (drop 1 bs) n false
deeper [] n = refl
deeper (b ∷ bs) n = refl

core_closes : (w : CoreWord ℕ) (ws : List (Word ℕ)) → ((n : ℕ) → strict_ahead ws n ≡ slice_index_or (closing ws) n false) → (n : ℕ)
    → core_ahead w n (strict_ahead ws) ≡ slice_index_or (core_closing w (closing ws)) n false
core_closes (core_word.Callee at f) ws h n = h (suc n) ∙ deeper (closing ws) n
core_closes (core_word.Call at strict f) ws h zero = refl
core_closes (core_word.Call at strict f) ws h (suc n) = h n
core_closes w ws h n = h n

closes : (w : Word ℕ) (ws : List (Word ℕ)) → ((n : ℕ) → strict_ahead ws n ≡ slice_index_or (closing ws) n false) → (n : ℕ)
    → word_ahead w n (strict_ahead ws) ≡ slice_index_or (word_closing w (closing ws)) n false
closes (word.Core w) ws h n = core_closes w ws h n
closes w ws h n = h n

pub strict_closing : (ws : List (Word ℕ)) (n : ℕ) → strict_ahead ws n ≡ slice_index_or (closing ws) n false
strict_closing [] n = refl
strict_closing (w ∷ ws) n = closes w ws (strict_closing ws) n

first_is : (bs : List Bool) → first_or_false bs ≡ slice_index_or bs 0 false
first_is [] = refl
first_is (b ∷ bs) = refl

-- what is known of the calls that end later says which one is strict
pub first_closing : (ws : List (Word ℕ)) → first_or_false (closing ws) ≡ strict_ahead ws 0
first_closing ws = first_is (closing ws) ∙ sym (strict_closing ws 0)
