-- What goes before words that are there.
use Rattle.std.proofs.Common.{◌≡◌, ap, ◌∙◌, ℕ, suc, ◌+◌, ◌≤◌, List, ◌++◌, length, take, drop, arith, append_assoc}
use Rattle.std.proofs.lemmas.List.{take-append-drop, drop_all, take_all, append-nil, drop-drop}

-- where there is nothing to put before them
pub nothing_moved : {X : Type 0} (words lets : List X) (m l : ℕ) → length lets ≤ l
    → (take m words ++ drop l lets ++ drop m words ≡ words) × (take l lets ≡ lets)
nothing_moved words lets m l h = (rw (drop_all l lets h, append-nil (take m words)) (take-append-drop m words), take_all l lets h)

next_one : (m : ℕ) → m + 1 ≡ suc m
next_one m = omega arith

pub dropped_first : {X : Type 0} (words : List X) (m : ℕ) → drop 1 (drop m words) ≡ drop (suc m) words
dropped_first words m = drop-drop 1 m words ∙ ap (λ (n : ℕ). drop n words) (next_one m)

pub three_appended : {X : Type 0} (ws xs ys zs : List X) → ((ws ++ xs) ++ ys) ++ zs ≡ ws ++ ((xs ++ ys) ++ zs)
three_appended ws xs ys zs = simp append_assoc
